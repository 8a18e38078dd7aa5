-- What was taken before memory was refused.
use Rattle.std.proofs.Common.{◌≡◌, ◌≤◌, ◌+◌, ◌++◌, List, ℕ, length, take, arith, length-append, length-take}
use Rattle.gcsmount.proofs.InputLaws.{takes_more}
use Rattle.gcsmount.proofs.input.take_next.Goals as goal
use Rattle.io_ports.specs.Ports.{Port}

pub returns-in_default-clause-err : goal.returns-in_default-clause-err
returns-in_default-clause-err g c = λ (start : Port) takes. (
  c.args.input.now.items ++ take c.in-Ok.count c.take_piece.new.buffer,
  (
    takes_more start _ _ c.args.input.now.items (take c.in-Ok.count c.take_piece.new.buffer) takes c.in-Ok.ensures.bytes c.in-Ok.ensures.held,
    omega (arith, length-append c.args.input.now.items (take c.in-Ok.count c.take_piece.new.buffer), length-take c.in-Ok.count c.take_piece.new.buffer, c.in-Ok.ensures.bound, c.len.ensures),
  ),
)
