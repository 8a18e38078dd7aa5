-- The sizes from here on come to those before.
use Rattle.std.proofs.Common.{◌≡◌, ◌+◌}
use Rattle.std.specs.Prelude.{fold}
use Rattle.drill_maker.specs.Summary.{bytes_in}
use Rattle.drill_maker.proofs.summing.bytes_in.Given as goal

abbrev pub invariant-loop-object : goal.invariant-loop-object
invariant-loop-object l = fold (λ a o. a + o.meta.size) l.bytes l.object-iterator ≡ bytes_in l.bucket
