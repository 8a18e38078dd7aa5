use Rattle.std.proofs.Common.{◌≡◌, ◌+◌, ◌*◌, max, min, length, subst, arith}
use Rattle.staged_file.specs.Staged.{byte_at}
use Rattle.staged_file.specs.Steps.{Puts}
use Rattle.staged_file.proofs.Touching.{Puts-after}
use Rattle.staged_file.proofs.staged.Staged.write_block.Goals as goal

pub put-requires-clause-some : goal.put-requires-clause-some
put-requires-clause-some c = omega (arith, c.max.ensures, c.min.ensures, c.requires.meets.0, c.requires.meets.1, c.requires.some)

pub returns-clause-bytes : goal.returns-clause-bytes
returns-clause-bytes c source holds =
    let high : c.min.result ≡ min (c.args.first + length c.args.from.now) ((c.args.block + 1) * 65536) = omega (arith, c.min.ensures) in
    Puts-after (c.ready.ensures.bytes source holds)
    (subst (λ n. Puts (byte_at c.ready.new.pool.chains c.ready.new.self source) (byte_at c.put.new.pool.chains c.put.new.self source) (max c.args.first (c.args.block * 65536)) n
    c.args.first c.args.from.now) high
    (subst (λ n. Puts (byte_at c.ready.new.pool.chains c.ready.new.self source) (byte_at c.put.new.pool.chains c.put.new.self source) n c.min.result c.args.first c.args.from.now) c.max.ensures
    (c.put.ensures.bytes source)))
