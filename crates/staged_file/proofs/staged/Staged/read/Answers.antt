use Rattle.std.proofs.Common.{◌≡◌, ◌+◌, ◌-◌, ◌*◌, max, min, ap, sym, subst, ◌∙◌, length, take, drop, get_or, arith}
use Rattle.staged_file.specs.Staged.{byte_at, touched_of, bytes_below}
use Rattle.staged_file.specs.Steps.{CanRead}
use Rattle.staged_file.proofs.Contents.{bytes-read}
use Rattle.staged_file.proofs.PartsRead.{CanRead-wanted}
use Rattle.staged_file.proofs.staged.Staged.read.Goals as goal

pub read_block-requires-clause-wanted : goal.read_block-requires-clause-wanted
read_block-requires-clause-wanted c none =
    subst (λ n. CanRead c.args.self.now.limit (max c.args.first (c.loop-block.block * 65536)) (min (c.args.first + n) ((c.loop-block.block + 1) * 65536)) c.args.base_first (length c.args.base.now))
    (sym c.loop-block.auto.out)
    (CanRead-wanted (touched_of c.args.pool.now.chains c.args.self.now) c.args.self.now.limit c.args.first (length c.args.out.now) c.args.base_first (length c.args.base.now) c.loop-block.block
    c.requires.wanted none)

pub returns : goal.returns
returns c = record {
  ok = λ source holds.
      let shown = byte_at c.args.pool.now.chains c.args.self.now source in
      let len = c.loop-block.auto.out in
      let done = c.loop-block-test.false in
      let range = c.requires.range in
      bytes-read shown c.args.self.now.size c.args.first c.loop-block.out (omega arith)
      (λ k lt. ap (λ n. get_or c.loop-block.out n 0) (let e : k ≡ (c.args.first + k) - c.args.first = omega arith in e)
      ∙ c.loop-block.invariant.bytes source holds (c.args.first + k) (omega arith) (omega arith))
      ∙ ap (λ n. take n (drop c.args.first (bytes_below shown c.args.self.now.size))) len;
}
