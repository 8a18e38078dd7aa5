use Rattle.std.proofs.Common.{◌≡◌, ◌+◌, ◌*◌, min, inl, inr, IsTrue, ◌∙◌, ap, length, arith}
use Rattle.staging_spec.specs.Blocks.{is_among}
use Rattle.staged_file.specs.Staged.{byte_at, touched_of}
use Rattle.staged_file.proofs.Positions.{put-among}
use Rattle.staged_file.proofs.Touching.{touched-bytes, untouched_byte, CanPut-wanted}
use Rattle.staged_file.proofs.staged.Staged.touch.Goals as goal

pub fill-requires-clause-range : goal.fill-requires-clause-range
fill-requires-clause-range c lt =
    let there : IsTrue (is_among (touched_of c.add_block.new.pool.chains c.add_block.new.self) c.args.block) =
    ap (λ ns. is_among ns c.args.block) c.add_block.ensures.touched ∙ put-among (touched_of c.args.pool.now.chains c.args.self.now) c.args.block in
    let few = c.add_block.ensures.step.staged.limits.1 in
    let same = c.add_block.ensures.step.limit in
    CanPut-wanted (touched_of c.add_block.new.pool.chains c.add_block.new.self) c.add_block.new.self.size c.args.self.now.limit c.args.block c.args.first c.args.end c.args.base_first
    (length c.args.base.now)
    (c.args.block * 65536) c.min.result c.requires.wanted there (omega arith) (omega arith) (omega (arith, c.min.ensures, c.min-limit.ensures))
    (omega (arith, c.min.ensures, c.min-limit.ensures, c.limit.ensures)) (inl (omega (arith, c.min.ensures))) lt

pub fill-requires-2-clause-range : goal.fill-requires-2-clause-range
fill-requires-2-clause-range c lt =
    let there : IsTrue (is_among (touched_of c.fill.new.pool.chains c.fill.new.self) c.args.block) =
    ap (λ ns. is_among ns c.args.block) (c.fill.ensures.touched ∙ c.add_block.ensures.touched) ∙ put-among (touched_of c.args.pool.now.chains c.args.self.now) c.args.block in
    let few = c.fill.ensures.step.staged.limits.1 in
    let same = c.fill.ensures.step.limit ∙ c.add_block.ensures.step.limit in
    let first = c.add_block.ensures.step.limit in
    CanPut-wanted (touched_of c.fill.new.pool.chains c.fill.new.self) c.fill.new.self.size c.args.self.now.limit c.args.block c.args.first c.args.end c.args.base_first (length c.args.base.now)
    c.max.result c.min-limit.result c.requires.wanted there (omega arith) (omega (arith, c.max.ensures)) (omega (arith, c.min-limit.ensures)) (omega (arith, c.min-limit.ensures, c.limit.ensures))
    (inr (omega (arith, c.max.ensures))) lt

pub returns-clause-bytes : goal.returns-clause-bytes
returns-clause-bytes c source holds =
    let lim : c.min-limit.result ≡ min c.args.self.now.limit (c.args.block * 65536 + 65536) =
    c.min-limit.ensures ∙ ap (λ n. min n (c.args.block * 65536 + 65536)) (c.limit.ensures ∙ c.add_block.ensures.step.limit) in
    touched-bytes (byte_at c.args.pool.now.chains c.args.self.now source) (byte_at c.add_block.new.pool.chains c.add_block.new.self source) (byte_at c.fill.new.pool.chains c.fill.new.self source)
    (byte_at c.fill-2.new.pool.chains c.fill-2.new.self source)
    source c.args.base.now c.args.self.now.limit c.args.block c.args.first c.args.end c.args.base_first c.min-limit.result c.min.result c.max.result c.requires.order
    lim c.min.ensures c.max.ensures holds c.requires.wanted (untouched_byte c.args.pool.now.chains c.args.self.now source c.args.block c.requires.absent)
    (c.add_block.ensures.bytes source) (c.fill.ensures.bytes source) (c.fill-2.ensures.bytes source)
