use Rattle.std.proofs.Common.{◌<◌, ◌≤◌, sym, ap, ◌∙◌, arith}
use Rattle.cache_spec.specs.KeptFiles.{fitting, blocks_in}
use Rattle.cache_spec.proofs.KeptLaws.{fitting-all}
use Rattle.file_cache.proofs.CacheLaws.{fitting-but_last, some_file}
use Rattle.file_cache.proofs.file_cache.FileCache.make_room.Goals as goal

pub loop-self-preserved : goal.loop-self-preserved
loop-self-preserved c =
    let over : c.args.room < blocks_in c.loop-self.self.files = omega (arith, c.taken.ensures.ok, c.loop-self-test.true) in (
      ap (λ t. fitting c.args.room t.files) c.drop_last.ensures ∙ fitting-but_last c.args.room c.loop-self.self.files (some_file c.loop-self.self.files (omega (arith, over))) over ∙ c.loop-self.invariant.0,
      ap (λ t. t.blocks) c.drop_last.ensures ∙ c.loop-self.invariant.1,
    )

pub returns : goal.returns
returns c =
    let within : blocks_in c.loop-self.self.files ≤ c.args.room = omega (arith, c.taken.ensures.ok, c.loop-self-test.false) in
    λ i. record { files = (sym (fitting-all c.args.room c.loop-self.self.files within) ∙ c.loop-self.invariant.0) i; blocks = c.loop-self.invariant.1 i }
