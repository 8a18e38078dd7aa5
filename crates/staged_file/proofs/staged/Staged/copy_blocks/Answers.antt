-- One more block is copied.
use Rattle.std.proofs.Common.{◌≡◌, ◌+◌, ◌∷◌, [], ◌++◌, cond, is_ok, ap, sym, subst, ◌∙◌, arith}
use Rattle.staged_file.specs.Frozen.{Copies}
use Rattle.staged_file.specs.Staged.{byte_at, touched_of}
use Rattle.staged_file.proofs.Copies.{Copies-more}
use Rattle.staged_file.proofs.staged.Staged.copy_blocks.Goals as goal

pub loop-block-preserved : goal.loop-block-preserved
loop-block-preserved c =
    let touched = touched_of c.args.pool.now.chains c.args.self.now in
    let shown = byte_at c.args.pool.now.chains c.args.self.now in
    let told = c.loop-block.touched.items in
    let held = c.copy_block-held.result in
    let items : c.push.new.self.items ≡ told ++ held ∷ [] = c.push.ensures.items ∙ ap (λ r. cond (is_ok r) (told ++ held ∷ []) told) c.unwrap.ensures in
    record {
      copies =
          subst (λ ts. Copies touched shown c.args.self.now.size c.copy_block-held.new.bytes.items ts (c.loop-block.block + 1)) (sym items)
          (Copies-more touched shown c.args.self.now.size c.loop-block.bytes.items told c.loop-block.block c.loop-block.invariant.copies held c.copy_block-held.new.bytes.items
          c.copy_block-held.ensures.held c.copy_block-held.ensures.bytes c.copy_block-held.ensures.zeros);
      len = c.copy_block-held.ensures.len;
      room = let room = c.loop-block.invariant.room in let more = c.copy_block-held.ensures.room in omega arith;
      places = let places = c.loop-block.invariant.places in grind (arith, c.push.ensures.capacity);
    }
