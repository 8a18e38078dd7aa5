-- One item more.
use Rattle.std.proofs.Common.{◌++◌, ◌∷◌, [], sym, ap, ◌∙◌}
use Rattle.dir_listing.specs.Steps.{kept_files}
use Rattle.dir_listing.proofs.KeptLemmas.{dirs_more, kept_files-append}
use Rattle.dir_listing.proofs.entries.parted.Goals as goal

pub loop-item-preserved : goal.loop-item-preserved
loop-item-preserved c = (
  dirs_more c.loop-item.yielded c.in-Some.item c.loop-item.entries c.put_item.new.entries c.loop-item.invariant.0 c.in_ok-put_item.ensures.dirs,
  c.in_ok-put_item.ensures.files
      ∙ ap (λ files. files ++ kept_files (c.in-Some.item ∷ [])) c.loop-item.invariant.1
      ∙ sym (kept_files-append c.loop-item.yielded (c.in-Some.item ∷ [])),
)
