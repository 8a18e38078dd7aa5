-- The directories and the files of the items so far.
use Rattle.std.proofs.Common.{◌≡◌, Some, None, cond}
use Rattle.object_names.specs.declared.shown.NodeKind.TheVariants.{Dir}
use Rattle.dir_listing.specs.Steps.{Has, kept_dir, kept_files}
use Rattle.dir_listing.proofs.entries.parted.Given as goal

abbrev pub invariant-loop-item : goal.invariant-loop-item
invariant-loop-item l = Has (λ q. cond (kept_dir l.yielded q) (Some Dir) None) l.entries × (l.files.items ≡ kept_files l.yielded)
