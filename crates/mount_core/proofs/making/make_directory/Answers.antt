-- A path with a slash is the name of an object, and no pairs rise.
use Rattle.std.proofs.Common.{ap, subst, sym, ◌∙◌}
use Rattle.std.specs.List.Sorted.{IsStrictlySortedBy}
use Rattle.bucket_api.specs.Names.{IsObjectName}
use Rattle.object_names.specs.Paths.{dir_prefix_of}
use Rattle.plan_names.proofs.NameLemmas.{directory_named}
use Rattle.mount_core.proofs.making.make_directory.Goals as goal

pub returns-clause-errand : goal.returns-clause-errand
unfolding IsStrictlySortedBy
returns-clause-errand c = (
  subst IsObjectName (sym (c.in_ok-dir_prefix.ensures.ok ∙ ap dir_prefix_of c.as_str.ensures.bytes)) (directory_named c.in_ok-path.path c.in_ok-path.ensures.path),
  rw c.new.ensures.items tt,
)
