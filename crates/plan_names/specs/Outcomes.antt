-- What came of a look-up, and of making, removing and moving an object, as the code says it.
use Rattle.mount_rules.specs.Making as making
use Rattle.mount_rules.specs.Removing as removing
use Rattle.mount_rules.specs.Requests.Lookup as lookup
use Rattle.mount_rules.specs.Requests.Rename as rename
use Rattle.mount_rules.specs.Requests.Rmdir as rmdir
use Rattle.plan_names.specs.declared.found.Found.{Found}
use Rattle.plan_names.specs.declared.found.Found.TheVariants as found
use Rattle.plan_names.specs.declared.found.Made.{Made}
use Rattle.plan_names.specs.declared.found.Made.TheVariants as made
use Rattle.plan_names.specs.declared.removing.Emptied.{Emptied}
use Rattle.plan_names.specs.declared.removing.Emptied.TheVariants as emptied
use Rattle.plan_names.specs.declared.removing.Inside.{Inside}
use Rattle.plan_names.specs.declared.removing.Inside.TheVariants as inside
use Rattle.plan_names.specs.declared.removing.Removed.{Removed}
use Rattle.plan_names.specs.declared.removing.Removed.TheVariants as removed
use Rattle.plan_names.specs.declared.renaming.Moved.{Moved}
use Rattle.plan_names.specs.declared.renaming.Moved.TheVariants as moved

abbrev pub as_found : Found → lookup.Found
as_found found.Directory = lookup.directory
as_found (found.Object meta) = lookup.object meta
as_found found.Nothing = lookup.nothing
as_found found.Fault = lookup.fault

abbrev pub as_made : Made → making.Made
as_made (made.New meta) = making.new meta
as_made made.Exists = making.exists
as_made made.Fault = making.fault

abbrev pub as_removed : Removed → removing.Removed
as_removed removed.Gone = removing.gone
as_removed removed.Nothing = removing.nothing
as_removed removed.Fault = removing.fault

abbrev pub as_inside : Inside → rmdir.Inside
as_inside inside.Absent = rmdir.absent
as_inside inside.Empty = rmdir.empty
as_inside inside.Filled = rmdir.filled

abbrev pub as_emptied : Emptied → rmdir.Came
as_emptied (emptied.Removed r) = rmdir.removed (as_removed r)
as_emptied emptied.NotEmpty = rmdir.not_empty

abbrev pub as_moved : Moved → rename.Came
as_moved moved.Moved = rename.moved
as_moved moved.Directory = rename.directory
as_moved moved.Nothing = rename.nothing
as_moved moved.Stale = rename.stale
as_moved moved.Fault = rename.fault
