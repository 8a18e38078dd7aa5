-- LOOKUP: the node of a name in a directory. After gcsfuse: the directory of the name is looked for first, and then the
-- object; a name with the suffix means the file that a directory of the same name hides.
use Rattle.std.specs.Prelude.{ℕ, Bool, false, ◌∷◌, [], nat_lt, length, List, Option, None, if◌then◌else◌}
use Rattle.std.specs.FinMap as fin
use Rattle.std.specs.Option.{option_map_or}
use Rattle.bucket_api.specs.Metadata.{Metadata}
use Rattle.bucket_api.specs.declared.answers.Answer.{Answer}
use Rattle.bucket_api.specs.declared.answers.Answer.TheVariants as answers
use Rattle.bucket_api.specs.Operation.{Operation, stat, list}
use Rattle.claim_spec.specs.declared.claim.Claim.{Claim}
use Rattle.fuse_replies.specs.declared.reply.EntryOut.{EntryOut}
use Rattle.fuse_replies.specs.declared.reply.Reply.{Reply}
use Rattle.fuse_replies.specs.declared.reply.Reply.TheVariants.{Error, Entry}
use Rattle.mount_model.specs.declared.config.Config.{Config}
use Rattle.object_names.specs.Paths.{bare_name, dir_prefix_of, has_suffix}
use Rattle.mount_rules.specs.Attributes.{entry_of}
use Rattle.mount_rules.specs.Claiming.{shares_node, shares_name}
use Rattle.fuse_replies.specs.Errno.{eio, enoent}
use Rattle.mount_rules.specs.Guards.{in_directory, part_refusal, path_in}
use Rattle.mount_rules.specs.Mount.{MountModel, NodeTable}
use Rattle.mount_rules.specs.Plans.{Step, answers_of, ask, done, last_moment}
use Rattle.mount_rules.specs.Rules.{Rules, at_node}
use Rattle.mount_rules.specs.Showing.{Numbered, after_showing, current_shown, directory_by, after_directory, new_node, object_again}
use Rattle.mount_rules.specs.View.{View}

abbrev pub refusal : List ℕ → View → Option ℕ
refusal name view = in_directory view.node (part_refusal (bare_name name))

-- the path that a name in the directory means, its suffix left out
abbrev pub path_of : List ℕ → View → List ℕ
path_of name view = path_in view.node (bare_name name)

-- The probe of a path: the operation that tells whether its directory is there. With implicit directories that is so
-- where any name begins with its prefix.
abbrev pub probe : Bool → List ℕ → Operation
probe implicit path = if implicit then list (dir_prefix_of path) false 1 None else stat (dir_prefix_of path)

-- What an answer to a probe tells. `Done` stands for a record that tells of a directory.
pub data Probed : Type 0 where
  present : Probed
  absent : Probed
  failed : Probed

abbrev pub probed : Answer → Probed
probed (answers.Meta meta) = present
probed (answers.Page page) = if nat_lt 0 (length page.items) then present else absent
probed answers.Done = present
probed answers.NotFound = absent
probed _ = failed

-- a name without the suffix means the directory, where it is there; one with it means nothing without the directory
abbrev pub after_probe : List ℕ → Bool → Probed → Step
after_probe path suffixed present = if suffixed then ask (stat path) else done
after_probe path suffixed absent = if suffixed then done else ask (stat path)
after_probe path suffixed failed = done

abbrev pub plan : Bool → List ℕ → Bool → List Answer → Step
plan implicit path suffixed [] = ask (probe implicit path)
plan implicit path suffixed (a ∷ []) = after_probe path suffixed (probed a)
plan implicit path suffixed (a ∷ b ∷ more) = done

-- What a look-up found: a directory, an object as the bucket told of it, or neither; or the bucket failed.
pub data Found : Type 0 where
  directory : Found
  object : Metadata → Found
  nothing : Found
  fault : Found

abbrev pub found_by : Probed → Found
found_by present = directory
found_by absent = nothing
found_by failed = fault

abbrev pub found_at : Answer → Found
found_at (answers.Meta meta) = object meta
found_at answers.NotFound = nothing
found_at _ = fault

abbrev pub found : List Answer → Found
found [] = fault
found (a ∷ []) = found_by (probed a)
found (a ∷ b ∷ more) = found_at b

-- the error that it is answered, 0 where it is a node
abbrev pub errno_of : Found → ℕ
errno_of directory = 0
errno_of (object meta) = 0
errno_of nothing = enoent
errno_of fault = eio

-- the entry of an object that the bucket showed at a moment: of the current node of its path, with what is staged of it,
-- or of a new node, of which nothing is staged
abbrev pub object_entry : Config → MountModel → List ℕ → Metadata → ℕ → EntryOut
object_entry config mount path meta moment =
    option_map_or (λ (shown : Numbered). entry_of config shown.number shown.node (fin.get mount.staged shown.number))
    (current_shown (object_again meta moment) mount.table path)
    (entry_of config mount.table.next (new_node path meta moment) None)

abbrev pub directory_entry : Config → NodeTable → List ℕ → EntryOut
directory_entry config table prefix = let shown = directory_by table prefix in entry_of config shown.number shown.node None

-- what a look-up that found this at a moment is answered
abbrev pub reply_to : Config → MountModel → List ℕ → ℕ → Found → Reply
reply_to config mount path moment directory = Entry (directory_entry config mount.table (dir_prefix_of path))
reply_to config mount path moment (object meta) = Entry (object_entry config mount path meta moment)
reply_to config mount path moment nothing = Error enoent
reply_to config mount path moment fault = Error eio

-- the nodes that are then there
abbrev pub table_after : NodeTable → List ℕ → ℕ → Found → NodeTable
table_after table path moment directory = after_directory table (dir_prefix_of path)
table_after table path moment (object meta) = after_showing table path meta moment
table_after table path moment nothing = table
table_after table path moment fault = table

abbrev pub claims : ℕ → List ℕ → View → List Claim
claims node name view = shares_node node ∷ shares_name (path_of name view) ∷ shares_name (dir_prefix_of (path_of name view)) ∷ []

abbrev pub rules : ℕ → List ℕ → Rules
rules node name = record {
  looks = at_node node;
  refusal = refusal name;
  plan = λ taken. plan taken.at.config.implicit_dirs (path_of name taken.view) (has_suffix name);
  wants = λ view. None;
  claims = claims node name;
  keys = λ view. dir_prefix_of (path_of name view) ∷ path_of name view ∷ [];
  reply = λ taken mount seen. reply_to taken.at.config mount (path_of name taken.view) (last_moment seen) (found (answers_of seen));
  after = λ taken mount seen. record mount { table = table_after mount.table (path_of name taken.view) (last_moment seen) (found (answers_of seen)) };
}
