-- RENAME: a file or symlink gets another name (fuse.h: `struct fuse_rename_in`). Its object is copied, as the bucket told
-- of it, and then deleted, only while it is that generation: what was written under the old name meanwhile is not lost.
-- What lies under the new name is replaced. A directory is not renamed, and neither is a file with staged content.
use Rattle.std.specs.Prelude.{ℕ, Bool, false, not, ◌&&◌, [], ◌∷◌, List, Option, Some, None, is_some, if◌then◌else◌}
use Rattle.std.specs.Option.{option_map_or}
use Rattle.std.specs.Str.{bytes_eq}
use Rattle.bucket_api.specs.Operation.{copy, delete}
use Rattle.bucket_api.specs.declared.answers.Answer.{Answer}
use Rattle.bucket_api.specs.declared.answers.Answer.TheVariants as answers
use Rattle.claim_spec.specs.declared.claim.Claim.{Claim}
use Rattle.fuse_replies.specs.Errno.{ebusy, eio, enoent, enosys, enotdir, estale}
use Rattle.fuse_replies.specs.declared.reply.Reply.{Reply}
use Rattle.fuse_replies.specs.declared.reply.Reply.TheVariants.{Empty, Error}
use Rattle.mount_rules.specs.Claiming.{owns_name, shares_name, shares_node}
use Rattle.mount_rules.specs.Guards.{is_directory, on_live, part_refusal, path_in}
use Rattle.mount_rules.specs.Mount.{MountModel}
use Rattle.mount_rules.specs.Plans.{Step, answers_of, ask, done}
use Rattle.mount_rules.specs.Removing.{without_name}
use Rattle.mount_rules.specs.Requests.Lookup as lookup
use Rattle.mount_rules.specs.Requests.Lookup.{Probed, present, absent, failed}
use Rattle.mount_rules.specs.Rules.{Rules, Taken, at_node}
use Rattle.mount_rules.specs.View.{Looks, Named, Sight, View}
use Rattle.object_names.specs.Paths.{bare_name, dir_prefix_of, has_suffix}

-- What is asked for: the old name in the head's directory, and the new one in a second directory.
pub record Names : Type 0 where
  pub name : List ℕ
  pub newdir : ℕ
  pub newname : List ℕ

-- the old path, without the suffix, and the new one
abbrev pub from_of : Names → View → List ℕ
from_of names view = path_in view.node (bare_name names.name)

abbrev pub to_of : Names → View → List ℕ
to_of names view = path_in view.directory names.newname

abbrev pub is_same : Names → View → Bool
is_same names view = bytes_eq (from_of names view) (to_of names view)

-- ---- refusals
-- the current node of the old path has staged content
abbrev pub is_staged : View → Bool
is_staged view = option_map_or (λ (old : Named). is_some old.staged) view.old false

abbrev pub busy_refusal : Names → View → Option ℕ
busy_refusal names view = if is_staged view && not (is_same names view) then Some ebusy else None

-- the old name whole, and then the new one
abbrev pub names_refusal : Names → View → Sight → Sight → Option ℕ
names_refusal names view old new =
    option_map_or Some (part_refusal (bare_name names.name) old) (option_map_or Some (part_refusal names.newname new) (busy_refusal names view))

abbrev pub kinds_refusal : Names → View → Sight → Sight → Option ℕ
kinds_refusal names view old new = if is_directory old.kind && is_directory new.kind then names_refusal names view old new else Some enotdir

abbrev pub refusal : Names → View → Option ℕ
refusal names view = on_live view.node (λ old. on_live view.directory (kinds_refusal names view old))

-- ---- what is asked of the bucket
-- the generation that the bucket told of is copied
abbrev pub after_stat : List ℕ → List ℕ → ℕ → Answer → Step
after_stat from to second (answers.Meta meta) = ask (copy from meta.generation to second)
after_stat from to second _ = done

-- and then it is deleted, only where it is still live
abbrev pub after_copy : List ℕ → Answer → Answer → Step
after_copy from (answers.Meta meta) (answers.Meta copied) = ask (delete from (Some meta.generation))
after_copy from told answer = done

abbrev pub moving_plan : Bool → List ℕ → List ℕ → Bool → ℕ → List Answer → Step
moving_plan implicit from to suffixed second [] = ask (lookup.probe implicit from)
moving_plan implicit from to suffixed second (a ∷ []) = lookup.after_probe from suffixed (lookup.probed a)
moving_plan implicit from to suffixed second (a ∷ b ∷ []) = after_stat from to second b
moving_plan implicit from to suffixed second (a ∷ b ∷ c ∷ []) = after_copy from b c
moving_plan implicit from to suffixed second (a ∷ b ∷ c ∷ d ∷ more) = done

-- where both paths are one, nothing is asked
abbrev pub plan : Names → Taken → List Answer → Step
plan names taken answers =
    if is_same names taken.view then done
    else moving_plan taken.at.config.implicit_dirs (from_of names taken.view) (to_of names taken.view) (has_suffix names.name) taken.at.second answers

-- What came of it: the object has its new name; it is a directory; there is none; what was to be moved was replaced or
-- removed meanwhile; or the bucket failed.
pub data Came : Type 0 where
  moved : Came
  directory : Came
  nothing : Came
  stale : Came
  fault : Came

abbrev pub came_of_probe : Probed → Came
came_of_probe present = directory
came_of_probe absent = nothing
came_of_probe failed = fault

abbrev pub came_of_stat : Answer → Came
came_of_stat answers.NotFound = nothing
came_of_stat _ = fault

abbrev pub came_of_copy : Answer → Came
came_of_copy answers.NotFound = stale
came_of_copy _ = fault

abbrev pub came_of_delete : Answer → Came
came_of_delete answers.Done = moved
came_of_delete answers.NotFound = stale
came_of_delete (answers.Precondition generation metageneration) = stale
came_of_delete _ = fault

abbrev pub came_of : List Answer → Came
came_of [] = fault
came_of (a ∷ []) = came_of_probe (lookup.probed a)
came_of (a ∷ b ∷ []) = came_of_stat b
came_of (a ∷ b ∷ c ∷ []) = came_of_copy c
came_of (a ∷ b ∷ c ∷ d ∷ more) = came_of_delete d

abbrev pub came : Names → View → List Answer → Came
came names view answers = if is_same names view then moved else came_of answers

-- the error that it is answered, 0 where the object has its new name
abbrev pub errno_of : Came → ℕ
errno_of moved = 0
errno_of directory = enosys
errno_of nothing = enoent
errno_of stale = estale
errno_of fault = eio

abbrev pub reply_to : Came → Reply
reply_to moved = Empty
reply_to directory = Error enosys
reply_to nothing = Error enoent
reply_to stale = Error estale
reply_to fault = Error eio

-- neither name has a current node then; nothing changes where they are one
abbrev pub moved_in : Names → View → MountModel → MountModel
moved_in names view mount = if is_same names view then mount else without_name (without_name mount (from_of names view)) (to_of names view)

abbrev pub mount_after : Names → View → MountModel → Came → MountModel
mount_after names view mount moved = moved_in names view mount
mount_after names view mount came = mount

-- both directories, both names, the directory of the old name, and the old name's current node
abbrev pub old_claims : View → List Claim
old_claims view = option_map_or (λ (old : Named). shares_node old.number ∷ []) view.old []

abbrev pub claims : ℕ → Names → View → List Claim
claims node names view =
    shares_node node ∷ shares_node names.newdir ∷ owns_name (from_of names view) ∷ owns_name (to_of names view)
    ∷ shares_name (dir_prefix_of (from_of names view)) ∷ old_claims view

abbrev pub looks : ℕ → Names → Looks
looks node names = record (at_node node) { directory = Some names.newdir; old = Some (bare_name names.name) }

abbrev pub rules : ℕ → Names → Rules
rules node names = record {
  looks = looks node names;
  refusal = refusal names;
  plan = plan names;
  wants = λ view. None;
  claims = claims node names;
  keys = λ view. if is_same names view then [] else dir_prefix_of (from_of names view) ∷ [];
  reply = λ taken mount seen. reply_to (came names taken.view (answers_of seen));
  after = λ taken mount seen. mount_after names taken.view mount (came names taken.view (answers_of seen));
}
