-- SETATTR: the length and the time of a file (fuse.h: `struct fuse_setattr_in`; of its `valid` bits SIZE, MTIME and
-- MTIME_NOW are looked at). A size change is staged. A time is staged where content is, and else set on the object at once,
-- under gcsfuse's metadata key. A SETATTR that changes neither is answered as a GETATTR.
use Rattle.std.specs.Prelude.{ℕ, ◌/◌, ◌%◌, Bool, true, false, ◌==◌, ◌&&◌, ◌||◌, not, [], ◌∷◌, List, Option, Some, None, nat_le, if◌then◌else◌}
use Rattle.std.specs.Option.{option_map_or}
use Rattle.bucket_api.specs.Operation.{max_content, update}
use Rattle.bucket_api.specs.declared.answers.Answer.{Answer}
use Rattle.bucket_api.specs.declared.answers.Answer.TheVariants as answers
use Rattle.claim_spec.specs.declared.claim.Claim.{Claim}
use Rattle.file_metadata.specs.FileMetadata.{last_second}
use Rattle.fuse_replies.specs.Errno.{efbig, einval, eio, estale}
use Rattle.fuse_replies.specs.declared.reply.Reply.{Reply}
use Rattle.fuse_replies.specs.declared.reply.Reply.TheVariants.{Error}
use Rattle.mount_model.specs.declared.config.Config.{Config}
use Rattle.mount_rules.specs.Claiming.{owns_name, owns_node}
use Rattle.mount_rules.specs.Files.{length_of, staging_in, with_staged}
use Rattle.mount_rules.specs.Guards.{on_file, on_live}
use Rattle.mount_rules.specs.Mount.{MountModel}
use Rattle.mount_rules.specs.Plans.{Step, answers_of, ask, done, last_moment}
use Rattle.mount_rules.specs.Requests.Flush.{time_pair}
use Rattle.mount_rules.specs.Requests.Getattr as getattr
use Rattle.mount_rules.specs.Rules.{Rules, Taken, at_file}
use Rattle.mount_rules.specs.Standing as standing
use Rattle.mount_rules.specs.Standing.{Standing, refreshed_at, table_after, generation_seen}
use Rattle.mount_rules.specs.View.{Sight, View}
use Rattle.object_names.specs.declared.shown.NodeKind.{NodeKind}
use Rattle.object_names.specs.declared.shown.NodeKind.TheVariants.{File}
use Rattle.staging_spec.specs.Overlays.{held_of}
use Rattle.staging_spec.specs.StagedFiles.{StagedContent}
use Rattle.staging_spec.specs.Staging.{resized}

-- What is asked for: which fields are valid, and their values.
pub record Asked : Type 0 where
  pub valid : ℕ
  pub size : ℕ
  pub seconds : ℕ
  pub nanos : ℕ

-- FATTR_SIZE, FATTR_MTIME and FATTR_MTIME_NOW of fuse.h
abbrev pub has_bit : ℕ → ℕ → Bool
has_bit valid bit = valid / bit % 2 == 1

abbrev pub sets_size : Asked → Bool
sets_size asked = has_bit asked.valid 8

abbrev pub sets_time : Asked → Bool
sets_time asked = has_bit asked.valid 32

abbrev pub sets_now : Asked → Bool
sets_now asked = has_bit asked.valid 256

abbrev pub is_file : NodeKind → Bool
is_file File = true
is_file kind = false

-- ---- refusals
-- a time that no file can have
abbrev pub is_out_of_range : Asked → Bool
is_out_of_range asked = not (nat_le asked.seconds last_second && nat_le asked.nanos 999999999)

abbrev pub time_refusal : Asked → NodeKind → Option ℕ
time_refusal asked kind = if is_file kind && sets_time asked && not (sets_now asked) && is_out_of_range asked then Some einval else None

abbrev pub size_refusal : Asked → Option ℕ
size_refusal asked = if sets_size asked && not (nat_le asked.size max_content) then Some efbig else None

abbrev pub limits_refusal : Asked → NodeKind → Option ℕ
limits_refusal asked kind = option_map_or Some (time_refusal asked kind) (size_refusal asked)

-- a directory or symlink has no size to set
abbrev pub kind_refusal : Asked → NodeKind → Option ℕ
kind_refusal asked kind = if sets_size asked then on_file kind (limits_refusal asked kind) else limits_refusal asked kind

abbrev pub refusal : Asked → View → Option ℕ
refusal asked view = on_live view.node (λ sight. kind_refusal asked sight.kind)

-- ---- what it does
-- The content gets another length; the time of staged content is set; the time of the object is set; or nothing is
-- changed.
pub data Change : Type 0 where
  resize : Change
  stage_time : Change
  set_time : Change
  look : Change

abbrev pub time_change : Option StagedContent → Change
time_change None = set_time
time_change (Some staged) = stage_time

-- the length that it has is no other length
abbrev pub change_of : Asked → Option StagedContent → Sight → Change
change_of asked staged file =
    if sets_size asked && not (asked.size == length_of staged file) then resize
    else if is_file file.kind && (sets_time asked || sets_now asked) then time_change staged
    else look

abbrev pub change_in : Asked → View → Change
change_in asked view = option_map_or (change_of asked view.staged) view.node look

-- the time that is set: the second of the call, where this is asked for
abbrev pub time_set : Asked → ℕ → ℕ × ℕ
time_set asked second = if sets_now asked then (second, 0) else (asked.seconds, asked.nanos)

-- the time of staged content that gets another length: the one that is set, else the second of the call
abbrev pub time_then : Asked → ℕ → ℕ × ℕ
time_then asked second = if sets_time asked || sets_now asked then time_set asked second else (second, 0)

-- ---- what is asked of the bucket
-- the time is set on the generation that is shown alone (Cloud Storage: `ifGenerationMatch`)
abbrev pub update_plan : Asked → ℕ → Sight → List Answer → Step
update_plan asked second file [] = ask (update file.name (time_pair (time_set asked second).0 (time_set asked second).1 ∷ []) (Some file.source) None second)
update_plan asked second file (a ∷ more) = done

abbrev pub plan_by : Asked → ℕ → View → Change → List Answer → Step
plan_by asked second view resize answers = done
plan_by asked second view stage_time answers = done
plan_by asked second view set_time answers = option_map_or (λ file. update_plan asked second file answers) view.node done
plan_by asked second view look answers = standing.plan (standing.asked_name view) answers

-- how the generation stands by the answer to the update
abbrev pub standing_by : Answer → Standing
standing_by (answers.Meta meta) = standing.live meta
standing_by answers.NotFound = standing.gone
standing_by (answers.Precondition generation metageneration) = standing.gone
standing_by _ = standing.fault

abbrev pub standing_of : List Answer → Standing
standing_of [] = standing.unasked
standing_of (a ∷ more) = standing_by a

-- ---- what is left
abbrev pub with_time : StagedContent → ℕ × ℕ → StagedContent
with_time staged time = record staged { seconds = time.0; nanos = time.1 }

abbrev pub resized_by : Taken → Asked → Sight → StagedContent
resized_by taken asked file =
    let time = time_then asked taken.at.second in
    record { overlay = held_of (resized (staging_in taken.at.contents taken.view.staged file) asked.size); seconds = time.0; nanos = time.1 }

abbrev pub mount_after : Taken → Asked → ℕ → MountModel → ℕ → List Answer → Change → MountModel
mount_after taken asked node mount moment answers resize =
    option_map_or (λ file. with_staged mount node (resized_by taken asked file)) taken.view.node mount
mount_after taken asked node mount moment answers stage_time =
    option_map_or (λ staged. with_staged mount node (with_time staged (time_set asked taken.at.second))) taken.view.staged mount
mount_after taken asked node mount moment answers set_time = record mount { table = table_after mount.table node moment (standing_of answers) }
mount_after taken asked node mount moment answers look =
    record mount { table = table_after mount.table node moment (standing.standing (generation_seen taken.view.node) answers) }

-- ---- what it is answered: the attributes that the node then has
abbrev pub attributes_in : Config → MountModel → ℕ → Reply
attributes_in config mount node = getattr.reply_with config mount.table mount.staged node 1

abbrev pub set_reply : Config → MountModel → ℕ → Standing → Reply
set_reply config after node standing.gone = Error estale
set_reply config after node standing.fault = Error eio
set_reply config after node told = attributes_in config after node

abbrev pub reply_to : Taken → Asked → ℕ → MountModel → ℕ → List Answer → Change → Reply
reply_to taken asked node mount moment answers resize = attributes_in taken.at.config (mount_after taken asked node mount moment answers resize) node
reply_to taken asked node mount moment answers stage_time = attributes_in taken.at.config (mount_after taken asked node mount moment answers stage_time) node
reply_to taken asked node mount moment answers set_time =
    set_reply taken.at.config (mount_after taken asked node mount moment answers set_time) node (standing_of answers)
reply_to taken asked node mount moment answers look =
    getattr.reply_to taken.at.config mount node moment (standing.standing (generation_seen taken.view.node) answers)

-- the node, and its name, whose object it may change
abbrev pub claims : ℕ → View → List Claim
claims node view = owns_node node ∷ owns_name (option_map_or (λ (sight : Sight). sight.name) view.node []) ∷ []

-- the record that is looked for, where it goes as a GETATTR
abbrev pub keys_by : View → Change → List (List ℕ)
keys_by view look = standing.keys view
keys_by view change = []

abbrev pub rules : ℕ → Asked → Rules
rules node asked = record {
  looks = at_file node;
  refusal = refusal asked;
  plan = λ taken. plan_by asked taken.at.second taken.view (change_in asked taken.view);
  wants = λ view. None;
  claims = claims node;
  keys = λ view. keys_by view (change_in asked view);
  reply = λ taken mount seen. reply_to taken asked node mount (last_moment seen) (answers_of seen) (change_in asked taken.view);
  after = λ taken mount seen. mount_after taken asked node mount (last_moment seen) (answers_of seen) (change_in asked taken.view);
}
