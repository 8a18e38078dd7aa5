-- WRITE: bytes into the staged content of an open file, from a place on (fuse.h: `struct fuse_write_in`, whose flags are
-- not looked at). They stand in the mount alone until a FLUSH or an FSYNC, as gcsfuse's do.
use Rattle.std.specs.Prelude.{ℕ, ◌+◌, Bool, false, not, [], ◌∷◌, List, Option, Some, None, length, nat_le, option_and_then, if◌then◌else◌}
use Rattle.std.specs.Option.{option_map_or}
use Rattle.bucket_api.specs.Operation.{max_content}
use Rattle.bucket_api.specs.declared.answers.Answer.{Answer}
use Rattle.fuse_replies.specs.Errno.{efbig, einval, eio, enospc, estale}
use Rattle.fuse_replies.specs.declared.reply.Reply.{Reply}
use Rattle.fuse_replies.specs.declared.reply.Reply.TheVariants.{Error, Written}
use Rattle.mount_model.specs.declared.config.Config.{Config}
use Rattle.mount_rules.specs.Claiming.{owns_node}
use Rattle.mount_rules.specs.Files.{overlay_of, staging_in, with_staged}
use Rattle.mount_rules.specs.Guards.{on_open_file}
use Rattle.mount_rules.specs.Mount.{MountModel}
use Rattle.mount_rules.specs.Plans.{Contents, Step, Wanted, answers_of, done}
use Rattle.mount_rules.specs.Reading.{Reads, given, gone, failed, reads, source_of, wanting, while_given}
use Rattle.mount_rules.specs.Rules.{Rules, Taken, at_open_file}
use Rattle.mount_rules.specs.View.{Sight, View}
use Rattle.staging_spec.specs.Overlays.{held_of}
use Rattle.staging_spec.specs.StagedFiles.{StagedContent, StagedFiles, fits, touched_by}
use Rattle.staging_spec.specs.Staging.{written}
use Rattle.staging_spec.specs.Wanted.{Range, wanted_by_write}

-- the most bytes that a WRITE may have: max_write of fuse.h, as the reply to INIT sets it
abbrev pub longest_write : ℕ
longest_write = 131072

abbrev pub limits_refusal : ℕ → ℕ → Option ℕ
limits_refusal first count =
    if nat_le count longest_write then (if nat_le (first + count) max_content then None else Some efbig) else Some einval

abbrev pub refusal : ℕ → ℕ → List ℕ → View → Option ℕ
refusal node first bytes view = on_open_file node view (λ file. limits_refusal first (length bytes))

-- whether it touches no more blocks than there are, beside those that files have touched
abbrev pub has_room : Config → StagedFiles → ℕ → ℕ → View → Bool
has_room config files first count view = option_map_or (λ file. fits config.staging_blocks files (overlay_of view.staged file) first count) view.node false

-- whether it is refused for want of blocks; one of no byte touches none
abbrev pub is_full : Config → StagedFiles → ℕ → List ℕ → View → Bool
is_full config files first [] view = false
is_full config files first (byte ∷ bytes) view = not (has_room config files first (length (byte ∷ bytes)) view)

-- what it leaves of the blocks that it touches for the first time, as far as that is still the source's
abbrev pub wanted_range : Option StagedContent → ℕ → ℕ → Sight → Range
wanted_range staged first count file = let overlay = overlay_of staged file in wanted_by_write (touched_by overlay) overlay.limit first count

abbrev pub wanted : ℕ → List ℕ → Option StagedContent → Option Sight → Option Wanted
wanted first bytes staged seen = option_and_then (λ file. wanting file.name file.source (wanted_range staged first (length bytes) file)) seen

abbrev pub plan : View → List Answer → Step
plan view answers = option_map_or (λ file. while_given (source_of file) (reads answers)) view.node done

-- What came of it: it is written; the blocks don't suffice; the source is live no more; or the bucket failed.
pub data Came : Type 0 where
  whole : Came
  full : Came
  stale : Came
  fault : Came

-- what was read decides first, and then whether there is room
abbrev pub came_of : Bool → Reads → Came
came_of is_full given = if is_full then full else whole
came_of is_full gone = stale
came_of is_full failed = fault

abbrev pub reply_to : ℕ → Came → Reply
reply_to count whole = Written count
reply_to count full = Error enospc
reply_to count stale = Error estale
reply_to count fault = Error eio

-- what is staged then, with the second of the call as its time
abbrev pub staged_by : Contents → ℕ → ℕ → List ℕ → Option StagedContent → Sight → StagedContent
staged_by contents second first bytes staged file =
    record { overlay = held_of (written (staging_in contents staged file) first bytes); seconds = second; nanos = 0 }

-- a WRITE of no byte changes nothing
abbrev pub written_in : Taken → MountModel → ℕ → ℕ → List ℕ → MountModel
written_in taken mount node first [] = mount
written_in taken mount node first (byte ∷ bytes) =
    option_map_or (λ file. with_staged mount node (staged_by taken.at.contents taken.at.second first (byte ∷ bytes) taken.view.staged file)) taken.view.node mount

abbrev pub mount_after : Taken → MountModel → ℕ → ℕ → List ℕ → Came → MountModel
mount_after taken mount node first bytes whole = written_in taken mount node first bytes
mount_after taken mount node first bytes came = mount

-- what came of it, with what files have staged at its end
abbrev pub came : Taken → MountModel → ℕ → List ℕ → List Answer → Came
came taken mount first bytes answers = came_of (is_full taken.at.config mount.staged first bytes taken.view) (reads answers)

abbrev pub rules : ℕ → ℕ → ℕ → List ℕ → Rules
rules node fh first bytes = record {
  looks = at_open_file node fh;
  refusal = refusal node first bytes;
  plan = λ taken. plan taken.view;
  wants = λ view. wanted first bytes view.staged view.node;
  claims = λ view. owns_node node ∷ [];
  keys = λ view. [];
  reply = λ taken mount seen. reply_to (length bytes) (came taken mount first bytes (answers_of seen));
  after = λ taken mount seen. mount_after taken mount node first bytes (came taken mount first bytes (answers_of seen));
}
