-- The files that a mount keeps along an account: a take that wants bytes of one uses it, and a whole source that was read is
-- put there.
use Rattle.std.specs.Prelude.{ℕ, ◌&&◌, List, ◌∷◌, length, nat_eq, Option, Some, None, option_and_then, if◌then◌else◌}
use Rattle.std.specs.Option.{option_map_or}
use Rattle.std.specs.List.{filter_map}
use Rattle.bucket_api.specs.BucketState.{BucketState}
use Rattle.bucket_api.specs.LogEvent.{LogEvent}
use Rattle.bucket_api.specs.Operation.{Operation, read}
use Rattle.bucket_api.specs.declared.answers.Answer.{Answer}
use Rattle.bucket_api.specs.declared.answers.Answer.TheVariants as answers
use Rattle.cache_spec.specs.KeptFiles.{KeptFiles, filled, made_room, used}
use Rattle.cache_spec.specs.declared.file_key.FileKey.{FileKey}
use Rattle.history_spec.specs.Account as account
use Rattle.history_spec.specs.Account.{Item, Turn}
use Rattle.history_spec.specs.JournalState.{JournalState, OpenCall, open_of}
use Rattle.history_spec.specs.Observing.{seen_by}
use Rattle.mount_model.specs.Observing.{Observed}
use Rattle.mount_model.specs.declared.config.Config.{Config}
use Rattle.mount_model.specs.declared.journal.Fill.{Fill}
use Rattle.mount_model.specs.declared.journal.Fill.TheVariants as fills
use Rattle.mount_rules.specs.Dispatch.{wants}
use Rattle.mount_rules.specs.Plans.{Contents, Wanted}

abbrev pub key_wanted : Wanted → FileKey
key_wanted wanted = record { name = wanted.name; generation = wanted.generation }

-- a source that a read took whole, and its bytes
abbrev pub bytes_told : Answer → Option (List ℕ)
bytes_told (answers.Bytes bytes) = Some bytes
bytes_told answer = None

abbrev pub whole_by : Contents → Operation → Answer → Option (FileKey × List ℕ)
whole_by contents (read name generation first count) answer =
    if nat_eq first 0 && nat_eq count (length (contents name generation)) then
    option_and_then (λ bytes. Some (record { name = name; generation = generation }, bytes)) (bytes_told answer)
    else None
whole_by contents op answer = None

-- the whole sources that a call read
abbrev pub wholes_read : Contents → List Observed → List (FileKey × List ℕ)
wholes_read contents seen = filter_map (λ (o : Observed). whole_by contents o.op o.answer) seen

-- what a fill makes of the files: the source is put there, or memory for it is refused once there is room
abbrev pub files_filled : ℕ → Fill → KeptFiles → List (FileKey × List ℕ) → KeptFiles
files_filled capacity fills.Kept files (whole ∷ more) = filled capacity files whole.0 whole.1
files_filled capacity fills.NoMemory files (whole ∷ more) = made_room capacity files whole.1
files_filled capacity fill files wholes = files

module _ (config : Config) (start : BucketState) (log : List LogEvent) where
  abbrev pub files_after_turn : JournalState → KeptFiles → Turn → KeptFiles
  files_after_turn state files (account.take call front request) =
      option_map_or (λ (wanted : Wanted). used files (key_wanted wanted)) (wants config state.mount request) files
  files_after_turn state files (account.done call front how items fill) =
      option_map_or (λ (o : OpenCall). files_filled config.cache_blocks fill files (wholes_read o.taken.at.contents (seen_by start log items))) (open_of state.opened call.lane) files
  files_after_turn state files (account.tick front seconds) = files
