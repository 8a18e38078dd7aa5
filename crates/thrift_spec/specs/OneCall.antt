-- One call more of a mount that has none under way: what is kept once it is taken, and once it is done; and when its end is
-- thrifty. And an account over another log.
use Rattle.std.specs.List.{AllByRecursion}
use Rattle.std.specs.Option.{option_map_or}
use Rattle.std.specs.Prelude.{◌≡◌, ◌≤◌, ℕ, Bool, List, [], ◌∷◌, ◌++◌, IfSome, length}
use Rattle.bucket_api.specs.BucketState.{BucketState}
use Rattle.bucket_api.specs.LogEvent.{LogEvent}
use Rattle.bucket_api.specs.Operation.{Operation}
use Rattle.cache_spec.specs.KeptFiles.{KeptFiles, used}
use Rattle.history_spec.specs.Account.{Account, Item, looked, moment_of, recalled}
use Rattle.history_spec.specs.JournalState.{JournalState, OpenCall, reached}
use Rattle.history_spec.specs.Laws.{done_of, take_of}
use Rattle.history_spec.specs.Observing.{observed_at, seen_by}
use Rattle.history_spec.specs.Pasts.{key_of}
use Rattle.mount_model.specs.Observing.{Observed}
use Rattle.mount_model.specs.declared.config.Config.{Config}
use Rattle.mount_model.specs.declared.journal.Fill.{Fill}
use Rattle.mount_model.specs.declared.journal.How.{How}
use Rattle.mount_rules.specs.Dispatch.{plan, rules_of, view_in, wants}
use Rattle.mount_rules.specs.Plans.{Wanted}
use Rattle.record_spec.specs.Laws.{MayHappen}
use Rattle.record_spec.specs.RecordList.{RecordList, known_to}
use Rattle.thrift_spec.specs.Files.{files_filled, key_wanted, wholes_read}
use Rattle.thrift_spec.specs.Records.{RecordsAreTold, act_at, found_in, list_after_items, list_by, records_at}
use Rattle.thrift_spec.specs.Thrift.{AllThrifty, IsFillOf, IsThriftyAccount, Kept, ReadsAre, fit, kept_at, reads_of, with_lane}

-- ---- in closed form
-- what is kept once the call is taken
abbrev pub records_taken : Config → JournalState → RecordList → OpenCall → RecordList
records_taken config state list o = found_in config o.clock (plan o.taken.at state.mount o.taken.request) ((rules_of o.taken.request).keys (view_in state.mount o.taken.request)) list

abbrev pub files_taken : Config → JournalState → KeptFiles → OpenCall → KeptFiles
files_taken config state files o = option_map_or (λ (wanted : Wanted). used files (key_wanted wanted)) (wants config state.mount o.taken.request) files

-- the reads that it is to make
abbrev pub reads_taken : Config → JournalState → KeptFiles → OpenCall → List Operation
reads_taken config state files o = reads_of config.cache_blocks files o.taken.at.contents (wants config state.mount o.taken.request)

abbrev pub kept_taken : Config → JournalState → Kept → OpenCall → Kept
kept_taken config state kept o = record {
  records = records_taken config state kept.records o;
  files = files_taken config state kept.files o;
  found = with_lane kept.found o.call.lane kept.records;
  reads = with_lane kept.reads o.call.lane (reads_taken config state kept.files o);
}

-- what is kept once it is done
abbrev pub kept_done : Config → BucketState → List LogEvent → Kept → OpenCall → List Item → Fill → Kept
kept_done config start log kept o items fill = record kept {
  records = list_after_items config.implicit_dirs start log o.clock kept.records items;
  files = files_filled config.cache_blocks fill kept.files (wholes_read o.taken.at.contents (seen_by start log items));
}

-- ---- flags
module _ (implicit : Bool) (start : BucketState) (log : List LogEvent) (clock : ℕ) where
  -- the flag of an own look says what the list made of it
  abbrev pub IsToldOwn : RecordList → Item → Type 0
  IsToldOwn list (looked moment kept) = IfSome (act_at implicit start log clock list (looked moment kept)) (MayHappen list)
  IsToldOwn list item = Unit {0}

  abbrev pub OwnAreTold : RecordList → List Item → Type 0
  OwnAreTold list [] = Unit {0}
  OwnAreTold list (item ∷ items) = IsToldOwn list item × OwnAreTold (list_by implicit start log clock list (act_at implicit start log clock list item)) items

-- ---- uses
-- a record that served is no newer than what this list knows of its key
abbrev pub IsKnown : RecordList → Item → Observed → Type 0
IsKnown list (recalled moment) seen = moment ≤ known_to list (key_of seen.op)
IsKnown list item seen = Unit {0}

abbrev pub AllKnown : BucketState → List LogEvent → RecordList → List Item → Type 0
AllKnown start log list items = AllByRecursion (λ item. IfSome (observed_at start log (moment_of item)) (IsKnown list item)) items

-- ---- its end
-- The end of a call is thrifty, by what was kept before its take; and its own looks are told by their flags.
pub record EndsWell (config : Config) (start : BucketState) (log : List LogEvent) (state : JournalState) (kept : Kept) (o : OpenCall) (h : How) (items : List Item) (fill : Fill) : Type 0 where
  pub looks : AllThrifty start log o kept.records items
  pub reads : ReadsAre h (reads_taken config state kept.files o) (seen_by start log items)
  pub fills : IsFillOf h (fit config.cache_blocks (wholes_read o.taken.at.contents (seen_by start log items))) fill
  pub told : OwnAreTold config.implicit_dirs start log o.clock (records_taken config state kept.records o) items

-- ---- added to an account
-- What is kept at the end of the account with the call; and it is thrifty still, where the end of the call is.
pub record KeepsCall (config : Config) (start : BucketState) (log more : List LogEvent) (turns : Account) (o : OpenCall) (h : How) (items : List Item) (fill : Fill) : Type 0 where
  pub keeps : kept_at config start (log ++ more) (turns ++ take_of o ∷ done_of o (length (log ++ more)) h items fill ∷ [])
      ≡ kept_done config start (log ++ more) (kept_taken config (reached config start log turns) (kept_at config start log turns) o) o items fill
  pub thrifty : IsThriftyAccount config start log turns → EndsWell config start (log ++ more) (reached config start log turns) (kept_at config start log turns) o h items fill
      → IsThriftyAccount config start (log ++ more) (turns ++ take_of o ∷ done_of o (length (log ++ more)) h items fill ∷ [])

-- The record list at the end of the account with the call; and flags tell all still, where those of its own looks do, and what
-- it used is no newer than what was known before its take.
pub record ListsCall (config : Config) (start : BucketState) (log more : List LogEvent) (turns : Account) (o : OpenCall) (h : How) (items : List Item) (fill : Fill) : Type 0 where
  pub lists : records_at config start (log ++ more) (turns ++ take_of o ∷ done_of o (length (log ++ more)) h items fill ∷ [])
      ≡ list_after_items config.implicit_dirs start (log ++ more) o.clock (records_taken config (reached config start log turns) (records_at config start log turns) o) items
  pub told : RecordsAreTold config start log turns → AllKnown start (log ++ more) (records_at config start log turns) items
      → OwnAreTold config.implicit_dirs start (log ++ more) o.clock (records_taken config (reached config start log turns) (records_at config start log turns) o) items
      → RecordsAreTold config start (log ++ more) (turns ++ take_of o ∷ done_of o (length (log ++ more)) h items fill ∷ [])

-- ---- over another log
-- all that is kept along the account is the same over the other log, and its thrift
pub record KeptOver (config : Config) (start : BucketState) (log other : List LogEvent) (turns : Account) : Type 0 where
  pub thrifty : IsThriftyAccount config start log turns → IsThriftyAccount config start other turns
  pub told : RecordsAreTold config start log turns → RecordsAreTold config start other turns
  pub keeps : kept_at config start other turns ≡ kept_at config start log turns
