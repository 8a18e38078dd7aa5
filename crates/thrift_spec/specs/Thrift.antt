-- Thrift: what a call asks of the bucket is only what the mount doesn't keep; and what it learned is kept where it can be.
use Rattle.std.specs.Prelude.{◌≡◌, ℕ, ◌==◌, Contains, List, [], ◌∷◌, IfSome, length, nat_le, Option, Some, None, if◌then◌else◌}
use Rattle.std.specs.List.{AllByRecursion, filter_map}
use Rattle.bucket_api.specs.BucketState.{BucketState}
use Rattle.bucket_api.specs.LogEvent.{LogEvent}
use Rattle.bucket_api.specs.Operation.{Operation, read}
use Rattle.cache_spec.specs.KeptFiles.{KeptFiles, blocks_of, is_kept}
use Rattle.cache_spec.specs.declared.file_key.FileKey.{FileKey}
use Rattle.history_spec.specs.Account as account
use Rattle.history_spec.specs.Account.{Account, Item, Turn, looked, made, moment_of, recalled}
use Rattle.history_spec.specs.JournalState.{JournalState, OpenCall, after_turn, at_front, first_journal, open_of}
use Rattle.history_spec.specs.Looks.{keys_taken}
use Rattle.history_spec.specs.Observing.{observed_at, seen_by}
use Rattle.history_spec.specs.Pasts.{key_of, lifetime_of}
use Rattle.mount_model.specs.Observing.{Observed}
use Rattle.mount_model.specs.declared.config.Config.{Config}
use Rattle.mount_model.specs.declared.journal.Fill.{Fill}
use Rattle.mount_model.specs.declared.journal.Fill.TheVariants as fills
use Rattle.mount_model.specs.declared.journal.How.{How}
use Rattle.mount_model.specs.declared.journal.How.TheVariants as how
use Rattle.mount_rules.specs.Dispatch.{wants}
use Rattle.mount_rules.specs.Plans.{Contents, Wanted}
use Rattle.record_spec.specs.RecordList.{RecordList, empty_list}
use Rattle.record_spec.specs.Steps.{live_record}
use Rattle.record_spec.specs.declared.records.Record.{Record}
use Rattle.thrift_spec.specs.Files.{files_after_turn, key_wanted, wholes_read}
use Rattle.thrift_spec.specs.Records.{IsToldBy, list_after_turn}

-- What a mount keeps; and of each lane, what the latest call that was taken in it found kept, and the reads that it is to make.
pub record Kept : Type 0 where
  pub records : RecordList
  pub files : KeptFiles
  pub found : ℕ → RecordList
  pub reads : ℕ → List Operation

abbrev pub none_kept : Config → Kept
none_kept config = record { records = empty_list config.record_capacity; files = []; found = λ lane. empty_list config.record_capacity; reads = λ lane. [] }

-- The reads of a call that wants bytes: none, of a file that is kept; the whole source, where it fits the cache; else the range
-- that is wanted.
abbrev pub reads_of : ℕ → KeptFiles → Contents → Option Wanted → List Operation
reads_of capacity files contents None = []
reads_of capacity files contents (Some wanted) =
    if is_kept files (key_wanted wanted) then []
    else if nat_le (blocks_of (contents wanted.name wanted.generation)) capacity then
    read wanted.name wanted.generation 0 (length (contents wanted.name wanted.generation)) ∷ []
    else read wanted.name wanted.generation wanted.range.first wanted.range.count ∷ []

abbrev pub read_by : Operation → Option Operation
read_by (read name generation first count) = Some (read name generation first count)
read_by op = None

abbrev pub reads_made : List Observed → List Operation
reads_made seen = filter_map (λ (o : Observed). read_by o.op) seen

-- a call that is taken in a lane, and what others have
abbrev pub with_lane : {X : Type 0} → (ℕ → X) → ℕ → X → ℕ → X
with_lane has lane x = λ other. if other == lane then x else has other

-- the whole sources that fit the cache
abbrev pub fit : ℕ → List (FileKey × List ℕ) → List (FileKey × List ℕ)
fit capacity [] = []
fit capacity (whole ∷ wholes) = if nat_le (blocks_of whole.1) capacity then whole ∷ fit capacity wholes else fit capacity wholes

-- A fill is told exactly where a call was performed that read a whole source which fits.
abbrev pub IsFillOf : How → List (FileKey × List ℕ) → Fill → Type 0
IsFillOf how.Ok (whole ∷ more) fill = fill ≡ fills.Nothing → ⊥
IsFillOf h wholes fill = fill ≡ fills.Nothing

module _ (start : BucketState) (log : List LogEvent) (o : OpenCall) (found : RecordList) where
  abbrev pub record_found : Operation → Option Record
  record_found op = live_record found (key_of op) o.clock (lifetime_of o.taken.at.config (key_of op))

  -- A look is the call's own only where no record of its key lived, of those that it looks for; and a record that served was
  -- found.
  abbrev pub IsThrifty : Item → Observed → Type 0
  IsThrifty (looked moment kept) seen = Contains (keys_taken o.taken) (key_of seen.op) → record_found seen.op ≡ None
  IsThrifty (recalled moment) seen = (r : Record) × (record_found seen.op ≡ Some r) × (r.moment ≡ moment)
  IsThrifty (made moment) seen = Unit {0}

  abbrev pub AllThrifty : List Item → Type 0
  AllThrifty items = AllByRecursion (λ item. IfSome (observed_at start log (moment_of item)) (IsThrifty item)) items

-- the reads of a call that isn't short are the ones that it was to make
abbrev pub ReadsAre : How → List Operation → List Observed → Type 0
ReadsAre how.Ok reads seen = reads_made seen ≡ reads
ReadsAre how.NoMemory reads seen = Unit {0}

module _ (config : Config) (start : BucketState) (log : List LogEvent) where
  abbrev pub kept_after_turn : JournalState → Kept → Turn → Kept
  kept_after_turn state kept (account.take call front request) = record {
    records = list_after_turn config start log state kept.records (account.take call front request);
    files = files_after_turn config start log state kept.files (account.take call front request);
    found = with_lane kept.found call.lane kept.records;
    reads = with_lane kept.reads call.lane
        (reads_of config.cache_blocks kept.files (at_front config start log state.clock front).contents (wants config state.mount request));
  }
  kept_after_turn state kept turn = record kept {
    records = list_after_turn config start log state kept.records turn;
    files = files_after_turn config start log state kept.files turn;
  }

  abbrev pub kept_after_turns : JournalState → Kept → Account → Kept
  kept_after_turns state kept [] = kept
  kept_after_turns state kept (turn ∷ turns) = kept_after_turns (after_turn config start log state turn) (kept_after_turn state kept turn) turns

  -- what a mount keeps at the end of an account
  abbrev pub kept_at : Account → Kept
  kept_at turns = kept_after_turns first_journal (none_kept config) turns

  -- the end of this call is thrifty
  pub record EndsThrifty (kept : Kept) (o : OpenCall) (h : How) (items : List Item) (fill : Fill) : Type 0 where
    pub looks : AllThrifty start log o (kept.found o.call.lane) items
    pub reads : ReadsAre h (kept.reads o.call.lane) (seen_by start log items)
    pub fills : IsFillOf h (fit config.cache_blocks (wholes_read o.taken.at.contents (seen_by start log items))) fill

  abbrev pub IsThriftyTurn : JournalState → Kept → Turn → Type 0
  IsThriftyTurn state kept (account.done call front h items fill) =
      IfSome (open_of state.opened call.lane) (λ (o : OpenCall). EndsThrifty kept o h items fill)
  IsThriftyTurn state kept turn = Unit {0}

  -- Turn by turn: thrift, and the flags of what was learned.
  abbrev pub ThriftyFrom : JournalState → Kept → Account → Type 0
  ThriftyFrom state kept [] = Unit {0}
  ThriftyFrom state kept (turn ∷ turns) =
      IsThriftyTurn state kept turn × IsToldBy config start log state kept.records turn
      × ThriftyFrom (after_turn config start log state turn) (kept_after_turn state kept turn) turns

  abbrev pub IsThriftyAccount : Account → Type 0
  IsThriftyAccount turns = ThriftyFrom first_journal (none_kept config) turns
