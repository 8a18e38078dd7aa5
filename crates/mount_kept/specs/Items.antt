-- How what is told of notes is told of the items of a call, along a log.
use Rattle.std.specs.Prelude.{◌≡◌, ℕ, Bool, false, List, Option, Some, None, IsSome, map, option_map}
use Rattle.std.specs.List.{AllByRecursion}
use Rattle.bucket_api.specs.BucketState.{BucketState}
use Rattle.bucket_api.specs.LogEvent.{LogEvent}
use Rattle.history_spec.specs.Account.{Item, looked, made, moment_of, recalled, uses_of}
use Rattle.history_spec.specs.Observing.{observed_at}
use Rattle.history_spec.specs.Pasts.{key_of, shown_of, told_by, written_by}
use Rattle.mount_kept.specs.Notes.{EndsBy}
use Rattle.mount_kept.specs.declared.notes.Note.{Note}
use Rattle.mount_kept.specs.declared.notes.Note.TheVariants.{Saw, Failed, Recalled, Wrote}
use Rattle.mount_model.specs.Observing.{Observed}
use Rattle.mount_model.specs.declared.journal.Use.{Use}
use Rattle.record_spec.specs.RecordList.{Key, RecordList}
use Rattle.record_spec.specs.declared.records.Shown.{Shown}
use Rattle.thrift_spec.specs.OneCall.{OwnAreTold}
use Rattle.thrift_spec.specs.Records.{list_after_items}

-- what is noted of a look by what it showed
abbrev pub note_shown : Key → ℕ → Option Shown → Note
note_shown key moment (Some shown) = Saw key moment shown
note_shown key moment None = Failed moment

-- what is noted of an item by what it observed
abbrev pub note_of : Item → Observed → Option Note
note_of (looked moment kept) seen = Some (note_shown (key_of seen.op) moment (shown_of seen.answer))
note_of (recalled moment) seen = Some (Recalled moment)
note_of (made moment) seen = option_map (λ name. Wrote name moment) (written_by seen.op)

abbrev pub notes_of : BucketState → List LogEvent → List Item → List Note
notes_of start log items = told_by start log note_of items

-- an item as it is before its end: of its own look nothing is said to be kept
abbrev pub unflagged : Item → Item
unflagged (looked moment kept) = looked moment false
unflagged item = item

module _ (implicit : Bool) (start : BucketState) (log : List LogEvent) (clock : ℕ) where
  -- The same items, with flags by which these uses are printed of them, and the list is then this one.
  pub record AreToldAs (list : RecordList) (items : List Item) (uses : List Use) (after : RecordList) : Type 0 where
    pub told : List Item
    pub same : map unflagged told ≡ map unflagged items
    pub printed : uses_of told ≡ uses
    pub leaves : list_after_items implicit start log clock list told ≡ after
    pub flags : OwnAreTold implicit start log clock list told

-- What is told of the notes of items is told of the items.
abbrev pub NotesTellItems : Type 0
NotesTellItems = (implicit : Bool) (start : BucketState) (log : List LogEvent) (clock : ℕ) (list : RecordList) (items : List Item) (uses : List Use) (after : RecordList)
    → AllByRecursion (λ item. IsSome (observed_at start log (moment_of item))) items
    → EndsBy implicit clock list (notes_of start log items) uses after → AreToldAs implicit start log clock list items uses after
