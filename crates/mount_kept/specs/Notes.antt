-- What the end of a call makes of the record list by what the call noted on its way, and which uses it tells.
use Rattle.std.specs.Prelude.{◌≡◌, ℕ, Bool, true, false, List, [], ◌∷◌, ◌++◌, Option, Some, None, IfSome}
use Rattle.std.specs.Option.{option_map_or}
use Rattle.mount_kept.specs.declared.notes.Note.{Note}
use Rattle.mount_kept.specs.declared.notes.Note.TheVariants.{Saw, Failed, Recalled, Wrote}
use Rattle.mount_model.specs.declared.journal.Use.{Use}
use Rattle.record_spec.specs.Laws.{Act, MayHappen, list_after, saw, wrote}
use Rattle.record_spec.specs.RecordList.{Key, RecordList}
use Rattle.record_spec.specs.Steps.{MayBe, learned}
use Rattle.record_spec.specs.declared.records.Shown.{Shown}
use Rattle.thrift_spec.specs.Records.{came_of}

-- what a note is to the list, where the flag says whether an observation is kept
abbrev pub act_of : ℕ → RecordList → Note → Bool → Option Act
act_of clock list (Saw key moment shown) kept =
    Some (saw key (record { moment = moment; tick = clock; shown = shown }) (came_of list key moment kept))
act_of clock list (Failed moment) kept = None
act_of clock list (Recalled moment) kept = None
act_of clock list (Wrote name moment) kept = Some (wrote name moment)

-- what is told of it: a look is a use
abbrev pub uses_told : Note → Bool → List Use
uses_told (Saw key moment shown) kept = record { moment = moment; own = true; kept = kept } ∷ []
uses_told (Failed moment) kept = record { moment = moment; own = true; kept = false } ∷ []
uses_told (Recalled moment) kept = record { moment = moment; own = false; kept = false } ∷ []
uses_told (Wrote name moment) kept = []

abbrev pub list_by : Bool → RecordList → Option Act → RecordList
list_by implicit list act = option_map_or (list_after implicit list) act list

-- an observation is learned at the end of a call, with a flag that says what came of it
pub record Learns (clock : ℕ) (list : RecordList) (key : Key) (moment : ℕ) (shown : Shown) (kept : Bool) (after : RecordList) : Type 0 where
  pub may : MayBe list key moment (came_of list key moment kept)
  pub is : after ≡ learned list key (record { moment = moment; tick = clock; shown = shown }) (came_of list key moment kept)

-- one note is told, with a flag that says what came of it
pub record IsToldOf (implicit : Bool) (clock : ℕ) (list : RecordList) (note : Note) (uses told : List Use) (after : RecordList) : Type 0 where
  pub kept : Bool
  pub may : IfSome (act_of clock list note kept) (MayHappen list)
  pub tells : told ≡ uses ++ uses_told note kept
  pub is : after ≡ list_by implicit list (act_of clock list note kept)

-- all notes are, one after another: these uses are told, and the list is then this one
abbrev pub EndsBy : Bool → ℕ → RecordList → List Note → List Use → RecordList → Type 0
EndsBy implicit clock list [] uses after = (uses ≡ []) × (after ≡ list)
EndsBy implicit clock list (note ∷ notes) uses after =
    (kept : Bool) × (more : List Use) × IfSome (act_of clock list note kept) (MayHappen list)
    × (uses ≡ uses_told note kept ++ more) × EndsBy implicit clock (list_by implicit list (act_of clock list note kept)) notes more after
