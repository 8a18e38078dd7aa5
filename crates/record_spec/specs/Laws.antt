-- The laws of the record list, along everything that happens to it.
use Rattle.std.specs.Prelude.{ℕ, ◌≤◌, Bool, List, [], ◌∷◌, IfSome}
use Rattle.record_spec.specs.declared.records.Record.{Record}
use Rattle.record_spec.specs.declared.records.Learned.{Learned}
use Rattle.record_spec.specs.RecordList.{Key, RecordList, known_to, empty_list}
use Rattle.record_spec.specs.Steps.{found, learned, written, MayBe, live_record}
use Rattle.record_spec.specs.Past.{Past, no_past, IsLawful, KeepsUp}

-- what happens to a list: a call that is taken finds a record; a call that is done saw something itself and learned
-- it, used a record, or wrote a name
pub data Act : Type 0 where
  find : (key : Key) (now lifetime : ℕ) → Act
  saw : (key : Key) (r : Record) (came : Learned) → Act
  used : (key : Key) (moment : ℕ) → Act
  wrote : (name : Key) (moment : ℕ) → Act

abbrev pub list_after : Bool → RecordList → Act → RecordList
list_after implicit list (find key now lifetime) = found list key now lifetime
list_after implicit list (saw key r came) = learned list key r came
list_after implicit list (used key moment) = list
list_after implicit list (wrote name moment) = written list name moment implicit

abbrev pub past_after : Past → Act → Past
past_after past (find key now lifetime) = past
past_after past (saw key r came) = record past { seen = (key, r) ∷ past.seen }
past_after past (used key moment) = record past { used = (key, moment) ∷ past.used }
past_after past (wrote name moment) = record past { written = (name, moment) ∷ past.written }

-- what comes of an observation is one of what may, and a record that is used was known before
abbrev pub MayHappen : RecordList → Act → Type 0
MayHappen list (find key now lifetime) = Unit {0}
MayHappen list (saw key r came) = MayBe list key r.moment came
MayHappen list (used key moment) = moment ≤ known_to list key
MayHappen list (wrote name moment) = Unit {0}

abbrev pub list_after_all : Bool → RecordList → List Act → RecordList
list_after_all implicit list [] = list
list_after_all implicit list (act ∷ acts) = list_after_all implicit (list_after implicit list act) acts

abbrev pub past_after_all : Past → List Act → Past
past_after_all past [] = past
past_after_all past (act ∷ acts) = past_after_all (past_after past act) acts

abbrev pub MayHappenAll : Bool → RecordList → List Act → Type 0
MayHappenAll implicit list [] = Unit {0}
MayHappenAll implicit list (act ∷ acts) = MayHappen list act × MayHappenAll implicit (list_after implicit list act) acts

-- no key is known less far
abbrev pub NoneFalls : RecordList → RecordList → Type 0
NoneFalls old new = (key : Key) → known_to old key ≤ known_to new key

-- the list still keeps up once this happened
abbrev pub StillKeepsUp : Bool → RecordList → Act → RecordList → Type 0
StillKeepsUp implicit old act new = (past : Past) → KeepsUp implicit past old → KeepsUp implicit (past_after past act) new

-- a record that is found may be used, whatever the past that the list keeps up with
abbrev pub FindsLawful : RecordList → Key → ℕ → ℕ → Type 0
FindsLawful list key now lifetime = (implicit : Bool) (past : Past) → KeepsUp implicit past list → IfSome (live_record list key now lifetime) (IsLawful implicit past key now lifetime)

-- along any acts from an empty list on: the list keeps up with the past, a record that is found may be used, and what
-- was known once stays known, whatever happens later
pub record AreLawful (implicit : Bool) (capacity : ℕ) (acts : List Act) : Type 0 where
  pub keeps_up : KeepsUp implicit (past_after_all no_past acts) (list_after_all implicit (empty_list capacity) acts)
  pub lawful : (key : Key) (now lifetime : ℕ) →
      IfSome (live_record (list_after_all implicit (empty_list capacity) acts) key now lifetime) (IsLawful implicit (past_after_all no_past acts) key now lifetime)
  pub rises : (later : List Act) → MayHappenAll implicit (list_after_all implicit (empty_list capacity) acts) later
      → NoneFalls (list_after_all implicit (empty_list capacity) acts) (list_after_all implicit (list_after_all implicit (empty_list capacity) acts) later)

abbrev pub UsesAreLawful : Type 0
UsesAreLawful = (implicit : Bool) (capacity : ℕ) (acts : List Act) → MayHappenAll implicit (empty_list capacity) acts → AreLawful implicit capacity acts
