-- What a call makes of the record list: it finds a record, learns what the bucket showed, or writes a name.
use Rattle.std.specs.Prelude.{◌≡◌, ℕ, ◌+◌, Bool, false, true, nat_lt, ◌||◌, max, List, [], ◌∷◌, ◌++◌, map, fold, take, slice_get, Option, Some, None, ◌==◌, if◌then◌else◌}
use Rattle.std.specs.Option.{option_map_or, option_and_then}
use Rattle.record_spec.specs.declared.records.Record.{Record}
use Rattle.record_spec.specs.declared.records.Learned.{Learned}
use Rattle.record_spec.specs.declared.records.Learned.TheVariants.{Kept, Behind, NoMemory}
use Rattle.record_spec.specs.RecordList.{Key, RecordList, record_of, known_to, without}

-- ---- finding
-- a record lives as long as its tick and the lifetime lie after now
abbrev pub is_live : ℕ → ℕ → Record → Bool
is_live now lifetime r = nat_lt now (r.tick + lifetime)

-- the record of a key, where it has one that lives
abbrev pub live_record : RecordList → Key → ℕ → ℕ → Option Record
live_record list key now lifetime = option_and_then (λ r. if is_live now lifetime r then Some r else None) (record_of list key)

-- a record that is found becomes the most recently used one
abbrev pub found : RecordList → Key → ℕ → ℕ → RecordList
found list key now lifetime = option_map_or (λ r. record list { records = (key, r) ∷ without key list.records }) (live_record list key now lifetime) list

-- ---- going
-- the record of a key goes, and leaves its moment to the watermark
abbrev pub gone : RecordList → Key → RecordList
gone list key = record list { records = without key list.records; low = max list.low (known_to list key) }

-- ---- learning
-- an observation is behind where it is below the watermark, or older than its key's record
abbrev pub is_behind : RecordList → Key → ℕ → Bool
is_behind list key moment = nat_lt moment list.low || nat_lt moment (known_to list key)

-- one that is behind isn't kept, and an older record of its key goes
abbrev pub behind : RecordList → Key → ℕ → RecordList
behind list key moment = if nat_lt (known_to list key) moment then gone list key else list

-- another comes to the front in the place of its key's record; past the capacity the last record goes
abbrev pub kept : RecordList → Key → Record → RecordList
kept list key r =
    let records = (key, r) ∷ without key list.records in
    record list {
      records = take list.capacity records;
      low = option_map_or (λ last. max list.low last.1.moment) (slice_get records list.capacity) list.low;
    }

-- the watermark rises to a moment
abbrev pub raised : RecordList → ℕ → RecordList
raised list moment = record list { low = max list.low moment }

abbrev pub learned : RecordList → Key → Record → Learned → RecordList
learned list key r Kept = kept list key r
learned list key r Behind = behind list key r.moment
learned list key r NoMemory = raised list r.moment

-- what may come of an observation: memory is refused only to a record of a key that has none
abbrev pub MayBe : RecordList → Key → ℕ → Learned → Type 0
MayBe list key moment Kept = is_behind list key moment ≡ false
MayBe list key moment Behind = is_behind list key moment ≡ true
MayBe list key moment NoMemory = (is_behind list key moment ≡ false) × (record_of list key ≡ None)

-- ---- own writes
-- a name's cuts: each directory key that begins it, up to and with one of its slashes
abbrev pub cuts : Key → List Key
cuts [] = []
cuts (byte ∷ rest) = (if byte == 47 then (byte ∷ []) ∷ [] else []) ++ map (λ key. byte ∷ key) (cuts rest)

-- the keys that a write of a name may have changed: the name, and with implicit directories those that begin it
abbrev pub written_keys : Bool → Key → List Key
written_keys implicit name = name ∷ (if implicit then cuts name else [])

-- a write of a name: the records of its keys go, and nothing older than the write is learned from now on
abbrev pub written : RecordList → Key → ℕ → Bool → RecordList
written list name moment implicit = raised (fold gone list (written_keys implicit name)) moment
