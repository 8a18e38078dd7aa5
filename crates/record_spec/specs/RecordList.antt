-- The record list: what a mount remembers of names that it asked the bucket about, and its watermark. It is this mount's
-- form of gcsfuse's stat cache and type cache, which are bounded in number and in time as well.
use Rattle.std.specs.Prelude.{ℕ, List, [], Option, not, filter, bytes_eq}
use Rattle.std.specs.Map.{lookup}
use Rattle.std.specs.Option.{option_map_or}
use Rattle.record_spec.specs.declared.records.Record.{Record}

-- what a record is about: a path of an object, or a directory's path with a slash behind it
abbrev pub Key : Type 0
Key = List ℕ

pub record RecordList : Type 0 where
  -- the records by their keys, the most recently used first
  pub records : List (Key × Record)
  -- the watermark: of a key without a record nothing newer than this is known
  pub low : ℕ
  -- the most records that there may be
  pub capacity : ℕ

-- nothing is known
abbrev pub empty_list : ℕ → RecordList
empty_list capacity = record { records = []; low = 0; capacity = capacity }

-- the record of a key, where it has one
abbrev pub record_of : RecordList → Key → Option Record
record_of list key = lookup (bytes_eq key) list.records

-- the newest moment that is known of a key: its record's, and the watermark where it has none
abbrev pub known_to : RecordList → Key → ℕ
known_to list key = option_map_or (λ r. r.moment) (record_of list key) list.low

-- the records of all other keys
abbrev pub without : Key → List (Key × Record) → List (Key × Record)
without key records = filter (λ entry. not (bytes_eq key entry.0)) records
