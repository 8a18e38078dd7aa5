-- What calls that are done have used and written, over keys and moments; and when a record may be used in place of a
-- further look into the bucket.
use Rattle.std.specs.Prelude.{◌≡◌, ℕ, ◌≤◌, ◌<◌, ◌+◌, Bool, IsTrue, ◌⊎◌, List, [], ◌++◌, length, All, Contains, Some}
use Rattle.bucket_api.specs.Listing.{ends_in_slash}
use Rattle.record_spec.specs.declared.records.Record.{Record}
use Rattle.record_spec.specs.RecordList.{Key, RecordList, record_of, known_to}

-- none of these was answered by a fault, but for writes, which count whatever their answer
pub record Past : Type 0 where
  -- what operations of their own showed, by key
  pub seen : List (Key × Record)
  -- the records that they used, by key and moment
  pub used : List (Key × ℕ)
  -- the names that they wrote, and at which moment
  pub written : List (Key × ℕ)

abbrev pub no_past : Past
no_past = record { seen = []; used = []; written = [] }

-- a write of a name writes the key: it is the name, or with implicit directories a directory's key that begins the name
abbrev pub Writes : Bool → Key → Key → Type 0
Writes implicit name key = (key ≡ name) ⊎ (IsTrue implicit × IsTrue (ends_in_slash key) × ((rest : List ℕ) × (name ≡ key ++ rest)))

-- the record may be used for the key by a call that is taken now
pub record IsLawful (implicit : Bool) (past : Past) (key : Key) (now lifetime : ℕ) (r : Record) : Type 0 where
  -- a call that is done saw it itself
  pub shown : Contains past.seen (key, r)
  -- its tick and the lifetime lie after now
  pub live : now < r.tick + lifetime
  -- no call that is done wrote the key later
  pub unwritten : All (λ w. Writes implicit w.0 key → w.1 ≤ r.moment) past.written
  -- no call that is done used anything later of the key: not what it saw itself, and no record
  pub newest_seen : All (λ u. u.0 ≡ key → u.1.moment ≤ r.moment) past.seen
  pub newest_used : All (λ u. u.0 ≡ key → u.1 ≤ r.moment) past.used

-- the list keeps up with the past: it has nothing that no call saw, and of each key it knows to the newest moment at
-- which the key was seen, used or written
pub record KeepsUp (implicit : Bool) (past : Past) (list : RecordList) : Type 0 where
  pub shown : (key : Key) (r : Record) → record_of list key ≡ Some r → Contains past.seen (key, r)
  pub seen : All (λ u. u.1.moment ≤ known_to list u.0) past.seen
  pub used : All (λ u. u.1 ≤ known_to list u.0) past.used
  pub written : All (λ w. (key : Key) → Writes implicit w.0 key → w.1 ≤ known_to list key) past.written
  pub few : length list.records ≤ list.capacity
