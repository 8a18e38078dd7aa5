-- What an errand on a file is: what it asks, and what is asked of its parts.
use Rattle.std.specs.Prelude.{ℕ, ◌≤◌, List, [], ◌∷◌, nat_lt, Option, Some, None, if◌then◌else◌}
use Rattle.bucket_api.specs.Metadata.{KeysRise}
use Rattle.bucket_api.specs.Names.{IsObjectName}
use Rattle.bucket_api.specs.Operation.{Operation, IsAllowed, stat, read, insert, update}
use Rattle.bucket_api.specs.declared.answers.Answer.{Answer}
use Rattle.bucket_api.specs.declared.answers.Answer.TheVariants as answers
use Rattle.file_metadata.specs.FileMetadata.{last_second}
use Rattle.mount_model.specs.Observing.{NextStep, finish, insert_staged, make}
use Rattle.mount_rules.specs.Plans.{Step, Wanted, ask, done}
use Rattle.mount_rules.specs.Reading.{wanting}
use Rattle.mount_rules.specs.Requests.Flush.{time_pair}
use Rattle.mount_rules.specs.Standing as standing
use Rattle.staged_file.specs.Sources.{range_of}
use Rattle.staged_file.specs.declared.wanted.Wanted as staged
use Rattle.plan_files.specs.declared.errand.FileErrand.{FileErrand}
use Rattle.plan_files.specs.declared.errand.FileErrand.TheVariants.{Attr, Source, Flush, Touch}

-- ---- what it asks next
-- the update of a time: of this generation alone
abbrev pub touch_of : List ℕ → ℕ → ℕ → ℕ → ℕ → Operation
touch_of name generation seconds nanos second = update name (time_pair seconds nanos ∷ []) (Some generation) None second

-- staged content is inserted once
abbrev pub insert_next : List Answer → NextStep
insert_next [] = insert_staged
insert_next (a ∷ more) = finish

-- and behind a read only where that was given bytes
abbrev pub insert_behind : Operation → List Answer → NextStep
insert_behind op [] = make op
insert_behind op (answers.Bytes bytes ∷ more) = insert_next more
insert_behind op (a ∷ more) = finish

abbrev pub flush_next : List ℕ → ℕ → staged.Wanted → List Answer → NextStep
flush_next name generation wanted answers =
    if nat_lt 0 wanted.count then insert_behind (read name generation wanted.first wanted.count) answers else insert_next answers

-- one stat; one read of what is wanted, where anything is; the insert of a flush behind that; or one update
abbrev pub asked_next : FileErrand → ℕ → List Answer → NextStep
asked_next (Flush name generation wanted pairs) second answers = flush_next name generation wanted answers
asked_next (Attr name) second [] = make (stat name)
asked_next (Source name generation wanted) second [] = if nat_lt 0 wanted.count then make (read name generation wanted.first wanted.count) else finish
asked_next (Touch name generation seconds nanos) second [] = make (touch_of name generation seconds nanos second)
asked_next errand second (a ∷ more) = finish

-- an operation is to be made
abbrev pub IsMade : NextStep → Type 0
IsMade (make op) = Unit {0}
IsMade next = ⊥

-- what is asked next may be asked
abbrev pub MayAsk : NextStep → Type 0
MayAsk (make op) = IsAllowed op
MayAsk next = Unit {0}

-- ---- its plan
-- an operation is asked once
abbrev pub asks_once : Operation → List Answer → Step
asks_once op [] = ask op
asks_once op (a ∷ more) = done

-- the same, behind reads that were given bytes
abbrev pub asks_behind : Operation → List Answer → Step
asks_behind op [] = ask op
asks_behind op (answers.Bytes bytes ∷ more) = asks_behind op more
asks_behind op (a ∷ more) = done

-- what it asks, reads left out, at a second; a flush inserts this content
abbrev pub plan_of : FileErrand → List ℕ → ℕ → List Answer → Step
plan_of (Attr name) content second answers = standing.plan (Some name) answers
plan_of (Source name generation wanted) content second answers = done
plan_of (Flush name generation wanted pairs) content second answers = asks_behind (insert name content pairs.items (Some generation) second) answers
plan_of (Touch name generation seconds nanos) content second answers = asks_once (touch_of name generation seconds nanos second) answers

-- ---- what it wants
-- the read of all that is wanted
abbrev pub read_of : Wanted → Operation
read_of wanted = read wanted.name wanted.generation wanted.range.first wanted.range.count

-- the bytes that it wants of a generation, where it wants any
abbrev pub wanted_of : FileErrand → Option Wanted
wanted_of (Source name generation wanted) = wanting name generation (range_of wanted)
wanted_of (Flush name generation wanted pairs) = wanting name generation (range_of wanted)
wanted_of errand = None

-- ---- its parts
abbrev pub IsFlush : FileErrand → Type 0
IsFlush (Flush name generation wanted pairs) = Unit {0}
IsFlush errand = ⊥

-- a time that a file can have
pub record IsTime (seconds nanos : ℕ) : Type 0 where
  pub printable : seconds ≤ last_second
  pub fraction : nanos ≤ 999_999_999

-- its name is that of an object, its pairs are in order, and its time is one
abbrev pub IsErrand : FileErrand → Type 0
IsErrand (Attr name) = IsObjectName name
IsErrand (Source name generation wanted) = IsObjectName name
IsErrand (Flush name generation wanted pairs) = IsObjectName name × KeysRise pairs.items
IsErrand (Touch name generation seconds nanos) = IsObjectName name × IsTime seconds nanos
