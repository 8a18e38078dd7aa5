-- What a request has to do on the bucket: nothing, an errand on names or on a file, or the flush of a frozen copy.
use Rattle.std.specs.Prelude.{◌≡◌, ◌≢◌, ◌≤◌, ◌∷◌, ℕ, Bool, List, [], Option, None, IfSome, length}
use Rattle.bucket_api.specs.Metadata.{KeysRise}
use Rattle.bucket_api.specs.Names.{IsObjectName}
use Rattle.bucket_api.specs.Operation.{max_content}
use Rattle.bucket_api.specs.declared.answers.Answer.{Answer}
use Rattle.bucket_api.specs.declared.objects.Pair.{Pair}
use Rattle.mount_core.specs.declared.errand.Errand.{Errand}
use Rattle.mount_core.specs.declared.errand.Errand.TheVariants.{Nothing, Names, Files, Flush}
use Rattle.mount_rules.specs.Plans.{Contents, Plan, Step, Wanted, done, without_reads}
use Rattle.mount_rules.specs.Requests.Opendir as opendir
use Rattle.object_names.specs.Paths.{dir_prefix_of}
use Rattle.object_names.specs.declared.shown.DirItem.{DirItem}
use Rattle.plan_files.specs.Errands as files
use Rattle.plan_files.specs.declared.errand.FileErrand.{FileErrand}
use Rattle.plan_files.specs.declared.errand.FileErrand.TheVariants as file
use Rattle.plan_names.specs.Errands as names
use Rattle.plan_names.specs.Errands.{Asked}
use Rattle.plan_names.specs.declared.errand.NameErrand.TheVariants.{Lookup, Opendir, Rename}
use Rattle.staged_file.specs.Frozen.{FrozenFile, frozen_content, frozen_wanted}
use Rattle.staged_file.specs.Sources.{range_of}
use Rattle.staging_spec.specs.Wanted.{Range}

-- ---- its plan
-- the plan that the errand carries out, at a second, reads left out; a flush inserts this content
abbrev pub plan_of : Errand → List ℕ → ℕ → List Answer → Step
plan_of Nothing content second answers = done
plan_of (Names errand) content second answers = names.plan_of errand second answers
plan_of (Files errand) content second answers = files.plan_of errand content second answers
plan_of (Flush errand frozen) content second answers = files.plan_of errand content second answers

-- what the generation holds that a flush replaces
abbrev pub source_of : FileErrand → Contents → List ℕ
source_of (file.Flush name generation wanted pairs) contents = contents name generation
source_of errand contents = []

-- the content that a flush inserts: the frozen copy, over its source
abbrev pub content_of : Errand → Contents → List ℕ
content_of (Flush errand frozen) contents = frozen_content frozen (source_of errand contents)
content_of errand contents = []

-- its plan, where each generation holds this
abbrev pub plan_over : Errand → Contents → ℕ → Plan
plan_over errand contents second = plan_of errand (content_of errand contents) second

-- it asks what the plan asks, reads left out
abbrev pub AsksAs : Plan → Plan → Type 0
AsksAs asked plan = (answers : List Answer) → asked answers ≡ without_reads (plan answers)

-- ---- what it wants
-- the bytes that it wants of a generation
abbrev pub wanted_of : Errand → Option Wanted
wanted_of (Files errand) = files.wanted_of errand
wanted_of (Flush errand frozen) = files.wanted_of errand
wanted_of errand = None

-- ---- its keys
-- the keys of which it looks for records, in order
abbrev pub keys_of : Errand → List (List ℕ)
keys_of (Names (Lookup path suffix implicit)) = dir_prefix_of path ∷ path ∷ []
keys_of (Names (Rename from to suffix implicit)) = dir_prefix_of from ∷ []
keys_of (Files (file.Attr name)) = name ∷ []
keys_of errand = []

-- ---- its parts
-- a flush of a frozen copy: the errand may be asked, it wants what the copy lacks, and the copy is no longer than a
-- content may be
pub record IsFrozen (name : List ℕ) (wanted : Range) (pairs : List Pair) (frozen : FrozenFile) : Type 0 where
  pub named : IsObjectName name
  pub ordered : KeysRise pairs
  pub lacks : frozen_wanted frozen ≡ wanted
  pub short : length frozen.bytes ≤ max_content

abbrev pub FlushesFrozen : FileErrand → FrozenFile → Type 0
FlushesFrozen (file.Flush name generation wanted pairs) frozen = IsFrozen name (range_of wanted) pairs.items frozen
FlushesFrozen errand frozen = ⊥

-- an errand that is walked, operation by operation: its operations are known from the beginning
abbrev pub IsWalked : Errand → Type 0
IsWalked (Flush errand frozen) = ⊥
IsWalked (Files (file.Flush name generation wanted pairs)) = ⊥
IsWalked errand = Unit {0}

abbrev pub IsErrand : Errand → Type 0
IsErrand Nothing = Unit {0}
IsErrand (Names errand) = names.IsErrand errand
IsErrand (Files errand) = files.IsErrand errand × IsWalked (Files errand)
IsErrand (Flush errand frozen) = FlushesFrozen errand frozen

-- ---- on its way
-- the errand asked for each of these answers; a flush asks but once
abbrev pub HasAsked : Errand → ℕ → List Answer → Type 0
HasAsked Nothing second told = Unit {0}
HasAsked (Flush errand frozen) second told = told ≡ []
HasAsked errand second told = Asked (plan_of errand [] second) told

-- and asked for one more
abbrev pub AsksOn : Errand → ℕ → List Answer → Type 0
AsksOn Nothing second told = Unit {0}
AsksOn (Flush errand frozen) second told = ⊥
AsksOn errand second told = Asked (plan_of errand [] second) told × (plan_of errand [] second told ≢ done)

-- its errand is a flush that was not asked yet
abbrev pub IsFlushing : Errand → Type 0
IsFlushing (Flush errand frozen) = Unit {0}
IsFlushing errand = ⊥

-- the errand lists a directory
abbrev pub IsListing : Errand → Type 0
IsListing (Names (Opendir prefix page)) = Unit {0}
IsListing errand = ⊥

-- the entries of a directory whose listing was answered so, unless the bucket failed; another errand lists none
abbrev pub HoldsEntries : Errand → Bool → List Answer → List DirItem → Type 0
HoldsEntries (Names (Opendir prefix page)) implicit told items = IfSome (opendir.entries prefix implicit told) (λ entries. items ≡ entries)
HoldsEntries errand implicit told items = Unit {0}
