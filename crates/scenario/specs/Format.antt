-- The format of a scenario: one JSON text, read from the top down. An object's members are tested before they are read,
-- and are then read in the order in which its table names them.
use Rattle.std.specs.Prelude.{ℕ, ◌+◌, ◌&&◌, nat_le, nat_lt, Bool, true, false, if◌then◌else◌, List, [], ◌∷◌, ◌++◌, length, fold, Option, Some, None, option_and_then, is_some, Result, Ok, Err, codes}
use Prim.Native.String.{String}
use Rattle.std.specs.Str.{is_utf8}
use Rattle.hex.specs.Hex.{decode_of}
use Rattle.hex.specs.declared.error.FromHexError.{FromHexError}
use Rattle.serde_json.specs.Data.{Data, Items, Members, no_members, member}
use Rattle.serde_json.specs.Find.{get, as_bool, as_str, as_object}
use Rattle.serde_json.specs.Events.{items_len, members_len}
use Rattle.serde_json.specs.Read.{read as json_of}
use Rattle.bucket_api.specs.declared.events.Mode.{Mode}
use Rattle.bucket_api.specs.declared.events.Mode.TheVariants.{Failed, Lost}
use Rattle.bucket_api.specs.declared.events.Scripted.{Scripted}
use Rattle.bucket_api.specs.declared.objects.Pair.{Pair}
use Rattle.bucket_api.specs.BucketState.{BucketState, empty_bucket, object_at}
use Rattle.bucket_api.specs.BucketStep.{with_new, new_object}
use Rattle.bucket_api.specs.Operation.{Operation, insert, update, delete, max_content}
use Rattle.mount_model.specs.declared.config.Config.{Config}
use Rattle.mount_model.specs.Configs.{default_config}
use Rattle.scenario.specs.declared.call.Fix.{Fix}
use Rattle.scenario.specs.declared.remote.Act.{Act}
use Rattle.scenario.specs.declared.remote.Act.TheVariants.{Write, Update, Delete}
use Rattle.scenario.specs.Walks.{Fault, Walk, fault, ◌>>=◌, within, asked, text, number_in, meaning, choice, items, through, each, Table, must, may, object, needed, optional}
use Rattle.scenario.specs.Parts.{ObjectParts, Call, Lane, calls, remote, clock, ScenarioData}
use Rattle.scenario.specs.Checks.{is_object_name, is_whole_frame, Spot, spot_of, is_earlier, has_room}

-- ---- the tables of members

abbrev pub whole_table : Table
whole_table = may "config" ∷ may "objects" ∷ may "faults" ∷ must "phases" ∷ []

abbrev pub config_table : Table
config_table =
    may "implicit_dirs" ∷ may "stat_lifetime" ∷ may "type_lifetime" ∷ may "record_capacity" ∷ may "staging_blocks"
    ∷ may "cache_blocks" ∷ may "list_page" ∷ may "start" ∷ []

abbrev pub start_table : Table
start_table = must "name" ∷ may "hex" ∷ may "meta" ∷ may "updated" ∷ []

abbrev pub fault_table : Table
fault_table = must "moment" ∷ must "mode" ∷ []

abbrev pub lane_table : Table
lane_table = may "calls" ∷ may "remote" ∷ may "clock" ∷ []

abbrev pub call_table : Table
call_table = must "frame" ∷ may "fix" ∷ []

abbrev pub fix_table : Table
fix_table = must "at" ∷ must "lane" ∷ must "call" ∷ must "take" ∷ []

abbrev pub write_table : Table
write_table = must "act" ∷ must "name" ∷ may "hex" ∷ may "meta" ∷ may "only" ∷ may "stamp" ∷ []

abbrev pub update_table : Table
update_table = must "act" ∷ must "name" ∷ may "meta" ∷ may "only" ∷ may "stamp" ∷ []

abbrev pub delete_table : Table
delete_table = must "act" ∷ must "name" ∷ may "only" ∷ []

-- ---- single values

abbrev pub flag : Data → Walk Bool
flag d = asked 4 (as_bool d)

-- the last second that the mount shows
abbrev pub last_second : ℕ
last_second = 249_999_999_999

abbrev pub second : Data → Walk ℕ
second d = number_in 0 last_second d

-- the bytes of a text of hexadecimal digits
abbrev pub bytes_or : Result (List ℕ) FromHexError → Walk (List ℕ)
bytes_or (Ok bytes) = Ok bytes
bytes_or (Err e) = fault 6

abbrev pub digits : Data → Walk (List ℕ)
digits d = text d >>= λ word. bytes_or (decode_of word)

abbrev pub object_name : Data → Walk (List ℕ)
object_name d = text d >>= λ name. if is_object_name name then Ok name else fault 7

abbrev pub content : Data → Walk (List ℕ)
content d = digits d >>= λ bytes. if nat_le (length bytes) max_content then Ok bytes else fault 9

abbrev pub frame : Data → Walk (List ℕ)
frame d = digits d >>= λ bytes. if is_whole_frame bytes then Ok bytes else fault 14

-- ---- metadata: at most 64 members, which come in byte order of their keys

abbrev pub most_text : ℕ
most_text = 4095

-- a text of so many bytes at least
abbrev pub short : ℕ → List ℕ → Walk (List ℕ)
short least word = if nat_le least (length word) && nat_le (length word) most_text then Ok word else fault 5

abbrev pub pair : List ℕ → Data → Walk Pair
pair name d = do
  key ← short 1 name
  word ← text d
  value ← short 0 word
  Ok (record { key = key; value = value })

abbrev pub pairs : List Pair → Members → Walk (List Pair)
pairs found no_members = Ok found
pairs found (member key d ms) = within key (pair key d) >>= λ p. pairs (found ++ p ∷ []) ms

abbrev pub meta : Data → Walk (List Pair)
meta d = asked 4 (as_object d) >>= λ ms. if nat_le (members_len ms) 64 then pairs [] ms else fault 5

-- ---- the parts of an object, in this order

abbrev pub parts : Data → Walk ObjectParts
parts d = do
  name ← needed "name" object_name d
  bytes ← optional "hex" [] content d
  metadata ← optional "meta" [] meta d
  Ok (record { name = name; content = bytes; pairs = metadata })

-- ---- the settings, each with its range and what holds where it is absent

abbrev pub setting : String → ℕ → ℕ → ℕ → Data → Walk ℕ
setting name least most default d = optional name default (number_in least most) d

abbrev pub config : Data → Walk Config
config d = do
  o ← object config_table d
  implicit_dirs ← optional "implicit_dirs" false flag o
  stat_lifetime ← setting "stat_lifetime" 0 1_000_000_000_000 60 o
  type_lifetime ← setting "type_lifetime" 0 1_000_000_000_000 60 o
  record_capacity ← setting "record_capacity" 1 65_536 4_096 o
  staging_blocks ← setting "staging_blocks" 1 1_024 1_024 o
  cache_blocks ← setting "cache_blocks" 0 1_024 1_024 o
  list_page ← setting "list_page" 1 1_000 1_000 o
  start ← setting "start" 0 100_000_000_000 0 o
  Ok (record {
    implicit_dirs = implicit_dirs;
    stat_lifetime = stat_lifetime;
    type_lifetime = type_lifetime;
    record_capacity = record_capacity;
    staging_blocks = staging_blocks;
    cache_blocks = cache_blocks;
    list_page = list_page;
    start = start;
  })

-- ---- the bucket at the start: the objects go in one after another, each under the next generation

abbrev pub start_object : BucketState → Data → Walk BucketState
start_object bucket d = do
  o ← object start_table d
  p ← parts o
  updated ← optional "updated" 0 second o
  if is_some (object_at bucket p.name) then fault 8 else Ok (with_new bucket p.name (new_object bucket p.name p.content p.pairs updated))

abbrev pub start_bucket : Data → Walk BucketState
start_bucket d = items d >>= through start_object 0 empty_bucket

-- ---- the faults that are to come: their moments rise

abbrev pub modes : List (List ℕ × Mode)
modes = (codes "failed", Failed) ∷ (codes "lost", Lost) ∷ []

abbrev pub last_moment : List Scripted → ℕ
last_moment before = fold (λ last f. f.moment) 0 before

abbrev pub moment_after : ℕ → Data → Walk ℕ
moment_after last d = number_in 1 1_000_000_000 d >>= λ moment. if nat_lt last moment then Ok moment else fault 10

abbrev pub planned_fault : List Scripted → Data → Walk Scripted
planned_fault before d = do
  o ← object fault_table d
  moment ← needed "moment" (moment_after (last_moment before)) o
  mode ← needed "mode" (choice modes) o
  Ok (record { moment = moment; mode = mode })

abbrev pub script : Data → Walk (List Scripted)
script d = items d >>= each planned_fault

-- ---- calls

-- whether a fixup takes a reply's handle rather than its node
abbrev pub takes : List (List ℕ × Bool)
takes = (codes "node", false) ∷ (codes "fh", true) ∷ []

-- a fixup of the call of this index, whose frame has this length
abbrev pub fixup : Spot → ℕ → ℕ → Data → Walk Fix
fixup spot index size d = do
  o ← object fix_table d
  place ← needed "at" (number_in 4 135_160) o
  lane ← needed "lane" (number_in 1 4_294_967_295) o
  call ← needed "call" (number_in 1 65_536) o
  handle ← needed "take" (choice takes) o
  if is_earlier spot index lane call && has_room place size then Ok (record { at = place; call = record { lane = lane; index = call }; handle = handle }) else fault 13

abbrev pub fixups : Spot → ℕ → ℕ → Data → Walk (List Fix)
fixups spot index size d = items d >>= each (λ _. fixup spot index size)

-- the call of this index
abbrev pub call : Spot → ℕ → Data → Walk Call
call spot index d = do
  o ← object call_table d
  bytes ← needed "frame" frame o
  fixes ← optional "fix" [] (fixups spot index (length bytes)) o
  Ok (record { frame = bytes; fixes = fixes })

-- ---- remote operations

abbrev pub acts : List (List ℕ × Act)
acts = (codes "write", Write) ∷ (codes "update", Update) ∷ (codes "delete", Delete) ∷ []

-- the members that an act has; one that isn't among the acts may have those of a write, and is refused for what it is
abbrev pub members_for : Option Act → Table
members_for None = write_table
members_for (Some Write) = write_table
members_for (Some Update) = update_table
members_for (Some Delete) = delete_table

abbrev pub act_in : Data → Option Act
act_in d = option_and_then (meaning acts) (option_and_then as_str (get (codes "act") d))

abbrev pub only : Data → Walk (Option ℕ)
only d = number_in 0 1_000_000_000 d >>= λ n. Ok (Some n)

abbrev pub operation_by : Act → ObjectParts → Option ℕ → ℕ → Operation
operation_by Write p only stamp = insert p.name p.content p.pairs only stamp
operation_by Update p only stamp = update p.name p.pairs only None stamp
operation_by Delete p only stamp = delete p.name only

abbrev pub remote_operation : Data → Walk Operation
remote_operation d = do
  o ← object (members_for (act_in d)) d
  act ← needed "act" (choice acts) o
  p ← parts o
  generation ← optional "only" None only o
  stamp ← optional "stamp" 0 second o
  Ok (operation_by act p generation stamp)

-- ---- lanes and phases

abbrev pub most_items : ℕ
most_items = 65_536

-- an item of a lane, which is counted before it is read
abbrev pub counted : {A : Type 0} → Spot → (List A → Data → Walk A) → List A → Data → Walk A
counted spot read before d = if nat_lt (spot.items + length before) most_items then read before d else fault 12

abbrev pub all_calls : Spot → Data → Walk (List Call)
all_calls spot d = items d >>= each (counted spot (λ before. call spot (length before + 1)))

abbrev pub all_operations : Spot → Data → Walk (List Operation)
all_operations spot d = items d >>= each (counted spot (λ _. remote_operation))

abbrev pub all_steps : Spot → Data → Walk (List ℕ)
all_steps spot d = items d >>= each (counted spot (λ _. number_in 1 1_000_000))

-- exactly one of the three kinds of work
abbrev pub work : Spot → Data → Bool → Bool → Bool → Walk Lane
work spot d true false false = needed "calls" (all_calls spot) d >>= λ cs. Ok (calls cs)
work spot d false true false = needed "remote" (all_operations spot) d >>= λ ops. Ok (remote ops)
work spot d false false true = needed "clock" (all_steps spot) d >>= λ steps. Ok (clock steps)
work spot d false false false = fault 2
work spot d _ _ _ = fault 3

abbrev pub has : Data → String → Bool
has d name = is_some (get (codes name) d)

abbrev pub lane : Spot → Data → Walk Lane
lane spot d = do
  o ← object lane_table d
  work spot o (has o "calls") (has o "remote") (has o "clock")

-- an array of 1 to 64 lanes
abbrev pub few_items : Data → Walk Items
few_items d = items d >>= λ ds. if nat_le 1 (items_len ds) && nat_le (items_len ds) 64 then Ok ds else fault 11

abbrev pub phase : List (List Lane) → Data → Walk (List Lane)
phase before d = few_items d >>= each (λ lanes. lane (spot_of before lanes))

abbrev pub all_phases : Data → Walk (List (List Lane))
all_phases d = items d >>= each phase

-- ---- the whole

abbrev pub whole : Data → Walk ScenarioData
whole d = do
  o ← object whole_table d
  settings ← optional "config" default_config config o
  start ← optional "objects" empty_bucket start_bucket o
  faults ← optional "faults" [] script o
  phases ← needed "phases" all_phases o
  Ok (record { config = settings; start = start; script = faults; phases = phases })

abbrev pub json : List ℕ → Walk Data
json bytes = if is_utf8 bytes then asked 1 (json_of bytes) else fault 1

abbrev pub text_of : List ℕ → Walk ScenarioData
text_of bytes = json bytes >>= whole

-- the whole text has the place `/`
abbrev pub placed : List ℕ → List ℕ
placed [] = codes "/"
placed (c ∷ cs) = c ∷ cs

abbrev pub placed_at : Fault → Fault
placed_at f = record { number = f.number; place = placed f.place }

abbrev pub at_top : {A : Type 0} → Walk A → Walk A
at_top (Ok x) = Ok x
at_top (Err f) = Err (placed_at f)

abbrev pub scenario_of : List ℕ → Walk ScenarioData
scenario_of bytes = at_top (text_of bytes)
