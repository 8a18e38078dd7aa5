-- What single values of a scenario must be, as tests.
use Rattle.std.specs.Prelude.{ℕ, ◌+◌, ◌-◌, ◌&&◌, ◌==◌, nat_le, nat_lt, Bool, not, if◌then◌else◌, List, [], ◌∷◌, ◌++◌, length, map, slice_index, sum_by, codes, bytes_eq}
use Rattle.std.specs.List.{list_all}
use Rattle.fuse_head.specs.Little.{u32_at}
use Rattle.scenario.specs.Parts.{Lane, calls, remote, clock}

-- a byte that may stand in an object's name: neither a line feed nor a carriage return
abbrev pub is_name_byte : ℕ → Bool
is_name_byte b = not (b == 10) && not (b == 13)

-- the text, which is UTF-8, may name an object. Source: Cloud Storage's "Object naming requirements"
unfoldable pub is_object_name : List ℕ → Bool
is_object_name name =
    nat_le 1 (length name) && nat_le (length name) 1024 && list_all is_name_byte name
    && not (bytes_eq name (codes ".")) && not (bytes_eq name (codes ".."))

-- the bytes are one request frame of the FUSE wire, as long as its head tells
unfoldable pub is_whole_frame : List ℕ → Bool
is_whole_frame bytes = nat_le 40 (length bytes) && nat_le (length bytes) 135168 && (u32_at bytes 0 == length bytes)

-- ---- where a call stands

-- how many items a lane has, and how many of them are calls
abbrev pub items_of : Lane → ℕ
items_of (calls cs) = length cs
items_of (remote ops) = length ops
items_of (clock steps) = length steps

abbrev pub calls_of : Lane → ℕ
calls_of (calls cs) = length cs
calls_of (remote ops) = 0
calls_of (clock steps) = 0

-- the number of calls of each lane of these phases
abbrev pub counts_of : List (List Lane) → List ℕ
counts_of [] = []
counts_of (lanes ∷ phases) = map calls_of lanes ++ counts_of phases

-- the calls, remote operations and clock steps of these phases
abbrev pub items_in : List (List Lane) → ℕ
items_in [] = 0
items_in (lanes ∷ phases) = sum_by items_of lanes + items_in phases

-- what a lane knows of those before it: the calls of each lane of the phases before, its own number, and the items
-- that were counted
pub record Spot : Type 0 where
  pub counts : List ℕ
  pub lane : ℕ
  pub items : ℕ

-- where the next lane stands behind these; lanes have the numbers 1, 2, .. through all phases
abbrev pub spot_after : List ℕ → ℕ → List Lane → Spot
spot_after counts items lanes = record {
  counts = counts;
  lane = length counts + length lanes + 1;
  items = items + sum_by items_of lanes;
}

abbrev pub spot_of : List (List Lane) → List Lane → Spot
spot_of phases lanes = spot_after (counts_of phases) (items_in phases) lanes

-- there is such a call, of the same lane and before the call of this index, or of an earlier phase
abbrev pub is_earlier : Spot → ℕ → ℕ → ℕ → Bool
is_earlier spot index lane call = if lane == spot.lane then nat_lt call index else nat_le call (slice_index spot.counts (lane - 1))

-- eight bytes from this place on lie in a frame of this length
abbrev pub has_room : ℕ → ℕ → Bool
has_room at size = nat_le (at + 8) size
