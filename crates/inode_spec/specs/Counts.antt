-- The law of counts: over any list of calls, how often a node was given and given back is how many look-ups it has.
use Rattle.std.specs.Prelude.{◌≡◌, ◌≢◌, ℕ, ◌+◌, ◌-◌, Bool, List, [], ◌∷◌, Option, IsSome, if◌then◌else◌, ◌==◌}
use Rattle.std.specs.FinMap as fin
use Rattle.object_names.specs.declared.shown.NodeKind.{NodeKind}
use Rattle.inode_spec.specs.Inodes.{Inodes, root_number, first_table, granted, looked, forgotten, let_go, detached, made_current, with_file, lookups_of}

-- a call that changes the table
pub data Call (F : Type 0) : Type 0 where
  Grant : NodeKind → List ℕ → Option F → Call F
  Look : ℕ → Call F
  Forget : ℕ → ℕ → Bool → Call F
  LetGo : ℕ → Call F
  Detach : List ℕ → Call F
  MakeCurrent : ℕ → List ℕ → Call F
  Write : ℕ → F → Call F

-- what a call makes of the table
abbrev pub after : {F : Type 0} → Inodes F → Call F → Inodes F
after table (Grant kind name file) = granted table (record { kind = kind; name = name; lookups = 1; file = file })
after table (Look number) = looked table number
after table (Forget number count held) = forgotten table number count held
after table (LetGo number) = let_go table number
after table (Detach name) = detached table name
after table (MakeCurrent number name) = made_current table number name
after table (Write number file) = with_file table number file

-- a look-up finds its node there
abbrev pub Meets : {F : Type 0} → Inodes F → Call F → Type 0
Meets table (Look number) = IsSome (fin.get table.nodes number)
Meets table _ = Unit {0}

-- the table after a list of calls, and that each of them finds its condition met
abbrev pub after_all : {F : Type 0} → Inodes F → List (Call F) → Inodes F
after_all table [] = table
after_all table (call ∷ calls) = after_all (after table call) calls

abbrev pub MeetsAll : {F : Type 0} → Inodes F → List (Call F) → Type 0
MeetsAll table [] = Unit {0}
MeetsAll table (call ∷ calls) = Meets table call × MeetsAll (after table call) calls

-- What a call makes of a node's count, where the next node gets the number `next`: 1 by its grant, one more by a look-up,
-- and so many less by a forget, stopping at 0.
abbrev pub counted : {F : Type 0} → ℕ → ℕ → Call F → ℕ → ℕ
counted node next (Grant kind name file) count = if node == next then 1 else count
counted node next (Look number) count = if node == number then count + 1 else count
counted node next (Forget number less held) count = if node == number then count - less else count
counted node next _ count = count

-- grants give one number after another
abbrev pub next_after : {F : Type 0} → ℕ → Call F → ℕ
next_after next (Grant kind name file) = next + 1
next_after next _ = next

-- the count along the calls, from this one on
abbrev pub count_along : {F : Type 0} → ℕ → ℕ → ℕ → List (Call F) → ℕ
count_along node next count [] = count
count_along node next count (call ∷ calls) = count_along node (next_after next call) (counted node next call count) calls

-- from a new table on, a node other than the root has exactly the look-ups of its count
abbrev pub CountsDecide : Type 0 → Type 0
CountsDecide F = (calls : List (Call F)) → MeetsAll first_table calls → (node : ℕ) → node ≢ root_number
    → lookups_of (after_all first_table calls) node ≡ count_along node 2 0 calls
