-- Chains: lists of entries at rising positions, in a finite map from their heads.
use Rattle.std.specs.Prelude.{ℕ, ◌<◌, List, [], ◌∷◌, Option, None, Some, IsSome, filter, nat_lt, nat_eq, if◌then◌else◌}
use Rattle.std.specs.FinMap as fin
use Rattle.std.specs.Map.{lookup}
use Rattle.std.specs.Option.{unwrap_or}
use Rattle.std.specs.Ordering.{nat_cmp}

-- a chain's entries: what stands at each of its positions
abbrev pub Entries : Type 0 → Type 0
Entries V = List (ℕ × V)

-- the chains that are not empty, by their heads
abbrev pub ChainMap : Type 0 → Type 0
ChainMap V = fin.FinMap nat_cmp (Entries V)

-- the entries of the chain with this head; none for the empty chain
abbrev pub entries_of : {V : Type 0} → ChainMap V → Option ℕ → Entries V
entries_of chains None = []
entries_of chains (Some head) = unwrap_or (fin.get chains head) []

abbrev pub without : {V : Type 0} → ChainMap V → Option ℕ → ChainMap V
without chains None = chains
without chains (Some head) = fin.remove chains head

abbrev pub with_chain : {V : Type 0} → ChainMap V → Option ℕ → Entries V → ChainMap V
with_chain chains None entries = chains
with_chain chains (Some head) entries = fin.insert chains head entries

-- the chain with one head gets another head and other entries; all other chains are as they were
abbrev pub replaced : {V : Type 0} → ChainMap V → Option ℕ → Option ℕ → Entries V → ChainMap V
replaced chains old new entries = with_chain (without chains old) new entries

-- positions rise along the entries
abbrev pub AllAbove : {V : Type 0} → ℕ → Entries V → Type 0
AllAbove position [] = Unit {0}
AllAbove position (e ∷ es) = (position < e.0) × AllAbove position es

abbrev pub Rises : {V : Type 0} → Entries V → Type 0
Rises [] = Unit {0}
Rises (e ∷ es) = AllAbove e.0 es × Rises es

-- what stands at a position
abbrev pub at : {V : Type 0} → Entries V → ℕ → Option V
at entries position = lookup (nat_eq position) entries

-- an entry more, in its place
abbrev pub inserted : {V : Type 0} → Entries V → ℕ → V → Entries V
inserted [] position value = (position, value) ∷ []
inserted (e ∷ es) position value = if nat_lt position e.0 then (position, value) ∷ e ∷ es else e ∷ inserted es position value

-- the entries at positions below this one
abbrev pub below : {V : Type 0} → Entries V → ℕ → Entries V
below entries position = filter (λ e. nat_lt e.0 position) entries

-- a chain is one of these: it is empty, or its head is in the map
abbrev pub IsChain : {V : Type 0} → ChainMap V → Option ℕ → Type 0
IsChain chains None = Unit {0}
IsChain chains (Some head) = IsSome (fin.get chains head)

-- the head where there are entries
abbrev pub head_of : {V : Type 0} → ℕ → Entries V → Option ℕ
head_of head [] = None
head_of head (e ∷ es) = Some head
