-- When two claims conflict, as readers and a writer do: they are on one key, and at least one of them is exclusive.
use Rattle.std.specs.Prelude.{◌≡◌, ◌==◌, Bool, true, false, ◌⊎◌, List, [], ◌∷◌, if◌then◌else◌}
use Rattle.std.specs.List.{list_any}
use Rattle.std.specs.Str.{bytes_eq}
use Rattle.claim_spec.specs.declared.claim.Claim.{Claim}
use Rattle.claim_spec.specs.declared.claim.ClaimKey.{ClaimKey}
use Rattle.claim_spec.specs.declared.claim.ClaimKey.TheVariants.{Node, Name}

-- whether two keys are one: the same node, or the same name byte by byte
abbrev pub same_key : ClaimKey → ClaimKey → Bool
same_key (Node m) (Node n) = m == n
same_key (Node m) (Name q) = false
same_key (Name p) (Node n) = false
same_key (Name p) (Name q) = bytes_eq p q

-- whether two claims conflict
abbrev pub conflict : Claim → Claim → Bool
conflict a b = if same_key a.key b.key then (if a.exclusive then true else b.exclusive) else false

-- whether a claim of one list conflicts with a claim of the other
abbrev pub any_conflict : List Claim → List Claim → Bool
any_conflict mine others = list_any (λ claim. list_any (conflict claim) others) mine

-- one of the claims is on the key
abbrev pub IsClaimed : List Claim → ClaimKey → Type 0
IsClaimed [] key = ⊥
IsClaimed (claim ∷ claims) key = (claim.key ≡ key) ⊎ IsClaimed claims key

-- one of the claims is on the key, and exclusive
abbrev pub IsOwned : List Claim → ClaimKey → Type 0
IsOwned [] key = ⊥
IsOwned (claim ∷ claims) key = ((claim.key ≡ key) × (claim.exclusive ≡ true)) ⊎ IsOwned claims key

-- two calls are apart: what one of them owns, the other doesn't claim
pub record AreApart (mine others : List Claim) : Type 0 where
  pub mine_alone : (key : ClaimKey) → IsOwned mine key → IsClaimed others key → ⊥
  pub others_alone : (key : ClaimKey) → IsClaimed mine key → IsOwned others key → ⊥
