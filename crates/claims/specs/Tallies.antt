-- The tallies of keys, in a list of claims and in a table.
use Rattle.std.specs.Prelude.{ℕ, ◌+◌, List, [], ◌∷◌, length, unwrap_or, if◌then◌else◌}
use Rattle.std.specs.Cmp.Lexicographic.{slice_cmp}
use Rattle.std.specs.FinMap as fin
use Rattle.std.specs.Ordering.{nat_cmp}
use Rattle.std.specs.declared.cmp.Ordering.{Ordering}
use Rattle.claim_spec.specs.declared.claim.Claim.{Claim}
use Rattle.claim_spec.specs.declared.claim.ClaimKey.{ClaimKey}
use Rattle.claim_spec.specs.declared.claim.ClaimKey.TheVariants.{Node, Name}
use Rattle.claim_spec.specs.Conflicts.{same_key}
use Rattle.claims.specs.declared.tally.Tally.{Tally}
use Rattle.claims.specs.TallyWords.{no_tally, one_tally, plus}

-- what a claim adds on a key
abbrev pub tally_by : ClaimKey → Claim → Tally
tally_by key claim = if same_key key claim.key then one_tally claim.exclusive else no_tally

-- what the items of a list give, taken together
abbrev pub total_by : {X M : Type 0} → (X → M) → (M → M → M) → M → List X → M
total_by f op zero [] = zero
total_by f op zero (x ∷ xs) = op (f x) (total_by f op zero xs)

-- the claims of a list on a key
abbrev pub tally_of : ClaimKey → List Claim → Tally
tally_of key = total_by (tally_by key) plus no_tally

-- the claims of many lists on a key
abbrev pub tally_of_all : ClaimKey → List (List Claim) → Tally
tally_of_all key = total_by (tally_of key) plus no_tally

-- how many claims many lists have
abbrev pub size_of_all : List (List Claim) → ℕ
size_of_all = total_by length (λ a b. a + b) 0

-- the tally under a key of a map
abbrev pub tally_in : {K : Type 0} {R : K → K → Ordering} → fin.FinMap R Tally → K → Tally
tally_in tallies key = unwrap_or (fin.get tallies key) no_tally

-- the tally of a key in a map of nodes and one of names
abbrev pub tally_at : fin.FinMap nat_cmp Tally → fin.FinMap (slice_cmp nat_cmp) Tally → ClaimKey → Tally
tally_at nodes names (Node n) = tally_in nodes n
tally_at nodes names (Name p) = tally_in names p
