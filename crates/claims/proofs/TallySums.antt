-- Sums and differences of tallies.
use Rattle.std.proofs.Common.{◌≡◌, ℕ, suc, ◌+◌, ◌<◌, ◌≤◌, Bool, true, false, cond, List, [], ◌∷◌, ◌++◌, length, take, get_or, count_by, sym, ap, ◌∙◌, arith}
use Rattle.std.proofs.lemmas.List.{take_more}
use Rattle.std.proofs.lemmas.List.Sums.{sum_by_push}
use Rattle.claim_spec.specs.declared.claim.Claim.{Claim}
use Rattle.claim_spec.specs.declared.claim.ClaimKey.{ClaimKey}
use Rattle.claim_spec.specs.Conflicts.{same_key}
use Rattle.claims.specs.declared.tally.Tally.{Tally}
use Rattle.claims.specs.TallyWords.{no_tally, one_tally, plus, less}
use Rattle.claims.specs.Tallies.{tally_by, tally_of, tally_of_all, size_of_all}

-- two tallies with the same parts
pub same_tally : (t u : Tally) → t.claims ≡ u.claims → t.exclusive ≡ u.exclusive → t ≡ u
same_tally t u a b = λ i. record { claims = a i; exclusive = b i }

pub plus-none : (t : Tally) → plus t no_tally ≡ t
plus-none t = same_tally (plus t no_tally) t (omega arith) (omega arith)

pub less-none : (t : Tally) → less t no_tally ≡ t
less-none t = same_tally (less t no_tally) t (omega arith) (omega arith)

pub none-plus : (u : Tally) → plus no_tally u ≡ u
none-plus u = same_tally (plus no_tally u) u (omega arith) (omega arith)

pub plus_assoc : (t u v : Tally) → plus (plus t u) v ≡ plus t (plus u v)
plus_assoc t u v = same_tally (plus (plus t u) v) (plus t (plus u v)) (omega arith) (omega arith)

pub plus_swap : (t u v : Tally) → plus t (plus u v) ≡ plus u (plus t v)
plus_swap t u v = same_tally (plus t (plus u v)) (plus u (plus t v)) (omega arith) (omega arith)

pub less-less : (t u v : Tally) → less (less t u) v ≡ less t (plus u v)
less-less t u v = same_tally (less (less t u) v) (less t (plus u v)) (omega arith) (omega arith)

pub less-plus : (t u : Tally) → less (plus t u) t ≡ u
less-plus t u = same_tally (less (plus t u) t) u (omega arith) (omega arith)

pub plus_comm : (t u : Tally) → plus t u ≡ plus u t
plus_comm t u = same_tally (plus t u) (plus u t) (omega arith) (omega arith)

-- one more claim at the end of a list
pub tally_of-push : (key : ClaimKey) (claims : List Claim) (claim : Claim) → tally_of key (claims ++ claim ∷ []) ≡ plus (tally_of key claims) (tally_by key claim)
tally_of-push key [] claim = plus-none (tally_by key claim) ∙ sym (none-plus (tally_by key claim))
tally_of-push key (c ∷ claims) claim =
    ap (plus (tally_by key c)) (tally_of-push key claims claim) ∙ sym (plus_assoc (tally_by key c) (tally_of key claims) (tally_by key claim))

-- a list has no more claims on a key than it has claims
pub claims_within : (key : ClaimKey) (claims : List Claim) → (tally_of key claims).claims ≤ length claims
claims_within key [] = omega arith
claims_within key (c ∷ claims) =
    let rest = claims_within key claims in
    elim (same_key key c.key) as (λ b. (cond b (one_tally c.exclusive) no_tally).claims + (tally_of key claims).claims ≤ suc (length claims)) [ true ↦ omega (arith, rest) | false ↦ omega (arith, rest) ]

pub exclusive_within : (key : ClaimKey) (claims : List Claim) → (tally_of key claims).exclusive ≤ length claims
exclusive_within key [] = omega arith
exclusive_within key (c ∷ claims) =
    let rest = exclusive_within key claims in
    elim (same_key key c.key) as (λ b. (cond b (one_tally c.exclusive) no_tally).exclusive + (tally_of key claims).exclusive ≤ suc (length claims)) [
      | true ↦ elim c.exclusive as (λ e. cond e 1 0 + (tally_of key claims).exclusive ≤ suc (length claims)) [ true ↦ omega (arith, rest) | false ↦ omega (arith, rest) ]
      | false ↦ omega (arith, rest)
    ]

-- the tally of a list as far as a loop has come, with the next claim
pub tally_of-take : (key : ClaimKey) (claims : List Claim) (i : ℕ) (claim : Claim) → i < length claims → claim ≡ get_or claims i claim
    → tally_of key (take (i + 1) claims) ≡ plus (tally_of key (take i claims)) (tally_by key claim)
tally_of-take key claims i claim within is =
    ap (tally_of key) (take_more claims i claim within ∙ ap (λ c. take i claims ++ c ∷ []) (sym is)) ∙ tally_of-push key (take i claims) claim

pub named-take : (p : Claim → Bool) (claims : List Claim) (i : ℕ) (claim : Claim) → i < length claims → claim ≡ get_or claims i claim
    → count_by p (take (i + 1) claims) ≡ count_by p (take i claims) + cond (p claim) 1 0
named-take p claims i claim within is =
    ap (count_by p) (take_more claims i claim within ∙ ap (λ c. take i claims ++ c ∷ []) (sym is)) ∙ sum_by_push (λ c. cond (p c) 1 0) (take i claims) claim

-- many lists have no more claims on a key than they have claims
pub all_claims_within : (key : ClaimKey) (lists : List (List Claim)) → (tally_of_all key lists).claims ≤ size_of_all lists
all_claims_within key [] = omega arith
all_claims_within key (claims ∷ lists) = omega (arith, claims_within key claims, all_claims_within key lists)

pub all_exclusive_within : (key : ClaimKey) (lists : List (List Claim)) → (tally_of_all key lists).exclusive ≤ size_of_all lists
all_exclusive_within key [] = omega arith
all_exclusive_within key (claims ∷ lists) = omega (arith, exclusive_within key claims, all_exclusive_within key lists)
