-- Two calls are apart exactly where no claim of one conflicts with a claim of the other.
use Rattle.std.proofs.Common.{◌≡◌, Bool, true, false, cond, ◌||◌, List, [], ◌∷◌, refl, sym, ap, ◌∙◌, ◌⊎◌, inl, inr, true≢false}
use Rattle.std.proofs.lemmas.Bool.Decides.{Decides-eqb}
use Rattle.std.proofs.lemmas.Slice.Eq.{bytes_eq-Decides}
use Rattle.std.specs.Bool.{Decides}
use Rattle.std.specs.List.{list_any}
use Rattle.claim_spec.specs.declared.claim.Claim.{Claim}
use Rattle.claim_spec.specs.declared.claim.ClaimKey.{ClaimKey}
use Rattle.claim_spec.specs.declared.claim.ClaimKey.TheVariants.{Node, Name}
use Rattle.claim_spec.specs.Conflicts.{same_key, conflict, any_conflict, IsClaimed, IsOwned, AreApart}

-- ---- keys
pub same_key-Decides : (a b : ClaimKey) → Decides (same_key a b) (a ≡ b)
same_key-Decides (Node m) (Node n) = (λ t. ap Node ((Decides-eqb m n).0 t), λ e. (Decides-eqb m n).1 (let same : m ≡ n = cc in same))
same_key-Decides (Node m) (Name q) = (λ t. absurd (true≢false (sym t)), λ e. absurd (cc e))
same_key-Decides (Name p) (Node n) = (λ t. absurd (true≢false (sym t)), λ e. absurd (cc e))
same_key-Decides (Name p) (Name q) = (λ t. ap Name ((bytes_eq-Decides p q).0 t), λ e. (bytes_eq-Decides p q).1 (let same : p ≡ q = cc in same))

pub same_key-refl : (a : ClaimKey) → same_key a a ≡ true
same_key-refl a = (same_key-Decides a a).1 refl

-- ---- claims that conflict
-- an exclusive claim conflicts with any on its key
pub conflict_exclusive : (a b : Claim) → a.key ≡ b.key → a.exclusive ≡ true → conflict a b ≡ true
conflict_exclusive a b same alone =
    ap (λ t. cond t (cond a.exclusive true b.exclusive) false) ((same_key-Decides a.key b.key).1 same) ∙ ap (λ t. cond t true b.exclusive) alone

-- a claim conflicts with an exclusive one on its key
pub conflict_with_exclusive : (a b : Claim) → a.key ≡ b.key → b.exclusive ≡ true → conflict a b ≡ true
conflict_with_exclusive a b same alone =
    ap (λ t. cond t (cond a.exclusive true b.exclusive) false) ((same_key-Decides a.key b.key).1 same)
    ∙ (ap (λ t. cond a.exclusive true t) alone ∙ either_way a.exclusive)
  where
    either_way : (t : Bool) → cond t true true ≡ true
    either_way true = refl
    either_way false = refl

-- two claims that conflict are on one key, and one of them is exclusive
pub conflict_cases : (a b : Claim) → conflict a b ≡ true → (a.key ≡ b.key) × ((a.exclusive ≡ true) ⊎ (b.exclusive ≡ true))
conflict_cases a b = one_key (same_key a.key b.key) refl
  where
    one_key : (t : Bool) → same_key a.key b.key ≡ t → cond t (cond a.exclusive true b.exclusive) false ≡ true → (a.key ≡ b.key) × ((a.exclusive ≡ true) ⊎ (b.exclusive ≡ true))
    one_key true t h = ((same_key-Decides a.key b.key).0 t, alone a.exclusive refl h)
      where
        alone : (e : Bool) → a.exclusive ≡ e → cond e true b.exclusive ≡ true → (a.exclusive ≡ true) ⊎ (b.exclusive ≡ true)
        alone true is g = inl is
        alone false is g = inr g
    one_key false t h = absurd (true≢false (sym h))

-- ---- a claim beside a list
or_later : (b c : Bool) → c ≡ true → (b || c) ≡ true
or_later true c e = refl
or_later false c e = e

either_true : (b c : Bool) → (b || c) ≡ true → (b ≡ true) ⊎ (c ≡ true)
either_true true c e = inl refl
either_true false c e = inr e

exclusive_conflicts : (a : Claim) (others : List Claim) (key : ClaimKey) → a.key ≡ key → a.exclusive ≡ true → IsClaimed others key → list_any (conflict a) others ≡ true
exclusive_conflicts a [] key same alone there = absurd there
exclusive_conflicts a (b ∷ others) key same alone (inl there) = ap (λ t. t || list_any (conflict a) others) (conflict_exclusive a b (same ∙ sym there) alone)
exclusive_conflicts a (b ∷ others) key same alone (inr there) = or_later (conflict a b) _ (exclusive_conflicts a others key same alone there)

conflicts_with_exclusive : (a : Claim) (others : List Claim) (key : ClaimKey) → a.key ≡ key → IsOwned others key → list_any (conflict a) others ≡ true
conflicts_with_exclusive a [] key same there = absurd there
conflicts_with_exclusive a (b ∷ others) key same (inl there) = ap (λ t. t || list_any (conflict a) others) (conflict_with_exclusive a b (same ∙ sym there.0) there.1)
conflicts_with_exclusive a (b ∷ others) key same (inr there) = or_later (conflict a b) _ (conflicts_with_exclusive a others key same there)

-- a claim conflicts with one of the others: it is exclusive and they claim its key, or they own its key
abbrev Meets : Claim → List Claim → Type 0
Meets a others = ((a.exclusive ≡ true) × IsClaimed others a.key) ⊎ IsOwned others a.key

met_here : (a b : Claim) (others : List Claim) → (a.key ≡ b.key) × ((a.exclusive ≡ true) ⊎ (b.exclusive ≡ true)) → Meets a (b ∷ others)
met_here a b others both = elim both.1 [ inl alone ↦ inl (alone, inl (sym both.0)) | inr alone ↦ inr (inl (sym both.0, alone)) ]

met_later : (a b : Claim) (others : List Claim) → Meets a others → Meets a (b ∷ others)
met_later a b others (inl there) = inl (there.0, inr there.1)
met_later a b others (inr there) = inr (inr there)

conflict_among : (a : Claim) (others : List Claim) → list_any (conflict a) others ≡ true → Meets a others
conflict_among a [] e = absurd (true≢false (sym e))
conflict_among a (b ∷ others) e = elim (either_true (conflict a b) _ e) [
  | inl h ↦ met_here a b others (conflict_cases a b h)
  | inr h ↦ met_later a b others (conflict_among a others h)
]

-- ---- lists
owned_conflicts : (mine others : List Claim) (key : ClaimKey) → IsOwned mine key → IsClaimed others key → any_conflict mine others ≡ true
owned_conflicts [] others key own there = absurd own
owned_conflicts (a ∷ mine) others key (inl own) there = ap (λ t. t || any_conflict mine others) (exclusive_conflicts a others key own.0 own.1 there)
owned_conflicts (a ∷ mine) others key (inr own) there = or_later (list_any (conflict a) others) _ (owned_conflicts mine others key own there)

claimed_conflicts : (mine others : List Claim) (key : ClaimKey) → IsClaimed mine key → IsOwned others key → any_conflict mine others ≡ true
claimed_conflicts [] others key mine_too own = absurd mine_too
claimed_conflicts (a ∷ mine) others key (inl mine_too) own = ap (λ t. t || any_conflict mine others) (conflicts_with_exclusive a others key mine_too own)
claimed_conflicts (a ∷ mine) others key (inr mine_too) own = or_later (list_any (conflict a) others) _ (claimed_conflicts mine others key mine_too own)

-- where the test finds no conflict, the two are apart
pub AreApart-by_test : (mine others : List Claim) → any_conflict mine others ≡ false → AreApart mine others
AreApart-by_test mine others none = record {
  mine_alone = λ key own there. true≢false (sym (owned_conflicts mine others key own there) ∙ none);
  others_alone = λ key there own. true≢false (sym (claimed_conflicts mine others key there own) ∙ none);
}

-- a key that one list owns and the other claims
abbrev Contested : List Claim → List Claim → ClaimKey → Type 0
Contested mine others key = (IsOwned mine key × IsClaimed others key) ⊎ (IsClaimed mine key × IsOwned others key)

contested_key : (mine others : List Claim) → any_conflict mine others ≡ true → (key : ClaimKey) × Contested mine others key
contested_key [] others e = absurd (true≢false (sym e))
contested_key (a ∷ mine) others e = elim (either_true (list_any (conflict a) others) _ e) [
  | inl h ↦ (a.key, elim (conflict_among a others h) [ inl there ↦ inl (inl (refl, there.0), there.1) | inr there ↦ inr (inl refl, there) ])
  | inr h ↦ let more = contested_key mine others h in (more.0, elim more.1 [ inl there ↦ inl (inr there.0, there.1) | inr there ↦ inr (inr there.0, there.1) ])
]

not_contested : (mine others : List Claim) → AreApart mine others → (key : ClaimKey) → Contested mine others key → ⊥
not_contested mine others apart key (inl there) = apart.mine_alone key there.0 there.1
not_contested mine others apart key (inr there) = apart.others_alone key there.0 there.1

-- where two are apart, the test finds no conflict
pub any_conflict-apart : (mine others : List Claim) → AreApart mine others → any_conflict mine others ≡ false
any_conflict-apart mine others apart = tested (any_conflict mine others) refl
  where
    tested : (b : Bool) → any_conflict mine others ≡ b → any_conflict mine others ≡ false
    tested true e = let found = contested_key mine others e in absurd (not_contested mine others apart found.0 found.1)
    tested false e = e

-- it is the same from either side
pub AreApart-swap : (mine others : List Claim) → AreApart mine others → AreApart others mine
AreApart-swap mine others apart = record {
  mine_alone = λ key own there. apart.others_alone key there own;
  others_alone = λ key there own. apart.mine_alone key own there;
}
