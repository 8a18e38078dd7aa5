-- How many blocks all chains have, and which chains stay, after a change.
use Rattle.std.proofs.Common.{◌≡◌, ◌≢◌, ℕ, zero, suc, ◌+◌, ◌<◌, List, [], ◌⊎◌, inl, inr, Option, None, Some, IsSome, is_some, refl, sym, ap, subst, ◌∙◌, length, arith}
use Rattle.std.proofs.lemmas.Bool.{cases_eq, false≢true}
use Rattle.std.specs.FinMap as fin
use Rattle.std.specs.Option.{unwrap_or}
use Rattle.block_pool.specs.Chains.{Entries, ChainMap, entries_of, without, replaced, IsChain}
use Rattle.block_pool.specs.Pool.{total, Keeps}
use Rattle.block_pool.proofs.Lists.{from_either}
use Rattle.block_pool.proofs.Maps.{put_same, put_other, taken_same, taken_other}

-- a head is below a number
abbrev pub IsBelow : Option ℕ → ℕ → Type 0
IsBelow None count = Unit {0}
IsBelow (Some k) count = k < count

module _ {V : Type 0} where
  total_same : (m n : ChainMap V) (count : ℕ) → ((q : ℕ) → q < count → fin.get n q ≡ fin.get m q) → total n count ≡ total m count
  total_same m n zero same = refl
  total_same m n (suc count) same =
      ap (λ t. t + length (entries_of n (Some count))) (total_same m n count (λ q lt. same q (omega arith)))
      ∙ ap (λ o. total m count + length (unwrap_or o [])) (same count (omega arith))

  pub total-empty : (m : ChainMap V) (count : ℕ) → ((q : ℕ) → fin.get m q ≡ None) → total m count ≡ 0
  total-empty m zero none = refl
  total-empty m (suc count) none = let more = total-empty m count none in let here : length (entries_of m (Some count)) ≡ 0 = ap (λ o. length (unwrap_or o [])) (none count) in omega arith

  -- at one head the entries are others
  total-changed : (m n : ChainMap V) (k count : ℕ) → k < count → ((q : ℕ) → q ≢ k → fin.get n q ≡ fin.get m q)
      → total n count + length (entries_of m (Some k)) ≡ total m count + length (entries_of n (Some k))
  total-changed m n k zero lt same = absurd (omega arith)
  total-changed m n k (suc count) lt same = at (cases_eq k count) (λ less. total-changed m n k count less same)
    where
      at : (k ≡ count) ⊎ (k ≡ count → ⊥) → (k < count → total n count + length (entries_of m (Some k)) ≡ total m count + length (entries_of n (Some k)))
          → (total n count + length (entries_of n (Some count))) + length (entries_of m (Some k)) ≡ (total m count + length (entries_of m (Some count))) + length (entries_of n (Some k))
      at (inl e) more =
          let below = total_same m n count (λ q lt. same q (λ p. absurd (omega arith))) in
          let one : length (entries_of m (Some k)) ≡ length (entries_of m (Some count)) = ap (λ q. length (entries_of m (Some q))) e in
          let two : length (entries_of n (Some k)) ≡ length (entries_of n (Some count)) = ap (λ q. length (entries_of n (Some q))) e in
          omega arith
      at (inr apart) more =
          let rest = more (omega arith) in
          let here : length (entries_of n (Some count)) ≡ length (entries_of m (Some count)) = ap (λ o. length (unwrap_or o [])) (same count (λ p. apart (sym p))) in
          omega arith

  put_entries : (m : ChainMap V) (k : ℕ) (es : Entries V) → entries_of (fin.insert m k es) (Some k) ≡ es
  put_entries m k es = ap (λ o. unwrap_or o []) (put_same m k es)

  taken_entries : (m : ChainMap V) (k : ℕ) → entries_of (fin.remove m k) (Some k) ≡ []
  taken_entries m k = ap (λ o. unwrap_or o []) (taken_same m k)

  pub total-without : (m : ChainMap V) (head : Option ℕ) (count : ℕ) → IsBelow head count → total (without m head) count + length (entries_of m head) ≡ total m count
  total-without m None count lt = omega arith
  total-without m (Some k) count lt =
      let e = total-changed m (fin.remove m k) k count lt (λ q n. taken_other m k q n) in
      let none : length (entries_of (fin.remove m k) (Some k)) ≡ 0 = ap length (taken_entries m k) in
      omega arith

  pub total-insert : (m : ChainMap V) (k count : ℕ) (es : Entries V) → k < count → entries_of m (Some k) ≡ [] → total (fin.insert m k es) count ≡ total m count + length es
  total-insert m k count es lt fresh =
      let e = total-changed m (fin.insert m k es) k count lt (λ q n. put_other m k es q n) in
      let none : length (entries_of m (Some k)) ≡ 0 = ap length fresh in
      let new : length (entries_of (fin.insert m k es) (Some k)) ≡ length es = ap length (put_entries m k es) in
      omega arith

  -- no chain is lost where a chain gets another head, if that is its own or no chain's
  pub fresh_without : (m : ChainMap V) (old : Option ℕ) (n : ℕ) → (fin.get m n ≡ None) ⊎ (old ≡ Some n) → fin.get (without m old) n ≡ None
  fresh_without m None n (inl e) = e
  fresh_without m (Some k) n (inl e) = at (cases_eq n k)
    where
      at : (n ≡ k) ⊎ (n ≡ k → ⊥) → fin.get (fin.remove m k) n ≡ None
      at (inl p) = ap (fin.get (fin.remove m k)) p ∙ taken_same m k
      at (inr d) = taken_other m k n d ∙ e
  fresh_without m None n (inr e) = absurd (let f : None ≡ Some n = e in cc)
  fresh_without m (Some k) n (inr e) = ap (fin.get (fin.remove m k)) (let f : n ≡ k = cc in f) ∙ taken_same m k

  pub total-replaced : (m : ChainMap V) (old : Option ℕ) (n count : ℕ) (es : Entries V) → IsBelow old count → n < count → (fin.get m n ≡ None) ⊎ (old ≡ Some n)
      → total (replaced m old (Some n) es) count + length (entries_of m old) ≡ total m count + length es
  total-replaced m old n count es below lt fresh =
      let gone = total-without m old count below in
      let put = total-insert (without m old) n count es lt (ap (λ o. unwrap_or o []) (fresh_without m old n fresh)) in
      omega arith

  other_without : (m : ChainMap V) (old : Option ℕ) (q : ℕ) → Some q ≢ old → fin.get (without m old) q ≡ fin.get m q
  other_without m None q n = refl
  other_without m (Some k) q n = taken_other m k q (λ e. n (ap Some e))

  none_some : (o : Option (Entries V)) → o ≡ None → IsSome o → ⊥
  none_some o e s = false≢true (sym (ap is_some e) ∙ s)

pub Keeps-replaced : (m : ChainMap (List ℕ)) (old : Option ℕ) (n : ℕ) (es : Entries (List ℕ)) → (fin.get m n ≡ None) ⊎ (old ≡ Some n) → Keeps m (replaced m old (Some n) es) old (Some n)
Keeps-replaced m old n es fresh = record {
  others = λ q s d. put_other (without m old) n es q (apart q s d) ∙ other_without m old q d;
  apart = λ q s d e. apart q s d (let f : q ≡ n = cc in f);
  chain = ap is_some (put_same (without m old) n es);
}
  where
    apart : (q : ℕ) → IsSome (fin.get m q) → Some q ≢ old → q ≢ n
    apart q s d e = from_either (λ none. none_some (fin.get m q) (ap (fin.get m) e ∙ none) s) (λ own. d (ap Some e ∙ sym own)) fresh

pub Keeps-without : (m : ChainMap (List ℕ)) (old : Option ℕ) → Keeps m (without m old) old None
Keeps-without m old = record {
  others = λ q s d. other_without m old q d;
  apart = λ q s d e. let f : Some q ≡ None = e in cc;
  chain = tt;
}

pub Keeps-same : (m : ChainMap (List ℕ)) (head : Option ℕ) → IsChain m head → Keeps m m head head
Keeps-same m head own = record { others = λ q s d. refl; apart = λ q s d. d; chain = own }

-- one change of a chain after another
pub Keeps-then : (first mid last : ChainMap (List ℕ)) (head new later : Option ℕ) → Keeps first mid head new → Keeps mid last new later → Keeps first last head later
Keeps-then first mid last head new later a b = record {
  others = λ q s d. b.others q (subst IsSome (sym (a.others q s d)) s) (a.apart q s d) ∙ a.others q s d;
  apart = λ q s d. b.apart q (subst IsSome (sym (a.others q s d)) s) (a.apart q s d);
  chain = b.chain;
}
