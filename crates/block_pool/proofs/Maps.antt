-- The chains that nodes make, found by their heads, and as one map after a change.
use Rattle.std.proofs.Common.{◌≡◌, ◌≢◌, ℕ, zero, suc, ◌<◌, ◌≤◌, Bool, true, false, cond, List, [], ◌∷◌, ◌⊎◌, inl, inr, Option, None, Some, refl, sym, ap, subst, ◌∙◌, length, nat_eq, nat_cmp}
use Rattle.std.proofs.Common.{nat_lt, arith}
use Rattle.std.proofs.lemmas.Bool.{cases_eq, cases_lt, eq-eqb, ne_eqb}
use Rattle.std.proofs.lemmas.Bool.Decides.{nat_tests}
use Rattle.std.proofs.lemmas.List.{get_or_past}
use Rattle.std.specs.Cmp.{nat_cmp_total}
use Rattle.std.specs.FinMap as fin
use Rattle.std.specs.Option.{unwrap_or}
use Rattle.std.specs.Ordering.{is_eq}
use Rattle.block_pool.specs.Chains.{Entries, ChainMap, entries_of, replaced, inserted}
use Rattle.block_pool.specs.Nodes.{no_node, walk, placed, chain_at, with_nonempty, chains_below, all_chains, IsLinked, IsLoose}
use Rattle.block_pool.specs.declared.node.Node.{Node}
use Rattle.block_pool.proofs.Lists.{from_either}
use Rattle.block_pool.proofs.Relinking.{Relinks, relinked_chain, loose_empty}

-- ---- in any map from numbers
module _ {X : Type 0} (m : fin.FinMap nat_cmp X) (k : ℕ) where
  ties : (q : ℕ) → is_eq (nat_cmp q k) ≡ nat_eq q k
  ties q = grind (arith, nat_tests)

  pub put_same : (v : X) → fin.get (fin.insert m k v) k ≡ Some v
  put_same v = fin.get-insert nat_cmp_total m k v k ∙ ap (λ b. cond b (Some v) (fin.get m k)) (ties k ∙ eq-eqb k k refl)

  pub put_other : (v : X) (q : ℕ) → q ≢ k → fin.get (fin.insert m k v) q ≡ fin.get m q
  put_other v q n = fin.get-insert nat_cmp_total m k v q ∙ ap (λ b. cond b (Some v) (fin.get m q)) (ties q ∙ ne_eqb q k n)

  pub taken_same : fin.get (fin.remove m k) k ≡ None
  taken_same = fin.get-remove nat_cmp_total m k k ∙ ap (λ b. cond b None (fin.get m k)) (ties k ∙ eq-eqb k k refl)

  pub taken_other : (q : ℕ) → q ≢ k → fin.get (fin.remove m k) q ≡ fin.get m q
  taken_other q n = fin.get-remove nat_cmp_total m k q ∙ ap (λ b. cond b None (fin.get m q)) (ties q ∙ ne_eqb q k n)

pub same_numbers : {X : Type 0} (m n : fin.FinMap nat_cmp X) → ((q : ℕ) → fin.get m q ≡ fin.get n q) → m ≡ n
same_numbers m n same = fin.same_map nat_cmp_total fin.nat_cmp-IsAntisymmetric m n same

-- ---- the chains of the nodes
-- entries as they are found: none where there are none
abbrev pub nonempty : {V : Type 0} → Entries V → Option (Entries V)
nonempty [] = None
nonempty (e ∷ es) = Some (e ∷ es)

get-with_nonempty-same : (m : ChainMap ℕ) (k : ℕ) (es : Entries ℕ) → fin.get m k ≡ None → fin.get (with_nonempty m k es) k ≡ nonempty es
get-with_nonempty-same m k [] none = none
get-with_nonempty-same m k (e ∷ es) none = put_same m k (e ∷ es)

get-with_nonempty-other : (m : ChainMap ℕ) (k : ℕ) (es : Entries ℕ) (q : ℕ) → q ≢ k → fin.get (with_nonempty m k es) q ≡ fin.get m q
get-with_nonempty-other m k [] q n = refl
get-with_nonempty-other m k (e ∷ es) q n = put_other m k (e ∷ es) q n

not_below : (nodes : List Node) (n q : ℕ) → n ≤ q → fin.get (chains_below nodes n) q ≡ None
not_below nodes zero q le = fin.get-empty nat_cmp q
not_below nodes (suc n) q le = get-with_nonempty-other (chains_below nodes n) n (chain_at nodes n) q (λ p. absurd (omega arith)) ∙ not_below nodes n q (omega arith)

found_below : (nodes : List Node) (n q : ℕ) → q < n → fin.get (chains_below nodes n) q ≡ nonempty (chain_at nodes q)
found_below nodes zero q lt = absurd (omega arith)
found_below nodes (suc n) q lt = at n lt (found_below nodes n q) (cases_eq q n)
  where
    at : (n : ℕ) → q < suc n → (q < n → fin.get (chains_below nodes n) q ≡ nonempty (chain_at nodes q)) → (q ≡ n) ⊎ (q ≡ n → ⊥)
        → fin.get (with_nonempty (chains_below nodes n) n (chain_at nodes n)) q ≡ nonempty (chain_at nodes q)
    at n lt more (inl e) = subst (λ p. fin.get (with_nonempty (chains_below nodes n) n (chain_at nodes n)) p ≡ nonempty (chain_at nodes p)) (sym e)
        (get-with_nonempty-same (chains_below nodes n) n (chain_at nodes n) (not_below nodes n n (omega arith)))
    at n lt more (inr d) = get-with_nonempty-other (chains_below nodes n) n (chain_at nodes n) q d ∙ more (omega arith)

-- what is found under a head is the chain that begins there
pub found : (nodes : List Node) (q : ℕ) → fin.get (all_chains nodes) q ≡ nonempty (chain_at nodes q)
found nodes q = from_either (found_below nodes (length nodes) q) past (cases_lt q (length nodes))
  where
    past : length nodes ≤ q → fin.get (all_chains nodes) q ≡ nonempty (chain_at nodes q)
    past le = not_below nodes (length nodes) q le ∙ sym (ap (λ n. nonempty (placed nodes (walk nodes n.count q))) (get_or_past nodes q no_node le))

pub entries_found : (nodes : List Node) (q : ℕ) → entries_of (all_chains nodes) (Some q) ≡ chain_at nodes q
entries_found nodes q = ap (λ o. unwrap_or o []) (found nodes q) ∙ given (chain_at nodes q)
  where
    given : (es : Entries ℕ) → unwrap_or (nonempty es) [] ≡ es
    given [] = refl
    given (e ∷ es) = refl

inserted_some : (es : Entries ℕ) (p b : ℕ) → nonempty (inserted es p b) ≡ Some (inserted es p b)
inserted_some [] p b = refl
inserted_some (e ∷ es) p b = at (nat_lt p e.0)
  where
    at : (t : Bool) → nonempty (cond t ((p, b) ∷ e ∷ es) (e ∷ inserted es p b)) ≡ Some (cond t ((p, b) ∷ e ∷ es) (e ∷ inserted es p b))
    at true = refl
    at false = refl

-- ---- after a change
-- the chain with one head has another one, and an entry more
pub all_chains-relinked : (nodes other : List Node) (first freed old new block position : ℕ) → IsLinked nodes first freed → IsLoose nodes first freed block
    → Relinks nodes other first freed old new block position
    → all_chains other ≡ replaced (all_chains nodes) (Some old) (Some new) (inserted (entries_of (all_chains nodes) (Some old)) position block)
all_chains-relinked nodes other first freed old new block position l loose r =
    let was = all_chains nodes in
    let es = inserted (entries_of was (Some old)) position block in
    let here : chain_at other new ≡ es = r.entries ∙ ap (λ es. inserted es position block) (sym (entries_found nodes old)) in
    same_numbers (all_chains other) (fin.insert (fin.remove was old) new es) (λ q. found other q ∙ from_either
    (λ e. ap (λ q. nonempty (chain_at other q)) e ∙ ap nonempty here ∙ inserted_some (entries_of was (Some old)) position block
    ∙ sym (ap (fin.get (fin.insert (fin.remove was old) new es)) e ∙ put_same (fin.remove was old) new es))
    (λ n. from_either
    (λ f. ap (λ q. nonempty (chain_at other q)) f ∙ ap (λ bs. nonempty (placed other bs)) (r.left (λ p. n (f ∙ p)))
    ∙ sym (put_other (fin.remove was old) new es q n ∙ ap (fin.get (fin.remove was old)) f ∙ taken_same was old))
    (λ m. ap nonempty (relinked_chain nodes other first freed old new block position l loose r q n m) ∙ sym (found nodes q) ∙ sym (put_other (fin.remove was old) new es q n ∙ taken_other was old q m))
    (cases_eq q old))
    (cases_eq q new))

-- a new chain
pub all_chains-begun : (nodes other : List Node) (first freed block position : ℕ) → IsLinked nodes first freed → IsLoose nodes first freed block
    → Relinks nodes other first freed block block block position
    → all_chains other ≡ replaced (all_chains nodes) None (Some block) ((position, block) ∷ [])
all_chains-begun nodes other first freed block position l loose r =
    let was = all_chains nodes in
    let es = (position, block) ∷ [] in
    let here : chain_at other block ≡ es = r.entries ∙ ap (λ bs. inserted (placed nodes bs) position block) (loose_empty nodes first freed block loose) in
    same_numbers (all_chains other) (fin.insert was block es) (λ q. found other q ∙ from_either
    (λ e. ap (λ q. nonempty (chain_at other q)) e ∙ ap nonempty here ∙ sym (ap (fin.get (fin.insert was block es)) e ∙ put_same was block es))
    (λ n. ap nonempty (relinked_chain nodes other first freed block block block position l loose r q n n) ∙ sym (found nodes q) ∙ sym (put_other was block es q n))
    (cases_eq q block))

-- a chain has fewer entries
pub all_chains-cut : (nodes other : List Node) (head : ℕ) (e : ℕ × ℕ) (es : Entries ℕ) → ((q : ℕ) → q ≢ head → chain_at other q ≡ chain_at nodes q) → chain_at other head ≡ e ∷ es
    → all_chains other ≡ replaced (all_chains nodes) (Some head) (Some head) (e ∷ es)
all_chains-cut nodes other head e es same here =
    let was = all_chains nodes in
    same_numbers (all_chains other) (fin.insert (fin.remove was head) head (e ∷ es)) (λ q. found other q ∙ from_either
    (λ p. ap (λ q. nonempty (chain_at other q)) p ∙ ap nonempty here ∙ sym (ap (fin.get (fin.insert (fin.remove was head) head (e ∷ es))) p ∙ put_same (fin.remove was head) head (e ∷ es)))
    (λ n. ap nonempty (same q n) ∙ sym (found nodes q) ∙ sym (put_other (fin.remove was head) head (e ∷ es) q n ∙ taken_other was head q n))
    (cases_eq q head))

-- a chain has none left
pub all_chains-gone : (nodes other : List Node) (head : ℕ) → ((q : ℕ) → q ≢ head → chain_at other q ≡ chain_at nodes q) → chain_at other head ≡ []
    → all_chains other ≡ replaced (all_chains nodes) (Some head) None []
all_chains-gone nodes other head same here =
    let was = all_chains nodes in
    same_numbers (all_chains other) (fin.remove was head) (λ q. found other q ∙ from_either
    (λ p. ap (λ q. nonempty (chain_at other q)) p ∙ ap nonempty here ∙ sym (ap (fin.get (fin.remove was head)) p ∙ taken_same was head))
    (λ n. ap nonempty (same q n) ∙ sym (found nodes q) ∙ sym (taken_other was head q n))
    (cases_eq q head))
