-- Walks along the links: in parts, and after one node is written.
use Rattle.std.proofs.Common.{◌≡◌, ◌≢◌, ℕ, zero, suc, ◌+◌, ◌<◌, ◌≤◌, List, [], ◌∷◌, ◌++◌, ◌⊎◌, inl, inr, refl, sym, ap, subst, ◌∙◌, length, set, arith}
use Rattle.std.proofs.lemmas.Bool.{cases_eq, cases_lt}
use Rattle.std.proofs.lemmas.List.{get_or-set_same, get_or-set_other, set_past, map-append}
use Rattle.block_pool.specs.Chains.{AllAbove, Rises}
use Rattle.block_pool.specs.Nodes.{no_node, node_at, walk, step, blocks_at, placed, Has, Once}
use Rattle.block_pool.specs.declared.node.Node.{Node}

-- ---- in parts
pub walk_parts : (nodes : List Node) (k m n b : ℕ) → n ≡ k + m → walk nodes n b ≡ walk nodes k b ++ walk nodes m (step nodes k b)
walk_parts nodes zero m n b e = ap (λ n. walk nodes n b) (let f : n ≡ m = omega arith in f)
walk_parts nodes (suc k) m zero b e = absurd (omega arith)
walk_parts nodes (suc k) m (suc n) b e = ap (λ bs. b ∷ bs) (walk_parts nodes k m n (node_at nodes b).next (omega arith))

-- a walk ends at its last step
pub walk_end : (nodes : List Node) (k b : ℕ) → walk nodes (suc k) b ≡ walk nodes k b ++ step nodes k b ∷ []
walk_end nodes k b = walk_parts nodes k 1 (suc k) b (omega arith)

-- one step more
pub step_next : (nodes : List Node) (k b : ℕ) → step nodes (suc k) b ≡ (node_at nodes (step nodes k b)).next
step_next nodes zero b = refl
step_next nodes (suc k) b = step_next nodes k (node_at nodes b).next

pub length-walk : (nodes : List Node) (k b : ℕ) → length (walk nodes k b) ≡ k
length-walk nodes zero b = refl
length-walk nodes (suc k) b = ap suc (length-walk nodes k (node_at nodes b).next)

-- a block on the way
pub Has-step : (nodes : List Node) (k n b : ℕ) → k < n → Has (step nodes k b) (walk nodes n b)
Has-step nodes k zero b lt = absurd (omega arith)
Has-step nodes zero (suc n) b lt = inl refl
Has-step nodes (suc k) (suc n) b lt = inr (Has-step nodes k n (node_at nodes b).next (omega arith))

-- the first block of a chain is in it, so a block in no chain begins none
pub Has-head : (nodes : List Node) (q k : ℕ) → (node_at nodes q).count ≡ suc k → Has q (blocks_at nodes q)
Has-head nodes q k e = subst (λ n. Has q (walk nodes n q)) (sym e) (inl refl)

-- ---- the same links
pub walk_same : (nodes other : List Node) → ((b : ℕ) → (node_at other b).next ≡ (node_at nodes b).next) → (k b : ℕ) → walk other k b ≡ walk nodes k b
walk_same nodes other same zero b = refl
walk_same nodes other same (suc k) b = ap (λ bs. b ∷ bs) (ap (walk other k) (same b) ∙ walk_same nodes other same k (node_at nodes b).next)

pub step_same : (nodes other : List Node) → ((b : ℕ) → (node_at other b).next ≡ (node_at nodes b).next) → (k b : ℕ) → step other k b ≡ step nodes k b
step_same nodes other same zero b = refl
step_same nodes other same (suc k) b = ap (step other k) (same b) ∙ step_same nodes other same k (node_at nodes b).next

-- a node more, which links to nothing
pub node_at-fresh : (nodes : List Node) (b : ℕ) → node_at (nodes ++ no_node ∷ []) b ≡ node_at nodes b
node_at-fresh [] zero = refl
node_at-fresh [] (suc b) = refl
node_at-fresh (x ∷ nodes) zero = refl
node_at-fresh (x ∷ nodes) (suc b) = node_at-fresh nodes b

-- ---- one node written
pub node_at-same : (nodes : List Node) (i : ℕ) (v : Node) → i < length nodes → node_at (set nodes i v) i ≡ v
node_at-same nodes i v lt = get_or-set_same nodes i v no_node lt

pub node_at-other : (nodes : List Node) (i : ℕ) (v : Node) (b : ℕ) → b ≢ i → node_at (set nodes i v) b ≡ node_at nodes b
node_at-other nodes i v b n = get_or-set_other nodes i b v no_node n

-- a part of each node that the new one keeps
pub part_kept : {X : Type 0} (part : Node → X) (nodes : List Node) (i : ℕ) (v : Node) → part v ≡ part (node_at nodes i) → (b : ℕ) → part (node_at (set nodes i v) b) ≡ part (node_at nodes b)
part_kept part nodes i v e b = by_cases (cases_eq b i) (cases_lt i (length nodes))
  where
    by_cases : (b ≡ i) ⊎ (b ≡ i → ⊥) → (i < length nodes) ⊎ (length nodes ≤ i) → part (node_at (set nodes i v) b) ≡ part (node_at nodes b)
    by_cases (inl p) (inl lt) = ap (λ n. part (node_at (set nodes i v) n)) p ∙ ap part (node_at-same nodes i v lt) ∙ e ∙ ap (λ n. part (node_at nodes n)) (sym p)
    by_cases (inl p) (inr past) = ap (λ m. part (node_at m b)) (set_past nodes i v past)
    by_cases (inr n) lt = ap part (node_at-other nodes i v b n)

-- the links stay where the new node has the same next block
pub walk_kept : (nodes : List Node) (i : ℕ) (v : Node) → v.next ≡ (node_at nodes i).next → (k b : ℕ) → walk (set nodes i v) k b ≡ walk nodes k b
walk_kept nodes i v e = walk_same nodes (set nodes i v) (part_kept (λ n. n.next) nodes i v e)

pub step_kept : (nodes : List Node) (i : ℕ) (v : Node) → v.next ≡ (node_at nodes i).next → (k b : ℕ) → step (set nodes i v) k b ≡ step nodes k b
step_kept nodes i v e = step_same nodes (set nodes i v) (part_kept (λ n. n.next) nodes i v e)

-- a walk that does not meet the node is as it was
pub walk_missed : (nodes : List Node) (i : ℕ) (v : Node) (k b : ℕ) → ¬ (Has i (walk nodes k b)) → walk (set nodes i v) k b ≡ walk nodes k b
walk_missed nodes i v zero b h = refl
walk_missed nodes i v (suc k) b h =
    let e = ap (λ n. n.next) (node_at-other nodes i v b (λ p. h (inl (sym p)))) in
    ap (λ bs. b ∷ bs) (ap (walk (set nodes i v) k) e ∙ walk_missed nodes i v k (node_at nodes b).next (λ n. h (inr n)))

-- so is one that meets it at its end alone, and the block there
pub walk_ended : (nodes : List Node) (i : ℕ) (v : Node) (k b : ℕ) → ¬ (Has i (walk nodes k b))
    → (walk (set nodes i v) (suc k) b ≡ walk nodes (suc k) b) × (step (set nodes i v) k b ≡ step nodes k b)
walk_ended nodes i v zero b h = (refl, refl)
walk_ended nodes i v (suc k) b h =
    let e = ap (λ n. n.next) (node_at-other nodes i v b (λ p. h (inl (sym p)))) in
    let rest = walk_ended nodes i v k (node_at nodes b).next (λ n. h (inr n)) in
    (ap (λ bs. b ∷ bs) (ap (walk (set nodes i v) (suc k)) e ∙ rest.0), ap (step (set nodes i v) k) e ∙ rest.1)

-- ---- blocks by their positions
pub placed_same : (nodes other : List Node) (bs : List ℕ) → ((b : ℕ) → Has b bs → (node_at other b).position ≡ (node_at nodes b).position) → placed other bs ≡ placed nodes bs
placed_same nodes other [] same = refl
placed_same nodes other (b ∷ bs) same =
    ap (λ p. (p, b) ∷ placed other bs) (same b (inl refl)) ∙ ap (λ es. ((node_at nodes b).position, b) ∷ es) (placed_same nodes other bs (λ c h. same c (inr h)))

pub placed-append : (nodes : List Node) (xs ys : List ℕ) → placed nodes (xs ++ ys) ≡ placed nodes xs ++ placed nodes ys
placed-append nodes xs ys = map-append (λ b. ((node_at nodes b).position, b)) xs ys

-- blocks at rising positions stand once
above_all : (nodes : List Node) (p : ℕ) (bs : List ℕ) (b : ℕ) → AllAbove p (placed nodes bs) → Has b bs → p < (node_at nodes b).position
above_all nodes p [] b a h = absurd h
above_all nodes p (x ∷ bs) b a (inl e) = subst (λ n. p < (node_at nodes n).position) (sym e) a.0
above_all nodes p (x ∷ bs) b a (inr h) = above_all nodes p bs b a.1 h

pub Once-rising : (nodes : List Node) (bs : List ℕ) → Rises (placed nodes bs) → Once bs
Once-rising nodes [] r = tt
Once-rising nodes (b ∷ bs) r = ((λ h. let lt = above_all nodes (node_at nodes b).position bs b r.0 h in omega arith), Once-rising nodes bs r.1)
