-- How changes of a table of nodes change counts of look-ups.
use Rattle.std.proofs.Common.{◌≡◌, ◌≢◌, ◌≤◌, ◌+◌, ◌-◌, ℕ, Bool, true, false, cond, Option, Some, None, refl, sym, ap, ◌∙◌, nat_eq, nat_cmp, nat_lt, arith}
use Rattle.std.proofs.lemmas.Bool.{false≢true}
use Rattle.std.proofs.lemmas.Bool.Decides.{Decides-eqb, nat_tests}
use Rattle.std.specs.Prelude.{if◌then◌else◌, ◌||◌}
use Rattle.std.specs.FinMap as fin
use Rattle.std.specs.Option.{option_map_or}
use Rattle.inode_spec.proofs.Cases.{on_found, on_test, where_kept}
use Rattle.inode_spec.specs.Inodes.{first_table, forgotten, let_go, lookups_of, root, with_inode}
use Rattle.mount_rules.specs.Mount.{File, Node, NodeTable}
use Rattle.mount_laws.proofs.Changes.{on_forgotten_at, on_let_go}
use Rattle.spare_maps.proofs.FinMaps.{get-insert_number, get-remove_number, number_put_other}

-- the look-ups of what is found, none where nothing is
abbrev pub count_of : Option Node → ℕ
count_of found = option_map_or (λ (node : Node). node.lookups) found 0

-- in a new table no node but the root is there
pub counts_first : (number : ℕ) → number ≢ 1 → lookups_of {F = File} first_table number ≡ 0
counts_first number other =
    let none : fin.get {X = Node} {R = nat_cmp} fin.empty number ≡ None = fin.get-empty nat_cmp number in
    ap count_of (number_put_other fin.empty 1 root number other) ∙ ap count_of none

module _ (table : NodeTable) (number : ℕ) where
  -- a node put under a number has its look-ups there, and no other node has others
  pub counts_put : (k : ℕ) (v : Node) → lookups_of (with_inode table k v) number ≡ cond (nat_eq number k) v.lookups (lookups_of table number)
  counts_put k v = ap count_of (get-insert_number table.nodes k v number) ∙ by (nat_eq number k)
    where
      by : (b : Bool) → count_of (cond b (Some v) (fin.get table.nodes number)) ≡ cond b v.lookups (lookups_of table number)
      by true = refl
      by false = refl

  pub counts_taken : (k : ℕ) → count_of (fin.get (fin.remove table.nodes k) number) ≡ cond (nat_eq number k) 0 (lookups_of table number)
  counts_taken k = ap count_of (get-remove_number table.nodes k number) ∙ by (nat_eq number k)
    where
      by : (b : Bool) → count_of (cond b None (fin.get table.nodes number)) ≡ cond b 0 (lookups_of table number)
      by true = refl
      by false = refl

  abbrev Same : NodeTable → Type 0
  Same after = lookups_of after number ≡ lookups_of table number

  is_same : (k : ℕ) → nat_eq number k ≡ true → number ≡ k
  is_same k is = (Decides-eqb number k).0 is

  -- a node put with one look-up more than it had
  pub counts_more : (k : ℕ) (v : Node) → v.lookups ≡ lookups_of table k + 1
      → lookups_of (with_inode table k v) number ≡ (lookups_of table number + (if nat_eq number k then 1 else 0)) - 0
  counts_more k v one = counts_put k v ∙ by (nat_eq number k) refl
    where
      by : (b : Bool) → nat_eq number k ≡ b → cond b v.lookups (lookups_of table number) ≡ (lookups_of table number + (if b then 1 else 0)) - 0
      by true is = let same : lookups_of table k ≡ lookups_of table number = ap (lookups_of table) (sym (is_same k is)) in omega (arith, one, same)
      by false is = omega arith

  -- look-ups given back
  abbrev LessBy : ℕ → ℕ → NodeTable → Type 0
  LessBy k count after = lookups_of after number ≡ (lookups_of table number + 0) - (if nat_eq number k then count else 0)

  pub counts_forgotten : (k count : ℕ) (held : Bool) → number ≢ 1 → LessBy k count (forgotten table k count held)
  counts_forgotten k count held other =
      on_test (LessBy k count) (nat_eq k 1) _ _ (λ root. none (nat_eq number k) (λ same. absurd (other (is_same k same ∙ (Decides-eqb k 1).0 root))))
      (λ one. on_found (LessBy k count) (fin.get table.nodes k) _ table (λ absent. none (nat_eq number k) (λ same. ap (lookups_of table) (is_same k same) ∙ ap count_of absent))
      (λ node there. on_test (LessBy k count) (nat_eq node.lookups 0) _ _
      (λ zero_. none (nat_eq number k) (λ same. has node there same ∙ (Decides-eqb node.lookups 0).0 zero_))
      (λ some. on_forgotten_at (LessBy k count) table k count held node
      (λ every. counts_put k (record node { lookups = 0 }) ∙ all node (nat_eq number k) there (grind (arith, nat_tests, every)) refl)
      (λ every. counts_taken k ∙ all node (nat_eq number k) there (grind (arith, nat_tests, every)) refl)
      (λ fewer. counts_put k (record node { lookups = node.lookups - count }) ∙ less node (nat_eq number k) there refl))))
    where
      none : (b : Bool) → (b ≡ true → lookups_of table number ≡ 0) → lookups_of table number ≡ (lookups_of table number + 0) - (if b then count else 0)
      none true nothing = let zero_ : lookups_of table number ≡ 0 = nothing refl in omega (arith, zero_)
      none false nothing = omega arith

      has : (node : Node) → fin.get table.nodes k ≡ Some node → nat_eq number k ≡ true → lookups_of table number ≡ node.lookups
      has node there same = ap (lookups_of table) (is_same k same) ∙ ap count_of there

      all : (node : Node) (b : Bool) → fin.get table.nodes k ≡ Some node → node.lookups ≤ count → nat_eq number k ≡ b
          → cond b 0 (lookups_of table number) ≡ (lookups_of table number + 0) - (if b then count else 0)
      all node true there few same = let h : lookups_of table number ≡ node.lookups = has node there same in omega (arith, h, few)
      all node false there few same = omega arith

      less : (node : Node) (b : Bool) → fin.get table.nodes k ≡ Some node → nat_eq number k ≡ b
          → cond b (node.lookups - count) (lookups_of table number) ≡ (lookups_of table number + 0) - (if b then count else 0)
      less node true there same = let h : lookups_of table number ≡ node.lookups = has node there same in omega (arith, h)
      less node false there same = omega arith

  -- a node that goes with its last handle has none
  pub counts_let_go : (k : ℕ) → lookups_of (let_go table k) number ≡ lookups_of table number
  counts_let_go k = on_let_go Same table k refl
      (λ node there idle. counts_taken k
      ∙ where_kept number k 0 (lookups_of table number) (λ same. sym (ap (lookups_of table) same ∙ ap count_of there ∙ no_lookups (nat_eq k 1) node.lookups idle)))
    where
      no_lookups : (is_root : Bool) (n : ℕ) → (is_root || nat_lt 0 n) ≡ false → n ≡ 0
      no_lookups true n e = absurd (false≢true (sym e))
      no_lookups false n e = grind (arith, nat_tests, e)
