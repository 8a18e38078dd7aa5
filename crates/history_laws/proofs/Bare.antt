-- Nodes without the moments that are kept of them, and what changes of a table make of the two.
use Rattle.std.proofs.Common.{◌≡◌, ◌≤◌, ◌+◌, ℕ, Bool, true, false, cond, List, [], ◌∷◌, Option, Some, None, refl, sym, ap, subst, ◌∙◌, ◌⊎◌, inl, inr, map, nat_cmp, arith}
use Rattle.std.specs.Cmp.{nat_cmp_total}
use Rattle.std.specs.FinMap as fin
use Rattle.std.specs.Option.{option_map, option_map_or}
use Rattle.std.specs.Ordering.{eq_by_cmp}
use Rattle.std.specs.Prelude.{IfSome, ◌==◌}
use Rattle.inode_spec.specs.Inodes.{Names, Nodes, granted, with_inode}
use Rattle.mount_rules.specs.Mount.{File, Node, NodeTable}
use Rattle.spare_maps.proofs.FinMaps.{get-insert_number, get-remove_number, number_put, number_taken}

-- ---- without moments
abbrev pub bare_file : File → File
bare_file file = record file { kept = record file.kept { known = 0 } }

abbrev pub bare_node : Node → Node
bare_node node = record node { file = option_map bare_file node.file }

pub bare_nodes : Nodes File → Nodes File
bare_nodes nodes = fin.from_entries (map (λ e. (e.0, bare_node e.1)) (fin.entries nodes))

abbrev pub bare_table : NodeTable → NodeTable
bare_table table = record table { nodes = bare_nodes table.nodes }

-- a node is found without its moment
find-bare : (es : List (ℕ × Node)) (q : ℕ) → fin.find nat_cmp q (map (λ e. (e.0, bare_node e.1)) es) ≡ option_map bare_node (fin.find nat_cmp q es)
find-bare [] q = refl
find-bare (e ∷ es) q = step (eq_by_cmp nat_cmp q e.0) (find-bare es q)
  where
    step : (t : Bool) → fin.find nat_cmp q (map (λ (e : ℕ × Node). (e.0, bare_node e.1)) es) ≡ option_map bare_node (fin.find nat_cmp q es)
        → cond t (Some (bare_node e.1)) (fin.find nat_cmp q (map (λ (e : ℕ × Node). (e.0, bare_node e.1)) es))
        ≡ option_map bare_node (cond t (Some e.1) (fin.find nat_cmp q es))
    step true more = refl
    step false more = more

pub get-bare : (nodes : Nodes File) (q : ℕ) → fin.get (bare_nodes nodes) q ≡ option_map bare_node (fin.get nodes q)
unfolding bare_nodes
get-bare nodes q = fin.get-from_entries nat_cmp_total (map (λ e. (e.0, bare_node e.1)) (fin.entries nodes)) q
    ∙ find-bare (fin.entries nodes) q ∙ ap (option_map bare_node) (sym (fin.get-entries nodes q))

pub bare-insert : (nodes : Nodes File) (k : ℕ) (node : Node) → bare_nodes (fin.insert nodes k node) ≡ fin.insert (bare_nodes nodes) k (bare_node node)
bare-insert nodes k node = fin.same_map nat_cmp_total fin.nat_cmp-IsAntisymmetric _ _ (λ q.
    get-bare (fin.insert nodes k node) q ∙ ap (option_map bare_node) (get-insert_number nodes k node q) ∙ by (fin.get nodes q) (fin.get (bare_nodes nodes) q) (q == k)
    (sym (get-bare nodes q)) ∙ sym (get-insert_number (bare_nodes nodes) k (bare_node node) q))
  where
    by : (found : Option Node) (bare : Option Node) (t : Bool) → option_map bare_node found ≡ bare → option_map bare_node (cond t (Some node) found) ≡ cond t (Some (bare_node node)) bare
    by found bare true e = refl
    by found bare false e = e

pub bare-remove : (nodes : Nodes File) (k : ℕ) → bare_nodes (fin.remove nodes k) ≡ fin.remove (bare_nodes nodes) k
bare-remove nodes k = fin.same_map nat_cmp_total fin.nat_cmp-IsAntisymmetric _ _ (λ q.
    get-bare (fin.remove nodes k) q ∙ ap (option_map bare_node) (get-remove_number nodes k q) ∙ by (fin.get nodes q) (fin.get (bare_nodes nodes) q) (q == k)
    (sym (get-bare nodes q)) ∙ sym (get-remove_number (bare_nodes nodes) k q))
  where
    by : (found : Option Node) (bare : Option Node) (t : Bool) → option_map bare_node found ≡ bare → option_map bare_node (cond t None found) ≡ cond t None bare
    by found bare true e = refl
    by found bare false e = e

-- ---- moments of which something is known
-- What is known, of a name, of a generation and the moment at which it was shown, holds of what is kept of the node.
abbrev pub IsKnown : (List ℕ → ℕ → ℕ → Type 0) → Node → Type 0
IsKnown Known node = IfSome node.file (λ (file : File). Known node.name file.source file.kept.known)

-- The one is the other without moments, of which this is known.
pub record IsBare (Known : List ℕ → ℕ → ℕ → Type 0) (table bare : NodeTable) : Type 0 where
  pub is : bare_table table ≡ bare
  pub known : (k : ℕ) (node : Node) → fin.get table.nodes k ≡ Some node → IsKnown Known node

-- what is known by the one is known by the other
abbrev pub IsWithin : (List ℕ → ℕ → ℕ → Type 0) → (List ℕ → ℕ → ℕ → Type 0) → Type 0
IsWithin Known Then = (name : List ℕ) (source known : ℕ) → Known name source known → Then name source known

-- no moment is past this one
abbrev pub UpTo : ℕ → List ℕ → ℕ → ℕ → Type 0
UpTo n name source known = known ≤ n

pub up_to_later : (n m : ℕ) → n ≤ m → IsWithin (UpTo n) (UpTo m)
up_to_later n m within name source known low = omega (arith, within, low)

module _ (Known Then : List ℕ → ℕ → ℕ → Type 0) (within : IsWithin Known Then) where
  known_later : (name : List ℕ) (file : Option File) → IfSome file (λ (f : File). Known name f.source f.kept.known) → IfSome file (λ (f : File). Then name f.source f.kept.known)
  known_later name None known = tt
  known_later name (Some file) known = within name file.source file.kept.known known

  pub bare_later : (table bare : NodeTable) → IsBare Known table bare → IsBare Then table bare
  bare_later table bare so = record { is = so.is; known = λ k node there. known_later node.name node.file (so.known k node there) }

module _ (Known : List ℕ → ℕ → ℕ → Type 0) (table bare : NodeTable) (so : IsBare Known table bare) (k : ℕ) where
  pub found_bare : fin.get bare.nodes k ≡ option_map bare_node (fin.get table.nodes k)
  found_bare = sym (ap (λ (t : NodeTable). fin.get t.nodes k) so.is) ∙ get-bare table.nodes k

  -- a node is put under a number, or taken away, beside any names
  pub bare_put : (node : Node) (current : Names) (next : ℕ) → IsKnown Known node
      → IsBare Known (record { nodes = fin.insert table.nodes k node; current = current; next = next }) (record { nodes = fin.insert bare.nodes k (bare_node node); current = current; next = next })
  bare_put node current next known = record {
    is = ap (λ (nodes : Nodes File). record { nodes = nodes; current = current; next = next })
        (bare-insert table.nodes k node ∙ ap (λ (t : NodeTable). fin.insert t.nodes k (bare_node node)) so.is);
    known = λ q x there. by x (number_put table.nodes k node x q there);
  }
    where
      by : {q : ℕ} (x : Node) → ((q ≡ k) × (node ≡ x)) ⊎ (fin.get table.nodes q ≡ Some x) → IsKnown Known x
      by x (inl put) = subst (IsKnown Known) put.1 known
      by {q} x (inr was) = so.known q x was

  pub bare_taken : (current : Names) → IsBare Known (record table { nodes = fin.remove table.nodes k; current = current }) (record bare { nodes = fin.remove bare.nodes k; current = current })
  bare_taken current = record {
    is = ap (λ (nodes : Nodes File). record { nodes = nodes; current = current; next = table.next }) (bare-remove table.nodes k)
        ∙ ap (λ (t : NodeTable). record t { nodes = fin.remove t.nodes k; current = current }) so.is;
    known = λ q x there. so.known q x (number_taken table.nodes k x q there).1;
  }

  -- by what is found of a node
  pub on_node : (f g : Node → NodeTable) → ((node : Node) → fin.get table.nodes k ≡ Some node → IsBare Known (f node) (g (bare_node node)))
      → IsBare Known (option_map_or f (fin.get table.nodes k) table) (option_map_or g (fin.get bare.nodes k) bare)
  on_node f g each = subst (λ found. IsBare Known (option_map_or f (fin.get table.nodes k) table) (option_map_or g found bare)) (sym found_bare) (by (fin.get table.nodes k) refl)
    where
      by : (found : Option Node) → fin.get table.nodes k ≡ found → IsBare Known (option_map_or f found table) (option_map_or g (option_map bare_node found) bare)
      by None there = so
      by (Some node) there = each node there

-- ---- one step after another
module _ (Known : List ℕ → ℕ → ℕ → Type 0) (table bare : NodeTable) (so : IsBare Known table bare) where
  -- the parts beside the nodes are the same
  pub current_same : table.current ≡ bare.current
  current_same = ap (λ (t : NodeTable). t.current) so.is

  pub next_same : table.next ≡ bare.next
  next_same = ap (λ (t : NodeTable). t.next) so.is

  pub bare_inode : (k : ℕ) (node : Node) → IsKnown Known node → IsBare Known (with_inode table k node) (with_inode bare k (bare_node node))
  bare_inode k node known =
      subst (λ (t : NodeTable). IsBare Known (with_inode table k node) (record t { nodes = fin.insert bare.nodes k (bare_node node) })) so.is
      (bare_put Known table bare so k node table.current table.next known)

  -- a new node
  pub bare_granted : (node : Node) → IsKnown Known node → IsBare Known (granted table node) (granted bare (bare_node node))
  bare_granted node known =
      subst (λ (t : NodeTable). IsBare Known (granted table node)
      (record { nodes = fin.insert bare.nodes t.next (bare_node node); current = fin.insert t.current node.name t.next; next = t.next + 1 })) so.is
      (bare_put Known table bare so table.next node (fin.insert table.current node.name table.next) (table.next + 1) known)

  -- other names
  pub bare_names : (current : Names → Names) → IsBare Known (record table { current = current table.current }) (record bare { current = current bare.current })
  bare_names current = record { is = ap (λ (t : NodeTable). record t { current = current t.current }) so.is; known = so.known }
