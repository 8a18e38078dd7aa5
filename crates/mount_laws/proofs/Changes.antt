-- What holds after look-ups of a node are given back, or after its last handle is gone, by what became of the node.
use Rattle.std.proofs.Common.{◌≡◌, ◌≢◌, ◌-◌, ℕ, Bool, true, false, Some, sym, ◌∙◌, nat_eq, nat_le}
use Rattle.std.proofs.lemmas.Bool.{false≢true}
use Rattle.std.proofs.lemmas.Bool.Decides.{Decides-eqb}
use Rattle.std.specs.FinMap as fin
use Rattle.std.specs.Prelude.{◌&&◌, is_some}
use Rattle.inode_spec.proofs.Cases.{on_found, on_test}
use Rattle.inode_spec.specs.Inodes.{Nodes, forgotten, forgotten_at, is_live, let_go, with_inode, without_current}
use Rattle.mount_rules.specs.Mount.{File, Node, NodeTable}

-- these nodes, and the node no longer the current one of its name
abbrev pub unnamed : NodeTable → ℕ → Node → Nodes File → NodeTable
unnamed table k node nodes = record table { nodes = nodes; current = without_current table.current node.name k }

-- the nodes without one
abbrev pub without_node : NodeTable → ℕ → NodeTable
without_node table k = record table { nodes = fin.remove table.nodes k }

module _ (P : NodeTable → Type 0) (table : NodeTable) (k : ℕ) where
  module _ (count : ℕ) (held : Bool) where
    -- a node that has none left stays without one, or goes; another has fewer
    pub on_forgotten_at : (node : Node)
        → (nat_le node.lookups count ≡ true → P (unnamed table k node (fin.insert table.nodes k (record node { lookups = 0 }))))
        → (nat_le node.lookups count ≡ true → P (unnamed table k node (fin.remove table.nodes k)))
        → (nat_le node.lookups count ≡ false → P (with_inode table k (record node { lookups = node.lookups - count })))
        → P (forgotten_at table k count held node)
    on_forgotten_at node stays goes less =
        on_test P (nat_le node.lookups count) _ _
        (λ every. on_test (λ nodes. P (unnamed table k node nodes)) (held && is_some node.file) _ _ (λ yes_. stays every) (λ no_. goes every)) less

    -- the root, a node that isn't there and one without look-ups have none to give back
    pub on_forgotten : P table
        → ((node : Node) → k ≢ 1 → fin.get table.nodes k ≡ Some node → nat_eq node.lookups 0 ≡ false → P (forgotten_at table k count held node))
        → P (forgotten table k count held)
    on_forgotten same given =
        on_test P (nat_eq k 1) _ _ (λ root. same)
        (λ other. on_found P (fin.get table.nodes k) _ table (λ absent. same)
        (λ node there. on_test P (nat_eq node.lookups 0) _ _ (λ none. same) (given node (λ one. false≢true (sym other ∙ (Decides-eqb k 1).1 one)) there)))

  -- a node that isn't live goes
  pub on_let_go : P table → ((node : Node) → fin.get table.nodes k ≡ Some node → is_live k node ≡ false → P (without_node table k)) → P (let_go table k)
  on_let_go same gone =
      on_found P (fin.get table.nodes k) _ table (λ absent. same) (λ node there. on_test P (is_live k node) table _ (λ live. same) (gone node there))
