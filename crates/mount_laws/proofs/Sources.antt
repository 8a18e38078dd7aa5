-- Where nodes come from: each was there before and is the same, or shows what the bucket told.
use Rattle.std.proofs.Common.{◌≡◌, ◌-◌, ℕ, Bool, List, Option, Some, None, refl, ap, subst, ◌∙◌, ◌⊎◌, inl, inr, option_map}
use Rattle.std.specs.FinMap as fin
use Rattle.inode_spec.specs.Inodes.{forgotten, let_go, with_inode}
use Rattle.mount_rules.specs.Mount.{File, Node, NodeTable}
use Rattle.mount_laws.proofs.Changes.{on_forgotten, on_forgotten_at, on_let_go}
use Rattle.spare_maps.proofs.FinMaps.{number_put, number_taken}

-- the generation that a node shows, and the size of its content
abbrev pub shown_in : Option File → Option (ℕ × ℕ)
shown_in file = option_map (λ (f : File). (f.source, f.size)) file

abbrev pub shown_of : Node → Option (ℕ × ℕ)
shown_of node = shown_in node.file

-- a node is what it was, but for its look-ups and for what is kept of it
pub record IsSameNode (old node : Node) : Type 0 where
  pub kind : node.kind ≡ old.kind
  pub name : node.name ≡ old.name
  pub shown : shown_of node ≡ shown_of old

pub IsSameNode-same : (node : Node) → IsSameNode node node
IsSameNode-same node = record { kind = refl; name = refl; shown = refl }

pub IsSameNode-looked : (node : Node) (lookups : ℕ) → IsSameNode node (record node { lookups = lookups })
IsSameNode-looked node lookups = record { kind = refl; name = refl; shown = refl }

pub IsSameNode-then : (first second third : Node) → IsSameNode first second → IsSameNode second third → IsSameNode first third
IsSameNode-then first second third one two = record { kind = two.kind ∙ one.kind; name = two.name ∙ one.name; shown = two.shown ∙ one.shown }

-- the node was there, and is the same
pub record WasThere (table : NodeTable) (number : ℕ) (node : Node) : Type 0 where
  pub old : Node
  pub there : fin.get table.nodes number ≡ Some old
  pub same : IsSameNode old node

-- each node was there
abbrev pub NodesStay : NodeTable → NodeTable → Type 0
NodesStay table after = (number : ℕ) (node : Node) → fin.get after.nodes number ≡ Some node → WasThere table number node

-- what a node shows, if anything, is a generation of its name, of which `Shown` holds
abbrev pub ShowsBy : (List ℕ → ℕ → ℕ → Type 0) → List ℕ → Option (ℕ × ℕ) → Type 0
ShowsBy Shown name None = Unit {0}
ShowsBy Shown name (Some shown) = Shown name shown.0 shown.1

abbrev pub IsTold : (List ℕ → ℕ → ℕ → Type 0) → Node → Type 0
IsTold Shown node = ShowsBy Shown node.name (shown_of node)

-- each node was there, or shows what was told
abbrev pub NodesFrom : (List ℕ → ℕ → ℕ → Type 0) → NodeTable → NodeTable → Type 0
NodesFrom Shown table after = (number : ℕ) (node : Node) → fin.get after.nodes number ≡ Some node → WasThere table number node ⊎ IsTold Shown node

-- ---- nodes that stay
pub NodesStay-same : (table : NodeTable) → NodesStay table table
NodesStay-same table number node there = record { old = node; there = there; same = IsSameNode-same node }

-- one change after another
pub NodesStay-then : (first second third : NodeTable) → NodesStay first second → NodesStay second third → NodesStay first third
NodesStay-then first second third one two number node there =
    let was = two number node there in
    let earlier = one number was.old was.there in
    record { old = earlier.old; there = earlier.there; same = IsSameNode-then earlier.old was.old node earlier.same was.same }

module _ (table : NodeTable) where
  -- a node that is there is written anew
  pub NodesStay-put : (k : ℕ) (old v : Node) → fin.get table.nodes k ≡ Some old → IsSameNode old v → NodesStay table (with_inode table k v)
  NodesStay-put k old v there same number node found = by (number_put table.nodes k v node number found)
    where
      by : ((number ≡ k) × (v ≡ node)) ⊎ (fin.get table.nodes number ≡ Some node) → WasThere table number node
      by (inl (at, one)) = record { old = old; there = ap (fin.get table.nodes) at ∙ there; same = subst (IsSameNode old) one same }
      by (inr was) = NodesStay-same table number node was

  -- a node goes
  taken : (k number : ℕ) (node : Node) → fin.get (fin.remove table.nodes k) number ≡ Some node → WasThere table number node
  taken k number node found = NodesStay-same table number node (number_taken table.nodes k node number found).1

  -- look-ups are given back
  pub NodesStay-forgotten : (k count : ℕ) (held : Bool) → NodesStay table (forgotten table k count held)
  NodesStay-forgotten k count held = on_forgotten (NodesStay table) table k count held (NodesStay-same table)
      (λ node other there some. on_forgotten_at (NodesStay table) table k count held node
      (λ every. NodesStay-put k node (record node { lookups = 0 }) there (IsSameNode-looked node 0))
      (λ every. taken k)
      (λ fewer. NodesStay-put k node (record node { lookups = node.lookups - count }) there (IsSameNode-looked node (node.lookups - count))))

  -- a node that isn't live goes with its last handle
  pub NodesStay-let_go : (k : ℕ) → NodesStay table (let_go table k)
  NodesStay-let_go k = on_let_go (NodesStay table) table k (NodesStay-same table) (λ node there idle. taken k)

-- ---- nodes that show what was told
module _ (Shown : List ℕ → ℕ → ℕ → Type 0) (table : NodeTable) where
  pub NodesFrom-stay : (after : NodeTable) → NodesStay table after → NodesFrom Shown table after
  NodesFrom-stay after stay number node there = inl (stay number node there)

  pub NodesFrom-same : NodesFrom Shown table table
  NodesFrom-same = NodesFrom-stay table (NodesStay-same table)

  -- a node comes, or shows another generation
  pub NodesFrom-told : (k : ℕ) (v : Node) → IsTold Shown v → NodesFrom Shown table (with_inode table k v)
  NodesFrom-told k v is number node found = by (number_put table.nodes k v node number found)
    where
      by : ((number ≡ k) × (v ≡ node)) ⊎ (fin.get table.nodes number ≡ Some node) → WasThere table number node ⊎ IsTold Shown node
      by (inl (at, one)) = inr (subst (IsTold Shown) one is)
      by (inr was) = NodesFrom-same number node was
