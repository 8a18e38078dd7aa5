-- Which files stay after a change of the nodes, each with content of the same size.
use Rattle.std.proofs.Common.{◌≡◌, ◌≢◌, ℕ, Bool, true, false, Option, Some, None, refl, sym, ap, ◌∙◌, ◌⊎◌, inl, inr, ◌-◌, nat_eq}
use Rattle.std.proofs.lemmas.Bool.{false≢true}
use Rattle.std.proofs.lemmas.Bool.Decides.{Decides-eqb}
use Rattle.std.specs.Prelude.{option_and_then}
use Rattle.std.specs.FinMap as fin
use Rattle.inode_spec.specs.Inodes.{Nodes, forgotten, let_go}
use Rattle.mount_rules.specs.Mount.{File, Node, NodeTable}
use Rattle.mount_laws.proofs.Changes.{on_forgotten, on_forgotten_at, on_let_go}
use Rattle.mount_laws.proofs.Keeping.{no_Some, same_Some}
use Rattle.mount_laws.proofs.Sources.{shown_in, shown_of}
use Rattle.spare_maps.proofs.FinMaps.{number_put_other, number_put_same, number_taken_other, number_taken_same}

-- the parts of a file that is found
abbrev pub file_in : Option Node → Option File
file_in found = option_and_then (λ (node : Node). node.file) found

-- a file with content of this size is there
pub record HasFile (nodes : Nodes File) (number size : ℕ) : Type 0 where
  pub file : File
  pub there : file_in (fin.get nodes number) ≡ Some file
  pub sized : file.size ≡ size

-- each file stays
abbrev pub FilesStay : Nodes File → Nodes File → Type 0
FilesStay nodes after = (number : ℕ) (file : File) → file_in (fin.get nodes number) ≡ Some file → HasFile after number file.size

-- each stays that has another number
abbrev pub OthersStay : ℕ → Nodes File → Nodes File → Type 0
OthersStay k nodes after = (number : ℕ) (file : File) → number ≢ k → file_in (fin.get nodes number) ≡ Some file → HasFile after number file.size

-- and this one too, where its node does
pub record FilesLeft (k : ℕ) (nodes after : Nodes File) : Type 0 where
  pub others : OthersStay k nodes after
  pub own : (node : Node) (file : File) → fin.get after k ≡ Some node → file_in (fin.get nodes k) ≡ Some file → HasFile after k file.size

-- nodes that show the same have files of the same size
shows_same : (old v : Node) (file : File) → shown_of v ≡ shown_of old → old.file ≡ Some file → (f : File) × (v.file ≡ Some f) × (f.size ≡ file.size)
shows_same old v file same has = by v.file refl (same ∙ ap shown_in has)
  where
    by : (found : Option File) → v.file ≡ found → shown_in found ≡ Some (file.source, file.size) → (f : File) × (v.file ≡ Some f) × (f.size ≡ file.size)
    by None is e = absurd (no_Some e)
    by (Some f) is e = (f, is, ap (λ (s : ℕ × ℕ). s.1) (same_Some e))

-- two numbers are one or not
pub one_or_two : (m n : ℕ) → (m ≡ n) ⊎ (m ≢ n)
one_or_two m n = by (nat_eq m n) refl
  where
    by : (b : Bool) → nat_eq m n ≡ b → (m ≡ n) ⊎ (m ≢ n)
    by true is = inl ((Decides-eqb m n).0 is)
    by false is = inr (λ same. false≢true (sym is ∙ (Decides-eqb m n).1 same))

module _ (nodes : Nodes File) where
  pub FilesStay-same : FilesStay nodes nodes
  FilesStay-same number file is = record { file = file; there = is; sized = refl }

  pub others-put : (k : ℕ) (v : Node) → OthersStay k nodes (fin.insert nodes k v)
  others-put k v number file other is = record { file = file; there = ap file_in (number_put_other nodes k v number other) ∙ is; sized = refl }

  others-taken : (k : ℕ) → OthersStay k nodes (fin.remove nodes k)
  others-taken k number file other is = record { file = file; there = ap file_in (number_taken_other nodes k number other) ∙ is; sized = refl }

  own-put : (k : ℕ) (old v : Node) (file : File) → fin.get nodes k ≡ Some old → shown_of v ≡ shown_of old → file_in (fin.get nodes k) ≡ Some file
      → HasFile (fin.insert nodes k v) k file.size
  own-put k old v file there same is =
      let shows = shows_same old v file same (sym (ap file_in there) ∙ is) in
      record { file = shows.0; there = ap file_in (number_put_same nodes k v) ∙ shows.1; sized = shows.2 }

  -- a node that is there is written anew, and shows the same
  pub FilesStay-put : (k : ℕ) (old v : Node) → fin.get nodes k ≡ Some old → shown_of v ≡ shown_of old → FilesStay nodes (fin.insert nodes k v)
  FilesStay-put k old v there same number file is = by (one_or_two number k)
    where
      by : (number ≡ k) ⊎ (number ≢ k) → HasFile (fin.insert nodes k v) number file.size
      by (inl one) =
          let has = own-put k old v file there same (ap (λ m. file_in (fin.get nodes m)) (sym one) ∙ is) in
          record { file = has.file; there = ap (λ m. file_in (fin.get (fin.insert nodes k v) m)) one ∙ has.there; sized = has.sized }
      by (inr other) = others-put k v number file other is

  -- a node comes under a number that has none
  pub FilesStay-new : (k : ℕ) (v : Node) → fin.get nodes k ≡ None → FilesStay nodes (fin.insert nodes k v)
  FilesStay-new k v none number file is = others-put k v number file
      (λ same. no_Some (sym (ap file_in none) ∙ ap (λ m. file_in (fin.get nodes m)) (sym same) ∙ is)) is

  pub FilesLeft-stay : (k : ℕ) (after : Nodes File) → FilesStay nodes after → FilesLeft k nodes after
  FilesLeft-stay k after stay = record { others = λ number file other is. stay number file is; own = λ node file there is. stay k file is }

  -- a node goes
  pub FilesLeft-taken : (k : ℕ) → FilesLeft k nodes (fin.remove nodes k)
  FilesLeft-taken k = record { others = others-taken k; own = λ node file there is. absurd (no_Some (sym (number_taken_same nodes k) ∙ there)) }

module _ (table : NodeTable) (k : ℕ) where
  -- look-ups are given back
  pub FilesLeft-forgotten : (count : ℕ) (held : Bool) → FilesLeft k table.nodes (forgotten table k count held).nodes
  FilesLeft-forgotten count held = on_forgotten (λ (after : NodeTable). FilesLeft k table.nodes after.nodes) table k count held same
      (λ node other there some. on_forgotten_at (λ (after : NodeTable). FilesLeft k table.nodes after.nodes) table k count held node
      (λ every. put node (record node { lookups = 0 }) there refl)
      (λ every. FilesLeft-taken table.nodes k)
      (λ fewer. put node (record node { lookups = node.lookups - count }) there refl))
    where
      same : FilesLeft k table.nodes table.nodes
      same = FilesLeft-stay table.nodes k table.nodes (FilesStay-same table.nodes)

      put : (node v : Node) → fin.get table.nodes k ≡ Some node → shown_of v ≡ shown_of node → FilesLeft k table.nodes (fin.insert table.nodes k v)
      put node v there shows = FilesLeft-stay table.nodes k (fin.insert table.nodes k v) (FilesStay-put table.nodes k node v there shows)

  -- a node that isn't live goes with its last handle
  pub FilesLeft-let_go : FilesLeft k table.nodes (let_go table k).nodes
  FilesLeft-let_go = on_let_go (λ (after : NodeTable). FilesLeft k table.nodes after.nodes) table k
      (FilesLeft-stay table.nodes k table.nodes (FilesStay-same table.nodes)) (λ node there idle. FilesLeft-taken table.nodes k)
