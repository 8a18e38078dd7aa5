-- How a file and the current node of a name are shown again without moments: as with them, where what is shown is news.
use Rattle.std.proofs.Common.{◌≡◌, ◌≤◌, ℕ, Bool, true, false, List, Option, Some, None, refl, sym, ap, subst, ◌∙◌, nat_lt, arith}
use Rattle.std.proofs.lemmas.Bool.Decides.{Decides-eqb, nat_tests}
use Rattle.std.specs.FinMap as fin
use Rattle.std.specs.Option.{option_map, option_map_or, option_and_then}
use Rattle.std.specs.Prelude.{IfSome, ◌||◌, ◌==◌, max, if◌then◌else◌}
use Rattle.bucket_api.specs.Metadata.{Metadata}
use Rattle.history_laws.proofs.Bare.{IsBare, IsKnown, IsWithin, bare_file, bare_granted, bare_inode, bare_node, current_same, found_bare, next_same}
use Rattle.inode_spec.specs.Inodes.{Names, looked_up}
use Rattle.mount_rules.specs.Mount.{File, Node, NodeTable}
use Rattle.mount_rules.specs.Showing.{Numbered, current_shown, object_again, refreshed, shown_again, shown_or_new, with_shown_or_new}

-- ---- a test of moments
-- what was known is not later than the step
not_later : (known moment : ℕ) → known ≤ moment → nat_lt moment known ≡ false
not_later known moment within = grind (arith, nat_tests)

-- What the bucket showed of a name at a moment is news: nothing is known later of the name, and this is known then.
pub record IsNews (Known Then : List ℕ → ℕ → ℕ → Type 0) (name : List ℕ) (generation moment : ℕ) : Type 0 where
  pub later : (source known : ℕ) → Known name source known → known ≤ moment
  pub new : Then name generation moment

-- ---- a file that is shown again
module _ (meta : Metadata) (moment : ℕ) (file : File) where
  pub refreshed_bare : bare_file (refreshed meta moment file) ≡ refreshed meta 0 (bare_file file)
  refreshed_bare = by (file.source == meta.generation)
    where
      by : (same : Bool) → bare_file (if same then record file { kept = shown_again file.kept meta moment } else file)
          ≡ (if same then record (bare_file file) { kept = shown_again (bare_file file).kept meta 0 } else bare_file file)
      by true = refl
      by false = refl

  module _ (Known Then : List ℕ → ℕ → ℕ → Type 0) (name : List ℕ) (news : IsNews Known Then name meta.generation moment) (known : Known name file.source file.kept.known) where
    pub again_known : (file.source == meta.generation) ≡ true → Then name file.source (max file.kept.known moment)
    again_known same =
        let low : file.kept.known ≤ moment = news.later file.source file.kept.known known in
        let its : file.source ≡ meta.generation = (Decides-eqb file.source meta.generation).0 same in
        let at : max file.kept.known moment ≡ moment = omega (arith, low) in
        subst (λ source. Then name source (max file.kept.known moment)) (sym its) (subst (Then name meta.generation) (sym at) news.new)

    pub refreshed_known : IsWithin Known Then → Then name (refreshed meta moment file).source (refreshed meta moment file).kept.known
    refreshed_known within = by (file.source == meta.generation) again_known
      where
        by : (same : Bool) → (same ≡ true → Then name file.source (max file.kept.known moment))
            → Then name (if same then record file { kept = shown_again file.kept meta moment } else file).source
            (if same then record file { kept = shown_again file.kept meta moment } else file).kept.known
        by true again = again refl
        by false again = within name file.source file.kept.known known

-- ---- the current node of a name, shown again
abbrev pub bare_shown : Numbered → Numbered
bare_shown shown = record shown { node = bare_node shown.node }

-- how a node is shown again without moments, as with them
pub record AgainBare (Then : List ℕ → ℕ → ℕ → Type 0) (again bare_again : Node → Option Node) (node : Node) : Type 0 where
  pub is : bare_again (bare_node node) ≡ option_map bare_node (again node)
  pub known : IfSome (again node) (IsKnown Then)

abbrev shown_of : (Node → Option Node) → ℕ → Option Node → Option Numbered
shown_of again number found = option_and_then (λ node. option_and_then (λ shown. Some (record { number = number; node = shown })) (again node)) found

-- the current node of a name, by its number
abbrev pub IsCurrent : NodeTable → List ℕ → ℕ → Node → Type 0
IsCurrent table name number node = (fin.get table.current name ≡ Some number) × (fin.get table.nodes number ≡ Some node)

-- a current node has the name
abbrev pub AreNamed : NodeTable → Type 0
AreNamed table = (name : List ℕ) (number : ℕ) (node : Node) → IsCurrent table name number node → node.name ≡ name

module _ (Known : List ℕ → ℕ → ℕ → Type 0) (table bare : NodeTable) (so : IsBare Known table bare) (again bare_again : Node → Option Node) (name : List ℕ)
    (each : (number : ℕ) (node : Node) → IsCurrent table name number node → AgainBare Known again bare_again node) where
  pub shown_is : current_shown bare_again bare name ≡ option_map bare_shown (current_shown again table name)
  shown_is = ap (λ found. option_and_then (λ number. shown_of bare_again number (fin.get bare.nodes number)) found) (sym (ap (λ (c : Names). fin.get c name) (current_same Known table bare so)))
      ∙ by (fin.get table.current name) refl
    where
      again_is : (number : ℕ) → fin.get table.current name ≡ Some number → (found : Option Node) → fin.get table.nodes number ≡ found
          → shown_of bare_again number (option_map bare_node found) ≡ option_map bare_shown (shown_of again number found)
      again_is number at None there = refl
      again_is number at (Some node) there = ap (λ shown. option_and_then (λ s. Some (record { number = number; node = s })) shown) (each number node (at, there)).is ∙ mapped (again node)
        where
          mapped : (shown : Option Node) → option_and_then (λ s. Some (record { number = number; node = s })) (option_map bare_node shown)
              ≡ option_map bare_shown (option_and_then (λ s. Some (record { number = number; node = s })) shown)
          mapped None = refl
          mapped (Some s) = refl

      by : (found : Option ℕ) → fin.get table.current name ≡ found → option_and_then (λ number. shown_of bare_again number (fin.get bare.nodes number)) found
          ≡ option_map bare_shown (option_and_then (λ number. shown_of again number (fin.get table.nodes number)) found)
      by None at = refl
      by (Some number) at = ap (shown_of bare_again number) (found_bare Known table bare so number) ∙ again_is number at (fin.get table.nodes number) refl

  pub shown_known : IfSome (current_shown again table name) (λ shown. IsKnown Known shown.node)
  shown_known = by (fin.get table.current name) refl
    where
      shown : (number : ℕ) → fin.get table.current name ≡ Some number → (found : Option Node) → fin.get table.nodes number ≡ found → IfSome (shown_of again number found) (λ s. IsKnown Known s.node)
      shown number at None there = tt
      shown number at (Some node) there = mapped (again node) (each number node (at, there)).known
        where
          mapped : (s : Option Node) → IfSome s (IsKnown Known) → IfSome {T = Numbered} (option_and_then (λ s. Some (record { number = number; node = s })) s) (λ s. IsKnown Known s.node)
          mapped None known = tt
          mapped (Some s) known = known

      by : (found : Option ℕ) → fin.get table.current name ≡ found → IfSome (option_and_then (λ number. shown_of again number (fin.get table.nodes number)) found) (λ s. IsKnown Known s.node)
      by None at = tt
      by (Some number) at = shown number at (fin.get table.nodes number) refl

  -- the nodes then
  pub bare_shown_or_new : (new : Node) → IsKnown Known new
      → IsBare Known (with_shown_or_new table (current_shown again table name) new) (with_shown_or_new bare (current_shown bare_again bare name) (bare_node new))
  bare_shown_or_new new known =
      subst (λ found. IsBare Known (with_shown_or_new table (current_shown again table name) new) (with_shown_or_new bare found (bare_node new))) (sym shown_is)
      (by (current_shown again table name) shown_known)
    where
      by : (found : Option Numbered) → IfSome found (λ s. IsKnown Known s.node)
          → IsBare Known (with_shown_or_new table found new) (with_shown_or_new bare (option_map bare_shown found) (bare_node new))
      by None all = bare_granted Known table bare so new known
      by (Some shown) all = bare_inode Known table bare so shown.number shown.node all

  -- the node that is shown, which is no other without moments
  pub shown_or_new_is : (new : Node) → shown_or_new bare (current_shown bare_again bare name) (bare_node new) ≡ bare_shown (shown_or_new table (current_shown again table name) new)
  shown_or_new_is new =
      ap (λ found. shown_or_new bare found (bare_node new)) shown_is
      ∙ ap (λ next. option_map_or (λ (s : Numbered). s) (option_map bare_shown (current_shown again table name)) (record { number = next; node = bare_node new })) (sym (next_same Known table bare so))
      ∙ by (current_shown again table name)
    where
      by : (found : Option Numbered) → option_map_or (λ (s : Numbered). s) (option_map bare_shown found) (record { number = table.next; node = bare_node new })
          ≡ bare_shown (option_map_or (λ s. s) found (record { number = table.next; node = new }))
      by None = refl
      by (Some s) = refl

-- ---- of an object
abbrev again_by : Bool → Bool → Node → File → Metadata → ℕ → Option Node
again_by same late node file meta moment =
    if same || late then Some (looked_up (record node { file = Some (if same then record file { kept = shown_again file.kept meta moment } else file) })) else None

abbrev again_of : Metadata → ℕ → Node → Option File → Option Node
again_of meta moment node found = option_and_then (λ file. again_by (file.source == meta.generation) (nat_lt moment file.kept.known) node file meta moment) found

module _ (Known Then : List ℕ → ℕ → ℕ → Type 0) (meta : Metadata) (moment : ℕ) where
  again_bare : (same : Bool) (node : Node) (file : File) → file.kept.known ≤ moment → (late : Bool) → late ≡ false
      → again_by same false (bare_node node) (bare_file file) meta 0 ≡ option_map bare_node (again_by same late node file meta moment)
  again_bare true node file known late none = refl
  again_bare false node file known late none = ap (λ b. option_map bare_node (again_by false b node file meta moment)) (sym none)

  known_again : (same : Bool) (node : Node) (file : File) → (same ≡ true → Then node.name file.source (max file.kept.known moment)) → (late : Bool) → late ≡ false
      → IfSome (again_by same late node file meta moment) (IsKnown Then)
  known_again true node file known late none = known refl
  known_again false node file known late none = subst (λ b. IfSome (again_by false b node file meta moment) (IsKnown Then)) (sym none) tt

  pub object_again_bare : (node : Node) → IsNews Known Then node.name meta.generation moment → IsKnown Known node → AgainBare Then (object_again meta moment) (object_again meta 0) node
  object_again_bare node news early = by node.file refl early
    where
      by : (found : Option File) → node.file ≡ found → IfSome found (λ file. Known node.name file.source file.kept.known)
          → AgainBare Then (object_again meta moment) (object_again meta 0) node
      by None is known = record {
        is = ap (λ f. again_of meta 0 (bare_node node) (option_map bare_file f)) is ∙ sym (ap (λ f. option_map bare_node (again_of meta moment node f)) is);
        known = subst (λ f. IfSome (again_of meta moment node f) (IsKnown Then)) (sym is) tt;
      }
      by (Some file) is known =
          let low : file.kept.known ≤ moment = news.later file.source file.kept.known known in
          record {
            is = ap (λ f. again_of meta 0 (bare_node node) (option_map bare_file f)) is
                ∙ again_bare (file.source == meta.generation) node file low (nat_lt moment file.kept.known) (not_later file.kept.known moment low)
                ∙ sym (ap (λ f. option_map bare_node (again_of meta moment node f)) is);
            known = subst (λ f. IfSome (again_of meta moment node f) (IsKnown Then)) (sym is)
                (known_again (file.source == meta.generation) node file (again_known meta moment file Known Then node.name news known)
                (nat_lt moment file.kept.known) (not_later file.kept.known moment low));
          }

  -- the current node of a name
  pub current_again : (table bare : NodeTable) → IsBare Known table bare → AreNamed table → (name : List ℕ) → IsNews Known Then name meta.generation moment
      → (number : ℕ) (node : Node) → IsCurrent table name number node → AgainBare Then (object_again meta moment) (object_again meta 0) node
  current_again table bare so named name news number node current =
      object_again_bare node (subst (λ n. IsNews Known Then n meta.generation moment) (sym (named name number node current)) news) (so.known number node current.1)
