-- What keeps a mount one: changes of its table, of its handles and of what is staged.
use Rattle.std.proofs.Common.{◌≡◌, ◌≢◌, ◌<◌, ◌≤◌, ◌+◌, ℕ, Bool, List, [], Option, Some, None, refl, sym, ap, subst, ◌∙◌, ◌⊎◌, inl, inr, nat_cmp, arith}
use Rattle.std.proofs.lemmas.List.Elements.{All-nil}
use Rattle.std.specs.Prelude.{if◌then◌else◌, is_some}
use Rattle.std.specs.Cmp.Lexicographic.{slice_cmp}
use Rattle.std.specs.FinMap as fin
use Rattle.handle_table.specs.Handles.{Opened}
use Rattle.inode_spec.specs.Inodes.{file_of, root}
use Rattle.object_names.specs.Components.{IsComponent}
use Rattle.object_names.specs.Paths.{IsPrefix}
use Rattle.mount_rules.specs.Files.{with_staged, without_staged}
use Rattle.mount_rules.specs.Laws.{GivesLater}
use Rattle.mount_rules.specs.Mount.{File, IsKeptOf, IsMount, IsNameOf, IsStagedAt, MountModel, Node, NodeTable, OpenHandles, first_mount}
use Rattle.mount_rules.specs.Requests.Forget.{staged_beside, with_left}
use Rattle.staging_spec.specs.StagedFiles.{StagedContent, StagedFiles}
use Rattle.mount_laws.proofs.Staying.{FilesLeft, FilesStay, HasFile, OthersStay, one_or_two}
use Rattle.mount_laws.proofs.Tables.{IsNodeTable, TableLater, TableLater-same}
use Rattle.spare_maps.proofs.FinMaps.{number_put, number_taken}

pub IsNodeTable-of : (mount : MountModel) → IsMount mount → IsNodeTable mount.table
IsNodeTable-of mount is = record { first = is.first; nodes = is.nodes; names = is.names; files = is.files; current = is.current }

-- what is staged of a file stays so where the file does
staged_stays : (table after : NodeTable) (number : ℕ) (s : StagedContent) → IsStagedAt table number s
    → ((file : File) → file_of table number ≡ Some file → HasFile after.nodes number file.size) → IsStagedAt after number s
staged_stays table after number s at stays =
    let has = stays at.file at.there in record { file = has.file; there = has.there; limit = subst (λ n. s.overlay.limit ≤ n) (sym has.sized) at.limit }

module _ (mount : MountModel) (is : IsMount mount) where
  abbrev AreStaged : NodeTable → StagedFiles → Type 0
  AreStaged table staged = (number : ℕ) (s : StagedContent) → fin.get staged number ≡ Some s → IsStagedAt table number s

  with_table : (table : NodeTable) (staged : StagedFiles) → TableLater mount.table table → AreStaged table staged → GivesLater mount (record mount { table = table; staged = staged })
  with_table table staged later are = record {
    is = record {
      first = later.is.first;
      nodes = later.is.nodes;
      names = later.is.names;
      files = later.is.files;
      current = later.is.current;
      handles = is.handles;
      staged = are;
    };
    nodes = later.rises;
    handles = omega arith;
  }

  -- other nodes, among which each file stays
  pub GivesLater-table : (table : NodeTable) → TableLater mount.table table → FilesStay mount.table.nodes table.nodes → GivesLater mount (record mount { table = table })
  GivesLater-table table later stay = with_table table mount.staged later (λ n s found. staged_stays mount.table table n s (is.staged n s found) (stay n))

  -- other nodes, from which one may have gone, and what is staged of it
  pub GivesLater-left : (k : ℕ) (table : NodeTable) → TableLater mount.table table → FilesLeft k mount.table.nodes table.nodes → GivesLater mount (with_left k table mount)
  GivesLater-left k table later left = with_table table (staged_beside table k mount.staged) later (by (fin.get table.nodes k) refl)
    where
      by : (found : Option Node) → fin.get table.nodes k ≡ found → AreStaged table (if is_some found then mount.staged else fin.remove mount.staged k)
      by (Some node) there n s found = staged_stays mount.table table n s (is.staged n s found) (λ file has. on file has (one_or_two n k))
        where
          on : (file : File) → file_of mount.table n ≡ Some file → (n ≡ k) ⊎ (n ≢ k) → HasFile table.nodes n file.size
          on file has (inr other) = left.others n file other has
          on file has (inl same) =
              let own = left.own node file there (ap (file_of mount.table) (sym same) ∙ has) in
              record { file = own.file; there = ap (file_of table) same ∙ own.there; sized = own.sized }
      by None gone n s found =
          let was = number_taken mount.staged k s n found in
          staged_stays mount.table table n s (is.staged n s was.1) (λ file has. left.others n file was.0 has)

  -- a file shows another source, and nothing is staged of it any more
  pub GivesLater-unstaged : (k : ℕ) (table : NodeTable) → TableLater mount.table table → OthersStay k mount.table.nodes table.nodes
      → GivesLater mount (record (without_staged mount k) { table = table })
  GivesLater-unstaged k table later others = with_table table (fin.remove mount.staged k) later (λ n s found.
      let was = number_taken mount.staged k s n found in
      staged_stays mount.table table n s (is.staged n s was.1) (λ file has. others n file was.0 has))

  -- something is staged of a file that is there
  pub GivesLater-staged : (k : ℕ) (s : StagedContent) → IsStagedAt mount.table k s → GivesLater mount (with_staged mount k s)
  GivesLater-staged k s at = with_table mount.table (fin.insert mount.staged k s) (TableLater-same mount.table (IsNodeTable-of mount is))
      (λ n x found. by n x (number_put mount.staged k s x n found))
    where
      by : (n : ℕ) (x : StagedContent) → ((n ≡ k) × (s ≡ x)) ⊎ (fin.get mount.staged n ≡ Some x) → IsStagedAt mount.table n x
      by n x (inl (same, one)) = subst (IsStagedAt mount.table n) one (record { file = at.file; there = ap (file_of mount.table) same ∙ at.there; limit = at.limit })
      by n x (inr was) = is.staged n x was

  pub GivesLater-same : GivesLater mount mount
  GivesLater-same = record { is = is; nodes = omega arith; handles = omega arith }

  -- the same nodes and staged contents, beside other handles
  beside : (handles : OpenHandles) (next : ℕ) (agreed : Bool) → ((fh : ℕ) (handle : Opened) → fin.get handles fh ≡ Some handle → fh < next)
      → IsMount (record mount { handles = handles; next_handle = next; negotiated = agreed })
  beside handles next agreed low = record {
    first = is.first;
    nodes = is.nodes;
    names = is.names;
    files = is.files;
    current = is.current;
    handles = low;
    staged = is.staged;
  }

  pub GivesLater-negotiated : (agreed : Bool) → GivesLater mount (record mount { negotiated = agreed })
  GivesLater-negotiated agreed = record { is = beside mount.handles mount.next_handle agreed is.handles; nodes = omega arith; handles = omega arith }

  pub GivesLater-opened : (handle : Opened) → GivesLater mount (record mount { handles = fin.insert mount.handles mount.next_handle handle; next_handle = mount.next_handle + 1 })
  GivesLater-opened handle = record {
    is = beside (fin.insert mount.handles mount.next_handle handle) (mount.next_handle + 1) mount.negotiated
        (λ fh h found. by fh h (number_put mount.handles mount.next_handle handle h fh found));
    nodes = omega arith;
    handles = omega arith;
  }
    where
      by : (fh : ℕ) (h : Opened) → ((fh ≡ mount.next_handle) × (handle ≡ h)) ⊎ (fin.get mount.handles fh ≡ Some h) → fh < mount.next_handle + 1
      by fh h (inl (same, one)) = omega arith
      by fh h (inr was) = let low = is.handles fh h was in omega (arith, low)

  pub GivesLater-released : (fh : ℕ) → GivesLater mount (record mount { handles = fin.remove mount.handles fh })
  GivesLater-released fh = record {
    is = beside (fin.remove mount.handles fh) mount.next_handle mount.negotiated (λ k h found. is.handles k h (number_taken mount.handles fh h k found).1);
    nodes = omega arith;
    handles = omega arith;
  }

-- one change after another
pub GivesLater-then : {first second third : MountModel} → GivesLater first second → GivesLater second third → GivesLater first third
GivesLater-then a b = record { is = b.is; nodes = omega (arith, a.nodes, b.nodes); handles = omega (arith, a.handles, b.handles) }

-- a mount before its first request is one
pub IsMount-first : IsMount first_mount
IsMount-first = record {
  first = omega arith;
  nodes = λ n node found. nodes n node (number_put fin.empty 1 root node n found);
  names = λ n node found. names n node (number_put fin.empty 1 root node n found);
  files = λ n node found. files n node (number_put fin.empty 1 root node n found);
  current = λ q n found. absurd (no_name q n found);
  handles = λ fh h found. absurd (no_handle fh h found);
  staged = λ n s found. absurd (no_staged n s found);
}
  where
    no_node : (n : ℕ) (node : Node) → fin.get {R = nat_cmp} fin.empty n ≡ Some node → ⊥
    no_node n node found = let none : fin.get {X = Node} {R = nat_cmp} fin.empty n ≡ None = fin.get-empty nat_cmp n in cc

    no_name : (q : List ℕ) (n : ℕ) → fin.get {R = slice_cmp nat_cmp} fin.empty q ≡ Some n → ⊥
    no_name q n found = let none : fin.get {X = ℕ} {R = slice_cmp nat_cmp} fin.empty q ≡ None = fin.get-empty (slice_cmp nat_cmp) q in cc

    no_handle : (fh : ℕ) (h : Opened) → fin.get {R = nat_cmp} fin.empty fh ≡ Some h → ⊥
    no_handle fh h found = let none : fin.get {X = Opened} {R = nat_cmp} fin.empty fh ≡ None = fin.get-empty nat_cmp fh in cc

    no_staged : (n : ℕ) (s : StagedContent) → fin.get {R = nat_cmp} fin.empty n ≡ Some s → ⊥
    no_staged n s found = let none : fin.get {X = StagedContent} {R = nat_cmp} fin.empty n ≡ None = fin.get-empty nat_cmp n in cc

    nodes : (n : ℕ) (node : Node) → ((n ≡ 1) × (root ≡ node)) ⊎ (fin.get {R = nat_cmp} fin.empty n ≡ Some node) → n < 2
    nodes n node (inl (same, one)) = omega arith
    nodes n node (inr was) = absurd (no_node n node was)

    root_named : IsPrefix []
    root_named = record { parts = []; components = All-nil IsComponent; is = refl }

    names : (n : ℕ) (node : Node) → ((n ≡ 1) × (root ≡ node)) ⊎ (fin.get {R = nat_cmp} fin.empty n ≡ Some node) → IsNameOf node.kind node.name
    names n node (inl (same, one)) = subst (λ (x : Node). IsNameOf x.kind x.name) one root_named
    names n node (inr was) = absurd (no_node n node was)

    files : (n : ℕ) (node : Node) → ((n ≡ 1) × (root ≡ node)) ⊎ (fin.get {R = nat_cmp} fin.empty n ≡ Some node) → IsKeptOf node.kind node.file
    files n node (inl (same, one)) = subst (λ (x : Node). IsKeptOf x.kind x.file) one refl
    files n node (inr was) = absurd (no_node n node was)
