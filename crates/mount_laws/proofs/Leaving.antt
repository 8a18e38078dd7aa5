-- What changes of a mount leave to other calls: of its table, of its handles and of what is staged.
use Rattle.std.proofs.Common.{◌≡◌, ◌≢◌, ◌+◌, ℕ, Bool, true, false, cond, List, Option, Some, None, refl, sym, ap, subst, ◌∙◌, nat_eq, arith, option_map}
use Rattle.std.proofs.lemmas.Bool.Decides.{Decides-eqb}
use Rattle.std.specs.Prelude.{if◌then◌else◌, option_and_then, is_some}
use Rattle.std.specs.FinMap as fin
use Rattle.claim_spec.specs.Conflicts.{IsOwned}
use Rattle.claim_spec.specs.declared.claim.Claim.{Claim}
use Rattle.claim_spec.specs.declared.claim.ClaimKey.TheVariants as key
use Rattle.handle_table.specs.Handles.{Opened}
use Rattle.mount_rules.specs.Files.{with_staged, without_staged}
use Rattle.mount_rules.specs.Laws.{Keeps}
use Rattle.mount_rules.specs.Mount.{IsMount, Node, NodeTable, MountModel}
use Rattle.mount_rules.specs.Requests.Forget.{staged_beside, with_left}
use Rattle.mount_rules.specs.View.{sight_of}
use Rattle.staging_spec.specs.StagedFiles.{StagedContent, StagedFiles}
use Rattle.mount_laws.proofs.Keeping.{TableKeeps, TableKeeps-same, claimed_by_owner, no_Some, same_Some}
use Rattle.spare_maps.proofs.FinMaps.{get-remove_number, number_put_other, number_taken_other}

-- what is staged of nodes that are not owned
abbrev LeavesStaged : List Claim → StagedFiles → StagedFiles → Type 0
LeavesStaged claimed staged after = (number : ℕ) → (IsOwned claimed (key.Node number) → ⊥) → fin.get after number ≡ fin.get staged number

module _ (claimed : List Claim) (mount : MountModel) where
  with_table : (table : NodeTable) (staged : StagedFiles) → TableKeeps claimed mount.table table → LeavesStaged claimed mount.staged staged
      → Keeps claimed mount (record mount { table = table; staged = staged })
  with_table table staged keeps left = record { sights = keeps.sights; handles = λ fh handle is mine. is; kept = keeps.kept; current = keeps.current; staged = left }

  -- a change of the table alone
  pub Keeps-table : (table : NodeTable) → TableKeeps claimed mount.table table → Keeps claimed mount (record mount { table = table })
  Keeps-table table keeps = with_table table mount.staged keeps (λ number mine. refl)

  -- nothing is changed
  pub Keeps-same : Keeps claimed mount mount
  Keeps-same = Keeps-table mount.table (TableKeeps-same claimed mount.table)

  -- a change of the table from which a node may have gone, and of what is staged of that
  pub Keeps-left : IsMount mount → (k : ℕ) (table : NodeTable) → TableKeeps claimed mount.table table → Keeps claimed mount (with_left k table mount)
  Keeps-left is k table keeps = with_table table (staged_beside table k mount.staged) keeps (by (fin.get table.nodes k) refl)
    where
      -- a node that others may see stays; where none was there, nothing was staged of it
      none_staged : fin.get table.nodes k ≡ None → (IsOwned claimed (key.Node k) → ⊥) → (staged : Option StagedContent) → fin.get mount.staged k ≡ staged → staged ≡ None
      none_staged gone mine None found = refl
      none_staged gone mine (Some s) found = absurd (on (fin.get mount.table.nodes k) refl)
        where
          on : (was : Option Node) → fin.get mount.table.nodes k ≡ was → ⊥
          on None there = no_Some (sym (ap (option_and_then (λ (node : Node). node.file)) there) ∙ (is.staged k s found).there)
          on (Some node) there = no_Some (sym (ap (option_map (sight_of k)) gone) ∙ keeps.sights k (sight_of k node) (ap (option_map (sight_of k)) there) mine)

      by : (found : Option Node) → fin.get table.nodes k ≡ found → LeavesStaged claimed mount.staged (if is_some found then mount.staged else fin.remove mount.staged k)
      by (Some node) there number mine = refl
      by None gone number mine = get-remove_number mount.staged k number ∙ on (nat_eq number k) refl
        where
          on : (b : Bool) → nat_eq number k ≡ b → cond b None (fin.get mount.staged number) ≡ fin.get mount.staged number
          on true same =
              let one : number ≡ k = (Decides-eqb number k).0 same in
              sym (ap (fin.get mount.staged) one ∙ none_staged gone (λ owned. mine (subst (λ m. IsOwned claimed (key.Node m)) (sym one) owned)) (fin.get mount.staged k) refl)
          on false other = refl

  module _ (k : ℕ) (owned : IsOwned claimed (key.Node k)) where
    other : (number : ℕ) → (IsOwned claimed (key.Node number) → ⊥) → number ≢ k
    other number mine same = mine (subst (λ m. IsOwned claimed (key.Node m)) (sym same) owned)

    -- something is staged of a node that is owned
    pub Keeps-staged : (s : StagedContent) → Keeps claimed mount (with_staged mount k s)
    Keeps-staged s = with_table mount.table (fin.insert mount.staged k s) (TableKeeps-same claimed mount.table)
        (λ number mine. number_put_other mount.staged k s number (other number mine))

    -- nothing is staged of it any more
    pub Keeps-unstaged : (table : NodeTable) → TableKeeps claimed mount.table table → Keeps claimed mount (record (without_staged mount k) { table = table })
    Keeps-unstaged table keeps = with_table table (fin.remove mount.staged k) keeps (λ number mine. number_taken_other mount.staged k number (other number mine))

  -- a change of the table, and a new handle under the next number
  pub Keeps-opened : IsMount mount → (table : NodeTable) → TableKeeps claimed mount.table table → (handle : Opened)
      → Keeps claimed mount (record mount { table = table; handles = fin.insert mount.handles mount.next_handle handle; next_handle = mount.next_handle + 1 })
  Keeps-opened is table keeps handle = record {
    sights = keeps.sights;
    handles = λ fh h found mine. number_put_other mount.handles mount.next_handle handle fh (λ same. let low = is.handles fh h found in absurd (omega (arith, low, same))) ∙ found;
    kept = keeps.kept;
    current = keeps.current;
    staged = λ number mine. refl;
  }

  -- a handle that is open no more, on a node that is owned
  pub Keeps-released : (fh : ℕ) (handle : Opened) → fin.get mount.handles fh ≡ Some handle → IsOwned claimed (key.Node handle.node)
      → Keeps claimed mount (record mount { handles = fin.remove mount.handles fh })
  Keeps-released fh handle there owned = record {
    sights = λ number sight is mine. is;
    handles = λ k h found mine. number_taken_other mount.handles fh k
        (λ same. mine (subst (λ (x : Opened). IsOwned claimed (key.Node x.node)) (same_Some (sym there ∙ ap (fin.get mount.handles) (sym same) ∙ found)) owned)) ∙ found;
    kept = λ number sight is mine named. refl;
    current = λ name mine owned. refl;
    staged = λ number mine. refl;
  }

-- one change after another
pub Keeps-then : (claimed : List Claim) (first second third : MountModel) → Keeps claimed first second → Keeps claimed second third → Keeps claimed first third
Keeps-then claimed first second third one two = record {
  sights = λ number sight is mine. two.sights number sight (one.sights number sight is mine) mine;
  handles = λ fh handle is mine. two.handles fh handle (one.handles fh handle is mine) mine;
  kept = λ number sight is mine named.
      two.kept number sight (one.sights number sight is (λ owned. mine (claimed_by_owner claimed (key.Node number) owned))) mine named ∙ one.kept number sight is mine named;
  current = λ name mine owned. two.current name mine (λ number is. owned number (sym (one.current name mine owned) ∙ is)) ∙ one.current name mine owned;
  staged = λ number mine. two.staged number mine ∙ one.staged number mine;
}
