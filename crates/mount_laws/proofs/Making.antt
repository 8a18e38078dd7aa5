-- Making an object of a name, and a new node of it: what is asked covers no other name, and the node is what the bucket told.
use Rattle.std.proofs.Common.{◌≡◌, ◌≢◌, ◌≤◌, ◌+◌, ◌-◌, ℕ, List, [], ◌∷◌, Some, refl, sym, ap, subst, nat_eq, arith, inl, inr, length}
use Rattle.std.specs.Prelude.{if◌then◌else◌}
use Rattle.std.specs.List.{AllByRecursion}
use Rattle.bucket_api.specs.Metadata.{Metadata}
use Rattle.bucket_api.specs.Operation.{Operation, insert}
use Rattle.bucket_api.specs.declared.answers.Answer.{Answer}
use Rattle.bucket_api.specs.declared.answers.Answer.TheVariants as answers
use Rattle.bucket_api.specs.declared.objects.Pair.{Pair}
use Rattle.inode_spec.specs.Inodes.{granted, lookups_of}
use Rattle.mount_model.specs.Observing.{Observed}
use Rattle.mount_rules.specs.Claiming.{owns_name, shares_node}
use Rattle.mount_rules.specs.Laws.{GivesLater, IsCovered, Planned}
use Rattle.mount_rules.specs.Making as making
use Rattle.mount_rules.specs.Making.{new}
use Rattle.mount_rules.specs.Mount.{IsMount, MountModel}
use Rattle.mount_rules.specs.Plans.{Allows, IsHarmless, answers_of, done}
use Rattle.mount_rules.specs.Showing.{file_shown, new_node}
use Rattle.object_names.specs.Paths.{IsPath}
use Rattle.mount_laws.proofs.Children.{IsKeptOf-object, IsNameOf-object}
use Rattle.mount_laws.proofs.Counting.{count_of, counts_more}
use Rattle.mount_laws.proofs.Mounts.{GivesLater-table, IsNodeTable-of}
use Rattle.mount_laws.proofs.Staying.{FilesStay-new}
use Rattle.mount_laws.proofs.Tables.{TableLater-granted, next_unused}
use Rattle.mount_laws.proofs.Telling.{Tells, TellsAlong}

-- ---- the insert
module _ (name : List ℕ) (pairs : List Pair) (second : ℕ) where
  -- it is the one operation
  pub making_covers : (answers : List Answer) (node : ℕ) (op : Operation) → Allows (making.plan name pairs second answers) op
      → IsCovered (shares_node node ∷ owns_name name ∷ []) op
  making_covers [] node op allows = subst (IsCovered (shares_node node ∷ owns_name name ∷ [])) (sym allows) (inr (inl (refl, refl)))
  making_covers (a ∷ more) node op allows = absurd allows

  -- once it is made, nothing is asked
  pub making_harmless : (seen : List Observed) → making.plan name pairs second (answers_of seen) ≢ done → AllByRecursion (λ (o : Observed). IsHarmless o.op) seen
  making_harmless [] asks = tt
  making_harmless (o ∷ more) asks = absurd (asks refl)

  making_bounded : (seen : List Observed) → Planned (making.plan name pairs second) seen → length seen ≤ 1
  making_bounded [] planned = omega arith
  making_bounded (o ∷ []) planned = omega arith
  making_bounded (o ∷ p ∷ more) planned = absurd planned.1.0

  pub making_asks_one : (seen : List Observed) (n : ℕ) → Some 1 ≡ Some n → Planned (making.plan name pairs second) seen → length seen ≤ n
  making_asks_one seen n is planned = let one : 1 ≡ n = cc in subst (λ m. length seen ≤ m) one (making_bounded seen planned)

  -- a new object is what the bucket tells of it
  pub making_told : (Shown : List ℕ → ℕ → ℕ → Type 0) (seen : List Observed) (meta : Metadata)
      → TellsAlong Shown (making.plan name pairs second) seen → making.made (answers_of seen) ≡ new meta → Shown name meta.generation meta.size
  making_told Shown [] meta tells e = absurd cc
  making_told Shown (o ∷ more) meta tells e = by o.answer tells.0 e
    where
      by : (answer : Answer) → Tells Shown (Some (insert name [] pairs (Some 0) second)) answer → making.made_by answer ≡ new meta → Shown name meta.generation meta.size
      by (answers.Meta told) shown e = let same : told ≡ meta = cc in subst (λ (m : Metadata). Shown name m.generation m.size) same shown
      by _ shown e = absurd cc

-- ---- the new node
module _ (mount : MountModel) (is : IsMount mount) (path : List ℕ) (meta : Metadata) (moment : ℕ) where
  pub GivesLater-made : IsPath path → GivesLater mount (record mount { table = granted mount.table (new_node path meta moment) })
  GivesLater-made path_is =
      let nodes = IsNodeTable-of mount is in
      GivesLater-table mount is _
      (TableLater-granted mount.table nodes (new_node path meta moment) (IsNameOf-object meta path path_is) (IsKeptOf-object meta (file_shown meta moment)) (omega arith))
      (FilesStay-new mount.table.nodes mount.table.next (new_node path meta moment) (next_unused mount.table nodes))

  -- it has one look-up
  pub counts_made : (number : ℕ) → lookups_of (granted mount.table (new_node path meta moment)) number
      ≡ (lookups_of mount.table number + (if nat_eq number mount.table.next then 1 else 0)) - 0
  counts_made number = counts_more mount.table number mount.table.next (new_node path meta moment) (ap (λ n. n + 1) (sym none))
    where
      none : lookups_of mount.table mount.table.next ≡ 0
      none = ap count_of (next_unused mount.table (IsNodeTable-of mount is))
