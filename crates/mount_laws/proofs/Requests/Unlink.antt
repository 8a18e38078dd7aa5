-- The rules of UNLINK are sound.
use Rattle.std.proofs.Common.{◌≡◌, ◌≢◌, ◌≤◌, ℕ, List, [], ◌∷◌, Some, refl, sym, subst, arith, inl, inr, length}
use Rattle.std.specs.List.{AllByRecursion}
use Rattle.bucket_api.specs.Operation.{Operation}
use Rattle.bucket_api.specs.declared.answers.Answer.{Answer}
use Rattle.mount_model.specs.Observing.{Observed}
use Rattle.mount_rules.specs.Claiming.{owns_name, shares_node}
use Rattle.mount_rules.specs.Guards.{part_refusal}
use Rattle.mount_rules.specs.Laws.{IsCovered, Planned}
use Rattle.mount_rules.specs.Plans.{Allows, IsHarmless, answers_of, done}
use Rattle.mount_rules.specs.Requests.Unlink as unlink
use Rattle.object_names.specs.Paths.{bare_name}
use Rattle.mount_laws.proofs.Children.{HasPath-none}
use Rattle.mount_laws.proofs.Guarding.{in_directory-memory, part_refusal-memory}
use Rattle.mount_laws.proofs.Keeping.{no_Some}
use Rattle.mount_laws.proofs.Removing.{removed_agrees, removed_answers, removed_counts, removed_later, removed_leaves, removed_nodes, removed_staged}
use Rattle.mount_laws.proofs.Sights.{LooksClaimed-node}
use Rattle.mount_laws.proofs.Sound.{IsSound}

module _ (path : List ℕ) where
  -- the one operation is the delete of the path
  covers : (answers : List Answer) (node : ℕ) (op : Operation) → Allows (unlink.plan path answers) op → IsCovered (shares_node node ∷ owns_name path ∷ []) op
  covers [] node op allows = subst (IsCovered (shares_node node ∷ owns_name path ∷ [])) (sym allows) (inr (inl (refl, refl)))
  covers (a ∷ more) node op allows = absurd allows

  -- once it is made, nothing is asked
  harmless : (seen : List Observed) → unlink.plan path (answers_of seen) ≢ done → AllByRecursion (λ (o : Observed). IsHarmless o.op) seen
  harmless [] asks = tt
  harmless (o ∷ more) asks = absurd (asks refl)

  asks_one : (seen : List Observed) → Planned (unlink.plan path) seen → length seen ≤ 1
  asks_one [] planned = omega arith
  asks_one (o ∷ []) planned = omega arith
  asks_one (o ∷ p ∷ more) planned = absurd planned.1.0

pub unlink_sound : (node : ℕ) (name : List ℕ) → IsSound (unlink.rules node name) (λ number. 0) (Some 1)
unlink_sound node name = record {
  later = λ at mount seen goes. removed_later mount _ goes.is (unlink.removed (answers_of seen));
  leaves = λ at mount seen goes. removed_leaves mount _ _ (inr (inl refl)) (unlink.removed (answers_of seen));
  sees = λ at mount goes asks. let has = HasPath-none mount node (bare_name name) goes.is goes.free in LooksClaimed-node _ mount node has.sight has.seen (inl refl);
  covers = λ taken answers op allows. covers (unlink.path_of name taken.view) answers node op allows;
  harmless = λ taken seen planned fits asks. harmless (unlink.path_of name taken.view) seen asks;
  bounded = λ taken seen n is planned. let one : 1 ≡ n = cc in subst (λ m. length seen ≤ m) one (asks_one (unlink.path_of name taken.view) seen planned);
  reads = λ taken wanted wants_it. absurd (no_Some wants_it);
  of_files = λ mount wanted is wants_it. absurd (no_Some wants_it);
  agrees = λ taken mount seen agreed. removed_agrees mount _ agreed (unlink.removed (answers_of seen));
  refuses = λ view. in_directory-memory view.node (part_refusal (bare_name name)) (part_refusal-memory (bare_name name));
  keeps_staged = λ at mount seen errno free error. removed_staged mount _ (unlink.removed (answers_of seen));
  answers = λ taken mount seen. removed_answers (unlink.removed (answers_of seen));
  counts = λ at mount seen number other goes. removed_counts mount _ number (unlink.removed (answers_of seen));
  nodes = λ Shown at mount seen goes tells. removed_nodes mount _ Shown (unlink.removed (answers_of seen));
}
