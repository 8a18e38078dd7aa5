-- A listing has made nothing but lists, to its end; and what a bucket answers fits the operation.
use Rattle.std.proofs.Common.{◌≢◌, ℕ, Bool, true, false, List, [], ◌∷◌, Option, Some, None, take, drop, subst, sym}
use Rattle.std.specs.List.{AllByRecursion}
use Rattle.std.specs.Option.{option_map_or}
use Rattle.std.specs.Prelude.{if◌then◌else◌}
use Rattle.bucket_api.specs.BucketState.{BucketState, generation_at, object_at, object_of}
use Rattle.bucket_api.specs.BucketStep.{answer_to, is_met, may_update, new_object, refused, updated_object}
use Rattle.bucket_api.specs.Operation.{Operation, copy, delete, insert, list, read, stat, update}
use Rattle.bucket_api.specs.declared.answers.Answer.{Answer}
use Rattle.bucket_api.specs.declared.answers.Answer.TheVariants as answers
use Rattle.bucket_api.specs.declared.objects.Object.{Object}
use Rattle.mount_core.specs.Errands.{IsListing, plan_over}
use Rattle.mount_core.specs.declared.errand.Errand.{Errand}
use Rattle.mount_core.specs.declared.errand.Errand.TheVariants.{Names}
use Rattle.mount_laws.proofs.Asking.{harmless_all}
use Rattle.mount_laws.proofs.Requests.Opendir.{asks_lists}
use Rattle.mount_model.specs.Observing.{Observed}
use Rattle.mount_rules.specs.Laws.{IsAnswerTo, Planned}
use Rattle.mount_rules.specs.OneThread.{Observes, Store, after_operation, bucket_of}
use Rattle.mount_rules.specs.Plans.{Contents, IsHarmless, Plan, done, plan_after}
use Rattle.plan_names.specs.declared.errand.NameErrand.TheVariants.{Opendir}

-- ---- a listing
pub record ListsAlone (plan : Plan) (seen : List Observed) : Type 0 where
  pub asks : plan [] ≢ done
  pub harmless : AllByRecursion (λ (o : Observed). IsHarmless o.op) seen

pub lists_alone : (errand : Errand) (contents : Contents) (second : ℕ) (seen : List Observed) → IsListing errand → Planned (plan_over errand contents second) seen
    → ListsAlone (plan_over errand contents second) seen
lists_alone (Names (Opendir prefix page)) contents second seen lists planned = record {
  asks = λ e. cc;
  harmless = harmless_all (plan_over (Names (Opendir prefix page)) contents second) (asks_lists prefix page None) seen planned;
}
lists_alone _ contents second seen lists planned = absurd lists

-- ---- what a bucket answers
module _ (op : Operation) where
  by_live : (found : Object → Answer) (other : Answer) → IsAnswerTo op other → ((o : Object) → IsAnswerTo op (found o)) → (live : Option Object) → IsAnswerTo op (option_map_or found live other)
  by_live found other none each None = none
  by_live found other none each (Some o) = each o

  by_test : (yes_ no_ : Answer) → IsAnswerTo op yes_ → IsAnswerTo op no_ → (met : Bool) → IsAnswerTo op (if met then yes_ else no_)
  by_test yes_ no_ y n true = y
  by_test yes_ no_ y n false = n

pub answer_fits : (op : Operation) (b : BucketState) → IsAnswerTo op (answer_to op b)
answer_fits (stat name) b = by_live (stat name) (λ o. answers.Meta o.meta) answers.NotFound tt (λ o. tt) (object_at b name)
answer_fits (read name generation first count) b =
    by_live (read name generation first count) (λ o. answers.Bytes (take count (drop first o.content))) answers.NotFound tt (λ o. tt) (object_of b name generation)
answer_fits (insert name content pairs only stamp) b =
    by_test (insert name content pairs only stamp) (answers.Meta (new_object b name content pairs stamp).meta) (refused b name) tt tt (is_met only (generation_at b name))
answer_fits (update name pairs only only_meta stamp) b =
    by_live (update name pairs only only_meta stamp) (λ o. if may_update only only_meta o then answers.Meta (updated_object pairs stamp o).meta else refused b name) answers.NotFound tt
    (λ o. by_test (update name pairs only only_meta stamp) (answers.Meta (updated_object pairs stamp o).meta) (refused b name) tt tt (may_update only only_meta o)) (object_at b name)
answer_fits (delete name only) b =
    by_live (delete name only) (λ o. if is_met only o.meta.generation then answers.Done else refused b name) answers.NotFound tt
    (λ o. by_test (delete name only) answers.Done (refused b name) tt tt (is_met only o.meta.generation)) (object_at b name)
answer_fits (copy from generation to stamp) b =
    by_live (copy from generation to stamp) (λ o. answers.Meta (new_object b to o.content o.meta.pairs stamp).meta) answers.NotFound tt (λ o. tt) (object_of b from generation)
answer_fits (list prefix slash max after) b = tt

pub answers_fit : (plan : Plan) (store : Store) (seen : List Observed) → Observes plan store seen → AllByRecursion (λ (o : Observed). IsAnswerTo o.op o.answer) seen
answers_fit plan store [] observed = tt
answers_fit plan store (o ∷ seen) observed = (
  subst (IsAnswerTo o.op) (sym observed.0.answer) (answer_fits o.op (bucket_of store)),
  answers_fit (plan_after plan o.answer) (after_operation store o.op) seen observed.1,
)
