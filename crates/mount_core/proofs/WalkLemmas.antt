-- Walks along a plan, one operation after the other.
use Rattle.std.proofs.Common.{◌≡◌, ◌≢◌, ◌+◌, List, [], ◌∷◌, ◌++◌, Some, None, length, refl, sym, ap, subst, ◌∙◌, inr, arith, length-append}
use Rattle.bucket_api.proofs.LogLaws.{state_at-pushed}
use Rattle.bucket_api.specs.BucketStep.{answer_to, state_after}
use Rattle.std.proofs.lemmas.List.Elements.{All-append, All-cons, All-nil}
use Rattle.bucket_api.specs.Operation.{Operation, IsAllowed}
use Rattle.bucket_api.specs.declared.answers.Answer.{Answer}
use Rattle.bucket_api.specs.declared.events.Mode.TheVariants as modes
use Rattle.mount_core.specs.Stores.{Counted, LeavesBucket}
use Rattle.mount_core.specs.Walks.{MakesNext, Walks, left_by, observed_on}
use Rattle.mount_model.specs.Observing.{Observed, finish, make}
use Rattle.mount_rules.specs.Laws.{Planned}
use Rattle.mount_rules.specs.OneThread.{Answers, Observes, Store, after_operation, after_operations}
use Rattle.mount_core.specs.Errands.{AsksAs}
use Rattle.mount_rules.specs.Plans.{Allows, Completes, MayEnd, Plan, Step, answers_of, ask, asked_by, done, may_read, plan_after, without_reads}
use Rattle.plan_names.specs.Errands.{Asked, IsTold, next_of}

-- answers of what was observed, with one more
pub answers_of-append : (seen : List Observed) (o : Observed) → answers_of (seen ++ o ∷ []) ≡ answers_of seen ++ o.answer ∷ []
answers_of-append [] o = refl
answers_of-append (p ∷ seen) o = ap (λ (l : List Answer). p.answer ∷ l) (answers_of-append seen o)

-- one more operation, made behind the others
pub after_operations-append : (store : Store) (seen : List Observed) (o : Observed) → after_operations store (seen ++ o ∷ []) ≡ after_operation (after_operations store seen) o.op
after_operations-append store [] o = refl
after_operations-append store (p ∷ seen) o = after_operations-append (after_operation store p.op) seen o

observes_more : (plan : Plan) (store : Store) (seen : List Observed) (o : Observed) → Observes plan store seen
    → Answers (after_operations store seen) (plan (answers_of seen)) o → Observes plan store (seen ++ o ∷ [])
observes_more plan store [] o observed here = (here, tt)
observes_more plan store (p ∷ seen) o observed here = (observed.0, observes_more (plan_after plan p.answer) (after_operation store p.op) seen o observed.1 here)

-- the log with one more operation leaves what the operation leaves
pub leaves_more : (store : Store) (before : Counted) (op : Operation) → IsAllowed op → LeavesBucket store before → LeavesBucket (after_operation store op) (left_by before op)
leaves_more store before op may leaves = record {
  start = leaves.start;
  allowed = All-append (λ e. IsAllowed e.op) store.log (record { lane = 1; op = op; mode = modes.Done } ∷ []) leaves.allowed
      (All-cons (λ e. IsAllowed e.op) (record { lane = 1; op = op; mode = modes.Done }) [] may (All-nil (λ e. IsAllowed e.op)));
  bucket = ap (state_after op) leaves.bucket ∙ sym (state_at-pushed store.start store.log (record { lane = 1; op = op; mode = modes.Done }));
  made = let was : before.made ≡ length store.log = leaves.made in omega (arith, length-append store.log (record { lane = 1; op = op; mode = modes.Done } ∷ []));
}

-- nothing was walked yet
pub Walks-none : (plan : Plan) (before : Counted) → Walks plan before [] before
Walks-none plan before store leaves = (tt, leaves)

-- a walk, and the operation that the plan asks next
pub Walks-more : (plan : Plan) (start before after : Counted) (seen more : List Observed) → Walks plan start seen before → MakesNext plan before seen after more
    → Walks plan start more after
Walks-more plan start before after seen more walked next store leaves =
    let o = observed_on before next.op in
    let was = after_operations store seen in
    let here : LeavesBucket was before = (walked store leaves).1 in
    let answered : Answers was (plan (answers_of seen)) o = record {
      asked = next.asked;
      moment = ap (λ n. n + 1) here.made;
      answer = ap (answer_to next.op) here.bucket;
    } in
    let left : LeavesBucket (after_operations store (seen ++ o ∷ [])) after =
    subst (λ s. LeavesBucket s after) (sym (after_operations-append store seen o))
    (subst (λ a. LeavesBucket (after_operation was next.op) a) (sym next.left) (leaves_more was before next.op next.allowed here)) in
    subst (λ m. Observes plan store m × LeavesBucket (after_operations store m) after) (sym next.observed)
    (observes_more plan store seen o (walked store leaves).0 answered, left)

-- a step that asks something isn't done
pub asks_on : (step : Step) (op : Operation) → asked_by step ≡ Some op → step ≢ done
asks_on step op asked e = let none : None ≡ Some op = subst (λ (s : Step). asked_by s ≡ Some op) e asked in cc

pub asked_more : (plan : Plan) (answers : List Answer) (a : Answer) → Asked plan answers → plan answers ≢ done → IsTold a → Asked plan (answers ++ a ∷ [])
asked_more plan [] a asked asks told = (asks, told, tt)
asked_more plan (b ∷ answers) a asked asks told = (asked.0, asked.1, asked_more (plan_after plan b) answers a asked.2 asks told)

-- what the next step says of the plan's
pub asked_next : (step : Step) (op : Operation) → make op ≡ next_of step → asked_by step ≡ Some op
asked_next done op is = cc
asked_next (ask asked) op is = cc
asked_next (may_read source step) op is = asked_next step op is

pub ends_next : (step : Step) → finish ≡ next_of step → MayEnd step
ends_next done is = tt
ends_next (ask asked) is = cc
ends_next (may_read source step) is = ends_next step is

-- ---- reads left out
pub asked_without : (step : Step) → asked_by (without_reads step) ≡ asked_by step
asked_without done = refl
asked_without (ask op) = refl
asked_without (may_read source step) = asked_without step

pub ends_without : (step : Step) → MayEnd (without_reads step) → MayEnd step
ends_without done ends = ends
ends_without (ask op) ends = ends
ends_without (may_read source step) ends = ends_without step ends

pub ends_with : (step : Step) → MayEnd step → MayEnd (without_reads step)
ends_with done ends = ends
ends_with (ask op) ends = ends
ends_with (may_read source step) ends = ends_with step ends

-- what was observed along a plan was observed along one that asks the same
pub Observes-asked : (asked plan : Plan) → AsksAs asked plan → (store : Store) (seen : List Observed) → Observes asked store seen → Observes plan store seen
Observes-asked asked plan is store [] observed = tt
Observes-asked asked plan is store (o ∷ seen) observed = (
  record { asked = sym (ap asked_by (is []) ∙ asked_without (plan [])) ∙ observed.0.asked; moment = observed.0.moment; answer = observed.0.answer },
  Observes-asked (plan_after asked o.answer) (plan_after plan o.answer) (λ answers. is (o.answer ∷ answers)) (after_operation store o.op) seen observed.1,
)

pub Completes-asked : (asked plan : Plan) → AsksAs asked plan → (seen : List Observed) → Completes asked seen → Completes plan seen
Completes-asked asked plan is seen ends = ends_without (plan (answers_of seen)) (subst MayEnd (is (answers_of seen)) ends)

-- a plan asks on where one that asks the same does
pub asks_too : (asked plan : Plan) → AsksAs asked plan → (told : List Answer) → asked told ≢ done → plan told ≢ done
asks_too asked plan is told asks e = asks (is told ∙ ap without_reads e)

-- ---- from the walk to the laws
pub allows : (step : Step) (op : Operation) → asked_by step ≡ Some op → Allows step op
allows done op asked = cc
allows (ask first) op asked = cc
allows (may_read source step) op asked = inr (allows step op asked)

pub Planned-observed : (plan : Plan) (store : Store) (seen : List Observed) → Observes plan store seen → Planned plan seen
Planned-observed plan store [] observed = tt
Planned-observed plan store (o ∷ seen) observed =
    (allows (plan []) o.op observed.0.asked, Planned-observed (plan_after plan o.answer) (after_operation store o.op) seen observed.1)

-- where the plan asks on, it asked something from the beginning
pub asks_first : (plan : Plan) (seen : List Observed) → Planned plan seen → plan (answers_of seen) ≢ done → plan [] ≢ done
asks_first plan [] planned asks = asks
asks_first plan (o ∷ seen) planned asks = λ e. absurd (subst (λ (s : Step). Allows s o.op) e planned.0)
