-- What plans have asked.
use Rattle.std.proofs.Common.{◌≡◌, ◌≤◌, ℕ, List, [], ◌∷◌, Some, length, subst, arith}
use Rattle.std.specs.List.{AllByRecursion}
use Rattle.bucket_api.specs.declared.answers.Answer.{Answer}
use Rattle.bucket_api.specs.Operation.{Operation}
use Rattle.mount_model.specs.Observing.{Observed}
use Rattle.mount_rules.specs.Laws.{Planned}
use Rattle.mount_rules.specs.Plans.{Allows, IsHarmless, Plan, Step, done, plan_after}

-- where each operation that a plan may ask is harmless, so are all that it asked
pub harmless_all : (plan : Plan) → ((answers : List Answer) (op : Operation) → Allows (plan answers) op → IsHarmless op)
    → (seen : List Observed) → Planned plan seen → AllByRecursion (λ (o : Observed). IsHarmless o.op) seen
harmless_all plan each [] planned = tt
harmless_all plan each (o ∷ more) planned =
    (each [] o.op planned.0, harmless_all (plan_after plan o.answer) (λ answers. each (o.answer ∷ answers)) more planned.1)

-- a plan that is done asks nothing
pub asks_none : (plan : Plan) → plan [] ≡ done → (seen : List Observed) → Planned plan seen → length seen ≤ 0
asks_none plan none [] planned = omega arith
asks_none plan none (o ∷ more) planned = absurd (subst (λ (step : Step). Allows step o.op) none planned.0)

pub harmless_none : (plan : Plan) → plan [] ≡ done → (seen : List Observed) → Planned plan seen → AllByRecursion (λ (o : Observed). IsHarmless o.op) seen
harmless_none plan none [] planned = tt
harmless_none plan none (o ∷ more) planned = absurd (subst (λ (step : Step). Allows step o.op) none planned.0)

-- what asks nothing asks no more than any number
pub at_most_none : (seen : List Observed) (n : ℕ) → Some 0 ≡ Some n → length seen ≤ 0 → length seen ≤ n
at_most_none seen n is few = let same : 0 ≡ n = cc in omega arith
