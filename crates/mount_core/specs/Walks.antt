-- A walk along a plan on the bucket of a mount on one thread, which keeps no log: what is said of it is said of every log
-- that leaves the bucket.
use Rattle.std.specs.Prelude.{◌≡◌, ◌<◌, ◌+◌, List, [], ◌∷◌, ◌++◌, Some}
use Rattle.bucket_api.specs.BucketStep.{answer_to, state_after}
use Rattle.bucket_api.specs.Operation.{Operation, IsAllowed}
use Rattle.mount_core.specs.Stores.{Counted, LeavesBucket, most}
use Rattle.mount_model.specs.Observing.{Observed}
use Rattle.mount_rules.specs.OneThread.{Observes, Store, after_operations}
use Rattle.mount_rules.specs.Plans.{Plan, answers_of, asked_by}

-- Whatever log led to the bucket, the plan goes on from it by these observations, and the longer log leaves what is then
-- there.
abbrev pub Walks : Plan → Counted → List Observed → Counted → Type 0
Walks plan before seen after =
    (store : Store) → LeavesBucket store before → Observes plan store seen × LeavesBucket (after_operations store seen) after

-- what an operation that is made on the bucket is answered, at its moment; and what it leaves
abbrev pub observed_on : Counted → Operation → Observed
observed_on before op = record { op = op; moment = before.made + 1; answer = answer_to op before.bucket }

abbrev pub left_by : Counted → Operation → Counted
left_by before op = record { bucket = state_after op before.bucket; made = before.made + 1 }

-- The operation that the plan asks next was made.
pub record MakesNext (plan : Plan) (before : Counted) (seen : List Observed) (after : Counted) (more : List Observed) : Type 0 where
  pub op : Operation
  pub asked : asked_by (plan (answers_of seen)) ≡ Some op
  pub allowed : IsAllowed op
  pub observed : more ≡ seen ++ observed_on before op ∷ []
  pub left : after ≡ left_by before op
  pub bounded : before.made < most
