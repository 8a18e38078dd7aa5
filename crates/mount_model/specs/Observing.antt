-- What a request observes of its bucket, and what it asks next, as plain data.
use Rattle.std.specs.Prelude.{ℕ}
use Rattle.bucket_api.specs.declared.answers.Answer.{Answer}
use Rattle.bucket_api.specs.Operation.{Operation, operation}
use Rattle.mount_model.specs.declared.observing.Next.{Next}
use Rattle.mount_model.specs.declared.observing.Next.TheVariants.{Finish, Insert, Do}

-- an operation, its moment in the bucket's log, and what it was answered
pub record Observed : Type 0 where
  pub op : Operation
  pub moment : ℕ
  pub answer : Answer

-- that the request is done with the bucket, or the insert of its staged content, or another operation to make
pub data NextStep : Type 0 where
  finish : NextStep
  insert_staged : NextStep
  make : (op : Operation) → NextStep

-- what the `Next` asks
abbrev pub next_step : Next → NextStep
next_step Finish = finish
next_step Insert = insert_staged
next_step (Do op) = make (operation op)
