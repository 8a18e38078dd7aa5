-- An event of a bucket's log, as plain data.
use Rattle.std.specs.Prelude.{ℕ}
use Rattle.bucket_api.specs.declared.events.Mode.{Mode}
use Rattle.bucket_api.specs.Operation.{Operation}

pub record LogEvent : Type 0 where
  pub lane : ℕ
  pub op : Operation
  pub mode : Mode
