-- A stream at a moment, as plain data.
use Rattle.std.specs.Prelude.{ℕ, List, Option}

-- The bytes that it has left or that were put into it, where it tells them, and how many of its calls have failed.
pub record Port : Type 0 where
  pub bytes : Option (List ℕ)
  pub faults : ℕ
