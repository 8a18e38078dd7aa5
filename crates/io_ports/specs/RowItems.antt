-- What contracts see of a row.
use Rattle.std.specs.Prelude.{ℕ, List}

-- The items of a row in order, and for how many more there is room.
pub record RowItems (T : Type 0) : Type 0 where
  pub items : List T
  pub spare : ℕ
