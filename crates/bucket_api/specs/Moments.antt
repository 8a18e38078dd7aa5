-- Moments and positions: moments count from 1, and positions in a list from 0. No other file adds or takes away this one.
use Rattle.std.specs.Prelude.{ℕ, zero, suc, ◌+◌, ◌-◌, List, slice_get, Option, None}

-- the moment of what stands at a position
abbrev pub moment_at : ℕ → ℕ
moment_at position = position + 1

-- the position of what stands at a moment, which is at least 1
abbrev pub position_of : ℕ → ℕ
position_of moment = moment - 1

-- what stands at a moment: nothing at 0, nor past the list's end
abbrev pub at_moment : {X : Type 0} → List X → ℕ → Option X
at_moment list zero = None
at_moment list (suc position) = slice_get list position
