-- Lists that only grow, whose items each bear the number of their maker.
use Rattle.std.specs.Prelude.{◌≡◌, ℕ, false, List, ◌++◌, length, All, if◌then◌else◌, nat_lt}
use Rattle.lane_spec.specs.declared.Numbers.{Numbers}
use Rattle.lane_spec.specs.Numbers.{has}

module _ {X : Type 0} where
  -- the longer of two lists, of which one begins the other
  abbrev pub longer : List X → List X → List X
  longer xs ys = if nat_lt (length xs) (length ys) then ys else xs

  -- the list goes on from what was seen, and has no further item of a number that was held; `by` tells an item's number
  abbrev pub GoesOnBy : (X → ℕ) → Numbers → List X → List X → Type 0
  GoesOnBy by held seen list = (rest : List X) × (list ≡ seen ++ rest) × All (λ x. has held (by x) ≡ false) rest
