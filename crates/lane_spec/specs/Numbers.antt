-- Sets of numbers: a list, or all but a list.
use Rattle.std.specs.Prelude.{◌≡◌, ℕ, Bool, true, not, ◌==◌, List, ◌∷◌, ◌++◌, filter}
use Rattle.std.specs.List.{list_any}
use Rattle.lane_spec.specs.declared.Numbers.{Numbers}
use Rattle.lane_spec.specs.declared.Numbers.TheVariants.{Only, AllBut}

-- whether the list has the number
abbrev pub lists : List ℕ → ℕ → Bool
lists ns n = list_any (λ k. k == n) ns

-- whether n is one of the numbers
abbrev pub has : Numbers → ℕ → Bool
has (Only ns) n = lists ns n
has (AllBut ns) n = not (lists ns n)

-- every whole number is one of them
abbrev pub HasAll : Numbers → Type 0
HasAll held = (n : ℕ) → has held n ≡ true

-- the numbers but n
abbrev pub without : Numbers → ℕ → Numbers
without (Only ns) n = Only (filter (λ k. not (k == n)) ns)
without (AllBut ns) n = AllBut (n ∷ ns)

-- the numbers of both
abbrev pub together : Numbers → Numbers → Numbers
together (Only ms) (Only ns) = Only (ms ++ ns)
together (Only ms) (AllBut ns) = AllBut (filter (λ k. not (lists ms k)) ns)
together (AllBut ms) (Only ns) = AllBut (filter (λ k. not (lists ns k)) ms)
together (AllBut ms) (AllBut ns) = AllBut (filter (λ k. lists ns k) ms)
