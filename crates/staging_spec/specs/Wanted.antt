-- Which bytes of the source a request on staged content wants.
use Rattle.std.specs.Prelude.{ℕ, ◌+◌, ◌-◌, ◌*◌, ◌≤◌, ◌&&◌, Bool, not, List, [], ◌∷◌, filter, length, nat_lt, nat_le}
use Rattle.staging_spec.specs.Blocks.{block_size, block_of, numbers_from, is_among, met}

-- whether a byte is still the source's: it lies below the limit and in no touched block
abbrev pub is_source : List ℕ → ℕ → ℕ → Bool
is_source touched limit byte = nat_lt byte limit && not (is_among touched (block_of byte))

-- a range of bytes; count 0 where there is none
pub record Range : Type 0 where
  pub first : ℕ
  pub count : ℕ

-- a range ends at or below a limit
abbrev pub IsWithin : Range → ℕ → Type 0
IsWithin range limit = range.first + range.count ≤ limit

abbrev pub last_of : ℕ → List ℕ → ℕ
last_of number [] = number
last_of number (n ∷ ns) = last_of n ns

-- the range from the first to the last of numbers that rise
abbrev pub span : List ℕ → Range
span [] = record { first = 0; count = 0 }
span (number ∷ numbers) = record { first = number; count = last_of number numbers + 1 - number }

-- a READ wants each byte asked that is still the source's
abbrev pub wanted_by_read : List ℕ → ℕ → ℕ → ℕ → Range
wanted_by_read touched limit first count = span (filter (is_source touched limit) (numbers_from first count))

-- whether a WRITE overwrites a byte
abbrev pub is_overwritten : ℕ → ℕ → ℕ → Bool
is_overwritten first count byte = nat_le first byte && nat_lt byte (first + count)

-- a WRITE wants each byte of the blocks that it newly touches that it does not overwrite and that is still the source's
abbrev pub wanted_by_write : List ℕ → ℕ → ℕ → ℕ → Range
wanted_by_write touched limit first count =
    span (filter (λ byte. is_source touched limit byte && not (is_overwritten first count byte)) (numbers_from (block_of first * block_size) (length (met first count) * block_size)))

-- a FLUSH or an FSYNC wants each byte that is still the source's
abbrev pub wanted_by_flush : List ℕ → ℕ → Range
wanted_by_flush touched limit = span (filter (is_source touched limit) (numbers_from 0 limit))
