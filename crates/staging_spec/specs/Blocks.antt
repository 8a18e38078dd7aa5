-- Blocks of a content, and which of them a range meets.
use Rattle.std.specs.Prelude.{ℕ, zero, suc, ◌+◌, ◌-◌, ◌*◌, ◌/◌, ◌<◌, ◌==◌, Bool, not, List, [], ◌∷◌, filter, nat_lt, cond}
use Rattle.std.specs.List.{list_any}

-- the bytes of a block
abbrev pub block_size : ℕ
block_size = 65536

-- the block that a byte lies in
abbrev pub block_of : ℕ → ℕ
block_of byte = byte / block_size

-- so many numbers from the first on
abbrev pub numbers_from : ℕ → ℕ → List ℕ
numbers_from first zero = []
numbers_from first (suc count) = first ∷ numbers_from (first + 1) count

-- whether a number is one of a list
abbrev pub is_among : List ℕ → ℕ → Bool
is_among numbers number = list_any (λ n. n == number) numbers

-- the blocks that a range of bytes meets, which rise
abbrev pub met : ℕ → ℕ → List ℕ
met first zero = []
met first (suc count) = numbers_from (block_of first) (block_of (first + count) + 1 - block_of first)

-- the blocks that a range meets and that are not touched yet
abbrev pub newly_met : List ℕ → ℕ → ℕ → List ℕ
newly_met touched first count = filter (λ block. not (is_among touched block)) (met first count)

-- a number put in its place among numbers that rise, where it is not there
abbrev pub put_number : List ℕ → ℕ → List ℕ
put_number [] number = number ∷ []
put_number (n ∷ ns) number = cond (nat_lt number n) (number ∷ n ∷ ns) (cond (n == number) (n ∷ ns) (n ∷ put_number ns number))

-- the touched blocks with further ones
abbrev pub touch : List ℕ → List ℕ → List ℕ
touch touched [] = touched
touch touched (block ∷ blocks) = touch (put_number touched block) blocks

-- the touched blocks but those that begin at or after this length
abbrev pub untouch : List ℕ → ℕ → List ℕ
untouch touched size = filter (λ block. nat_lt (block * block_size) size) touched

-- numbers rise along a list
abbrev pub AllOver : ℕ → List ℕ → Type 0
AllOver low [] = Unit {0}
AllOver low (n ∷ ns) = (low < n) × AllOver low ns

abbrev pub Rise : List ℕ → Type 0
Rise [] = Unit {0}
Rise (n ∷ ns) = AllOver n ns × Rise ns
