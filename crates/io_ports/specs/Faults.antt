-- How many calls of a stream, or of whatever else can fail, have failed.
use Rattle.std.specs.Prelude.{◌≡◌, ℕ, ◌+◌, ◌-◌, ◌^◌, max, min}

-- The next number of a count in `u64`, which stands still at its end.
abbrev pub next_count : ℕ → ℕ
next_count count = max count (min (count + 1) (2 ^ 64 - 1))

-- One more call has failed between two moments.
abbrev pub Rose : ℕ → ℕ → Type 0
Rose before now = now ≡ next_count before
