-- A slice that has a part of a source: its bytes, and what it reaches over.
use Rattle.std.specs.Prelude.{◌≡◌, ℕ, ◌+◌, ◌<◌, ◌≤◌, List, length, take, drop}
use Rattle.staging_spec.specs.Wanted.{Range}

-- a slice of so many bytes, from this one of the source on, reaches over what is wanted
abbrev pub Covers : ℕ → ℕ → Range → Type 0
Covers first count range = 0 < range.count → (first ≤ range.first) × (range.first + range.count ≤ first + count)

-- a slice has the bytes of a source from a place on
abbrev pub Holds : List ℕ → ℕ → List ℕ → Type 0
Holds source first bytes = take (length bytes) (drop first source) ≡ bytes
