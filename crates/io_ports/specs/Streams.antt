-- What a write that fails leaves in a sink that tells its bytes. `None` is a stream that tells nothing.
use Rattle.std.specs.Prelude.{ℕ, List, take}
use Rattle.std.specs.declared.option.Option.{Option}
use Rattle.std.specs.Io.KnownBytes.{Appends}

-- The told bytes grew by a prefix of these, which may be none of them or all.
abbrev pub AppendsPrefix : Option (List ℕ) → Option (List ℕ) → List ℕ → Type 0
AppendsPrefix old new bytes = (count : ℕ) × Appends old new (take count bytes)
