-- What is given of a base to a call on staged content: its bytes, where any are wanted of the source, and else none.
use Rattle.std.proofs.Common.{ℕ, Bool, true, false, List, [], Some, None, nat_lt, refl}
use Rattle.std.specs.Prelude.{if◌then◌else◌}
use Rattle.mount_rules.specs.Plans.{Contents, HoldsWanted, Wanted}
use Rattle.mount_rules.specs.Reading.{wanting}
use Rattle.staging_spec.specs.Slices.{Holds}
use Rattle.staging_spec.specs.Wanted.{Range}

-- the bytes that are given
abbrev pub given_of : ℕ → List ℕ → List ℕ
given_of count bytes = if nat_lt 0 count then bytes else []

module _ (name : List ℕ) (generation : ℕ) (range : Range) where
  abbrev wanted : Wanted
  wanted = record { name = name; generation = generation; range = range }

  -- they are bytes of the source
  pub given_holds : (contents : Contents) (first : ℕ) (bytes : List ℕ) → HoldsWanted contents (wanting name generation range) first bytes
      → Holds (contents name generation) first (given_of range.count bytes)
  given_holds contents first bytes holds = by (nat_lt 0 range.count) holds
    where
      by : (some : Bool) → HoldsWanted contents (if some then Some wanted else None) first bytes → Holds (contents name generation) first (if some then bytes else [])
      by true holds = holds
      by false holds = refl
