-- The type in a mode, as it is tested and as it is read off.
use Rattle.std.proofs.Common.{◌≡◌, ℕ, false, ◌+◌, ◌*◌, ◌/◌, ◌%◌, nat_eq, bit_and, ap, sym, ◌∙◌, arith}
use Rattle.std.proofs.lemmas.Bool.Decides.{nat_tests}
use Rattle.std.proofs.lemmas.Nat.{and_mask, and_mod, and_shr, div-add-mod'}
use Rattle.std.proofs.Math.Nat.{add-zero}
use Rattle.std.specs.Prelude.{◌||◌}
use lib.Bits.{and_zero_r}

-- its four bits stand above the twelve of the permissions
type_bits : (mode : ℕ) → bit_and mode 61440 ≡ (mode / 4096 % 16) * 4096
type_bits mode =
    sym (div-add-mod' (bit_and mode 61440) 4096)
    ∙ ap (λ d. d * 4096 + bit_and mode 61440 % 4096) high
    ∙ ap (λ r. (mode / 4096 % 16) * 4096 + r) low
    ∙ add-zero ((mode / 4096 % 16) * 4096)
  where
    high : bit_and mode 61440 / 4096 ≡ mode / 4096 % 16
    high = and_shr mode 61440 12 ∙ and_mask (mode / 4096) 4

    low : bit_and mode 61440 % 4096 ≡ 0
    low = and_mod mode 61440 12 ∙ and_zero_r (mode % 4096)

-- the type of a regular file, or none
pub regular_type : (mode : ℕ) → (nat_eq (bit_and mode 61440) 0 || nat_eq (bit_and mode 61440) 32768) ≡ (nat_eq (mode / 4096 % 16) 0 || nat_eq (mode / 4096 % 16) 8)
regular_type mode = by (bit_and mode 61440) (mode / 4096 % 16) (type_bits mode)
  where
    by : (bits kind : ℕ) → bits ≡ kind * 4096 → (nat_eq bits 0 || nat_eq bits 32768) ≡ (nat_eq kind 0 || nat_eq kind 8)
    by bits kind is = grind (arith, nat_tests, is)

-- a type that isn't none
pub other_type : (mode : ℕ) → (bit_and mode 61440 ≡ 0 → ⊥) → nat_eq (bit_and mode 61440) 32768 ≡ (nat_eq (mode / 4096 % 16) 0 || nat_eq (mode / 4096 % 16) 8)
other_type mode other =
    let some : false ≡ nat_eq (bit_and mode 61440) 0 = grind (arith, nat_tests, other) in
    ap (λ t. t || nat_eq (bit_and mode 61440) 32768) some ∙ regular_type mode
