-- A bit of a number, as it is tested and as it is read off.
use Rattle.std.proofs.Common.{◌≡◌, ℕ, zero, suc, ◌+◌, ◌*◌, ◌/◌, ◌%◌, ◌^◌, ◌<◌, ◌≤◌, nat_eq, bit_and, refl, ap, sym, ◌∙◌, arith}
use Rattle.std.proofs.lemmas.Bool.Decides.{nat_tests}
use Rattle.std.proofs.lemmas.Nat.{and_mask, and_mod, and_shr, div-add-mod', pow_pos}
use Rattle.std.proofs.Math.Nat.{add-zero}
use Rattle.std.specs.Prelude.{not}
use lib.Bits.{and_zero_r}

-- a number of one bit at most, at its place
at_place : (number place bit : ℕ) → 1 ≤ place → bit < 2 → number ≡ bit * place → not (nat_eq number 0) ≡ nat_eq bit 1
at_place number place zero some few is = let none : number ≡ 0 = omega (arith, is) in grind (arith, nat_tests, none)
at_place number place (suc zero) some few is = let there : number ≡ place = omega (arith, is) in grind (arith, nat_tests, there, some)
at_place number place (suc (suc bit)) some few is = absurd (omega (arith, few))

-- a number and a mask of one bit have that bit in common where it is set
bit_is_set : (number k : ℕ) → 2 ^ k / 2 ^ k ≡ 1 → 2 ^ k % 2 ^ k ≡ 0 → not (nat_eq (bit_and number (2 ^ k)) 0) ≡ nat_eq (number / 2 ^ k % 2) 1
bit_is_set number k one none = at_place (bit_and number (2 ^ k)) (2 ^ k) (number / 2 ^ k % 2) (pow_pos k) (omega arith) is
  where
    high : bit_and number (2 ^ k) / 2 ^ k ≡ number / 2 ^ k % 2
    high = and_shr number (2 ^ k) k ∙ ap (bit_and (number / 2 ^ k)) one ∙ and_mask (number / 2 ^ k) 1

    low : bit_and number (2 ^ k) % 2 ^ k ≡ 0
    low = and_mod number (2 ^ k) k ∙ ap (bit_and (number % 2 ^ k)) none ∙ and_zero_r (number % 2 ^ k)

    is : bit_and number (2 ^ k) ≡ (number / 2 ^ k % 2) * 2 ^ k
    is =
        sym (div-add-mod' (bit_and number (2 ^ k)) (2 ^ k))
        ∙ ap (λ d. d * 2 ^ k + bit_and number (2 ^ k) % 2 ^ k) high
        ∙ ap (λ r. (number / 2 ^ k % 2) * 2 ^ k + r) low
        ∙ add-zero ((number / 2 ^ k % 2) * 2 ^ k)

pub size_bit : (number : ℕ) → not (nat_eq (bit_and number 8) 0) ≡ nat_eq (number / 8 % 2) 1
size_bit number = bit_is_set number 3 refl refl

pub time_bit : (number : ℕ) → not (nat_eq (bit_and number 32) 0) ≡ nat_eq (number / 32 % 2) 1
time_bit number = bit_is_set number 5 refl refl

pub now_bit : (number : ℕ) → not (nat_eq (bit_and number 256) 0) ≡ nat_eq (number / 256 % 2) 1
now_bit number = bit_is_set number 8 refl refl
