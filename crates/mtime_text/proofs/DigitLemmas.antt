-- The numbers that digits write, and the digits that write a number.
use Rattle.std.proofs.Common.{◌≡◌, ℕ, zero, suc, ◌+◌, ◌-◌, ◌*◌, ◌/◌, ◌%◌, ◌^◌, ◌<◌, ◌≤◌, Bool, true, false, ◌&&◌, nat_le, Some, List, [], ◌∷◌, ◌++◌, length, get_or, take, drop, refl, sym, ap, ◌∙◌, append_assoc, arith}
use Rattle.std.specs.List.{list_all}
use Rattle.std.specs.Int.{IsInRange}
use Rattle.std.specs.Char.{is_ascii_digit, digit_value}
use Rattle.std.specs.Str.Parse.{digits_value, digits_value_after, AllDigits}
use Rattle.std.proofs.lemmas.Bool.Decides.{nat_tests}
use Rattle.std.proofs.lemmas.Int.Digits.{digits_value_more, digits_value_push, digits_value-lt}
use Rattle.std.proofs.lemmas.Str.{digit_value_digit}
use Rattle.std.proofs.Math.Nat.{pow-suc, pow-le-pow_right, one-le-pow, mul-lt-mul_of_pos_right}
use Rattle.std.proofs.lemmas.Nat.{pow-add}
use Rattle.std.proofs.lemmas.Option.{cond_some}
use Rattle.std.proofs.lemmas.List.{length-append, append-nil, length-take-le, take-append-drop, take_at, drop_at}
use Rattle.std.proofs.lemmas.List.Folds.{list_all-append}
use Rattle.base_laws.proofs.Tests.{both_true}
use Rattle.mtime_text.specs.Spelling.{number}
use Rattle.mtime_text.specs.Reading.{number_at}

pub digit_range : (byte : ℕ) → is_ascii_digit byte ≡ true → IsInRange 48 57 byte
digit_range byte h = grind (arith, nat_tests)

at_least : (a b : ℕ) → nat_le a b ≡ true → a ≤ b
at_least a b h = grind (arith, nat_tests)

reaches : (a b : ℕ) → a ≤ b → nat_le a b ≡ true
reaches a b h = grind (arith, nat_tests)

AllDigits_of : (digits : List ℕ) → list_all is_ascii_digit digits ≡ true → AllDigits 10 digits
AllDigits_of [] all = tt
AllDigits_of (digit ∷ digits) all =
    let parts = both_true (is_ascii_digit digit) (list_all is_ascii_digit digits) all in
    let range = digit_range digit parts.0 in
    let worth = digit_value_digit digit range in
    (omega arith, AllDigits_of digits parts.1)

pub all_at : (test : ℕ → Bool) (bytes : List ℕ) (i : ℕ) → list_all test bytes ≡ true → i < length bytes → test (get_or bytes i 0) ≡ true
all_at test [] i h lt = absurd (omega arith)
all_at test (byte ∷ bytes) zero h lt = (both_true (test byte) (list_all test bytes) h).0
all_at test (byte ∷ bytes) (suc i) h lt =
    all_at test bytes i (both_true (test byte) (list_all test bytes) h).1 (omega arith)

-- one more digit, as at a step of a loop
pub digit_more : (digits : List ℕ) (i value : ℕ) → list_all is_ascii_digit digits ≡ true → i < length digits → value ≡ digits_value 10 (take i digits) → value < 10 ^ i
    → (value * 10 + (get_or digits i 0 - 48) ≡ digits_value 10 (take (i + 1) digits)) × (value * 10 + (get_or digits i 0 - 48) < 10 ^ (i + 1))
digit_more digits i value all lt so_far below =
    let range = digit_range (get_or digits i 0) (all_at is_ascii_digit digits i all lt) in
    let digit = digit_value_digit (get_or digits i 0) range in
    let next : i + 1 ≡ suc i = omega arith in
    let power = 10 ^ i in
    (omega (arith, digits_value_more 10 digits i lt), rw next (omega (arith, pow-suc 10 i)))

power_positive : (n : ℕ) → 0 < 10 ^ n
power_positive n = one-le-pow n 10 (omega arith)

pub power_below : (i : ℕ) → i ≤ 8 → 10 ^ i ≤ 100_000_000
power_below i h = pow-le-pow_right (omega arith) h

-- so many decimal places of a second stay below a second in nanoseconds
pub scaled_below : (places fraction : ℕ) → places ≤ 9 → fraction < 10 ^ places → fraction * 10 ^ (9 - places) < 1_000_000_000
scaled_below places fraction h below =
    let all : places + (9 - places) ≡ 9 = omega arith in
    let whole : 10 ^ places * 10 ^ (9 - places) ≡ 1_000_000_000 = sym (pow-add 10 places (9 - places)) ∙ ap (λ (n : ℕ). 10 ^ n) all in
    rw whole at (mul-lt-mul_of_pos_right below (power_positive (9 - places)))

-- ---- how a number is spelled

pub length-number : (width n : ℕ) → length (number width n) ≡ width
unfolding number
length-number zero n = refl
length-number (suc width) n =
    length-append (number width (n / 10)) ((48 + n % 10) ∷ []) ∙ rw (length-number width (n / 10)) (omega arith)

is_digit : (n : ℕ) → is_ascii_digit (48 + n % 10) ≡ true
is_digit n = let below : n % 10 < 10 = omega arith in grind (arith, nat_tests)

pub list_all-number : (width n : ℕ) → list_all is_ascii_digit (number width n) ≡ true
unfolding number
list_all-number zero n = refl
list_all-number (suc width) n =
    list_all-append is_ascii_digit (number width (n / 10)) ((48 + n % 10) ∷ []) ∙ rw (list_all-number width (n / 10), is_digit n)

pub digits_value-number : (width n : ℕ) → n < 10 ^ width → digits_value 10 (number width n) ≡ n
unfolding number
digits_value-number zero n h = omega arith
digits_value-number (suc width) n h =
    let power = 10 ^ width in
    let front = digits_value-number width (n / 10) (omega (arith, pow-suc 10 width)) in
    let digit = digit_value_digit (48 + n % 10) (omega arith, omega arith) in
    digits_value_push 10 (number width (n / 10)) (48 + n % 10) ∙ omega arith

number-after : (width value : ℕ) (digits : List ℕ) → list_all is_ascii_digit digits ≡ true → number (width + length digits) (digits_value_after 10 value digits) ≡ number width value ++ digits
unfolding number
number-after width value [] all =
    let none : width + 0 ≡ width = omega arith in
    rw (none, append-nil (number width value))
number-after width value (digit ∷ digits) all =
    let parts = both_true (is_ascii_digit digit) (list_all is_ascii_digit digits) all in
    let worth = digit_value_digit digit (digit_range digit parts.0) in
    let range = digit_range digit parts.0 in
    let more = value * 10 + digit_value digit in
    let front : more / 10 ≡ value = omega arith in
    let last : 48 + more % 10 ≡ digit = omega arith in
    let wide : width + suc (length digits) ≡ suc width + length digits = omega arith in
    let step : number (suc width) more ≡ number width value ++ digit ∷ [] = rw (front, last) in
    ap (λ (w : ℕ). number w (digits_value_after 10 more digits)) wide ∙ number-after (suc width) more digits parts.1 ∙ rw step (append_assoc (number width value) (digit ∷ []) digits)

pub number-digits_value : (digits : List ℕ) → list_all is_ascii_digit digits ≡ true → number (length digits) (digits_value 10 digits) ≡ digits
unfolding number
number-digits_value digits all =
    let all_of_them : length digits ≡ 0 + length digits = omega arith in
    ap (λ (w : ℕ). number w (digits_value 10 digits)) all_of_them ∙ number-after 0 0 digits all

-- ---- a number at the front of a text

-- the parts of a text: its front, and the rest
pub record TakesNumber (width : ℕ) (text : List ℕ) (n : ℕ) (rest : List ℕ) : Type 0 where
  pub parts : text ≡ number width n ++ rest
  pub below : n < 10 ^ width

digits_value-below : (digits : List ℕ) → list_all is_ascii_digit digits ≡ true → digits_value 10 digits < 10 ^ length digits
digits_value-below digits all = digits_value-lt 10 digits (AllDigits_of digits all)

pub number_takes : (width : ℕ) (text : List ℕ) (n : ℕ) (rest : List ℕ) → number_at width text ≡ Some (n, rest) → TakesNumber width text n rest
unfolding number_at
number_takes width text n rest e =
    let front = take width text in
    let taken = cond_some (nat_le width (length text) && list_all is_ascii_digit front) (digits_value 10 front, drop width text) (n, rest) e in
    let tests = both_true (nat_le width (length text)) (list_all is_ascii_digit front) taken.0 in
    let long : width ≤ length text = at_least width (length text) tests.0 in
    let len : length front ≡ width = length-take-le width text long in
    let value : digits_value 10 front ≡ n = ap (λ (p : ℕ × List ℕ). p.0) taken.1 in
    let after : drop width text ≡ rest = ap (λ (p : ℕ × List ℕ). p.1) taken.1 in
    let spelled : number width n ≡ front = rw (len, value) at (number-digits_value front tests.1) in
    let below = rw (len, value) at (digits_value-below front tests.1) in
    record { parts = rw (spelled, ← after) (sym (take-append-drop width text)); below = below }

pub number_again : (width n : ℕ) (rest : List ℕ) → n < 10 ^ width → number_at width (number width n ++ rest) ≡ Some (n, rest)
unfolding number_at
number_again width n rest below =
    let len = length-number width n in
    let front = take_at (number width n) rest width len in
    let back = drop_at (number width n) rest width len in
    let long : nat_le width (length (number width n ++ rest)) ≡ true = reaches width (length (number width n ++ rest)) (omega (arith, length-append (number width n) rest)) in
    rw (front, back, long, list_all-number width n, digits_value-number width n below)
