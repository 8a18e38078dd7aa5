-- Numbers and their decimal digits, as words.
use Rattle.std.proofs.Common.{◌≡◌, ◌≢◌, ℕ, zero, suc, ◌^◌, ◌<◌, false, List, length, get_or, refl, sym, subst, arith, Result, Ok, Err, MatchResult, MatchOption, Option}
use Rattle.std.specs.Fmt.{decimal}
use Rattle.std.specs.Result.{OkIff, result_ok}
use Rattle.std.specs.Str.Parse.{ParsesUnsigned, AllDigits, digits_value}
use Rattle.std.proofs.lemmas.Fmt.{decimal_digit, first_decimal, decimal-digits_value, parse-decimal}
use Rattle.std.proofs.lemmas.Grind.{common_steps}
use Rattle.std.proofs.lemmas.Str.Parse.{IsNumeralModel, numerals_by_value, tells_digits, parse_plain}
use Rattle.std.proofs.lemmas.Bool.Decides.{nat_tests}
use Rattle.cli_words.specs.Padded.{is_padded}

own : IsNumeralModel (AllDigits 10) (digits_value 10)
own = numerals_by_value _ tells_digits

unpadded_by : (text : List ℕ) → get_or text 0 0 ≢ 43 → (get_or text 0 0 ≡ 48 → length text ≡ 1) → is_padded text ≡ false
unpadded_by text p q = grind (arith, nat_tests, common_steps)

not_plus : (text : List ℕ) → is_padded text ≡ false → get_or text 0 0 ≢ 43
not_plus text bare = grind (arith, nat_tests, common_steps)

lone_zero : (text : List ℕ) → is_padded text ≡ false → 0 < length text → get_or text 0 0 ≡ 48 → length text ≡ 1
lone_zero text bare some h = grind (arith, nat_tests, common_steps)

-- digits alone are not padded
pub decimal_unpadded : (n : ℕ) → n < 2 ^ 64 → is_padded (decimal n) ≡ false
decimal_unpadded zero h = rw (decimal_digit 0 (omega arith)) refl
decimal_unpadded (suc n) h = let first = first_decimal (suc n) (omega arith) h in unpadded_by (decimal (suc n)) (λ e. absurd (omega arith)) (λ e. absurd (omega arith))

text_of_value : {E : Type 0} (text : List ℕ) (r : Result ℕ E) → is_padded text ≡ false
    → OkIff r (AllDigits 10 text × (0 < length text) × (digits_value 10 text < 2 ^ 64)) (digits_value 10 text)
    → ((n : ℕ) → n < 2 ^ 64 → text ≡ decimal n → r ≡ Ok n)
    → MatchResult r (λ n. (n < 2 ^ 64) × (text ≡ decimal n)) (λ _. (n : ℕ) → n < 2 ^ 64 → text ≢ decimal n)
text_of_value text (Ok v) bare ((digits, some, small), is) gives =
    subst (λ n. (n < 2 ^ 64) × (text ≡ decimal n)) (sym is)
    (small, sym (decimal-digits_value own text digits some (lone_zero text bare some) small))
text_of_value text (Err e) bare no_number gives = λ n small is. let wrong : Err e ≡ Ok n = gives n small is in cc

-- what is read of a text that is not padded
pub parsed : {E : Type 0} (text : List ℕ) (r : Result ℕ E) → ParsesUnsigned 64 10 text r → is_padded text ≡ false
    → MatchResult r (λ n. (n < 2 ^ 64) × (text ≡ decimal n)) (λ _. (n : ℕ) → n < 2 ^ 64 → text ≢ decimal n)
parsed text r h bare =
    text_of_value text r bare (parse_plain own 64 text r h (not_plus text bare)) (λ n small is. parse-decimal 64 n text r small small is h)

-- the same as an option
pub parsed_or_none : {E : Type 0} (text : List ℕ) (r : Result ℕ E) (o : Option ℕ) → o ≡ result_ok r
    → MatchResult r (λ n. (n < 2 ^ 64) × (text ≡ decimal n)) (λ _. (n : ℕ) → n < 2 ^ 64 → text ≢ decimal n)
    → MatchOption o ((n : ℕ) → n < 2 ^ 64 → text ≢ decimal n) (λ n. (n < 2 ^ 64) × (text ≡ decimal n))
parsed_or_none text (Ok v) o is h = rw is h
parsed_or_none text (Err e) o is h = rw is h
