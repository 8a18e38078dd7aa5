-- The same of the fraction of a second and of the offset from UTC.
use Rattle.std.proofs.Common.{◌≡◌, ℕ, zero, suc, ◌+◌, ◌-◌, ◌*◌, ◌^◌, ◌<◌, ◌≤◌, ◌⊎◌, inl, inr, true, false, ◌&&◌, ◌==◌, cond, nat_lt, nat_le, Some, None, List, [], ◌∷◌, ◌++◌, length, refl, sym, ap, ◌∙◌, append_assoc, arith, ℤ, pos, neg_ℤ}
use Rattle.std.specs.Prelude.{option_map}
use Rattle.std.specs.List.{list_all, prefix_len}
use Rattle.std.specs.Char.{is_ascii_digit}
use Rattle.std.proofs.lemmas.Option.{cond_some}
use Rattle.std.proofs.lemmas.Bool.Decides.{nat_tests}
use Rattle.base_laws.proofs.Options.{same_some, when_true}
use Rattle.base_laws.proofs.Tests.{both_true}
use Rattle.mtime_text.specs.Spelling.{colon, dot, plus, dash, capital_z, small_z, Offset, zulu, ahead, behind, number, fraction_text, offset_text}
use Rattle.mtime_text.specs.Grammar.{IsOffset, seconds_ahead}
use Rattle.mtime_text.specs.Reading.{◌>>=◌, is_zulu, number_at, number_after, places_at, fraction_at, hours_at, offset_at}
use Rattle.mtime_text.proofs.DigitLemmas.{list_all-number, length-number, number_takes, number_again}
use Rattle.mtime_text.proofs.StepLemmas.{bind_some, map_some, chosen, same_byte, below, is_below, number_after_takes, number_after_again}

-- ---- fractions

pub record TakesFraction (text : List ℕ) (read : ℕ × List ℕ) : Type 0 where
  pub places : ℕ
  pub fraction : ℕ
  pub places_in : places ≤ 9
  pub fraction_in : fraction < 10 ^ places
  pub nanos_are : fraction * 10 ^ (9 - places) ≡ read.0
  pub parts : text ≡ fraction_text places fraction ++ read.1

fraction_text_some : (places fraction : ℕ) → 1 ≤ places → fraction_text places fraction ≡ dot ∷ number places fraction
unfolding fraction_text
fraction_text_some zero fraction h = absurd (omega arith)
fraction_text_some (suc places) fraction h = refl

in_places : (places : ℕ) → (nat_le 1 places && nat_le places 9) ≡ true → (1 ≤ places) × (places ≤ 9)
in_places places e = grind (arith, nat_tests)

are_places : (places : ℕ) → (1 ≤ places) × (places ≤ 9) → (nat_le 1 places && nat_le places 9) ≡ true
are_places places h = grind (arith, nat_tests)

places_takes : (byte : ℕ) (bytes : List ℕ) (read : ℕ × List ℕ) → byte ≡ dot → places_at bytes ≡ Some read → TakesFraction (byte ∷ bytes) read
unfolding places_at
places_takes byte bytes read is e =
    let places = prefix_len is_ascii_digit bytes in
    let (wide, e₁) = when_true (nat_le 1 places && nat_le places 9) (option_map (λ p. (p.0 * 10 ^ (9 - places), p.1)) (number_at places bytes)) read e in
    let (found, read_number, same) = map_some (number_at places bytes) (λ p. (p.0 * 10 ^ (9 - places), p.1)) read e₁ in
    let taken = number_takes places bytes found.0 found.1 read_number in
    let range = in_places places wide in
    let spelled : byte ∷ bytes ≡ fraction_text places found.0 ++ found.1 = rw (fraction_text_some places found.0 range.0, is) (ap (λ (bs : List ℕ). dot ∷ bs) taken.parts) in
    record {
      places = places;
      fraction = found.0;
      places_in = range.1;
      fraction_in = taken.below;
      nanos_are = ap (λ (p : ℕ × List ℕ). p.0) same;
      parts = spelled ∙ ap (λ (p : ℕ × List ℕ). fraction_text places found.0 ++ p.1) same;
    }

no_fraction : (text : List ℕ) (read : ℕ × List ℕ) → (0, text) ≡ read → TakesFraction text read
unfolding fraction_text
no_fraction text read same = record {
  places = 0;
  fraction = 0;
  places_in = omega arith;
  fraction_in = omega arith;
  nanos_are = ap (λ (p : ℕ × List ℕ). p.0) same;
  parts = ap (λ (p : ℕ × List ℕ). p.1) same;
}

pub fraction_takes : (text : List ℕ) (read : ℕ × List ℕ) → fraction_at text ≡ Some read → TakesFraction text read
unfolding fraction_at
fraction_takes [] read e = no_fraction [] read (same_some (0, []) read e)
fraction_takes (byte ∷ bytes) read e =
    elim (chosen (byte == dot) (places_at bytes) (Some (0, byte ∷ bytes)) (Some read) e) [
      | inl (is, e₁) ↦ places_takes byte bytes read (same_byte byte dot is) e₁
      | inr (other, e₁) ↦ no_fraction (byte ∷ bytes) read (same_some (0, byte ∷ bytes) read e₁)
    ]

-- the digits end where another byte stands
digits_end : (digits : List ℕ) (byte : ℕ) (rest : List ℕ) → list_all is_ascii_digit digits ≡ true → is_ascii_digit byte ≡ false → prefix_len is_ascii_digit (digits ++ byte ∷ rest) ≡ length digits
digits_end [] byte rest all other = rw other
digits_end (digit ∷ digits) byte rest all other =
    let parts = both_true (is_ascii_digit digit) (list_all is_ascii_digit digits) all in
    rw (parts.0, digits_end digits byte rest parts.1 other) (omega arith)

pub fraction_again : (places fraction byte : ℕ) (rest : List ℕ) → places ≤ 9 → fraction < 10 ^ places → is_ascii_digit byte ≡ false → (byte == dot) ≡ false
    → fraction_at (fraction_text places fraction ++ byte ∷ rest) ≡ Some (fraction * 10 ^ (9 - places), byte ∷ rest)
unfolding fraction_at fraction_text places_at
fraction_again zero fraction byte rest le below other point =
    let none : fraction ≡ 0 = omega arith in
    rw (point, none)
fraction_again (suc more) fraction byte rest le below other point =
    let places = suc more in
    let len = digits_end (number places fraction) byte rest (list_all-number places fraction) other ∙ length-number places fraction in
    rw (len, are_places places (omega arith, le), number_again places fraction (byte ∷ rest) below)

-- ---- offsets

pub record TakesHours (text : List ℕ) (read : ℕ × List ℕ) : Type 0 where
  pub hours : ℕ
  pub minutes : ℕ
  pub hours_in : hours < 24
  pub minutes_in : minutes < 60
  pub seconds_are : hours * 3600 + minutes * 60 ≡ read.0
  pub parts : text ≡ number 2 hours ++ colon ∷ number 2 minutes ++ read.1

pub hours_takes : (text : List ℕ) (read : ℕ × List ℕ) → hours_at text ≡ Some read → TakesHours text read
unfolding hours_at
hours_takes text read e =
    let (hours, read_hours, e₁) = bind_some (number_at 2 text) (λ hours. number_after colon 2 hours.1 >>= λ minutes. cond (nat_lt hours.0 24 && nat_lt minutes.0 60) (Some (hours.0 * 3600 + minutes.0 * 60, minutes.1)) None) read e in
    let (minutes, read_minutes, e₂) = bind_some (number_after colon 2 hours.1) (λ minutes. cond (nat_lt hours.0 24 && nat_lt minutes.0 60) (Some (hours.0 * 3600 + minutes.0 * 60, minutes.1)) None) read e₁ in
    let (valid, same) = cond_some (nat_lt hours.0 24 && nat_lt minutes.0 60) (hours.0 * 3600 + minutes.0 * 60, minutes.1) read e₂ in
    let tests = both_true (nat_lt hours.0 24) (nat_lt minutes.0 60) valid in
    let hours_taken = number_takes 2 text hours.0 hours.1 read_hours in
    let minutes_taken = number_after_takes colon 2 hours.1 minutes.0 minutes.1 read_minutes in
    let spelled : text ≡ number 2 hours.0 ++ colon ∷ number 2 minutes.0 ++ minutes.1 =
    hours_taken.parts ∙ ap (λ (bs : List ℕ). number 2 hours.0 ++ bs) minutes_taken.parts ∙ sym (append_assoc (number 2 hours.0) (colon ∷ number 2 minutes.0) minutes.1) in
    record {
      hours = hours.0;
      minutes = minutes.0;
      hours_in = below hours.0 24 tests.0;
      minutes_in = below minutes.0 60 tests.1;
      seconds_are = ap (λ (p : ℕ × List ℕ). p.0) same;
      parts = spelled ∙ ap (λ (p : ℕ × List ℕ). number 2 hours.0 ++ colon ∷ number 2 minutes.0 ++ p.1) same;
    }

hours_again : (hours minutes : ℕ) (rest : List ℕ) → hours < 24 → minutes < 60 → hours_at (number 2 hours ++ colon ∷ number 2 minutes ++ rest) ≡ Some (hours * 3600 + minutes * 60, rest)
unfolding hours_at
hours_again hours minutes rest hours_in minutes_in =
    let regrouped : number 2 hours ++ colon ∷ number 2 minutes ++ rest ≡ number 2 hours ++ (colon ∷ (number 2 minutes ++ rest)) = append_assoc (number 2 hours) (colon ∷ number 2 minutes) rest in
    rw (regrouped, number_again 2 hours (colon ∷ (number 2 minutes ++ rest)) (omega arith), number_after_again colon 2 minutes rest (omega arith), is_below hours 24 hours_in, is_below minutes 60 minutes_in)

pub record TakesOffset (text : List ℕ) (read : ℤ × List ℕ) : Type 0 where
  pub offset : Offset
  pub valid : IsOffset offset
  pub seconds_are : seconds_ahead offset ≡ read.0
  pub parts : text ≡ offset_text offset ++ read.1

zulu_letter : (byte : ℕ) → is_zulu byte ≡ true → (byte ≡ capital_z) ⊎ (byte ≡ small_z)
zulu_letter byte e = grind (arith, nat_tests)

letter_zulu : (byte : ℕ) → (byte ≡ capital_z) ⊎ (byte ≡ small_z) → is_zulu byte ≡ true
letter_zulu byte (inl e) = rw e
letter_zulu byte (inr e) = rw e

takes_zulu : (byte : ℕ) (bytes : List ℕ) (read : ℤ × List ℕ) → is_zulu byte ≡ true → Some (pos 0, bytes) ≡ Some read → TakesOffset (byte ∷ bytes) read
unfolding offset_text
takes_zulu byte bytes read is e =
    let same = same_some (pos 0, bytes) read e in
    record {
      offset = zulu byte;
      valid = zulu_letter byte is;
      seconds_are = ap (λ (p : ℤ × List ℕ). p.0) same;
      parts = ap (λ (p : ℤ × List ℕ). byte ∷ p.1) same;
    }

takes_ahead : (byte : ℕ) (bytes : List ℕ) (read : ℤ × List ℕ) → byte ≡ plus → option_map (λ p. (pos p.0, p.1)) (hours_at bytes) ≡ Some read → TakesOffset (byte ∷ bytes) read
unfolding offset_text
takes_ahead byte bytes read is e =
    let (found, read_hours, same) = map_some (hours_at bytes) (λ p. (pos p.0, p.1)) read e in
    let h = hours_takes bytes found read_hours in
    let spelled : byte ∷ bytes ≡ (plus ∷ number 2 h.hours ++ colon ∷ number 2 h.minutes) ++ found.1 = rw is (ap (λ (bs : List ℕ). plus ∷ bs) h.parts) in
    record {
      offset = ahead h.hours h.minutes;
      valid = (h.hours_in, h.minutes_in);
      seconds_are = ap pos h.seconds_are ∙ ap (λ (p : ℤ × List ℕ). p.0) same;
      parts = spelled ∙ ap (λ (p : ℤ × List ℕ). (plus ∷ number 2 h.hours ++ colon ∷ number 2 h.minutes) ++ p.1) same;
    }

takes_behind : (byte : ℕ) (bytes : List ℕ) (read : ℤ × List ℕ) → byte ≡ dash → option_map (λ p. (neg_ℤ (pos p.0), p.1)) (hours_at bytes) ≡ Some read → TakesOffset (byte ∷ bytes) read
unfolding offset_text
takes_behind byte bytes read is e =
    let (found, read_hours, same) = map_some (hours_at bytes) (λ p. (neg_ℤ (pos p.0), p.1)) read e in
    let h = hours_takes bytes found read_hours in
    let spelled : byte ∷ bytes ≡ (dash ∷ number 2 h.hours ++ colon ∷ number 2 h.minutes) ++ found.1 = rw is (ap (λ (bs : List ℕ). dash ∷ bs) h.parts) in
    record {
      offset = behind h.hours h.minutes;
      valid = (h.hours_in, h.minutes_in);
      seconds_are = ap (λ (n : ℕ). neg_ℤ (pos n)) h.seconds_are ∙ ap (λ (p : ℤ × List ℕ). p.0) same;
      parts = spelled ∙ ap (λ (p : ℤ × List ℕ). (dash ∷ number 2 h.hours ++ colon ∷ number 2 h.minutes) ++ p.1) same;
    }

takes_sign : (byte : ℕ) (bytes : List ℕ) (read : ℤ × List ℕ)
    → cond (byte == plus) (option_map (λ p. (pos p.0, p.1)) (hours_at bytes)) (cond (byte == dash) (option_map (λ p. (neg_ℤ (pos p.0), p.1)) (hours_at bytes)) None) ≡ Some read
    → TakesOffset (byte ∷ bytes) read
takes_sign byte bytes read e =
    elim (chosen (byte == plus) (option_map (λ p. (pos p.0, p.1)) (hours_at bytes)) (cond (byte == dash) (option_map (λ p. (neg_ℤ (pos p.0), p.1)) (hours_at bytes)) None) (Some read) e) [
      | inl (is, e₁) ↦ takes_ahead byte bytes read (same_byte byte plus is) e₁
      | inr (other, e₁) ↦
          let (is, e₂) = when_true (byte == dash) (option_map (λ p. (neg_ℤ (pos p.0), p.1)) (hours_at bytes)) read e₁ in
          takes_behind byte bytes read (same_byte byte dash is) e₂
    ]

pub offset_takes : (text : List ℕ) (read : ℤ × List ℕ) → offset_at text ≡ Some read → TakesOffset text read
unfolding offset_at
offset_takes [] read e = absurd cc
offset_takes (byte ∷ bytes) read e =
    elim (chosen (is_zulu byte) (Some (pos 0, bytes)) (cond (byte == plus) (option_map (λ p. (pos p.0, p.1)) (hours_at bytes)) (cond (byte == dash) (option_map (λ p. (neg_ℤ (pos p.0), p.1)) (hours_at bytes)) None)) (Some read) e) [
      | inl (is, e₁) ↦ takes_zulu byte bytes read is e₁
      | inr (other, e₁) ↦ takes_sign byte bytes read e₁
    ]

pub offset_again : (offset : Offset) (rest : List ℕ) → IsOffset offset → offset_at (offset_text offset ++ rest) ≡ Some (seconds_ahead offset, rest)
unfolding offset_at offset_text
offset_again (zulu letter) rest valid = rw (letter_zulu letter valid)
offset_again (ahead hours minutes) rest valid = rw (hours_again hours minutes rest valid.0 valid.1)
offset_again (behind hours minutes) rest valid = rw (hours_again hours minutes rest valid.0 valid.1)

-- the first byte of an offset is neither a digit nor a point
pub record BeginsOffset (offset : Offset) : Type 0 where
  pub first : ℕ
  pub others : List ℕ
  pub text_is : offset_text offset ≡ first ∷ others
  pub no_digit : is_ascii_digit first ≡ false
  pub no_point : (first == dot) ≡ false

pub begins_offset : (offset : Offset) → IsOffset offset → BeginsOffset offset
unfolding offset_text
begins_offset (zulu letter) (inl e) = record { first = letter; others = []; text_is = refl; no_digit = rw e; no_point = rw e }
begins_offset (zulu letter) (inr e) = record { first = letter; others = []; text_is = refl; no_digit = rw e; no_point = rw e }
begins_offset (ahead hours minutes) valid = record { first = plus; others = number 2 hours ++ colon ∷ number 2 minutes; text_is = refl; no_digit = refl; no_point = refl }
begins_offset (behind hours minutes) valid = record { first = dash; others = number 2 hours ++ colon ∷ number 2 minutes; text_is = refl; no_digit = refl; no_point = refl }
