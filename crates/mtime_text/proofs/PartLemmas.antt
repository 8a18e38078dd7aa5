-- Each part that is read is spelled so, and each part that is spelled is read.
use Rattle.std.proofs.Common.{◌≡◌, ℕ, ◌+◌, ◌*◌, ◌^◌, ◌<◌, ◌&&◌, cond, nat_lt, Some, None, List, ◌∷◌, ◌++◌, ap, ◌∙◌, append_assoc, arith, ℤ, pos}
use Rattle.std.proofs.lemmas.Option.{cond_some}
use Rattle.jiff_core.specs.Calendar.{IsCivilDate, days_from_civil}
use Rattle.jiff_core.proofs.CalendarLemmas.{days_in_month_bounds}
use Rattle.jiff_core.proofs.SignedLemmas.{signed_arith}
use Rattle.base_laws.proofs.Tests.{both_true}
use Rattle.mtime_text.specs.Spelling.{dash, colon, number, date_text, clock_text}
use Rattle.mtime_text.specs.Reading.{◌>>=◌, number_at, number_after, is_date, date_at, clock_at}
use Rattle.mtime_text.proofs.DigitLemmas.{number_takes, number_again}
use Rattle.mtime_text.proofs.DateLemmas.{is_date-civil, civil-is_date}
use Rattle.mtime_text.proofs.StepLemmas.{bind_some, below, is_below, number_after_takes, number_after_again}

joined : (text x a y b z rest : List ℕ) → text ≡ x ++ a → a ≡ y ++ b → b ≡ z ++ rest → text ≡ (x ++ y ++ z) ++ rest
joined text x a y b z rest h₀ h₁ h₂ = rw (h₀, h₁, h₂) (simp append_assoc)

-- the same text, whose rest has another name
pub with_rest : (text front a b : List ℕ) → text ≡ front ++ a → a ≡ b → text ≡ front ++ b
with_rest text front a b h e = h ∙ ap (λ (bs : List ℕ). front ++ bs) e

-- ---- dates

pub record TakesDate (text : List ℕ) (read : ℤ × List ℕ) : Type 0 where
  pub year : ℕ
  pub month : ℕ
  pub day : ℕ
  pub valid : IsCivilDate (pos year) month day
  pub number_is : days_from_civil (pos year) month day ≡ read.0
  pub parts : text ≡ date_text year month day ++ read.1

pub date_takes : (text : List ℕ) (read : ℤ × List ℕ) → date_at text ≡ Some read → TakesDate text read
unfolding date_at date_text
date_takes text read e =
    let (year, read_year, e₁) = bind_some (number_at 4 text) (λ year. number_after dash 2 year.1 >>= λ month. number_after dash 2 month.1 >>= λ day. cond (is_date year.0 month.0 day.0) (Some (days_from_civil (pos year.0) month.0 day.0, day.1)) None) read e in
    let (month, read_month, e₂) = bind_some (number_after dash 2 year.1) (λ month. number_after dash 2 month.1 >>= λ day. cond (is_date year.0 month.0 day.0) (Some (days_from_civil (pos year.0) month.0 day.0, day.1)) None) read e₁ in
    let (day, read_day, e₃) = bind_some (number_after dash 2 month.1) (λ day. cond (is_date year.0 month.0 day.0) (Some (days_from_civil (pos year.0) month.0 day.0, day.1)) None) read e₂ in
    let (valid, same) = cond_some (is_date year.0 month.0 day.0) (days_from_civil (pos year.0) month.0 day.0, day.1) read e₃ in
    let year_taken = number_takes 4 text year.0 year.1 read_year in
    let month_taken = number_after_takes dash 2 year.1 month.0 month.1 read_month in
    let day_taken = number_after_takes dash 2 month.1 day.0 day.1 read_day in
    let parts = joined text (number 4 year.0) year.1 (dash ∷ number 2 month.0) month.1 (dash ∷ number 2 day.0) day.1 year_taken.parts month_taken.parts day_taken.parts in
    record {
      year = year.0;
      month = month.0;
      day = day.0;
      valid = is_date-civil year.0 month.0 day.0 (omega (arith, year_taken.below)) valid;
      number_is = ap (λ (p : ℤ × List ℕ). p.0) same;
      parts = with_rest text (date_text year.0 month.0 day.0) day.1 read.1 parts (ap (λ (p : ℤ × List ℕ). p.1) same);
    }

pub date_again : (year month day : ℕ) (rest : List ℕ) → IsCivilDate (pos year) month day → date_at (date_text year month day ++ rest) ≡ Some (days_from_civil (pos year) month day, rest)
unfolding date_at date_text
date_again year month day rest valid =
    let bounds = days_in_month_bounds (pos year) month in
    let regrouped : (number 4 year ++ dash ∷ number 2 month ++ dash ∷ number 2 day) ++ rest ≡ number 4 year ++ (dash ∷ (number 2 month ++ (dash ∷ (number 2 day ++ rest)))) = simp append_assoc in
    let small_year : year < 10 ^ 4 = omega (arith, signed_arith, valid.0) in
    let small_month : month < 10 ^ 2 = omega (arith, valid.1) in
    let small_day : day < 10 ^ 2 = omega (arith, valid.2, bounds) in
    rw (regrouped, number_again 4 year (dash ∷ (number 2 month ++ (dash ∷ (number 2 day ++ rest)))) small_year, number_after_again dash 2 month (dash ∷ (number 2 day ++ rest)) small_month, number_after_again dash 2 day rest small_day, civil-is_date year month day valid)

-- ---- clocks

pub record TakesClock (text : List ℕ) (read : ℕ × List ℕ) : Type 0 where
  pub hour : ℕ
  pub minute : ℕ
  pub second : ℕ
  pub hour_in : hour < 24
  pub minute_in : minute < 60
  pub second_in : second < 60
  pub seconds_are : hour * 3600 + minute * 60 + second ≡ read.0
  pub parts : text ≡ clock_text hour minute second ++ read.1

pub clock_takes : (text : List ℕ) (read : ℕ × List ℕ) → clock_at text ≡ Some read → TakesClock text read
unfolding clock_at clock_text
clock_takes text read e =
    let (hour, read_hour, e₁) = bind_some (number_at 2 text) (λ hour. number_after colon 2 hour.1 >>= λ minute. number_after colon 2 minute.1 >>= λ second. cond (nat_lt hour.0 24 && (nat_lt minute.0 60 && nat_lt second.0 60)) (Some (hour.0 * 3600 + minute.0 * 60 + second.0, second.1)) None) read e in
    let (minute, read_minute, e₂) = bind_some (number_after colon 2 hour.1) (λ minute. number_after colon 2 minute.1 >>= λ second. cond (nat_lt hour.0 24 && (nat_lt minute.0 60 && nat_lt second.0 60)) (Some (hour.0 * 3600 + minute.0 * 60 + second.0, second.1)) None) read e₁ in
    let (second, read_second, e₃) = bind_some (number_after colon 2 minute.1) (λ second. cond (nat_lt hour.0 24 && (nat_lt minute.0 60 && nat_lt second.0 60)) (Some (hour.0 * 3600 + minute.0 * 60 + second.0, second.1)) None) read e₂ in
    let (valid, same) = cond_some (nat_lt hour.0 24 && (nat_lt minute.0 60 && nat_lt second.0 60)) (hour.0 * 3600 + minute.0 * 60 + second.0, second.1) read e₃ in
    let outer = both_true (nat_lt hour.0 24) (nat_lt minute.0 60 && nat_lt second.0 60) valid in
    let inner = both_true (nat_lt minute.0 60) (nat_lt second.0 60) outer.1 in
    let hour_taken = number_takes 2 text hour.0 hour.1 read_hour in
    let minute_taken = number_after_takes colon 2 hour.1 minute.0 minute.1 read_minute in
    let second_taken = number_after_takes colon 2 minute.1 second.0 second.1 read_second in
    let parts = joined text (number 2 hour.0) hour.1 (colon ∷ number 2 minute.0) minute.1 (colon ∷ number 2 second.0) second.1 hour_taken.parts minute_taken.parts second_taken.parts in
    record {
      hour = hour.0;
      minute = minute.0;
      second = second.0;
      hour_in = below hour.0 24 outer.0;
      minute_in = below minute.0 60 inner.0;
      second_in = below second.0 60 inner.1;
      seconds_are = ap (λ (p : ℕ × List ℕ). p.0) same;
      parts = with_rest text (clock_text hour.0 minute.0 second.0) second.1 read.1 parts (ap (λ (p : ℕ × List ℕ). p.1) same);
    }

pub clock_again : (hour minute second : ℕ) (rest : List ℕ) → hour < 24 → minute < 60 → second < 60 → clock_at (clock_text hour minute second ++ rest) ≡ Some (hour * 3600 + minute * 60 + second, rest)
unfolding clock_at clock_text
clock_again hour minute second rest hour_in minute_in second_in =
    let regrouped : (number 2 hour ++ colon ∷ number 2 minute ++ colon ∷ number 2 second) ++ rest ≡ number 2 hour ++ (colon ∷ (number 2 minute ++ (colon ∷ (number 2 second ++ rest)))) = simp append_assoc in
    rw (regrouped, number_again 2 hour (colon ∷ (number 2 minute ++ (colon ∷ (number 2 second ++ rest)))) (omega arith), number_after_again colon 2 minute (colon ∷ (number 2 second ++ rest)) (omega arith), number_after_again colon 2 second rest (omega arith), is_below hour 24 hour_in, is_below minute 60 minute_in, is_below second 60 second_in)
