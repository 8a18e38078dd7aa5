-- Days of the calendar: the test of a date, and the date of a day.
use Rattle.std.proofs.Common.{◌≡◌, ℕ, ◌<◌, ◌≤◌, true, ◌&&◌, nat_le, arith, pos}
use Rattle.std.proofs.lemmas.Bool.Decides.{nat_tests}
use Rattle.jiff_core.specs.Calendar.{IsDate, IsCivilDate, IsBetween, days_in_month}
use Rattle.jiff_core.proofs.SignedLemmas.{signed_arith}
use Rattle.mtime_text.specs.Reading.{is_date}

between : (low high n : ℕ) → IsBetween (pos low) (pos high) (pos n) → (low ≤ n) × (n ≤ high)
between low high n h = (omega (arith, signed_arith), omega (arith, signed_arith))

date_test : (month day length : ℕ) → (1 ≤ month) × (month ≤ 12) → (1 ≤ day) × (day ≤ length) → ((nat_le 1 month && nat_le month 12) && (nat_le 1 day && nat_le day length)) ≡ true
date_test month day length in_year in_month = grind (arith, nat_tests)

-- a date that the calendar has passes the test
pub is_date-true : (year month day : ℕ) → IsDate (pos year) (pos month) (pos day) → is_date year month day ≡ true
is_date-true year month day h =
    date_test month day (days_in_month (pos year) month) (between 1 12 month h.1) (between 1 (days_in_month (pos year) month) day h.2)

pub civil-is_date : (year month day : ℕ) → IsCivilDate (pos year) month day → is_date year month day ≡ true
civil-is_date year month day h = date_test month day (days_in_month (pos year) month) h.1 h.2

tested_date : (month day length : ℕ) → ((nat_le 1 month && nat_le month 12) && (nat_le 1 day && nat_le day length)) ≡ true → ((1 ≤ month) × (month ≤ 12)) × ((1 ≤ day) × (day ≤ length))
tested_date month day length e = (grind (arith, nat_tests), grind (arith, nat_tests))

-- and a date that passes is one that the calendar has
pub is_date-civil : (year month day : ℕ) → year < 10_000 → is_date year month day ≡ true → IsCivilDate (pos year) month day
is_date-civil year month day small e =
    let parts = tested_date month day (days_in_month (pos year) month) e in
    ((omega (arith, signed_arith), omega (arith, signed_arith)), parts.0, parts.1)
