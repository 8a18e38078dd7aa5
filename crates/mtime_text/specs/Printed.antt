-- The text that is printed for a second and a nanosecond: in UTC, with nine decimals and `Z`.
use Rattle.std.specs.Prelude.{ℕ, zero, suc, ◌+◌, ◌/◌, ◌%◌, Bool, if◌then◌else◌, pos, ◌-ℤ◌, unsigned_abs, int_le, List}
use Rattle.jiff_core.specs.Calendar.{days_from_civil}
use Rattle.mtime_text.specs.Spelling.{capital_t, capital_z, zulu}
use Rattle.mtime_text.specs.Grammar.{Parts, time_spelling}

-- The last number up to `most` that passes the test, or 0.
unfoldable pub last_that : (ℕ → Bool) → ℕ → ℕ
last_that test zero = 0
last_that test (suc most) = if test (suc most) then suc most else last_that test most

-- The date of a day that is numbered from 1970-01-01: the last year that has begun by that day, the last
-- month of it that has begun, and the place in that month, from 1.
unfoldable pub year_of : ℕ → ℕ
year_of day = last_that (λ year. int_le (days_from_civil (pos year) 1 1) (pos day)) 9999

unfoldable pub month_of : ℕ → ℕ
month_of day = last_that (λ month. int_le (days_from_civil (pos (year_of day)) month 1) (pos day)) 12

unfoldable pub day_of : ℕ → ℕ
day_of day = unsigned_abs (pos day -ℤ days_from_civil (pos (year_of day)) (month_of day) 1) + 1

-- The parts that are printed.
abbrev pub utc_parts : ℕ → ℕ → Parts
utc_parts second nanos = record {
  year = year_of (second / 86_400);
  month = month_of (second / 86_400);
  day = day_of (second / 86_400);
  mark = capital_t;
  hour = second % 86_400 / 3600;
  minute = second % 3600 / 60;
  second = second % 60;
  places = 9;
  fraction = nanos;
  offset = zulu capital_z;
}

-- `YYYY-MM-DDTHH:MM:SS.nnnnnnnnnZ`
unfoldable pub printed_text : ℕ → ℕ → List ℕ
printed_text second nanos = time_spelling (utc_parts second nanos)
