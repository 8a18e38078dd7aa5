-- The time that a text names, read from left to right.
use Rattle.std.specs.Prelude.{ℕ, ◌+◌, ◌-◌, ◌*◌, ◌^◌, Bool, ◌&&◌, ◌||◌, ◌==◌, nat_lt, nat_le, if◌then◌else◌, ℤ, pos, neg_ℤ, ◌+ℤ◌, ◌-ℤ◌, ◌*ℤ◌, unsigned_abs, int_le, List, [], ◌∷◌, length, take, drop, Option, Some, None, option_map, option_and_then}
use Rattle.std.specs.List.{prefix_len, list_all}
use Rattle.std.specs.Char.{is_ascii_digit}
use Rattle.std.specs.Str.Parse.{digits_value}
use Rattle.jiff_core.specs.Calendar.{days_in_month, days_from_civil}
use Rattle.mtime_text.specs.Spelling.{dash, colon, dot, plus, capital_t, small_t, capital_z, small_z}
use Rattle.file_metadata.specs.FileMetadata.{last_second}

-- A value, and the bytes after it.
abbrev pub Read : Type 0 → Type 0
Read A = Option (A × List ℕ)

infixl 10 ◌>>=◌
abbrev pub ◌>>=◌ : {A B : Type 0} → Option A → (A → Option B) → Option B
o >>= f = option_and_then f o

-- What follows a byte that passes the test.
abbrev pub after_byte : (ℕ → Bool) → List ℕ → Option (List ℕ)
after_byte test [] = None
after_byte test (byte ∷ rest) = if test byte then Some rest else None

abbrev pub is_time_mark : ℕ → Bool
is_time_mark byte = byte == capital_t || byte == small_t

abbrev pub is_zulu : ℕ → Bool
is_zulu byte = byte == capital_z || byte == small_z

-- A number of exactly so many digits.
unfoldable pub number_at : ℕ → List ℕ → Read ℕ
number_at width text =
    if nat_le width (length text) && list_all is_ascii_digit (take width text)
    then Some (digits_value 10 (take width text), drop width text)
    else None

-- The same behind this byte.
abbrev pub number_after : ℕ → ℕ → List ℕ → Read ℕ
number_after byte width text = after_byte (◌==◌ byte) text >>= number_at width

-- A day of the calendar.
abbrev pub is_date : ℕ → ℕ → ℕ → Bool
is_date year month day =
    (nat_le 1 month && nat_le month 12) && (nat_le 1 day && nat_le day (days_in_month (pos year) month))

-- full-date, as the day's number from 1970-01-01
unfoldable pub date_at : List ℕ → Read ℤ
date_at text = do
  year ← number_at 4 text
  month ← number_after dash 2 year.1
  day ← number_after dash 2 month.1
  if is_date year.0 month.0 day.0 then Some (days_from_civil (pos year.0) month.0 day.0, day.1) else None

-- `HH:MM:SS`, as the second of the day
unfoldable pub clock_at : List ℕ → Read ℕ
clock_at text = do
  hour ← number_at 2 text
  minute ← number_after colon 2 hour.1
  second ← number_after colon 2 minute.1
  if nat_lt hour.0 24 && (nat_lt minute.0 60 && nat_lt second.0 60)
      then Some (hour.0 * 3600 + minute.0 * 60 + second.0, second.1)
      else None

-- One to nine decimal places, as nanoseconds.
unfoldable pub places_at : List ℕ → Read ℕ
places_at text =
    let places = prefix_len is_ascii_digit text in
    if nat_le 1 places && nat_le places 9
    then option_map (λ p. (p.0 * 10 ^ (9 - places), p.1)) (number_at places text)
    else None

-- time-secfrac, where there is one, as nanoseconds
unfoldable pub fraction_at : List ℕ → Read ℕ
fraction_at [] = Some (0, [])
fraction_at (byte ∷ rest) = if byte == dot then places_at rest else Some (0, byte ∷ rest)

-- Hours and minutes, in seconds.
unfoldable pub hours_at : List ℕ → Read ℕ
hours_at text = do
  hours ← number_at 2 text
  minutes ← number_after colon 2 hours.1
  if nat_lt hours.0 24 && nat_lt minutes.0 60 then Some (hours.0 * 3600 + minutes.0 * 60, minutes.1) else None

-- time-offset, as the seconds that a clock there is ahead of UTC
unfoldable pub offset_at : List ℕ → Read ℤ
offset_at [] = None
offset_at (byte ∷ rest) =
    if is_zulu byte then Some (pos 0, rest)
    else if byte == plus then option_map (λ p. (pos p.0, p.1)) (hours_at rest)
    else if byte == dash then option_map (λ p. (neg_ℤ (pos p.0), p.1)) (hours_at rest)
    else None

-- A second in range, and the nanoseconds past it.
unfoldable pub in_range : ℤ → ℕ → Option (ℕ × ℕ)
in_range second nanos =
    if int_le (pos 0) second && int_le second (pos last_second) then Some (unsigned_abs second, nanos) else None

-- The time, where no byte is left after it.
abbrev pub whole : ℤ → ℕ → List ℕ → Option (ℕ × ℕ)
whole second nanos [] = in_range second nanos
whole second nanos (byte ∷ rest) = None

-- The second and nanosecond that a text names.
unfoldable pub mtime_of : List ℕ → Option (ℕ × ℕ)
mtime_of text = do
  day ← date_at text
  clock ← after_byte is_time_mark day.1 >>= clock_at
  nanos ← fraction_at clock.1
  offset ← offset_at nanos.1
  whole (day.0 *ℤ pos 86_400 +ℤ pos clock.0 -ℤ offset.0) nanos.0 offset.1
