-- Which texts name a time, and which: RFC 3339 without leap seconds, with at most nine decimal places, from
-- 1970-01-01T00:00:00Z on, and so long that a mount can show it.
use Rattle.std.specs.Prelude.{◌≡◌, ℕ, ◌+◌, ◌-◌, ◌*◌, ◌^◌, ◌<◌, ◌≤◌, ◌⊎◌, List, ◌∷◌, ◌++◌, ℤ, pos, neg_ℤ, ◌+ℤ◌, ◌-ℤ◌, ◌*ℤ◌}
use Rattle.jiff_core.specs.Calendar.{IsCivilDate, days_from_civil}
use Rattle.file_metadata.specs.FileMetadata.{last_second}
use Rattle.mtime_text.specs.Spelling.{capital_t, small_t, capital_z, small_z, Offset, zulu, ahead, behind, date_text, clock_text, fraction_text, offset_text}

-- What a text says: a date, the letter before the clock, the clock, so many decimal places of the second
-- and the number that they write, and the offset from UTC.
pub record Parts : Type 0 where
  pub year : ℕ
  pub month : ℕ
  pub day : ℕ
  pub mark : ℕ
  pub hour : ℕ
  pub minute : ℕ
  pub second : ℕ
  pub places : ℕ
  pub fraction : ℕ
  pub offset : Offset

-- date-time
abbrev pub time_spelling : Parts → List ℕ
time_spelling p =
    date_text p.year p.month p.day
    ++ p.mark ∷ clock_text p.hour p.minute p.second
    ++ fraction_text p.places p.fraction
    ++ offset_text p.offset

-- The letter `Z`, or less than 24 hours of 60 minutes.
abbrev pub IsOffset : Offset → Type 0
IsOffset (zulu letter) = (letter ≡ capital_z) ⊎ (letter ≡ small_z)
IsOffset (ahead hours minutes) = (hours < 24) × (minutes < 60)
IsOffset (behind hours minutes) = (hours < 24) × (minutes < 60)

-- The calendar has the date, and a clock with no leap seconds shows the time.
pub record AreParts (p : Parts) : Type 0 where
  pub date : IsCivilDate (pos p.year) p.month p.day
  pub mark : (p.mark ≡ capital_t) ⊎ (p.mark ≡ small_t)
  pub hour : p.hour < 24
  pub minute : p.minute < 60
  pub second : p.second < 60
  pub places : p.places ≤ 9
  pub fraction : p.fraction < 10 ^ p.places
  pub offset : IsOffset p.offset

-- How many seconds a clock at this offset is ahead of UTC.
abbrev pub seconds_ahead : Offset → ℤ
seconds_ahead (zulu letter) = pos 0
seconds_ahead (ahead hours minutes) = pos (hours * 3600 + minutes * 60)
seconds_ahead (behind hours minutes) = neg_ℤ (pos (hours * 3600 + minutes * 60))

-- The seconds since 1970-01-01T00:00:00Z, where each day has 86,400.
abbrev pub utc_second_of : Parts → ℤ
utc_second_of p =
    days_from_civil (pos p.year) p.month p.day *ℤ pos 86_400
    +ℤ pos (p.hour * 3600 + p.minute * 60 + p.second)
    -ℤ seconds_ahead p.offset

-- The nanoseconds past that second.
abbrev pub nanos_of : Parts → ℕ
nanos_of p = p.fraction * 10 ^ (9 - p.places)

-- The text names this second and nanosecond.
pub record IsMtimeText (text : List ℕ) (second nanos : ℕ) : Type 0 where
  pub parts : Parts
  pub valid : AreParts parts
  pub spelled : text ≡ time_spelling parts
  pub second_is : utc_second_of parts ≡ pos second
  pub nanos_is : nanos_of parts ≡ nanos
  pub in_range : second ≤ last_second
