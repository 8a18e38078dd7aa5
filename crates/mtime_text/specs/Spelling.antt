-- How the parts of a time are spelled: RFC 3339, section 5.6, in bytes.
use Rattle.std.specs.Prelude.{ℕ, zero, suc, ◌+◌, ◌/◌, ◌%◌, List, [], ◌∷◌, ◌++◌}

-- The bytes of `-`, `:`, `.` and `+`.
abbrev pub dash : ℕ
dash = 45

abbrev pub colon : ℕ
colon = 58

abbrev pub dot : ℕ
dot = 46

abbrev pub plus : ℕ
plus = 43

-- The bytes of `T`, `t`, `Z` and `z`.
abbrev pub capital_t : ℕ
capital_t = 84

abbrev pub small_t : ℕ
small_t = 116

abbrev pub capital_z : ℕ
capital_z = 90

abbrev pub small_z : ℕ
small_z = 122

-- The last `width` decimal digits of n, with leading zeros.
unfoldable pub number : ℕ → ℕ → List ℕ
number zero n = []
number (suc width) n = number width (n / 10) ++ (48 + n % 10) ∷ []

-- full-date: `YYYY-MM-DD`
unfoldable pub date_text : ℕ → ℕ → ℕ → List ℕ
date_text year month day = number 4 year ++ dash ∷ number 2 month ++ dash ∷ number 2 day

-- hours, minutes and seconds: `HH:MM:SS`
unfoldable pub clock_text : ℕ → ℕ → ℕ → List ℕ
clock_text hour minute second = number 2 hour ++ colon ∷ number 2 minute ++ colon ∷ number 2 second

-- time-secfrac: a point and so many decimal places of a second, or nothing where there are none
unfoldable pub fraction_text : ℕ → ℕ → List ℕ
fraction_text zero fraction = []
fraction_text (suc places) fraction = dot ∷ number (suc places) fraction

-- time-offset: `Z` or `z`, as the byte says, or hours and minutes ahead of UTC or behind it
pub data Offset : Type 0 where
  zulu : ℕ → Offset
  ahead : ℕ → ℕ → Offset
  behind : ℕ → ℕ → Offset

unfoldable pub offset_text : Offset → List ℕ
offset_text (zulu letter) = letter ∷ []
offset_text (ahead hours minutes) = plus ∷ number 2 hours ++ colon ∷ number 2 minutes
offset_text (behind hours minutes) = dash ∷ number 2 hours ++ colon ∷ number 2 minutes
