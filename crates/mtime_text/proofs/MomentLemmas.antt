-- The date and the clock of a moment in UTC are those that are printed for it.
use Rattle.std.proofs.Common.{◌≡◌, ℕ, zero, suc, ◌+◌, ◌-◌, ◌*◌, ◌/◌, ◌%◌, ◌<◌, ◌≤◌, inl, inr, Bool, true, false, refl, sym, ap, ◌∙◌, arith, ℤ, pos, negsuc, ◌-ℤ◌, ◌≤ℤ◌, ◌<ℤ◌}
use Rattle.std.specs.Prelude.{int_le}
use Rattle.std.proofs.lemmas.Bool.{cases_lt}
use Rattle.std.proofs.lemmas.Int.{ints}
use Rattle.jiff_core.specs.declared.civil.datetime.DateTime.{DateTime}
use Rattle.jiff_core.specs.Calendar.{IsCivilDate, days_in_month, days_from_civil}
use Rattle.jiff_core.specs.Date.{epoch_day}
use Rattle.jiff_core.specs.DateTime.{civil_nanos}
use Rattle.jiff_core.proofs.SignedLemmas.{signed_arith}
use Rattle.jiff_core.proofs.CalendarLemmas.{days_from_civil-day_count, day_count-epoch, day_count-lt_year, day_count-lt_month, day_count-day_of_year, day_count-day, days_in_month_bounds}
use Rattle.jiff_core.proofs.DateTimeLemmas.{civil_nanos-parts, time_nanos_bound}
use Rattle.jiff_core.proofs.DateLemmas.{civil, days_from_civil-day, days_from_civil-next_month, days_from_civil-next_year, days_from_civil-max}
use Rattle.mtime_text.specs.Printed.{last_that, year_of, month_of, day_of}

-- the last number that passes, where none after it does
last_that_is : (test : ℕ → Bool) (most k : ℕ) → k ≤ most → test k ≡ true → ((j : ℕ) → k < j → j ≤ most → test j ≡ false) → last_that test most ≡ k
unfolding last_that
last_that_is test zero k le passes after = omega arith
last_that_is test (suc most) k le passes after =
    elim (cases_lt k (suc most)) [
      | inl lt ↦ rw (after (suc most) lt (omega arith)) (last_that_is test most k (omega arith) passes (λ j above within. after j above (omega arith)))
      | inr ge ↦
          let same : k ≡ suc most = omega arith in
          let here : test (suc most) ≡ true = rw same at passes in
          rw here (sym same)
    ]

at_most : (a b : ℤ) → a ≤ℤ b → int_le a b ≡ true
at_most a b h = grind (arith, ints)

above : (a b : ℤ) → b <ℤ a → int_le a b ≡ false
above a b h = grind (arith, ints)

-- a day from 1970-01-01 on, by the number of its year
pub record IsDay (year month day number : ℕ) : Type 0 where
  pub valid : IsCivilDate (pos year) month day
  pub number_is : days_from_civil (pos year) month day ≡ pos number

year_begun : (year month day number : ℕ) → IsDay year month day number → days_from_civil (pos year) 1 1 ≤ℤ pos number
year_begun year month day number h =
    omega (arith, signed_arith, days_from_civil-day_count, day_count-day_of_year (pos year) month day h.valid.2.0, h.valid.2.0, h.number_is)

later_year : (year month day number later : ℕ) → IsDay year month day number → year < later → pos number <ℤ days_from_civil (pos later) 1 1
later_year year month day number later h lt =
    omega (arith, signed_arith, days_from_civil-day_count, day_count-lt_year (pos year) month day (pos later) 1 1 h.valid (omega arith) (omega (arith, signed_arith)), h.number_is)

month_begun : (year month day number : ℕ) → IsDay year month day number → days_from_civil (pos year) month 1 ≤ℤ pos number
month_begun year month day number h =
    omega (arith, signed_arith, days_from_civil-day_count, day_count-day (pos year) month day 1 h.valid.2.0 (omega arith), h.valid.2.0, h.number_is)

later_month : (year month day number later : ℕ) → IsDay year month day number → month < later → pos number <ℤ days_from_civil (pos year) later 1
later_month year month day number later h lt =
    omega (arith, signed_arith, days_from_civil-day_count, day_count-lt_month (pos year) month day later 1 h.valid (omega arith) lt, h.number_is)

pub year_of_is : (year month day number : ℕ) → IsDay year month day number → year_of number ≡ year
unfolding year_of
year_of_is year month day number h =
    last_that_is (λ y. int_le (days_from_civil (pos y) 1 1) (pos number)) 9999 year (omega (arith, signed_arith, h.valid.0))
    (at_most _ _ (year_begun year month day number h))
    (λ j lt within. above _ _ (later_year year month day number j h lt))

pub month_of_is : (year month day number : ℕ) → IsDay year month day number → month_of number ≡ month
unfolding month_of
month_of_is year month day number h =
    rw (year_of_is year month day number h) (last_that_is (λ m. int_le (days_from_civil (pos year) m 1) (pos number)) 12 month h.valid.1.1
    (at_most _ _ (month_begun year month day number h))
    (λ j lt within. above _ _ (later_month year month day number j h lt)))

pub day_of_is : (year month day number : ℕ) → IsDay year month day number → day_of number ≡ day
unfolding day_of
day_of_is year month day number h =
    let past : pos number -ℤ days_from_civil (pos year) month 1 ≡ pos (day - 1) =
    omega (arith, signed_arith, days_from_civil-day_count, day_count-day (pos year) month day 1 h.valid.2.0 (omega arith), h.valid.2.0, h.number_is) in
    rw (year_of_is year month day number h, month_of_is year month day number h, past) (omega (arith, h.valid.2.0))

-- a date from 1970 on is such a day
pub date_is_day : (y : ℤ) (month day number : ℕ) → IsCivilDate y month day → days_from_civil y month day ≡ pos number → (year : ℕ) × (y ≡ pos year) × IsDay year month day number
date_is_day (pos year) month day number valid e = (year, refl, record { valid = valid; number_is = e })
date_is_day (negsuc n) month day number valid e =
    absurd (omega (arith, signed_arith, days_from_civil-day_count, day_count-lt_year (negsuc n) month day (pos 1970) 1 1 valid (omega arith) (omega (arith, signed_arith)), day_count-epoch, e))

-- ---- each day has a date

record Dated (number : ℕ) : Type 0 where
  pub year : ℕ
  pub month : ℕ
  pub day : ℕ
  pub is : IsDay year month day number

next_day : (number : ℕ) (d : Dated number) → d.day < days_in_month (pos d.year) d.month → Dated (suc number)
next_day number d lt =
    let h = d.is in
    record {
      year = d.year;
      month = d.month;
      day = d.day + 1;
      is = record {
        valid = (h.valid.0, h.valid.1, (omega arith, omega arith));
        number_is = omega (arith, signed_arith, days_from_civil-day (pos d.year) d.month d.day (d.day + 1) h.valid.2.0 (omega arith), h.number_is);
      };
    }

next_month : (number : ℕ) (d : Dated number) → d.day ≡ days_in_month (pos d.year) d.month → d.month < 12 → Dated (suc number)
next_month number d last lt =
    let h = d.is in
    let long = days_in_month_bounds (pos d.year) (d.month + 1) in
    record {
      year = d.year;
      month = d.month + 1;
      day = 1;
      is = record {
        valid = (h.valid.0, (omega arith, omega arith), (omega arith, omega (arith, long)));
        number_is = omega (arith, signed_arith, days_from_civil-next_month (pos d.year) d.month d.day h.valid.1.0 last, h.number_is);
      };
    }

next_year : (number : ℕ) (d : Dated number) → d.day ≡ 31 → d.month ≡ 12 → d.year < 9999 → Dated (suc number)
next_year number d last month lt =
    let h = d.is in
    let long = days_in_month_bounds (pos (d.year + 1)) 1 in
    let ends : days_from_civil (pos d.year) 12 31 ≡ pos number = rw (month, last) at h.number_is in
    record {
      year = d.year + 1;
      month = 1;
      day = 1;
      is = record {
        valid = ((omega (arith, signed_arith), omega (arith, signed_arith)), (omega arith, omega arith), (omega arith, omega (arith, long)));
        number_is = omega (arith, signed_arith, days_from_civil-next_year (pos d.year) (pos (d.year + 1)) (omega (arith, signed_arith)) (omega (arith, signed_arith)), ends);
      };
    }

next_dated : (number : ℕ) (d : Dated number) → number < 2_932_896 → Dated (suc number)
next_dated number d small =
    elim (cases_lt d.day (days_in_month (pos d.year) d.month)) [
      | inl lt ↦ next_day number d lt
      | inr ge ↦
          let last : d.day ≡ days_in_month (pos d.year) d.month = omega (arith, d.is.valid.2) in
          elim (cases_lt d.month 12) [
            | inl lt ↦ next_month number d last lt
            | inr december ↦
                let month : d.month ≡ 12 = omega (arith, d.is.valid.1) in
                let day : d.day ≡ 31 = rw month at last in
                elim (cases_lt d.year 9999) [
                  | inl lt ↦ next_year number d day month lt
                  | inr past ↦
                      let year : d.year ≡ 9999 = omega (arith, signed_arith, d.is.valid.0) in
                      let ends : days_from_civil (pos 9999) 12 31 ≡ pos number = rw (year, month, day) at d.is.number_is in
                      absurd (omega (arith, signed_arith, ends, days_from_civil-max))
                ]
          ]
    ]

dated : (number : ℕ) → number ≤ 2_932_896 → Dated number
dated zero h = record {
  year = 1970;
  month = 1;
  day = 1;
  is = record {
    valid = ((omega (arith, signed_arith), omega (arith, signed_arith)), (omega arith, omega arith), (omega arith, omega arith));
    number_is = omega (arith, signed_arith, days_from_civil-day_count, day_count-epoch);
  };
}
dated (suc number) h = next_dated number (dated number (omega arith)) (omega arith)

-- and it is the one that is printed
pub printed_day : (number : ℕ) → number ≤ 2_932_896 → IsDay (year_of number) (month_of number) (day_of number) number
printed_day number h =
    let d = dated number h in
    rw (year_of_is d.year d.month d.day number d.is, month_of_is d.year d.month d.day number d.is, day_of_is d.year d.month d.day number d.is) d.is

-- what a clock in UTC shows at a second and nanosecond from 1970-01-01T00:00:00 on
pub record ShowsMoment (dt : DateTime) (second : ℕ) : Type 0 where
  pub day : epoch_day dt.date ≡ pos (second / 86_400)
  pub hour : dt.time.hour ≡ second % 86_400 / 3600
  pub minute : dt.time.minute ≡ second % 3600 / 60
  pub second_is : dt.time.second ≡ second % 60

pub shows_moment : (dt : DateTime) (second nanos : ℕ) → civil_nanos dt ≡ pos (second * 1_000_000_000 + nanos) → nanos < 1_000_000_000 → ShowsMoment dt second
shows_moment dt second nanos e small = record {
  day = omega (arith, signed_arith, civil_nanos-parts dt, time_nanos_bound dt.time, e);
  hour = omega (arith, signed_arith, civil_nanos-parts dt, time_nanos_bound dt.time, e);
  minute = omega (arith, signed_arith, civil_nanos-parts dt, time_nanos_bound dt.time, e);
  second_is = omega (arith, signed_arith, civil_nanos-parts dt, time_nanos_bound dt.time, e);
}

-- the date that a clock in UTC shows is the one that is printed
pub record ShowsDate (dt : DateTime) (second : ℕ) : Type 0 where
  pub year : dt.date.year ≡ pos (year_of (second / 86_400))
  pub month : dt.date.month ≡ month_of (second / 86_400)
  pub day : dt.date.day ≡ day_of (second / 86_400)

pub shows_date : (dt : DateTime) (second : ℕ) → ShowsMoment dt second → ShowsDate dt second
shows_date dt second h =
    let (year, same, is) = date_is_day dt.date.year dt.date.month dt.date.day (second / 86_400) (civil dt.date) h.day in record {
      year = same ∙ ap pos (sym (year_of_is year _ _ _ is));
      month = sym (month_of_is year _ _ _ is);
      day = sym (day_of_is year _ _ _ is);
    }
