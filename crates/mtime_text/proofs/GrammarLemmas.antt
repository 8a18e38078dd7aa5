-- What is read is on the grammar, what is on the grammar is read, and what is printed is on it.
use Rattle.std.proofs.Common.{◌≡◌, ℕ, ◌+◌, ◌*◌, ◌/◌, ◌%◌, ◌<◌, ◌≤◌, ◌⊎◌, inl, inr, true, ◌&&◌, Some, List, [], ◌∷◌, ◌++◌, refl, ap, ◌∙◌, append_assoc, arith, ℤ, pos, negsuc, ◌+ℤ◌, ◌-ℤ◌, ◌*ℤ◌, ◌≤ℤ◌, unsigned_abs}
use Rattle.std.specs.Prelude.{int_le}
use Rattle.std.proofs.lemmas.Option.{cond_some}
use Rattle.std.proofs.lemmas.Int.{ints}
use Rattle.std.proofs.lemmas.Bool.Decides.{nat_tests}
use Rattle.std.proofs.lemmas.List.{append-nil}
use Rattle.jiff_core.specs.Calendar.{days_from_civil}
use Rattle.jiff_core.proofs.SignedLemmas.{signed_arith}
use Rattle.base_laws.proofs.Tests.{both_true}
use Rattle.mtime_text.specs.Spelling.{capital_t, small_t, date_text, clock_text, fraction_text, offset_text}
use Rattle.file_metadata.specs.FileMetadata.{last_second}
use Rattle.mtime_text.specs.Grammar.{Parts, time_spelling, AreParts, utc_second_of, nanos_of, seconds_ahead, IsMtimeText}
use Rattle.mtime_text.specs.Printed.{year_of, month_of, day_of, utc_parts, printed_text}
use Rattle.mtime_text.specs.Reading.{◌>>=◌, after_byte, is_time_mark, date_at, clock_at, fraction_at, offset_at, in_range, whole, mtime_of}
use Rattle.mtime_text.proofs.MomentLemmas.{printed_day}
use Rattle.mtime_text.proofs.StepLemmas.{bind_some, after_takes}
use Rattle.mtime_text.proofs.PartLemmas.{date_takes, date_again, clock_takes, clock_again}
use Rattle.mtime_text.proofs.ZoneLemmas.{fraction_takes, fraction_again, offset_takes, offset_again, begins_offset}

-- ---- what is read is on the grammar

record InRange (second : ℤ) (nanos : ℕ) (time : ℕ × ℕ) : Type 0 where
  pub second_is : second ≡ pos time.0
  pub nanos_is : nanos ≡ time.1
  pub small : time.0 ≤ last_second

tested : (second : ℤ) → (int_le (pos 0) second && int_le second (pos last_second)) ≡ true → (pos 0 ≤ℤ second) × (second ≤ℤ pos last_second)
tested second e =
    let parts = both_true (int_le (pos 0) second) (int_le second (pos last_second)) e in
    (grind (arith, ints), grind (arith, ints))

not_negative : (z : ℤ) → pos 0 ≤ℤ z → z ≡ pos (unsigned_abs z)
not_negative (pos n) h = refl
not_negative (negsuc n) h = absurd (omega (arith, signed_arith))

in_range_takes : (second : ℤ) (nanos : ℕ) (time : ℕ × ℕ) → in_range second nanos ≡ Some time → InRange second nanos time
unfolding in_range
in_range_takes second nanos time e =
    let (valid, same) = cond_some (int_le (pos 0) second && int_le second (pos last_second)) (unsigned_abs second, nanos) time e in
    let bounds = tested second valid in
    let n = unsigned_abs second in
    let is = not_negative second bounds.0 in
    let first : n ≡ time.0 = ap (λ (p : ℕ × ℕ). p.0) same in
    record {
      second_is = is ∙ ap pos first;
      nanos_is = ap (λ (p : ℕ × ℕ). p.1) same;
      small = rw (← first) (omega (arith, signed_arith));
    }

whole_takes : (second : ℤ) (nanos : ℕ) (rest : List ℕ) (time : ℕ × ℕ) → whole second nanos rest ≡ Some time → (rest ≡ []) × InRange second nanos time
whole_takes second nanos [] time e = (refl, in_range_takes second nanos time e)
whole_takes second nanos (byte ∷ rest) time e = absurd cc

mark_is : (byte : ℕ) → is_time_mark byte ≡ true → (byte ≡ capital_t) ⊎ (byte ≡ small_t)
mark_is byte e = grind (arith, nat_tests)

is_mark : (byte : ℕ) → (byte ≡ capital_t) ⊎ (byte ≡ small_t) → is_time_mark byte ≡ true
is_mark byte (inl e) = rw e
is_mark byte (inr e) = rw e

spelled : (text date a clock b c fraction d offset e : List ℕ) (mark : ℕ) → text ≡ date ++ a → a ≡ mark ∷ b → b ≡ clock ++ c → c ≡ fraction ++ d → d ≡ offset ++ e → e ≡ []
    → text ≡ date ++ mark ∷ clock ++ fraction ++ offset
spelled text date a clock b c fraction d offset e mark h₀ h₁ h₂ h₃ h₄ h₅ = rw (h₀, h₁, h₂, h₃, h₄, h₅, append-nil offset) (simp append_assoc)

pub time_takes : (text : List ℕ) (time : ℕ × ℕ) → mtime_of text ≡ Some time → IsMtimeText text time.0 time.1
unfolding mtime_of
time_takes text time e =
    let (day, read_day, e₁) = bind_some (date_at text) (λ day. (after_byte is_time_mark day.1 >>= clock_at) >>= λ clock. fraction_at clock.1 >>= λ nanos. offset_at nanos.1 >>= λ offset. whole (day.0 *ℤ pos 86_400 +ℤ pos clock.0 -ℤ offset.0) nanos.0 offset.1) time e in
    let (clock, read_marked, e₂) = bind_some (after_byte is_time_mark day.1 >>= clock_at) (λ clock. fraction_at clock.1 >>= λ nanos. offset_at nanos.1 >>= λ offset. whole (day.0 *ℤ pos 86_400 +ℤ pos clock.0 -ℤ offset.0) nanos.0 offset.1) time e₁ in
    let (nanos, read_nanos, e₃) = bind_some (fraction_at clock.1) (λ nanos. offset_at nanos.1 >>= λ offset. whole (day.0 *ℤ pos 86_400 +ℤ pos clock.0 -ℤ offset.0) nanos.0 offset.1) time e₂ in
    let (offset, read_offset, e₄) = bind_some (offset_at nanos.1) (λ offset. whole (day.0 *ℤ pos 86_400 +ℤ pos clock.0 -ℤ offset.0) nanos.0 offset.1) time e₃ in
    let (behind, marked, read_clock) = bind_some (after_byte is_time_mark day.1) clock_at clock read_marked in
    let (mark, is, cut) = after_takes is_time_mark day.1 behind marked in
    let d = date_takes text day read_day in
    let c = clock_takes behind clock read_clock in
    let f = fraction_takes clock.1 nanos read_nanos in
    let o = offset_takes nanos.1 offset read_offset in
    let (ended, r) = whole_takes (day.0 *ℤ pos 86_400 +ℤ pos clock.0 -ℤ offset.0) nanos.0 offset.1 time e₄ in
    let second : days_from_civil (pos d.year) d.month d.day *ℤ pos 86_400 +ℤ pos (c.hour * 3600 + c.minute * 60 + c.second) -ℤ seconds_ahead o.offset ≡ day.0 *ℤ pos 86_400 +ℤ pos clock.0 -ℤ offset.0 =
    rw (d.number_is, c.seconds_are, o.seconds_are) in
    record {
      parts = record { year = d.year; month = d.month; day = d.day; mark = mark; hour = c.hour; minute = c.minute; second = c.second; places = f.places; fraction = f.fraction; offset = o.offset };
      valid = record { date = d.valid; mark = mark_is mark is; hour = c.hour_in; minute = c.minute_in; second = c.second_in; places = f.places_in; fraction = f.fraction_in; offset = o.valid };
      spelled = spelled text (date_text d.year d.month d.day) day.1 (clock_text c.hour c.minute c.second) behind clock.1 (fraction_text f.places f.fraction) nanos.1 (offset_text o.offset) offset.1 mark d.parts cut c.parts f.parts o.parts ended;
      second_is = second ∙ r.second_is;
      nanos_is = f.nanos_are ∙ r.nanos_is;
      in_range = r.small;
    }

-- ---- what is on the grammar is read

in_range_again : (second nanos : ℕ) → second ≤ last_second → in_range (pos second) nanos ≡ Some (second, nanos)
unfolding in_range
in_range_again second nanos small =
    let low : int_le (pos 0) (pos second) ≡ true = grind (arith, ints) in
    let high : int_le (pos second) (pos last_second) ≡ true = grind (arith, ints) in
    rw (low, high)

time_again_parts : (p : Parts) (second : ℕ) → AreParts p → utc_second_of p ≡ pos second → second ≤ last_second → mtime_of (time_spelling p) ≡ Some (second, nanos_of p)
unfolding mtime_of
time_again_parts p second valid is small =
    let begins = begins_offset p.offset valid.offset in
    let zone = offset_text p.offset in
    let places = fraction_text p.places p.fraction in
    let clock = clock_text p.hour p.minute p.second in
    let regrouped : time_spelling p ≡ date_text p.year p.month p.day ++ (p.mark ∷ (clock ++ (places ++ zone))) = simp append_assoc in
    let fraction : fraction_at (places ++ zone) ≡ Some (nanos_of p, zone) =
    rw begins.text_is (fraction_again p.places p.fraction begins.first begins.others valid.places valid.fraction begins.no_digit begins.no_point) in
    let offset : offset_at zone ≡ Some (seconds_ahead p.offset, []) = rw (append-nil zone) at (offset_again p.offset [] valid.offset) in
    rw (regrouped, date_again p.year p.month p.day (p.mark ∷ (clock ++ (places ++ zone))) valid.date, is_mark p.mark valid.mark, clock_again p.hour p.minute p.second (places ++ zone) valid.hour valid.minute valid.second, fraction, offset, is)
    (in_range_again second (nanos_of p) small)

pub time_again : (text : List ℕ) (second nanos : ℕ) → IsMtimeText text second nanos → mtime_of text ≡ Some (second, nanos)
time_again text second nanos h =
    rw (h.spelled, ← h.nanos_is) (time_again_parts h.parts second h.valid h.second_is h.in_range)

-- ---- what is printed is on the grammar

pub printed_time : (second nanos : ℕ) → second ≤ last_second → nanos < 1_000_000_000 → IsMtimeText (printed_text second nanos) second nanos
unfolding printed_text
printed_time second nanos small whole_nanos =
    let number = second / 86_400 in
    let day = printed_day number (omega arith) in
    let clock : second % 86_400 / 3600 * 3600 + second % 3600 / 60 * 60 + second % 60 ≡ second % 86_400 = omega arith in
    let second_is : days_from_civil (pos (year_of number)) (month_of number) (day_of number) *ℤ pos 86_400 +ℤ pos (second % 86_400 / 3600 * 3600 + second % 3600 / 60 * 60 + second % 60) -ℤ pos 0 ≡ pos second =
    rw (day.number_is, clock) (omega (arith, signed_arith)) in
    record {
      parts = utc_parts second nanos;
      valid = record {
        date = day.valid;
        mark = inl refl;
        hour = omega arith;
        minute = omega arith;
        second = omega arith;
        places = omega arith;
        fraction = whole_nanos;
        offset = inl refl;
      };
      spelled = refl;
      second_is = second_is;
      nanos_is = omega arith;
      in_range = small;
    }

pub printed_again : (second nanos : ℕ) → second ≤ last_second → nanos < 1_000_000_000 → mtime_of (printed_text second nanos) ≡ Some (second, nanos)
printed_again second nanos small whole_nanos = time_again (printed_text second nanos) second nanos (printed_time second nanos small whole_nanos)
