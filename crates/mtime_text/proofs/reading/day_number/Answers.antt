-- A day's number fits.
use Rattle.std.proofs.Common.{◌≡◌, refl, arith, pos, to_z, of_z, w32}
use Rattle.std.specs.Int.{w8, w16}
use Rattle.std.proofs.lemmas.Int.{to_z_pos}
use Rattle.jiff_core.specs.Calendar.{IsDate}
use Rattle.jiff_core.proofs.SignedLemmas.{signed_arith}
use Rattle.mtime_text.proofs.DateLemmas.{is_date-true}
use Rattle.mtime_text.proofs.reading.day_number.Goals as goal

pub returns-in-Ok-clause-value : goal.returns-in-Ok-clause-value
returns-in-Ok-clause-value c =
    let year = to_z_pos w16 c.args.year (omega arith) in
    let month = to_z_pos w8 c.args.month (omega arith) in
    let day = to_z_pos w8 c.args.day (omega arith) in
    let made = c.in-Ok.ensures in
    let valid : IsDate (pos c.args.year) (pos c.args.month) (pos c.args.day) = rw (year, month, day) at (made.succeeds.0 refl) in
    let parts = rw (year, month, day) at made.value in
    let same_month : c.in-Ok.date.month ≡ c.args.month = cc in
    let same_day : c.in-Ok.date.day ≡ c.args.day = cc in
    let number = c.to_unix_epoch_day.result in
    let back : to_z w32 (of_z w32 number) ≡ number = omega (arith, signed_arith, c.to_unix_epoch_day.ensures.bound) in
    rw (is_date-true _ _ _ valid, back, c.to_unix_epoch_day.ensures.value, c.to_plain.ensures, parts.0, same_month, same_day)
