-- The number of the digits so far.
use Rattle.std.proofs.Common.{◌≡◌, ◌^◌, ◌<◌, take}
use Rattle.std.specs.Str.Parse.{digits_value}
use Rattle.mtime_text.proofs.digits.value.Given as goal

abbrev pub invariant-digits : goal.invariant-digits
invariant-digits l =
    (l.value ≡ digits_value 10 (take l.digit-index l.digits)) × (l.value < 10 ^ l.digit-index)
