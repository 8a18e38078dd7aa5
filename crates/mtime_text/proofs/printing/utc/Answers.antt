-- The clock in UTC shows the parts of the second.
use Rattle.std.proofs.Common.{◌≡◌, ◌+◌, ◌*◌, arith, pos}
use Rattle.jiff_core.specs.DateTime.{civil_nanos}
use Rattle.jiff_core.proofs.SignedLemmas.{signed_casts}
use Rattle.mtime_text.proofs.MomentLemmas.{ShowsMoment, shows_moment, shows_date}
use Rattle.mtime_text.proofs.printing.utc.Goals as goal

shown : (c : goal.After-to_datetime) → ShowsMoment c.to_datetime.result c.args.seconds
shown c =
    let instant = rw c.unwrap-instant.ensures at c.new.ensures.value in
    let nanos : civil_nanos c.to_datetime.result ≡ pos (c.args.seconds * 1_000_000_000 + c.args.nanos) = omega (arith, signed_casts, c.to_datetime.ensures, instant) in
    shows_moment c.to_datetime.result c.args.seconds c.args.nanos nanos c.requires.nanos

pub returns-clause-year : goal.returns-clause-year
returns-clause-year c = (shows_date _ _ (shown c)).year

pub returns-clause-month : goal.returns-clause-month
returns-clause-month c = (shows_date _ _ (shown c)).month

pub returns-clause-day : goal.returns-clause-day
returns-clause-day c = (shows_date _ _ (shown c)).day

pub returns-clause-hour : goal.returns-clause-hour
returns-clause-hour c = (shown c).hour

pub returns-clause-minute : goal.returns-clause-minute
returns-clause-minute c = (shown c).minute

pub returns-clause-second : goal.returns-clause-second
returns-clause-second c = (shown c).second_is
