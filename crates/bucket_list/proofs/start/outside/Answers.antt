-- A text that does not begin with the prefix stands before all that do, or after them all.
use Rattle.std.proofs.Common.{sym, ◌∙◌}
use Rattle.bucket_list.proofs.Starts.{starts_above, starts_past_all, le_from_not_less}
use Rattle.bucket_list.proofs.start.outside.Goals as goal

pub returns-in_ok-of-in-Less : goal.returns-in_ok-of-in-Less
returns-in_ok-of-in-Less c = record { ok = λ slash. rw c.in_ok-of-in-Less.ensures.ok (starts_above c.args.prefix.now slash c.args.after.now (sym c.cmp.ensures ∙ c.in-Less.is)) }

pub returns-in_ok-of-in_default : goal.returns-in_ok-of-in_default
returns-in_ok-of-in_default c =
    let le = le_from_not_less c.args.after.now c.args.prefix.now (λ e. c.in_default.not-Less (c.cmp.ensures ∙ e)) in
    record { ok = λ slash. rw c.in_ok-of-in_default.ensures.ok (starts_past_all c.args.prefix.now slash c.args.after.now le c.requires) }
