-- Each way out has its bound.
use Rattle.bucket_list.proofs.Starts.{starts_at_prefix, starts_at_name, starts_at_group}
use Rattle.bucket_list.proofs.start.start.Goals as goal

pub returns-in_default : goal.returns-in_default
returns-in_default c = record { ok = rw (c.in_ok-of.ensures.ok, c.in_default.is) (starts_at_prefix c.args.prefix.now c.args.slash) }

pub outside-requires : goal.outside-requires
outside-requires c = c.in_default-after_prefix.ensures

pub returns-in_ok-joined-in-Some-before_slash : goal.returns-in_ok-joined-in-Some-before_slash
returns-in_ok-joined-in-Some-before_slash c = record { ok = rw c.in-Some.is (starts_at_group c.args.prefix.now c.in-Some-before_slash.part.now c.in-Some-after_prefix.rest.now c.in-Some.after.now c.in_ok-joined-in-Some-before_slash.field-0 c.args.slash c.in-Some-before_slash.ensures.0 c.in-Some-before_slash.ensures.1 c.in-Some-after_prefix.ensures c.in_ok-joined-in-Some-before_slash.ensures.ok) }

pub returns-in_ok-of-in-None : goal.returns-in_ok-of-in-None
returns-in_ok-of-in-None c = record { ok = rw c.in-Some.is (starts_at_name c.args.prefix.now c.in-Some-after_prefix.rest.now c.in-Some.after.now c.in_ok-of-in-None.field-0 c.args.slash c.in-None.ensures c.in-Some-after_prefix.ensures c.in_ok-of-in-None.ensures.ok) }
