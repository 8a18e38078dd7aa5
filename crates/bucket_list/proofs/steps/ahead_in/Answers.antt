-- A name that does not begin with the prefix ends the walk.
use Rattle.std.proofs.Common.{sym, ap, ◌∙◌}
use Rattle.std.specs.Prelude.{nat_eq}
use Rattle.std.specs.List.{starts_with}
use Rattle.bucket_list.proofs.steps.ahead_in.Goals as goal

pub returns-in-None : goal.returns-in-None
returns-in-None c = rw c.in-Some.ensures.steps (ap (λ n. starts_with nat_eq n c.args.prefix.now) (sym c.as_str.ensures.bytes) ∙ c.in-None.ensures)
