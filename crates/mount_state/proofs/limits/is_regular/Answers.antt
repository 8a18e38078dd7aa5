-- A type that isn't none.
use Rattle.mount_state.proofs.ModeLaws.{other_type}
use Rattle.mount_state.proofs.limits.is_regular.Goals as goal

pub returns-else-kind-eq0 : goal.returns-else-kind-eq0
returns-else-kind-eq0 c = other_type c.args.mode c.if-kind-eq0.false
