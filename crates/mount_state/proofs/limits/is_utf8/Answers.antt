-- They are read as a text where they are.
use Rattle.std.proofs.Common.{◌∙◌}
use Rattle.mount_state.proofs.TargetLaws.{read_if_utf8}
use Rattle.mount_state.proofs.limits.is_utf8.Goals as goal

pub returns : goal.returns
returns c = c.is_ok.ensures.value ∙ read_if_utf8 c.from_utf8.result c.args.bytes.now _ _ c.from_utf8.ensures.cases
