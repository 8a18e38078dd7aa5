-- No call is made meanwhile.
use Rattle.std.proofs.Common.{subst, sym}
use Rattle.mount_core.proofs.LoneNext.{no_call_ticked}
use Rattle.mount_core.specs.Lones.{HasNoCall, LoneState}
use Rattle.mount_core.proofs.tests.lone.waits.Goals as goal

pub returns-clause-beside : goal.returns-clause-beside
returns-clause-beside c =
    subst (λ (l : LoneState). HasNoCall l 9) (sym c.in_ok-tick.ensures.ok) (no_call_ticked c.args.lone.now c.args.seconds 9 c.requires.beside)
