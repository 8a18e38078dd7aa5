-- What it is by then.
use Rattle.std.proofs.Common.{subst}
use Rattle.mount_core.proofs.LoneBetween.{lone_so}
use Rattle.mount_core.specs.Lones.{IsLone, LoneState}
use Rattle.mount_model.specs.Journal.{entries}
use Rattle.mount_core.proofs.lone.Lone.finish.Goals as goal

pub returns-clause-lone : goal.returns-clause-lone
returns-clause-lone c =
    subst IsLone c.self.view_is
    (lone_so c.self.inside.config c.self.inside.mount c.self.inside.kept.records c.self.inside.bucket (entries c.self.inside.journal.items) c.self.inside.clock c.self.invariant
    c.into_parts-bucket.ensures.script)
