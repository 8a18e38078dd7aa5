-- A component is a name without a fault.
use Rattle.std.proofs.Common.{◌≡◌, None}
use Rattle.object_names.specs.Components.{name_fault}
use Rattle.object_names.proofs.ComponentLemmas.{no_fault-from_IsComponent}
use Rattle.object_names.proofs.component.Component.new.Goals as goal

pub returns-in-Err-clause-full : goal.returns-in-Err-clause-full
returns-in-Err-clause-full c = λ p.
    let none : name_fault c.args.bytes.now ≡ None = no_fault-from_IsComponent c.args.bytes.now p in
    cc (none, c.in-Err.ensures)
