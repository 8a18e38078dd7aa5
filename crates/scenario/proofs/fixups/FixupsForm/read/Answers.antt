-- A fault of an item is one of the array.
use Rattle.std.proofs.Common.{rules, ap, List, map}
use Rattle.scenario.specs.declared.call.Fix.{Fix}
use Rattle.serde_json.specs.View.{view}
use Rattle.scenario.specs.Format as format
use Rattle.scenario.specs.Told.{TellsFault}
use Rattle.scenario.proofs.Arrays.{array_fault}
use Rattle.scenario.proofs.fixups.FixupsForm.read.Goals as goal

pub returns-in_err-take_all-clause-err : goal.returns-in_err-take_all-clause-err
returns-in_err-take_all-clause-err c =
    let told : TellsFault c.in_err-take_all.field-0.0 (format.fixups c.args.self.now.each.spot.now c.args.self.now.each.index c.args.self.now.each.size (view c.args.value.now)) = array_fault _ _ _ _ _ _ c.in_ok-found.ensures.ok (ap (λ (fixes : List Fix). map (λ fix. fix) fixes) c.new.ensures.items) c.in_err-take_all.ensures.err in
    search rules
