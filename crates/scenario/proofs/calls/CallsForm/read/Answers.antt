-- A fault of an item is one of the array.
use Rattle.std.proofs.Common.{rules}
use Rattle.serde_json.specs.View.{view}
use Rattle.scenario.specs.Format as format
use Rattle.scenario.specs.Told.{TellsFault}
use Rattle.scenario.proofs.Arrays.{array_fault}
use Rattle.scenario.proofs.calls.CallsForm.read.Goals as goal

pub returns-in_err-take_all-clause-err : goal.returns-in_err-take_all-clause-err
returns-in_err-take_all-clause-err c =
    let told : TellsFault c.in_err-take_all.field-0.0 (format.all_calls c.args.self.now.spot.now (view c.args.value.now)) = array_fault _ _ _ _ _ _ c.in_ok-found.ensures.ok c.new.ensures.items c.in_err-take_all.ensures.err in
    search rules
