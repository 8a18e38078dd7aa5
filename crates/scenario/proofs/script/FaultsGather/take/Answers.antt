-- The moment is later than the last one, and the mode is one of the table's.
use Rattle.scenario.proofs.Scripts.{script_next}
use Rattle.scenario.proofs.script.FaultsGather.take.Goals as goal

pub returns-clause-fits : goal.returns-clause-fits
returns-clause-fits c = script_next c.args.self.now.faults.items _ (record { moment = c.in_ok-moment.moment; mode = c.in_ok-mode.mode }) c.args.self.now.last c.in_ok-push.ensures.items c.requires c.in_ok-moment.ensures.good c.in_ok-mode.ensures.good
