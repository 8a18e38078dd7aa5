-- What the parts come to is lawful.
use Rattle.drill_maker.proofs.DrillLaws.{drill_lawful}
use Rattle.drill_maker.proofs.making.make.Goals as goal

pub returns-clause-lawful : goal.returns-clause-lawful
returns-clause-lawful c = drill_lawful c.args.seed c.new.result c.new-2.result c.new-3.result.items _ c.new.ensures c.new-2.ensures c.new-3.ensures.items c.in_ok-phases.ensures.ok
