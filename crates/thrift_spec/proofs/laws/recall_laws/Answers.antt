-- The laws of what a record tells in place of a look.
use Rattle.thrift_spec.proofs.LooksAreOne.{looks_are_one}
use Rattle.thrift_spec.proofs.Probes.{record_probes, stands_for, stat_is_told}
use Rattle.thrift_spec.proofs.RecalledWalks.{walk_recalls}
use Rattle.thrift_spec.proofs.RecordsTell.{record_tells}
use Rattle.thrift_spec.proofs.laws.recall_laws.Goals as goal

pub returns-clause-tells : goal.returns-clause-tells
returns-clause-tells c = record_tells

pub returns-clause-walks : goal.returns-clause-walks
returns-clause-walks c = walk_recalls

pub returns-clause-one : goal.returns-clause-one
returns-clause-one c = λ at mount request told op is allowed look. looks_are_one at mount is request told op allowed look

pub returns-clause-stats : goal.returns-clause-stats
returns-clause-stats c = stat_is_told

pub returns-clause-probes : goal.returns-clause-probes
returns-clause-probes c = record_probes

pub returns-clause-stands : goal.returns-clause-stands
returns-clause-stands c = λ at mount request first other is same moment. stands_for first other same moment at mount request is
