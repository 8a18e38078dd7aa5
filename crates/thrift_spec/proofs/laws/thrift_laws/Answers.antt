-- The laws of what a mount keeps.
use Rattle.thrift_spec.proofs.KeepingUp.{records_serve}
use Rattle.thrift_spec.proofs.Rising.{found_stays_known}
use Rattle.thrift_spec.proofs.laws.thrift_laws.Goals as goal

pub returns-clause-serve : goal.returns-clause-serve
returns-clause-serve c = records_serve

pub returns-clause-known : goal.returns-clause-known
returns-clause-known c = found_stays_known
