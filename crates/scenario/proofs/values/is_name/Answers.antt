-- Two tests of the same say the same.
use Rattle.std.proofs.Common.{sym}
use Rattle.scenario.proofs.SameTests.{name_test}
use Rattle.scenario.proofs.values.is_name.Goals as goal

pub returns-clause-value : goal.returns-clause-value
returns-clause-value c = sym (name_test c.args.name.now c.allowed.result c.allowed.ensures)
