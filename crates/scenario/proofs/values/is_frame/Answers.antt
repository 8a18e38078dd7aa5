-- Two tests of the same say the same.
use Rattle.std.proofs.Common.{sym}
use Rattle.scenario.proofs.SameTests.{frame_test}
use Rattle.scenario.proofs.values.is_frame.Goals as goal

pub returns-clause-value : goal.returns-clause-value
returns-clause-value c = sym (frame_test c.args.bytes.now c.whole_frame.result c.whole_frame.ensures)
