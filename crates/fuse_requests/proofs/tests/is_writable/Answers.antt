-- Names as they must be, and a short tail.
use Rattle.std.proofs.Common.{refl, arith}
use Rattle.fuse_requests.proofs.Writable.{writable}
use Rattle.fuse_requests.proofs.tests.is_writable.Goals as goal

pub returns-then-has_names : goal.returns-then-has_names
returns-then-has_names c = λ yes. writable c.args.request.now (c.if-has_names.ensures refl) (omega (arith, c.small.ensures yes))
