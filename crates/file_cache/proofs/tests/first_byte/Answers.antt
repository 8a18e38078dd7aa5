use Rattle.std.proofs.Common.{arith}
use Rattle.file_cache.proofs.CacheLaws.{some_byte}
use Rattle.file_cache.proofs.tests.first_byte.Goals as goal

pub get-requires : goal.get-requires
get-requires c = record { range = λ content e. omega (arith, some_byte c.args.cache.now.files c.args.key.now content c.holds.ensures.valid.none_empty e) }
