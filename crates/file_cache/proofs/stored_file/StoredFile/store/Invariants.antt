use Rattle.std.proofs.Common.{◌*◌, take}
use Rattle.file_cache.proofs.Storing.{IsStoring}
use Rattle.file_cache.proofs.stored_file.StoredFile.store.Given as goal

abbrev pub invariant-loop-position : goal.invariant-loop-position
invariant-loop-position l = IsStoring l.fn.region l.region l.chain (take (l.position * 65536) l.bytes) l.position
