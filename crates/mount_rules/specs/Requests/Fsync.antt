-- FSYNC: as FLUSH (fuse.h: `struct fuse_fsync_in`, whose flags are not looked at).
use Rattle.std.specs.Prelude.{ℕ}
use Rattle.mount_rules.specs.Requests.Flush as flush
use Rattle.mount_rules.specs.Rules.{Rules}

abbrev pub rules : ℕ → ℕ → Rules
rules node fh = flush.rules node fh
