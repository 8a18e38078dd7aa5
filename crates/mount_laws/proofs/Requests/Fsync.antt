-- The rules of FSYNC are sound.
use Rattle.std.proofs.Common.{ℕ, None}
use Rattle.mount_rules.specs.Requests.Fsync as fsync
use Rattle.mount_laws.proofs.Requests.Flush.{flush_sound}
use Rattle.mount_laws.proofs.Sound.{IsSound}

pub fsync_sound : (node fh : ℕ) → IsSound (fsync.rules node fh) (λ number. 0) None
fsync_sound node fh = flush_sound node fh
