-- The rules of RENAME2 are sound: it refuses flags, and is a RENAME else.
use Rattle.std.proofs.Common.{◌≡◌, ◌≢◌, ℕ, Bool, true, false, Option, Some, None, nat_eq, arith}
use Rattle.std.specs.Prelude.{if◌then◌else◌}
use Rattle.fuse_replies.specs.Errno.{einval, enomem}
use Rattle.mount_rules.specs.Requests.Rename as rename
use Rattle.mount_rules.specs.Requests.Rename2 as rename2
use Rattle.mount_laws.proofs.Memory.{errors_differ}
use Rattle.mount_laws.proofs.Requests.Rename.{rename_memory, renaming_sound}
use Rattle.mount_laws.proofs.Sound.{IsSound}

no_flags : (b : Bool) (refusal : Option ℕ) → (if b then refusal else Some einval) ≡ None → refusal ≡ None
no_flags true refusal free = free
no_flags false refusal free = absurd (let never : Some einval ≡ None = free in cc)

no_memory : (b : Bool) (refusal : Option ℕ) → refusal ≢ Some enomem → (if b then refusal else Some einval) ≢ Some enomem
no_memory true refusal other e = other e
no_memory false refusal other e = errors_differ (λ same. absurd (omega (arith, same))) e

pub rename2_sound : (node flags : ℕ) (names : rename.Names) → IsSound (rename2.rules node flags names) (λ number. 0) (Some 4)
rename2_sound node flags names = renaming_sound node names (rename2.refusal flags names)
    (λ view free. no_flags (nat_eq flags 0) (rename.refusal names view) free)
    (λ view. no_memory (nat_eq flags 0) (rename.refusal names view) (rename_memory names view))
