-- What isn't ENOMEM.
use Rattle.std.proofs.Common.{◌≡◌, ◌≢◌, ℕ, Some, None}
use Rattle.fuse_replies.specs.Errno.{enomem}
use Rattle.fuse_replies.specs.declared.reply.Reply.TheVariants.{Empty, Error, Silent}

-- no refusal
pub no_error : None ≢ Some enomem
no_error e = cc

-- another error
pub errors_differ : {errno : ℕ} → (errno ≡ enomem → ⊥) → Some errno ≢ Some enomem
errors_differ {errno} other e = let same : errno ≡ enomem = cc in other same

-- no reply, and a reply without a body, are no errors
pub silent_is_none : (errno : ℕ) → Silent ≢ Error errno
silent_is_none errno e = cc

pub silent_answered : Silent ≢ Error enomem
silent_answered = silent_is_none enomem

pub empty_is_none : (errno : ℕ) → Empty ≢ Error errno
empty_is_none errno e = cc

pub empty_answered : Empty ≢ Error enomem
empty_answered = empty_is_none enomem
