-- The rules of requests that are not served, and of those that could not be read, are sound.
use Rattle.std.proofs.Common.{◌≢◌, ℕ, refl, Option, Some}
use Rattle.fuse_replies.specs.Errno.{enomem}
use Rattle.mount_rules.specs.Requests.Unserved as unserved
use Rattle.mount_laws.proofs.Memory.{silent_answered}
use Rattle.mount_laws.proofs.Quiet.{IsSound-quiet}
use Rattle.mount_laws.proofs.Sound.{IsSound}

pub unserved_sound : (errno : Option ℕ) → errno ≢ Some enomem → IsSound (unserved.rules errno) (λ number. 0) (Some 0)
unserved_sound errno other = IsSound-quiet (unserved.rules errno) (record {
  plan_done = λ taken answers. refl;
  wants_none = λ view. refl;
  stays = λ taken mount seen. refl;
  refuses = λ view. other;
  answers = λ taken mount seen. silent_answered;
  gives = λ taken mount seen number. refl;
})
