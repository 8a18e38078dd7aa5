-- The rules of FSYNCDIR are sound.
use Rattle.std.proofs.Common.{ℕ, Some, refl}
use Rattle.mount_rules.specs.Requests.Fsyncdir as fsyncdir
use Rattle.mount_laws.proofs.Guarding.{on_open_directory-memory}
use Rattle.mount_laws.proofs.Memory.{empty_answered, no_error}
use Rattle.mount_laws.proofs.Quiet.{IsSound-quiet}
use Rattle.mount_laws.proofs.Sound.{IsSound}

pub fsyncdir_sound : (node fh : ℕ) → IsSound (fsyncdir.rules node fh) (λ number. 0) (Some 0)
fsyncdir_sound node fh = IsSound-quiet (fsyncdir.rules node fh) (record {
  plan_done = λ taken answers. refl;
  wants_none = λ view. refl;
  stays = λ taken mount seen. refl;
  refuses = λ view. on_open_directory-memory node view.handle _ (λ items. no_error);
  answers = λ taken mount seen. empty_answered;
  gives = λ taken mount seen number. refl;
})
