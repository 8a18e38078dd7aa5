-- The rules of STATFS and DESTROY are sound.
use Rattle.std.proofs.Common.{◌≡◌, refl, Some}
use Rattle.fuse_replies.specs.declared.reply.Reply.TheVariants.{Error, Stat}
use Rattle.fuse_replies.specs.Errno.{enomem}
use Rattle.mount_rules.specs.Requests.Destroy as destroy
use Rattle.mount_rules.specs.Requests.Statfs as statfs
use Rattle.mount_laws.proofs.Memory.{empty_answered, no_error}
use Rattle.mount_laws.proofs.Quiet.{IsSound-quiet}
use Rattle.mount_laws.proofs.Sound.{IsSound}

stat_answered : Stat ≡ Error enomem → ⊥
stat_answered e = cc

pub statfs_sound : IsSound statfs.rules (λ number. 0) (Some 0)
statfs_sound = IsSound-quiet statfs.rules (record {
  plan_done = λ taken answers. refl;
  wants_none = λ view. refl;
  stays = λ taken mount seen. refl;
  refuses = λ view. no_error;
  answers = λ taken mount seen. stat_answered;
  gives = λ taken mount seen number. refl;
})

pub destroy_sound : IsSound destroy.rules (λ number. 0) (Some 0)
destroy_sound = IsSound-quiet destroy.rules (record {
  plan_done = λ taken answers. refl;
  wants_none = λ view. refl;
  stays = λ taken mount seen. refl;
  refuses = λ view. no_error;
  answers = λ taken mount seen. empty_answered;
  gives = λ taken mount seen number. refl;
})
