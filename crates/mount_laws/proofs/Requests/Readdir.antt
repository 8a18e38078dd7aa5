-- The rules of READDIR are sound.
use Rattle.std.proofs.Common.{◌≡◌, ℕ, List, Some, refl}
use Rattle.fuse_replies.specs.declared.reply.Reply.TheVariants.{Error}
use Rattle.object_names.specs.declared.shown.DirItem.{DirItem}
use Rattle.fuse_replies.specs.Errno.{enomem}
use Rattle.mount_rules.specs.Requests.Readdir as readdir
use Rattle.mount_laws.proofs.Guarding.{on_open_directory-memory, size_refusal-memory}
use Rattle.mount_laws.proofs.Quiet.{IsSound-quiet}
use Rattle.mount_laws.proofs.Sound.{IsSound}

module _ (node fh first size : ℕ) where
  answered : (entries : List DirItem) → readdir.reply first size entries ≡ Error enomem → ⊥
  answered entries e = cc

  pub readdir_sound : IsSound (readdir.rules node fh first size) (λ number. 0) (Some 0)
  readdir_sound = IsSound-quiet (readdir.rules node fh first size) (record {
    plan_done = λ taken answers. refl;
    wants_none = λ view. refl;
    stays = λ taken mount seen. refl;
    refuses = λ view. on_open_directory-memory node view.handle _ (λ items. size_refusal-memory size);
    answers = λ taken mount seen. answered (readdir.entries_of node taken.view);
    gives = λ taken mount seen number. refl;
  })
