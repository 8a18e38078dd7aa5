-- RELEASEDIR: a handle of a directory is open no more (fuse.h: `struct fuse_release_in`, whose flags are not looked at).
use Rattle.std.specs.Prelude.{ℕ, [], ◌∷◌, Option, None}
use Rattle.std.specs.FinMap as fin
use Rattle.fuse_replies.specs.declared.reply.Reply.TheVariants.{Empty}
use Rattle.mount_rules.specs.Claiming.{owns_node}
use Rattle.mount_rules.specs.Guards.{on_open_directory}
use Rattle.mount_rules.specs.Mount.{MountModel}
use Rattle.mount_rules.specs.Plans.{done}
use Rattle.mount_rules.specs.Rules.{Rules, at_handle}
use Rattle.mount_rules.specs.View.{View}

abbrev pub refusal : ℕ → View → Option ℕ
refusal node view = on_open_directory node view.handle (λ entries. None)

abbrev pub after : ℕ → MountModel → MountModel
after fh mount = record mount { handles = fin.remove mount.handles fh }

abbrev pub rules : ℕ → ℕ → Rules
rules node fh = record {
  looks = at_handle node fh;
  refusal = refusal node;
  plan = λ taken answers. done;
  wants = λ view. None;
  claims = λ view. owns_node node ∷ [];
  keys = λ view. [];
  reply = λ taken mount seen. Empty;
  after = λ taken mount seen. after fh mount;
}
