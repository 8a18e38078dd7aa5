-- RELEASE: a handle of a file is open no more (fuse.h: `struct fuse_release_in`, whose flags are not looked at). A file
-- that isn't live goes with its last handle, and what is staged of it.
use Rattle.std.specs.Prelude.{ℕ, [], ◌∷◌, Option, None, if◌then◌else◌}
use Rattle.std.specs.FinMap as fin
use Rattle.fuse_replies.specs.declared.reply.Reply.TheVariants.{Empty}
use Rattle.inode_spec.specs.Inodes.{let_go}
use Rattle.mount_rules.specs.Claiming.{owns_node}
use Rattle.mount_rules.specs.Guards.{on_open_file}
use Rattle.mount_rules.specs.Mount.{MountModel, OpenHandles, NodeTable}
use Rattle.mount_rules.specs.Plans.{done}
use Rattle.mount_rules.specs.Requests.Forget.{is_held, with_left}
use Rattle.mount_rules.specs.Rules.{Rules, at_handle}
use Rattle.mount_rules.specs.View.{View}

abbrev pub refusal : ℕ → View → Option ℕ
refusal node view = on_open_file node view (λ file. None)

-- the nodes, where these handles are still open
abbrev pub left_by : OpenHandles → ℕ → NodeTable → NodeTable
left_by handles node table = if is_held handles node then table else let_go table node

abbrev pub after : ℕ → ℕ → MountModel → MountModel
after node fh mount = record (with_left node (left_by (fin.remove mount.handles fh) node mount.table) mount) { handles = fin.remove mount.handles fh }

abbrev pub rules : ℕ → ℕ → Rules
rules node fh = record {
  looks = at_handle node fh;
  refusal = refusal node;
  plan = λ taken answers. done;
  wants = λ view. None;
  claims = λ view. owns_node node ∷ [];
  keys = λ view. [];
  reply = λ taken mount seen. Empty;
  after = λ taken mount seen. after node fh mount;
}
