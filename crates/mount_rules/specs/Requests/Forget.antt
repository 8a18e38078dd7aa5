-- FORGET: the kernel gives look-ups of a node back (fuse.h: `nlookup` of `struct fuse_forget_in`). It has no reply. A
-- node without look-ups is dropped, and what is staged of it; a file stays while a handle holds it.
use Rattle.std.specs.Prelude.{ℕ, Bool, ◌==◌, ◌∷◌, [], List, None, is_some, if◌then◌else◌}
use Rattle.std.specs.FinMap as fin
use Rattle.std.specs.List.{list_any}
use Rattle.std.specs.Option.{option_map_or}
use Rattle.claim_spec.specs.declared.claim.Claim.{Claim}
use Rattle.fuse_replies.specs.declared.reply.Reply.TheVariants.{Silent}
use Rattle.handle_table.specs.Handles.{Opened}
use Rattle.inode_spec.specs.Inodes.{forgotten}
use Rattle.mount_rules.specs.Claiming.{owns_node}
use Rattle.mount_rules.specs.Mount.{MountModel, NodeTable, OpenHandles}
use Rattle.mount_rules.specs.Plans.{done}
use Rattle.mount_rules.specs.Rules.{Rules, at_node}
use Rattle.mount_rules.specs.View.{Sight, View}
use Rattle.staging_spec.specs.StagedFiles.{StagedFiles}

-- an open handle is on the node
abbrev pub is_held : OpenHandles → ℕ → Bool
is_held handles number = list_any (λ (handle : Opened). handle.node == number) (fin.values handles)

-- what is staged of files, after a node may have gone
abbrev pub staged_beside : NodeTable → ℕ → StagedFiles → StagedFiles
staged_beside table number staged = if is_some (fin.get table.nodes number) then staged else fin.remove staged number

-- the mount with these nodes, of which this one may have gone
abbrev pub with_left : ℕ → NodeTable → MountModel → MountModel
with_left number table mount = record mount { table = table; staged = staged_beside table number mount.staged }

abbrev pub after : ℕ → ℕ → MountModel → MountModel
after number count mount = with_left number (forgotten mount.table number count (is_held mount.handles number)) mount

-- a node that isn't live has nothing to give back
abbrev pub claims : ℕ → View → List Claim
claims number view = option_map_or (λ (sight : Sight). if sight.live then owns_node number ∷ [] else []) view.node []

abbrev pub rules : ℕ → ℕ → Rules
rules number count = record {
  looks = at_node number;
  refusal = λ view. None;
  plan = λ taken answers. done;
  wants = λ view. None;
  claims = claims number;
  keys = λ view. [];
  reply = λ taken mount seen. Silent;
  after = λ taken mount seen. after number count mount;
}
