-- OPEN: opens a file (fuse.h: `struct fuse_open_in`, whose flags are not looked at). It is opened where the generation
-- that the node shows is live under its name; where that is live no more, the node is stale. A file with staged content
-- is opened without being asked for.
use Rattle.std.specs.Prelude.{ℕ, ◌+◌, Option, None}
use Rattle.std.specs.FinMap as fin
use Rattle.fuse_replies.specs.Errno.{eio, estale}
use Rattle.fuse_replies.specs.declared.reply.Reply.{Reply}
use Rattle.fuse_replies.specs.declared.reply.Reply.TheVariants.{Error, Opened}
use Rattle.mount_rules.specs.Guards.{in_file}
use Rattle.mount_rules.specs.Mount.{MountModel, NodeTable}
use Rattle.mount_rules.specs.Plans.{answers_of, last_moment}
use Rattle.mount_rules.specs.Rules.{Rules, at_file}
use Rattle.mount_rules.specs.Standing as standing
use Rattle.mount_rules.specs.Standing.{Standing, unasked, live, gone, fault, table_after, generation_seen}
use Rattle.mount_rules.specs.View.{View}

abbrev pub refusal : View → Option ℕ
refusal view = in_file view.node (λ file. None)

-- one more handle of a file, and these nodes
abbrev pub with_handle : ℕ → MountModel → NodeTable → MountModel
with_handle node mount table = record mount {
  table = table;
  handles = fin.insert mount.handles mount.next_handle (record { node = node; items = None });
  next_handle = mount.next_handle + 1;
}

abbrev pub reply_to : MountModel → Standing → Reply
reply_to mount unasked = Opened mount.next_handle
reply_to mount (live meta) = Opened mount.next_handle
reply_to mount gone = Error estale
reply_to mount fault = Error eio

abbrev pub mount_after : ℕ → MountModel → ℕ → Standing → MountModel
mount_after node mount moment unasked = with_handle node mount mount.table
mount_after node mount moment (live meta) = with_handle node mount (table_after mount.table node moment (live meta))
mount_after node mount moment gone = mount
mount_after node mount moment fault = mount

abbrev pub rules : ℕ → Rules
rules node = record {
  looks = at_file node;
  refusal = refusal;
  plan = λ taken. standing.plan (standing.asked_name taken.view);
  wants = λ view. None;
  claims = standing.claims node;
  keys = standing.keys;
  reply = λ taken mount seen. reply_to mount (standing.standing (generation_seen taken.view.node) (answers_of seen));
  after = λ taken mount seen. mount_after node mount (last_moment seen) (standing.standing (generation_seen taken.view.node) (answers_of seen));
}
