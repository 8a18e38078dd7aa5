-- GETATTR: the attributes of a node (fuse.h: `struct fuse_getattr_in`, whose flags and handle are not looked at). The
-- bucket is asked whether the generation that the node shows is still live under its name, but for a file with staged
-- content, which shows that.
use Rattle.std.specs.Prelude.{ℕ, Option, None, nat_lt, if◌then◌else◌}
use Rattle.std.specs.FinMap as fin
use Rattle.std.specs.Option.{option_map_or}
use Rattle.fuse_replies.specs.Errno.{eio, estale}
use Rattle.fuse_replies.specs.declared.reply.Reply.{Reply}
use Rattle.fuse_replies.specs.declared.reply.Reply.TheVariants.{Attr, Error}
use Rattle.inode_spec.specs.Inodes.{file_of}
use Rattle.mount_model.specs.declared.config.Config.{Config}
use Rattle.mount_rules.specs.Attributes.{attributes}
use Rattle.mount_rules.specs.Guards.{on_live}
use Rattle.mount_rules.specs.Mount.{File, MountModel, NodeTable}
use Rattle.mount_rules.specs.Plans.{answers_of, last_moment}
use Rattle.mount_rules.specs.Rules.{Rules, at_file}
use Rattle.mount_rules.specs.Standing as standing
use Rattle.mount_rules.specs.Standing.{Standing, unasked, live, gone, fault, table_after, generation_seen}
use Rattle.mount_rules.specs.View.{View}
use Rattle.staging_spec.specs.StagedFiles.{StagedFiles}

abbrev pub refusal : View → Option ℕ
refusal view = on_live view.node (λ sight. None)

-- the moment at which a node's generation was last known to be live
abbrev pub known_at : NodeTable → ℕ → ℕ
known_at table number = option_map_or (λ (file : File). file.kept.known) (file_of table number) 0

-- a node whose generation is live no more, seen later than it was last known to be live, has no name any more
abbrev pub links : NodeTable → ℕ → ℕ → Standing → ℕ
links table number moment gone = if nat_lt (known_at table number) moment then 0 else 1
links table number moment _ = 1

-- the attributes of a node with so many names; a node that isn't there is stale
abbrev pub reply_with : Config → NodeTable → StagedFiles → ℕ → ℕ → Reply
reply_with config table staged number count =
    option_map_or (λ node. Attr (record (attributes config number node (fin.get staged number)) { nlink = count })) (fin.get table.nodes number) (Error estale)

-- what a GETATTR that found this at a moment is answered: the attributes as the node then keeps them
abbrev pub reply_to : Config → MountModel → ℕ → ℕ → Standing → Reply
reply_to config mount number moment fault = Error eio
reply_to config mount number moment found =
    reply_with config (table_after mount.table number moment found) mount.staged number (links mount.table number moment found)

abbrev pub rules : ℕ → Rules
rules node = record {
  looks = at_file node;
  refusal = refusal;
  plan = λ taken. standing.plan (standing.asked_name taken.view);
  wants = λ view. None;
  claims = standing.claims node;
  keys = standing.keys;
  reply = λ taken mount seen. reply_to taken.at.config mount node (last_moment seen) (standing.standing (generation_seen taken.view.node) (answers_of seen));
  after = λ taken mount seen. record mount { table = table_after mount.table node (last_moment seen) (standing.standing (generation_seen taken.view.node) (answers_of seen)) };
}
