-- MKNOD: a new file, not open (fuse.h: `struct fuse_mknod_in`, of whose mode only the type is looked at). An empty object
-- is made at once, only where none is live under the name. A device, a FIFO and a socket have no object.
use Rattle.std.specs.Prelude.{ℕ, ◌/◌, ◌%◌, Bool, ◌==◌, ◌||◌, [], List, Option, Some, None, if◌then◌else◌}
use Rattle.bucket_api.specs.declared.objects.Pair.{Pair}
use Rattle.fuse_replies.specs.Errno.{eexist, eio, enosys}
use Rattle.fuse_replies.specs.declared.reply.Reply.{Reply}
use Rattle.fuse_replies.specs.declared.reply.Reply.TheVariants.{Entry, Error}
use Rattle.inode_spec.specs.Inodes.{granted}
use Rattle.mount_model.specs.declared.config.Config.{Config}
use Rattle.mount_rules.specs.Attributes.{entry_of}
use Rattle.mount_rules.specs.Making as making
use Rattle.mount_rules.specs.Making.{Made, new, exists, fault}
use Rattle.mount_rules.specs.Mount.{MountModel}
use Rattle.mount_rules.specs.Plans.{answers_of, last_moment}
use Rattle.mount_rules.specs.Requests.Create as create
use Rattle.mount_rules.specs.Rules.{Rules, at_node}
use Rattle.mount_rules.specs.Showing.{new_node}
use Rattle.mount_rules.specs.View.{View}

-- the type of the mode is that of a regular file (S_IFREG of stat.h), or none
abbrev pub is_regular : ℕ → Bool
is_regular mode = mode / 4096 % 16 == 0 || mode / 4096 % 16 == 8

abbrev pub refusal : ℕ → List ℕ → View → Option ℕ
refusal mode name view = if is_regular mode then create.refusal name view else Some enosys

-- the object is a new node, which becomes current, with one look-up
abbrev pub reply_to : Config → MountModel → List ℕ → ℕ → Made → Reply
reply_to config mount path moment (new meta) = Entry (entry_of config mount.table.next (new_node path meta moment) None)
reply_to config mount path moment exists = Error eexist
reply_to config mount path moment fault = Error eio

abbrev pub mount_after : MountModel → List ℕ → ℕ → Made → MountModel
mount_after mount path moment (new meta) = record mount { table = granted mount.table (new_node path meta moment) }
mount_after mount path moment exists = mount
mount_after mount path moment fault = mount

-- a request that makes an object of the name, with these pairs
abbrev pub making_rules : ℕ → List ℕ → List Pair → (View → Option ℕ) → Rules
making_rules node name pairs refusal = record {
  looks = at_node node;
  refusal = refusal;
  plan = λ taken. making.plan (create.path_of name taken.view) pairs taken.at.second;
  wants = λ view. None;
  claims = create.claims node name;
  keys = λ view. [];
  reply = λ taken mount seen. reply_to taken.at.config mount (create.path_of name taken.view) (last_moment seen) (making.made (answers_of seen));
  after = λ taken mount seen. mount_after mount (create.path_of name taken.view) (last_moment seen) (making.made (answers_of seen));
}

abbrev pub rules : ℕ → ℕ → List ℕ → Rules
rules node mode name = making_rules node name [] (refusal mode name)
