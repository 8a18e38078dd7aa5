-- CREATE: a new file, open (fuse.h: `struct fuse_create_in`, whose flags, mode and umask are not looked at). An empty
-- object is made at once, only where none is live under the name.
use Rattle.std.specs.Prelude.{ℕ, ◌+◌, [], ◌∷◌, List, Option, None}
use Rattle.std.specs.FinMap as fin
use Rattle.claim_spec.specs.declared.claim.Claim.{Claim}
use Rattle.fuse_replies.specs.declared.reply.Reply.{Reply}
use Rattle.fuse_replies.specs.declared.reply.Reply.TheVariants.{Error, Created}
use Rattle.inode_spec.specs.Inodes.{granted}
use Rattle.mount_model.specs.declared.config.Config.{Config}
use Rattle.mount_rules.specs.Attributes.{entry_of}
use Rattle.mount_rules.specs.Claiming.{shares_node, owns_name}
use Rattle.fuse_replies.specs.Errno.{eexist, eio}
use Rattle.mount_rules.specs.Guards.{in_directory, part_refusal, path_in}
use Rattle.mount_rules.specs.Making as making
use Rattle.mount_rules.specs.Making.{Made, new, exists, fault}
use Rattle.mount_rules.specs.Mount.{MountModel, Node}
use Rattle.mount_rules.specs.Plans.{answers_of, last_moment}
use Rattle.mount_rules.specs.Rules.{Rules, at_node}
use Rattle.mount_rules.specs.Showing.{new_node}
use Rattle.mount_rules.specs.View.{View}

abbrev pub refusal : List ℕ → View → Option ℕ
refusal name view = in_directory view.node (part_refusal name)

abbrev pub path_of : List ℕ → View → List ℕ
path_of name view = path_in view.node name

-- the new file is always a new node, which becomes current, and is open
abbrev pub with_new_file : MountModel → Node → MountModel
with_new_file mount node = record mount {
  table = granted mount.table node;
  handles = fin.insert mount.handles mount.next_handle (record { node = mount.table.next; items = None });
  next_handle = mount.next_handle + 1;
}

abbrev pub reply_to : Config → MountModel → List ℕ → ℕ → Made → Reply
reply_to config mount path moment (new meta) = Created (entry_of config mount.table.next (new_node path meta moment) None) mount.next_handle
reply_to config mount path moment exists = Error eexist
reply_to config mount path moment fault = Error eio

abbrev pub mount_after : MountModel → List ℕ → ℕ → Made → MountModel
mount_after mount path moment (new meta) = with_new_file mount (new_node path meta moment)
mount_after mount path moment exists = mount
mount_after mount path moment fault = mount

abbrev pub claims : ℕ → List ℕ → View → List Claim
claims node name view = shares_node node ∷ owns_name (path_of name view) ∷ []

abbrev pub rules : ℕ → List ℕ → Rules
rules node name = record {
  looks = at_node node;
  refusal = refusal name;
  plan = λ taken. making.plan (path_of name taken.view) [] taken.at.second;
  wants = λ view. None;
  claims = claims node name;
  keys = λ view. [];
  reply = λ taken mount seen. reply_to taken.at.config mount (path_of name taken.view) (last_moment seen) (making.made (answers_of seen));
  after = λ taken mount seen. mount_after mount (path_of name taken.view) (last_moment seen) (making.made (answers_of seen));
}
