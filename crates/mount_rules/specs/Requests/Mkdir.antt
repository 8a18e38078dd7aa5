-- MKDIR: a directory (fuse.h: `struct fuse_mkdir_in`, whose mode and umask are not looked at). Its placeholder is made,
-- only where none is live, as gcsfuse does.
use Rattle.std.specs.Prelude.{ℕ, [], ◌∷◌, List, Option, None}
use Rattle.claim_spec.specs.declared.claim.Claim.{Claim}
use Rattle.fuse_replies.specs.Errno.{eexist, eio}
use Rattle.fuse_replies.specs.declared.reply.Reply.{Reply}
use Rattle.fuse_replies.specs.declared.reply.Reply.TheVariants.{Entry, Error}
use Rattle.mount_model.specs.declared.config.Config.{Config}
use Rattle.mount_rules.specs.Claiming.{shares_node, owns_name}
use Rattle.mount_rules.specs.Guards.{in_directory, part_refusal, path_in}
use Rattle.mount_rules.specs.Making as making
use Rattle.mount_rules.specs.Making.{Made, new, exists, fault}
use Rattle.mount_rules.specs.Mount.{MountModel}
use Rattle.mount_rules.specs.Plans.{answers_of}
use Rattle.mount_rules.specs.Requests.Lookup.{directory_entry}
use Rattle.mount_rules.specs.Rules.{Rules, at_node}
use Rattle.mount_rules.specs.Showing.{after_directory}
use Rattle.mount_rules.specs.View.{View}
use Rattle.object_names.specs.Paths.{dir_prefix_of}

abbrev pub refusal : List ℕ → View → Option ℕ
refusal name view = in_directory view.node (part_refusal name)

-- the name of its placeholder
abbrev pub prefix_of : List ℕ → View → List ℕ
prefix_of name view = dir_prefix_of (path_in view.node name)

-- a look-up of its current node, or of a new one
abbrev pub reply_to : Config → MountModel → List ℕ → Made → Reply
reply_to config mount prefix (new meta) = Entry (directory_entry config mount.table prefix)
reply_to config mount prefix exists = Error eexist
reply_to config mount prefix fault = Error eio

abbrev pub mount_after : MountModel → List ℕ → Made → MountModel
mount_after mount prefix (new meta) = record mount { table = after_directory mount.table prefix }
mount_after mount prefix exists = mount
mount_after mount prefix fault = mount

abbrev pub claims : ℕ → List ℕ → View → List Claim
claims node name view = shares_node node ∷ owns_name (prefix_of name view) ∷ []

abbrev pub rules : ℕ → List ℕ → Rules
rules node name = record {
  looks = at_node node;
  refusal = refusal name;
  plan = λ taken. making.plan (prefix_of name taken.view) [] taken.at.second;
  wants = λ view. None;
  claims = claims node name;
  keys = λ view. [];
  reply = λ taken mount seen. reply_to taken.at.config mount (prefix_of name taken.view) (making.made (answers_of seen));
  after = λ taken mount seen. mount_after mount (prefix_of name taken.view) (making.made (answers_of seen));
}
