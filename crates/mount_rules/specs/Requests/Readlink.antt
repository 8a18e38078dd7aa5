-- READLINK: the target of a symlink, as it is kept (fuse.h: FUSE_READLINK, which has no body).
use Rattle.std.specs.Prelude.{ℕ, [], ◌∷◌, List, Option, Some, None, option_and_then, unwrap_or}
use Rattle.bucket_api.specs.Metadata.{Metadata}
use Rattle.fuse_replies.specs.Errno.{einval}
use Rattle.fuse_replies.specs.declared.reply.Reply.TheVariants.{Target}
use Rattle.mount_rules.specs.Attributes.{target_of}
use Rattle.mount_rules.specs.Claiming.{shares_node}
use Rattle.mount_rules.specs.Guards.{on_live}
use Rattle.mount_rules.specs.Plans.{done}
use Rattle.mount_rules.specs.Rules.{Rules, at_node}
use Rattle.mount_rules.specs.View.{Looks, View}
use Rattle.object_names.specs.declared.shown.NodeKind.{NodeKind}
use Rattle.object_names.specs.declared.shown.NodeKind.TheVariants.{Symlink}

abbrev pub kind_refusal : NodeKind → Option ℕ
kind_refusal Symlink = None
kind_refusal kind = Some einval

abbrev pub refusal : View → Option ℕ
refusal view = on_live view.node (λ sight. kind_refusal sight.kind)

abbrev pub target_in : Option Metadata → List ℕ
target_in kept = unwrap_or (option_and_then target_of kept) []

abbrev pub looks : ℕ → Looks
looks node = record (at_node node) { kept = Some node }

abbrev pub rules : ℕ → Rules
rules node = record {
  looks = looks node;
  refusal = refusal;
  plan = λ taken answers. done;
  wants = λ view. None;
  claims = λ view. shares_node node ∷ [];
  keys = λ view. [];
  reply = λ taken mount seen. Target (target_in taken.view.kept);
  after = λ taken mount seen. mount;
}
