-- The rules of READLINK are sound.
use Rattle.std.proofs.Common.{◌≢◌, ℕ, Option, Some, refl, arith}
use Rattle.bucket_api.specs.Metadata.{Metadata}
use Rattle.fuse_replies.specs.Errno.{enomem}
use Rattle.fuse_replies.specs.declared.reply.Reply.TheVariants.{Error, Target}
use Rattle.mount_rules.specs.Requests.Readlink as readlink
use Rattle.object_names.specs.declared.shown.NodeKind.{NodeKind}
use Rattle.object_names.specs.declared.shown.NodeKind.TheVariants.{Dir, File, Symlink}
use Rattle.mount_laws.proofs.Guarding.{on_live-memory}
use Rattle.mount_laws.proofs.Memory.{errors_differ, no_error}
use Rattle.mount_laws.proofs.Quiet.{IsSound-quiet}
use Rattle.mount_laws.proofs.Sound.{IsSound}

of_kind : (kind : NodeKind) → readlink.kind_refusal kind ≢ Some enomem
of_kind Symlink e = no_error e
of_kind Dir e = errors_differ (λ same. absurd (omega (arith, same))) e
of_kind File e = errors_differ (λ same. absurd (omega (arith, same))) e

answered : (kept : Option Metadata) → Target (readlink.target_in kept) ≢ Error enomem
answered kept e = cc

pub readlink_sound : (node : ℕ) → IsSound (readlink.rules node) (λ number. 0) (Some 0)
readlink_sound node = IsSound-quiet (readlink.rules node) (record {
  plan_done = λ taken answers. refl;
  wants_none = λ view. refl;
  stays = λ taken mount seen. refl;
  refuses = λ view. on_live-memory view.node _ (λ sight. of_kind sight.kind);
  answers = λ taken mount seen. answered taken.view.kept;
  gives = λ taken mount seen number. refl;
})
