-- UNLINK: the object of a name is deleted (fuse.h: FUSE_UNLINK, whose body is the name). A name with the suffix means the
-- file that a directory of the same name hides. What the object is isn't looked at.
use Rattle.std.specs.Prelude.{ℕ, [], ◌∷◌, List, Option, None}
use Rattle.bucket_api.specs.Operation.{delete}
use Rattle.bucket_api.specs.declared.answers.Answer.{Answer}
use Rattle.claim_spec.specs.declared.claim.Claim.{Claim}
use Rattle.mount_rules.specs.Claiming.{owns_name, shares_node}
use Rattle.mount_rules.specs.Guards.{in_directory, part_refusal, path_in}
use Rattle.mount_rules.specs.Plans.{Step, answers_of, ask, done}
use Rattle.mount_rules.specs.Removing.{Removed, fault, mount_after, removed_by, reply_to}
use Rattle.mount_rules.specs.Rules.{Rules, at_node}
use Rattle.mount_rules.specs.View.{View}
use Rattle.object_names.specs.Paths.{bare_name}

abbrev pub refusal : List ℕ → View → Option ℕ
refusal name view = in_directory view.node (part_refusal (bare_name name))

abbrev pub path_of : List ℕ → View → List ℕ
path_of name view = path_in view.node (bare_name name)

abbrev pub plan : List ℕ → List Answer → Step
plan path [] = ask (delete path None)
plan path (a ∷ more) = done

abbrev pub removed : List Answer → Removed
removed [] = fault
removed (a ∷ more) = removed_by a

abbrev pub claims : ℕ → List ℕ → View → List Claim
claims node name view = shares_node node ∷ owns_name (path_of name view) ∷ []

abbrev pub rules : ℕ → List ℕ → Rules
rules node name = record {
  looks = at_node node;
  refusal = refusal name;
  plan = λ taken. plan (path_of name taken.view);
  wants = λ view. None;
  claims = claims node name;
  keys = λ view. [];
  reply = λ taken mount seen. reply_to (removed (answers_of seen));
  after = λ taken mount seen. mount_after mount (path_of name taken.view) (removed (answers_of seen));
}
