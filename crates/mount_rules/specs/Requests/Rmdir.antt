-- RMDIR: the placeholder of an empty directory is deleted (fuse.h: FUSE_RMDIR, whose body is the name). Whether anything
-- lies in it is asked for first.
use Rattle.std.specs.Prelude.{ℕ, Bool, false, not, [], ◌∷◌, List, None, if◌then◌else◌}
use Rattle.std.specs.List.{list_any}
use Rattle.std.specs.Str.{bytes_eq}
use Rattle.bucket_api.specs.Metadata.{Metadata}
use Rattle.bucket_api.specs.Operation.{delete, list}
use Rattle.bucket_api.specs.declared.answers.Answer.{Answer}
use Rattle.bucket_api.specs.declared.answers.Answer.TheVariants as answers
use Rattle.claim_spec.specs.declared.claim.Claim.{Claim}
use Rattle.fuse_replies.specs.Errno.{enotempty}
use Rattle.fuse_replies.specs.declared.reply.Reply.{Reply}
use Rattle.fuse_replies.specs.declared.reply.Reply.TheVariants.{Error}
use Rattle.mount_rules.specs.Claiming.{owns_name, shares_node}
use Rattle.mount_rules.specs.Mount.{MountModel}
use Rattle.mount_rules.specs.Plans.{Step, answers_of, ask, done}
use Rattle.mount_rules.specs.Removing as removing
use Rattle.mount_rules.specs.Removing.{Removed}
use Rattle.mount_rules.specs.Requests.Mkdir.{prefix_of, refusal}
use Rattle.mount_rules.specs.Rules.{Rules, at_node}
use Rattle.mount_rules.specs.View.{View}

-- the object is another than the directory's placeholder
abbrev pub is_other : List ℕ → Metadata → Bool
is_other prefix meta = not (bytes_eq meta.name prefix)

-- What a page of two names shows of a directory: none, its placeholder alone, or what lies in it.
pub data Inside : Type 0 where
  absent : Inside
  empty : Inside
  filled : Inside

abbrev pub inside : List ℕ → List Metadata → Inside
inside prefix [] = absent
inside prefix (meta ∷ metas) = if list_any (is_other prefix) (meta ∷ metas) then filled else empty

abbrev pub after_page : List ℕ → Inside → Step
after_page prefix empty = ask (delete prefix None)
after_page prefix found = done

abbrev pub after_list : List ℕ → Answer → Step
after_list prefix (answers.Page page) = after_page prefix (inside prefix page.items)
after_list prefix _ = done

abbrev pub plan : List ℕ → List Answer → Step
plan prefix [] = ask (list prefix false 2 None)
plan prefix (a ∷ []) = after_list prefix a
plan prefix (a ∷ b ∷ more) = done

-- What came of it: the directory is removed, or there was none; something lies in it; or the bucket failed.
pub data Came : Type 0 where
  removed : Removed → Came
  not_empty : Came

abbrev pub came_of_page : Inside → Came
came_of_page filled = not_empty
came_of_page found = removed removing.nothing

abbrev pub came_of_list : List ℕ → Answer → Came
came_of_list prefix (answers.Page page) = came_of_page (inside prefix page.items)
came_of_list prefix _ = removed removing.fault

abbrev pub came_of : List ℕ → List Answer → Came
came_of prefix [] = removed removing.fault
came_of prefix (a ∷ []) = came_of_list prefix a
came_of prefix (a ∷ b ∷ more) = removed (removing.removed_by b)

-- the error that it is answered, 0 where the directory is removed
abbrev pub errno_of : Came → ℕ
errno_of (removed r) = removing.errno_of r
errno_of not_empty = enotempty

abbrev pub reply_to : Came → Reply
reply_to (removed r) = removing.reply_to r
reply_to not_empty = Error enotempty

abbrev pub mount_after : MountModel → List ℕ → Came → MountModel
mount_after mount prefix (removed r) = removing.mount_after mount prefix r
mount_after mount prefix not_empty = mount

abbrev pub claims : ℕ → List ℕ → View → List Claim
claims node name view = shares_node node ∷ owns_name (prefix_of name view) ∷ []

abbrev pub rules : ℕ → List ℕ → Rules
rules node name = record {
  looks = at_node node;
  refusal = refusal name;
  plan = λ taken. plan (prefix_of name taken.view);
  wants = λ view. None;
  claims = claims node name;
  keys = λ view. [];
  reply = λ taken mount seen. reply_to (came_of (prefix_of name taken.view) (answers_of seen));
  after = λ taken mount seen. mount_after mount (prefix_of name taken.view) (came_of (prefix_of name taken.view) (answers_of seen));
}
