-- What a RENAME or a RENAME2 that nothing refuses early is answered and leaves, by what its end says.
use Rattle.std.proofs.Common.{◌≡◌, ℕ, List, Option, None, sym, ap, subst, ◌∙◌, ◌⊎◌, inl, inr}
use Rattle.std.specs.Prelude.{not, is_some, if◌then◌else◌}
use Rattle.std.specs.Option.{option_map_or}
use Rattle.fuse_replies.specs.declared.reply.Reply.{Reply}
use Rattle.fuse_replies.specs.declared.reply.Reply.TheVariants.{Error}
use Rattle.fuse_requests.specs.Grammar.{without_spare}
use Rattle.fuse_requests.specs.declared.request.Request.{Request}
use Rattle.fuse_requests.specs.declared.request.Request.TheVariants.{Rename, Rename2}
use Rattle.mount_model.specs.Observing.{Observed}
use Rattle.mount_rules.specs.Dispatch.{early, mount_after, reply_to, view_in}
use Rattle.mount_rules.specs.Mount.{MountModel}
use Rattle.mount_rules.specs.Plans.{answers_of}
use Rattle.mount_rules.specs.Requests.Rename as rename
use Rattle.mount_rules.specs.Requests.Rename.{Names}
use Rattle.mount_rules.specs.Rules.{AtTake}
use Rattle.mount_rules.specs.View.{View}
use Rattle.mount_state.specs.Moving.{moving_view, names_of}
use Rattle.mount_state.specs.Spares.{Provided, provided_for, rename_wants}

-- it is one of the two
abbrev pub IsRenaming : Request → Type 0
IsRenaming request =
    ((node : ℕ) × (newdir : ℕ) × (name : List ℕ) × (newname : List ℕ) × (request ≡ Rename node newdir name newname))
    ⊎ ((node : ℕ) × (newdir : ℕ) × (flags : ℕ) × (name : List ℕ) × (newname : List ℕ) × (request ≡ Rename2 node newdir flags name newname))

module _ (at : AtTake) (mount after : MountModel) (seen : List Observed) (given : Provided) (reply : Reply)
    (replied : (names : Names) (view : View) → given ≡ rename_wants names view → reply ≡ rename.reply_to (rename.came names view (answers_of seen)))
    (left : (names : Names) (view : View) → given ≡ rename_wants names view → after ≡ rename.mount_after names view mount (rename.came names view (answers_of seen))) where
  abbrev IsDone : Request → Type 0
  IsDone request = (reply ≡ reply_to at mount request seen) × (after ≡ mount_after at mount request seen)

  -- by what refuses it, which is nothing
  settled : (names : Names) (view : View) (errno : Option ℕ) → errno ≡ None → given ≡ rename_wants names view
      → (reply ≡ option_map_or Error errno (rename.reply_to (rename.came names view (answers_of seen))))
      × (after ≡ (if not (is_some errno) then rename.mount_after names view mount (rename.came names view (answers_of seen)) else mount))
  settled names view errno free wants = (
    replied names view wants ∙ sym (ap (λ (e : Option ℕ). option_map_or Error e (rename.reply_to (rename.came names view (answers_of seen)))) free),
    left names view wants ∙ sym (ap (λ (e : Option ℕ). if not (is_some e) then rename.mount_after names view mount (rename.came names view (answers_of seen)) else mount) free),
  )

  pub renamed : (request : Request) → IsRenaming request → early mount (without_spare request) ≡ None
      → given ≡ provided_for (without_spare request) (view_in mount (without_spare request)) → IsDone (without_spare request)
  renamed request (inl (node, newdir, name, newname, is)) free wants =
      subst (λ (r : Request). early mount r ≡ None → given ≡ provided_for r (view_in mount r) → IsDone r) (sym (ap without_spare is))
      (settled (names_of name newdir newname) (moving_view mount node (names_of name newdir newname)) (early mount (Rename node newdir name newname))) free wants
  renamed request (inr (node, newdir, flags, name, newname, is)) free wants =
      subst (λ (r : Request). early mount r ≡ None → given ≡ provided_for r (view_in mount r) → IsDone r) (sym (ap without_spare is))
      (settled (names_of name newdir newname) (moving_view mount node (names_of name newdir newname)) (early mount (Rename2 node newdir flags name newname))) free wants
