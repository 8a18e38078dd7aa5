-- What a request leaves that is answered an error, and a WRITE for which there are not enough blocks.
use Rattle.std.proofs.Common.{◌≡◌, ℕ, Bool, true, false, List, [], Option, Some, None, refl, sym, ap, subst, ◌∙◌, length}
use Rattle.std.proofs.lemmas.Bool.{false≢true}
use Rattle.std.specs.Prelude.{if◌then◌else◌, not, ◌&&◌, is_some}
use Rattle.std.specs.Option.{option_map_or}
use Rattle.fuse_replies.specs.declared.reply.Reply.{Reply}
use Rattle.fuse_replies.specs.declared.reply.Reply.TheVariants.{Error, Silent}
use Rattle.fuse_requests.specs.declared.request.Request.TheVariants.{Write}
use Rattle.mount_rules.specs.Dispatch.{early, goes_on, is_idle, rules_of, taken_at, view_in}
use Rattle.mount_rules.specs.Laws.{FullIsRefused, IsRefusedFull, RefusedKeepsStaged}
use Rattle.mount_rules.specs.Mount.{MountModel}
use Rattle.mount_rules.specs.Plans.{MayEnd, done}
use Rattle.mount_rules.specs.Reading.{given, source_of, while_given}
use Rattle.mount_rules.specs.Requests.Write as write
use Rattle.mount_rules.specs.Rules.{AtTake, Taken}
use Rattle.mount_rules.specs.View.{Sight}
use Rattle.mount_laws.proofs.RequestLaws.{goes_by, sound, unrefused}

pub refused_keeps_staged : RefusedKeepsStaged
refused_keeps_staged at mount request seen errno error = by (goes_on mount request) refl
  where
    -- the reply of its own rules
    own : (idle : Bool) (refused : Option ℕ) → (not idle && not (is_some refused)) ≡ true → (reply : Reply)
        → (if idle then Silent else option_map_or Error refused reply) ≡ Error errno → reply ≡ Error errno
    own false None on reply e = e
    own false (Some refused) on reply e = absurd (false≢true on)
    own true refused on reply e = absurd (false≢true on)

    by : (on : Bool) → goes_on mount request ≡ on → (if on then (rules_of request).after (taken_at at mount request) mount seen else mount).staged ≡ mount.staged
    by false off = refl
    by true on = (sound request).keeps_staged at mount seen errno (unrefused mount request on)
        (own (is_idle mount request) (early mount request) on ((rules_of request).reply (taken_at at mount request) mount seen) error)

-- a WRITE may read, and ask nothing else
ends : (seen : Option Sight) → MayEnd (option_map_or (λ (file : Sight). while_given (source_of file) given) seen done)
ends None = tt
ends (Some file) = tt

full_write : (at : AtTake) (mount : MountModel) (node fh first : ℕ) (bytes : List ℕ) → early mount (Write node fh first bytes) ≡ None
    → write.is_full at.config mount.staged first bytes (view_in mount (Write node fh first bytes)) ≡ true → IsRefusedFull at mount (Write node fh first bytes)
full_write at mount node fh first bytes none full = record {
  ends = subst (λ (b : Bool). MayEnd ((if b then write.plan taken.view else (λ answers. done)) [])) (sym on) (ends taken.view.node);
  answered = ap (λ errno. option_map_or Error errno (write.reply_to (length bytes) (write.came taken mount first bytes []))) none
      ∙ ap (λ b. write.reply_to (length bytes) (write.came_of b given)) full;
  left = ap (λ b. if b then write.mount_after taken mount node first bytes (write.came taken mount first bytes []) else mount) on
      ∙ ap (λ b. write.mount_after taken mount node first bytes (write.came_of b given)) full;
}
  where
    taken : Taken
    taken = taken_at at mount (Write node fh first bytes)

    on : goes_on mount (Write node fh first bytes) ≡ true
    on = goes_by mount (Write node fh first bytes) false None refl none

pub full_is_refused : FullIsRefused
full_is_refused at mount (Write node fh first bytes) none full = full_write at mount node fh first bytes none full
full_is_refused at mount _ none full = absurd (false≢true full)
