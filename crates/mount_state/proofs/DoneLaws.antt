-- What a WRITE that nothing refuses early is answered and leaves, by what its end says.
use Rattle.std.proofs.Common.{◌≡◌, ℕ, Bool, false, List, [], ◌∷◌, Option, None, length, refl, sym, ap, subst, ◌∙◌}
use Rattle.std.specs.Prelude.{not, is_some, if◌then◌else◌}
use Rattle.std.specs.FinMap as fin
use Rattle.std.specs.Option.{option_map_or}
use Rattle.fuse_replies.specs.declared.reply.Reply.{Reply}
use Rattle.fuse_replies.specs.declared.reply.Reply.TheVariants.{Error}
use Rattle.fuse_requests.specs.declared.request.Request.TheVariants.{Write}
use Rattle.mount_model.specs.Observing.{Observed}
use Rattle.mount_model.specs.declared.config.Config.{Config}
use Rattle.mount_rules.specs.Dispatch.{early, mount_after, reply_to, wants}
use Rattle.mount_rules.specs.Mount.{MountModel}
use Rattle.mount_rules.specs.Plans.{HoldsWanted, Wanted, answers_of}
use Rattle.mount_rules.specs.Reading.{reads}
use Rattle.mount_rules.specs.Requests.Write as writing
use Rattle.mount_rules.specs.Rules.{AtTake, Taken, at_file}
use Rattle.mount_rules.specs.View.{View, sight_at, view_of}
use Rattle.mount_state.specs.Serving.{IsServedAt}
use Rattle.mount_state.specs.declared.base.Base.{Base}

module _ (mount : MountModel) (node fh first : ℕ) (content : List ℕ) (free : early mount (Write node fh first content) ≡ None) where
  abbrev view : View
  view = view_of mount (at_file node)

  abbrev wanted : Option Wanted
  wanted = writing.wanted first content (fin.get mount.staged node) (sight_at mount.table node)

  -- the view of the request has its handle too, by which it isn't full
  abbrev with_handle : View
  with_handle = record view { handle = fin.get mount.handles fh }

  full_at : (config : Config) → writing.is_full config mount.staged first content view ≡ writing.is_full config mount.staged first content with_handle
  full_at config = by content
    where
      by : (content : List ℕ) → writing.is_full config mount.staged first content view ≡ writing.is_full config mount.staged first content with_handle
      by [] = refl
      by (byte ∷ bytes) = refl

  -- what it wants, unless it is full
  wants_is : (config : Config) → wants config mount (Write node fh first content) ≡ (if writing.is_full config mount.staged first content view then None else wanted)
  wants_is config =
      ap (λ (e : Option ℕ). if not (is_some e) then (if writing.is_full config mount.staged first content with_handle then None else wanted) else None) free
      ∙ ap (λ t. if t then None else wanted) (sym (full_at config))

  fits_so : (P : Option Wanted → Type 0) (config : Config) → writing.is_full config mount.staged first content view ≡ false → P (wants config mount (Write node fh first content)) → P wanted
  fits_so P config free p = subst (λ (t : Bool). P (if t then None else wanted)) free (subst P (wants_is config) p)

  module _ (at : AtTake) (config : Config) (second blocks : ℕ) (base : Base) (seen : List Observed) (served : IsServedAt config second mount (Write node fh first content) base at) (same : blocks ≡ config.staging_blocks) where
    -- what came of it
    abbrev came_in : View → writing.Came
    came_in view = writing.came_of (writing.is_full at.config mount.staged first content view) (reads (answers_of seen))

    abbrev taken : View → Taken
    taken view = record { at = at; view = view }

    enough : blocks ≡ at.config.staging_blocks
    enough = same ∙ sym (ap (λ (c : Config). c.staging_blocks) served.settings)

    pub write_replies : (reply : Reply)
        → ((other : Config) → blocks ≡ other.staging_blocks → reply ≡ writing.reply_to (length content) (writing.came_of (writing.is_full other mount.staged first content view) (reads (answers_of seen))))
        → reply ≡ reply_to at mount (Write node fh first content) seen
    write_replies reply told =
        told at.config enough
        ∙ ap (λ t. writing.reply_to (length content) (writing.came_of t (reads (answers_of seen)))) (full_at at.config)
        ∙ sym (ap (λ (e : Option ℕ). option_map_or Error e (writing.reply_to (length content) (came_in with_handle))) free)

    pub write_leaves : (after : MountModel)
        → ((other : AtTake) → blocks ≡ other.config.staging_blocks → other.second ≡ second
        → (writing.is_full other.config mount.staged first content view ≡ false → HoldsWanted other.contents wanted base.first base.bytes)
        → after ≡ writing.mount_after (record { at = other; view = view }) mount node first content (writing.came_of (writing.is_full other.config mount.staged first content view) (reads (answers_of seen))))
        → after ≡ mount_after at mount (Write node fh first content) seen
    write_leaves after told =
        told at enough served.second_is (λ fits. fits_so (λ w. HoldsWanted at.contents w base.first base.bytes) config
        (ap (λ (c : Config). writing.is_full c mount.staged first content view) (sym served.settings) ∙ fits) served.holds)
        ∙ same_view content (came_in view)
        ∙ ap (λ t. writing.mount_after (taken with_handle) mount node first content (writing.came_of t (reads (answers_of seen)))) (full_at at.config)
        ∙ sym (ap (λ (e : Option ℕ). if not (is_some e) then writing.mount_after (taken with_handle) mount node first content (came_in with_handle) else mount) free)
      where
        same_view : (content : List ℕ) (came : writing.Came)
            → writing.mount_after (taken view) mount node first content came ≡ writing.mount_after (taken with_handle) mount node first content came
        same_view content writing.full = refl
        same_view content writing.stale = refl
        same_view content writing.fault = refl
        same_view [] writing.whole = refl
        same_view (byte ∷ bytes) writing.whole = refl
