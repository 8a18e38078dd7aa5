-- A call is done: an account goes on by its end, whatever is claimed.
use Rattle.std.proofs.Common.{◌≡◌, ◌≢◌, ℕ, Bool, true, false, List, [], ◌∷◌, ◌++◌, length, take, Option, Some, refl, sym, ap, subst, ◌∙◌, arith, inl, inr}
use Rattle.std.specs.Prelude.{◌&&◌, ◌||◌, ◌==◌, ◌⊎◌, IfSome, not, is_some}
use Rattle.std.specs.List.{AllByRecursion}
use Rattle.std.specs.Option.{option_map_or}
use Rattle.std.proofs.lemmas.Bool.Decides.{eqb_tells}
use Rattle.std.proofs.Math.Seq.{take-length}
use Rattle.std.proofs.lemmas.List.{append_cancel_right, map-append}
use Rattle.bucket_api.specs.Passes.{PassState}
use Rattle.core_spec.proofs.Almost.{AlmostTells}
use Rattle.core_spec.proofs.Beside.{are_unseen, beside_done, walk_asked}
use Rattle.core_spec.proofs.Taking.{and_true}
use Rattle.core_spec.specs.Beside.{AreBeside, IsAsked, WasApart, WereApart}
use Rattle.core_spec.specs.Cores.{AreHome, CoreState, come_to, done_at, kept_by, with_done, with_lane}
use Rattle.history_spec.proofs.JournalLaws.{entry_is_added}
use Rattle.history_spec.proofs.LaneLaws.{turn_keeps_covered}
use Rattle.history_spec.proofs.Lanes.{all_others, at_lane, open_of-gone, open_of-others}
use Rattle.history_spec.proofs.OwnMoments.{all_weaker}
use Rattle.history_spec.proofs.Walking.{Walked-walks}
use Rattle.history_spec.specs.Account.{Account, Item, own_moments_of, printed, uses_of}
use Rattle.history_spec.specs.Fits.{EndsBy, HasWalked, MayBeDone, MayFollow, plan_of}
use Rattle.history_spec.specs.JournalState.{EndedCall, JournalState, OpenCall, after_done, ended_by, open_of, others_of, reached}
use Rattle.history_spec.specs.Lanes.{IsCovered}
use Rattle.history_spec.specs.Laws.{GoesOn}
use Rattle.history_spec.specs.Looks.{AreUnseen}
use Rattle.history_spec.specs.Observing.{seen_by}
use Rattle.lane_spec.proofs.Held.{has-together}
use Rattle.lane_spec.specs.Numbers.{has, together}
use Rattle.lane_spec.specs.declared.Numbers.TheVariants.{Only}
use Rattle.mount_model.specs.Journal.{Entry}
use Rattle.mount_model.specs.declared.journal.Fill.{Fill}
use Rattle.mount_model.specs.declared.journal.How.{How}
use Rattle.mount_rules.specs.Laws as rules
use Rattle.mount_model.specs.Observing.{Observed}
use Rattle.bucket_api.specs.Operation.{Operation}
use Rattle.mount_rules.specs.Plans.{Allows, answers_of}
use Rattle.thrift_spec.proofs.InParts.{IsThriftyAccount-append}
use Rattle.thrift_spec.specs.Records.{AreTold}
use Rattle.thrift_spec.specs.Thrift.{EndsThrifty}

-- ---- numbers
or_true : (b c : Bool) → c ≡ true → b || (c || false) ≡ true
or_true true c is = refl
or_true false c is = ap (λ t. t || false) is

or_false : (b c : Bool) → c ≡ false → b || (c || false) ≡ b
or_false true c is = refl
or_false false c is = ap (λ t. t || false) is

module _ {I : Type 0} (core : CoreState (PassState I)) (told : Account) (tells : AlmostTells core told) (o : OpenCall)
    (found : open_of (come_to core told).opened o.call.lane ≡ Some o) (h : How) (items : List Item) (fill : Fill)
    (walk : HasWalked core.pass.origin.start core.pass.seen (plan_of (come_to core told) o) o (length core.pass.seen) items)
    (ends : EndsBy h (plan_of (come_to core told) o) (seen_by core.pass.origin.start core.pass.seen items))
    (covers : (seen : List Observed) (op : Operation) → Allows (plan_of (come_to core told) o (answers_of seen)) op → rules.IsCovered o.taken.claimed op) where
  abbrev state : JournalState
  state = come_to core told

  -- what it asked is covered by the claims that it holds
  pub asked : AllByRecursion (IsAsked core.pass.seen o.taken.claimed) (own_moments_of items)
  asked = walk_asked core.pass.origin.start core.pass.seen o o.taken.claimed (plan_of state o)
      covers items (Walked-walks core.pass.origin.start core.pass.seen o (plan_of state o) items walk.told walk.walked)

  -- the lane is back, and no other one
  home : has core.home o.call.lane ≡ true
  home = at_lane (λ (p : OpenCall). has core.home p.call.lane ≡ true) state.opened o.call.lane o found tells.lanes.opened

  held_after : (lane : ℕ) → has (together core.pass.held (Only (o.call.lane ∷ []))) lane ≡ has core.home lane && not (is_some (open_of (others_of state.opened o.call.lane) lane))
  held_after lane = has-together core.pass.held (Only (o.call.lane ∷ [])) lane ∙ by (eqb_tells o.call.lane lane)
    where
      by : (((o.call.lane == lane) ≡ true) × (o.call.lane ≡ lane)) ⊎ (((o.call.lane == lane) ≡ false) × (o.call.lane ≢ lane))
          → has core.pass.held lane || ((o.call.lane == lane) || false) ≡ has core.home lane && not (is_some (open_of (others_of state.opened o.call.lane) lane))
      by (inl its) =
          or_true (has core.pass.held lane) (o.call.lane == lane) its.0
          ∙ sym (ap (λ (other : Option OpenCall). has core.home lane && not (is_some other)) (ap (λ n. open_of (others_of state.opened n) lane) its.1 ∙ open_of-gone state.opened lane)
          ∙ (and_true (has core.home lane) ∙ (ap (has core.home) (sym its.1) ∙ home)))
      by (inr far) =
          or_false (has core.pass.held lane) (o.call.lane == lane) far.0
          ∙ (tells.held lane
          ∙ sym (ap (λ (other : Option OpenCall). has core.home lane && not (is_some other)) (open_of-others state.opened lane o.call.lane (λ same. far.1 (sym same)))))

  -- it has seen nothing of a call that was done since its take, nor that call of it
  unseen_of : (since were_since : List EndedCall) → since ≡ were_since → AllByRecursion (WasApart core.pass.seen o) were_since
      → AllByRecursion (λ (e : EndedCall). AreUnseen core.pass.origin.start (take (length core.pass.seen) core.pass.seen) (own_moments_of items) e.own) since
  unseen_of since were_since same were =
      subst (AllByRecursion (λ (e : EndedCall). AreUnseen core.pass.origin.start (take (length core.pass.seen) core.pass.seen) (own_moments_of items) e.own)) (sym same)
      (all_weaker (WasApart core.pass.seen o) (λ (e : EndedCall). AreUnseen core.pass.origin.start (take (length core.pass.seen) core.pass.seen) (own_moments_of items) e.own)
      (λ e was. subst (λ events. AreUnseen core.pass.origin.start events (own_moments_of items) e.own) (sym (take-length core.pass.seen))
      (are_unseen core.pass.origin.start core.pass.seen o (own_moments_of items) e asked was)) were_since were)

  module _ (beside : AreBeside core.pass.seen (come_to core told).opened (come_to core told).ended)
      (thrifty : EndsThrifty core.config core.pass.origin.start core.pass.seen (kept_by core told) o h items fill)
      (flags : AreTold core.config.implicit_dirs core.pass.origin.start core.pass.seen o.clock (kept_by core told).records items) where
    were : WereApart core.pass.seen state.ended o
    were = at_lane (WereApart core.pass.seen state.ended) state.opened o.call.lane o found beside.done_calls

    settled : (since : List EndedCall) → state.ended ≡ since ++ o.before
        → AllByRecursion (λ (e : EndedCall). AreUnseen core.pass.origin.start (take (length core.pass.seen) core.pass.seen) (own_moments_of items) e.own) since
    settled since earlier = unseen_of since were.since (append_cancel_right since were.since o.before (sym earlier ∙ were.earlier)) were.apart

    may : MayBeDone core.pass.origin.start core.pass.seen state o (length core.pass.seen) h items
    may = record { walk = walk; settled = settled; ends = ends }

    may_end : MayFollow core.pass.origin.start core.pass.seen state (done_at core o.call h items fill)
    may_end = record { onward = tells.is.within; next = (o, found, refl, may) }

    ended : GoesOn core.config core.pass.origin.start core.pass.seen told (done_at core o.call h items fill)
    ended = entry_is_added core.config core.pass.origin.start core.pass.seen told (done_at core o.call h items fill) tells.is may_end (omega arith)

    -- what it comes to
    pub finish_reached : reached core.config core.pass.origin.start core.pass.seen (told ++ done_at core o.call h items fill ∷ [])
        ≡ after_done core.pass.origin.start core.pass.seen state (length core.pass.seen) h items o
    finish_reached = ended.reaches ∙ ap (λ x. option_map_or (after_done core.pass.origin.start core.pass.seen state (length core.pass.seen) h items) x state) found

    -- calls beside one another stay so
    pub finish_beside : AreBeside core.pass.seen (reached core.config core.pass.origin.start core.pass.seen (told ++ done_at core o.call h items fill ∷ [])).opened
        (reached core.config core.pass.origin.start core.pass.seen (told ++ done_at core o.call h items fill ∷ [])).ended
    finish_beside = subst (λ (s : JournalState). AreBeside core.pass.seen s.opened s.ended) (sym finish_reached)
        (beside_done core.pass.seen state.opened state.ended o (ended_by core.pass.origin.start core.pass.seen state.mount o h items) found asked beside)

    home_after : AreHome core.home (after_done core.pass.origin.start core.pass.seen state (length core.pass.seen) h items o)
    home_after = record {
      opened = all_others (λ (p : OpenCall). has core.home p.call.lane ≡ true) (λ (p : OpenCall). has core.home p.call.lane ≡ true) o.call.lane (λ p differ its. its) state.opened tells.lanes.opened;
      ended = (home, tells.lanes.ended);
    }

    -- all is told by the account with the end, but for claims
    pub finish_almost : (faults : ℕ) → AlmostTells (with_done (with_lane core o.call.lane faults) o.call h (uses_of items) fill) (told ++ done_at core o.call h items fill ∷ [])
    finish_almost faults = record {
      is = ended.is;
      printed = map-append printed told (done_at core o.call h items fill ∷ []) ∙ ap (λ (es : List Entry). es ++ printed (done_at core o.call h items fill) ∷ []) tells.printed;
      thrifty = IsThriftyAccount-append core.config core.pass.origin.start core.pass.seen told (done_at core o.call h items fill ∷ []) tells.thrifty (
        subst (λ x. IfSome x (λ (p : OpenCall). EndsThrifty core.config core.pass.origin.start core.pass.seen (kept_by core told) p h items fill)) (sym found) thrifty,
        subst (λ x. IfSome x (λ (p : OpenCall). AreTold core.config.implicit_dirs core.pass.origin.start core.pass.seen p.clock (kept_by core told).records items)) (sym found) flags,
        tt,
      );
      covered = λ lane its. subst (λ s. IsCovered core.pass.seen s lane) (sym ended.reaches)
          (turn_keeps_covered core.config core.pass.origin.start core.pass.seen state (done_at core o.call h items fill) lane may_end refl (tells.covered lane its));
      lanes = subst (AreHome core.home) (sym finish_reached) home_after;
      held = subst (λ (s : JournalState). (lane : ℕ) → has (together core.pass.held (Only (o.call.lane ∷ []))) lane ≡ has core.home lane && not (is_some (open_of s.opened lane))) (sym finish_reached) held_after;
    }
