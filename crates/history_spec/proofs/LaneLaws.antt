-- The calls of a lane are taken one after another, and cover what the lane made.
use Rattle.std.proofs.Common.{◌≡◌, ◌≢◌, ℕ, ◌+◌, ◌≤◌, true, false, List, [], ◌∷◌, ◌++◌, append_assoc, append-nil, cond, filter, length, Some, None, refl, sym, ap, subst, ◌∙◌, arith, inl, inr}
use Rattle.std.specs.Prelude.{Option, ◌==◌, ◌⊎◌, IsSome}
use Rattle.std.specs.List.{AllByRecursion}
use Rattle.std.specs.Option.{option_map_or}
use Rattle.std.proofs.lemmas.Bool.Decides.{eqb_tells}
use Rattle.bucket_api.specs.BucketState.{BucketState}
use Rattle.bucket_api.specs.LogEvent.{LogEvent}
use Rattle.history_spec.specs.Account as account
use Rattle.history_spec.specs.Account.{Account, Item, Turn, front_of, own_moments_of}
use Rattle.history_spec.specs.Fits.{Follows, MayFollow, ended_in}
use Rattle.history_spec.specs.JournalState.{EndedCall, JournalState, OpenCall, after_done, after_turn, after_turns, ended_by, first_journal, open_of, others_of, reached}
use Rattle.history_spec.specs.Lanes.{IsCovered, IsInTurn, ended_own, open_own, own_since}
use Rattle.history_spec.specs.Laws.{EventKeepsCovered, LanesAreInTurn, TurnKeepsCovered}
use Rattle.history_spec.specs.Observing.{own_moments}
use Rattle.history_spec.proofs.JournalLaws.{log_grows}
use Rattle.history_spec.proofs.Lanes.{all_others, at_lane, open_of-first, open_of-gone, open_of-later, open_of-others, other_lane, same_lane}
use Rattle.history_spec.proofs.OwnMoments.{all_weaker, new_own, own_behind, own_pushed}
use Rattle.mount_model.specs.declared.config.Config.{Config}
use Rattle.mount_model.specs.declared.gate.CallId.{CallId}
use Rattle.mount_model.specs.declared.journal.How.{How}

-- ---- in turn
abbrev pub InTurn : JournalState → Type 0
InTurn state = AllByRecursion (IsInTurn state) state.opened

module _ (config : Config) (start : BucketState) (log : List LogEvent) where
  -- where nothing of the call's lane has changed, and the front has not fallen
  in_turn_by : (state after : JournalState) (o : OpenCall) (since : List EndedCall) → open_of after.opened o.call.lane ≡ open_of state.opened o.call.lane
      → ended_in after o.call.lane ≡ ended_in state o.call.lane → after.ended ≡ since ++ state.ended → state.front ≤ after.front → IsInTurn state o → IsInTurn after o
  in_turn_by state after o since opened ended later onward is = record {
    alone = opened ∙ is.alone;
    next = is.next ∙ ap (λ n. n + 1) (sym ended);
    front = let was : o.front ≤ state.front = is.front in omega arith;
    since = since ++ is.since;
    earlier = later ∙ (ap (λ ended. since ++ ended) is.earlier ∙ sym (append_assoc since is.since o.before));
  }

  not_free : (state : JournalState) (lane : ℕ) (o : OpenCall) → open_of state.opened lane ≡ None → IsInTurn state o → o.call.lane ≢ lane
  not_free state lane o free is = λ same. absurd (let both : None ≡ Some o = sym free ∙ (ap (open_of state.opened) (sym same) ∙ is.alone) in cc)

  ended_other : (e : EndedCall) (ended : List EndedCall) (lane : ℕ) → e.call.lane ≢ lane
      → length (filter (λ (d : EndedCall). d.call.lane == lane) (e ∷ ended)) ≡ length (filter (λ (d : EndedCall). d.call.lane == lane) ended)
  ended_other e ended lane differ =
      ap (λ t. length (cond t (e ∷ filter (λ (d : EndedCall). d.call.lane == lane) ended) (filter (λ (d : EndedCall). d.call.lane == lane) ended))) (other_lane e.call.lane lane differ)

  in_turn_done : (state : JournalState) (front : ℕ) (h : How) (items : List Item) (o : OpenCall) → state.front ≤ front → InTurn state
      → InTurn (after_done start log state front h items o)
  in_turn_done state front h items o onward is =
      all_others (IsInTurn state) (IsInTurn (after_done start log state front h items o)) o.call.lane
      (λ p differ its. in_turn_by state (after_done start log state front h items o) p (ended_by start log state.mount o h items ∷ [])
      (open_of-others state.opened p.call.lane o.call.lane differ) (ended_other _ state.ended p.call.lane (λ same. differ (sym same))) refl onward its)
      state.opened is

  pub in_turn_after : (state : JournalState) (turn : Turn) → MayFollow start log state turn → InTurn state → InTurn (after_turn config start log state turn)
  in_turn_after state (account.take call front request) may is = (
    record { alone = open_of-first _ state.opened call.lane refl; next = may.next.1; front = omega arith; since = []; earlier = refl },
    all_weaker (IsInTurn state) (IsInTurn (after_turn config start log state (account.take call front request)))
        (λ o its. in_turn_by state (after_turn config start log state (account.take call front request)) o []
        (open_of-later _ state.opened o.call.lane (λ same. not_free state call.lane o may.next.0 its (sym same))) refl refl may.onward its)
        state.opened is,
  )
  in_turn_after state (account.done call front h items fill) may is =
      subst (λ (found : Option OpenCall). InTurn (option_map_or (after_done start log state front h items) found state)) (sym may.next.1)
      (in_turn_done state front h items may.next.0 may.onward is)
  in_turn_after state (account.tick front seconds) may is =
      all_weaker (IsInTurn state) (IsInTurn (after_turn config start log state (account.tick front seconds)))
      (λ o its. in_turn_by state (after_turn config start log state (account.tick front seconds)) o [] refl refl refl may.onward its) state.opened is

  in_turn_along : (state : JournalState) (turns : Account) → Follows config start log state turns → InTurn state → InTurn (after_turns config start log state turns)
  in_turn_along state [] follows is = is
  in_turn_along state (turn ∷ turns) follows is =
      in_turn_along (after_turn config start log state turn) turns follows.1 (in_turn_after state turn follows.0 is)

pub lanes_are_in_turn : LanesAreInTurn
lanes_are_in_turn config start log turns follows = in_turn_along config start log first_journal turns follows tt

-- ---- covered
-- a lane of whose calls nothing has changed
module _ (log : List LogEvent) (lane : ℕ) where
  covered_by : (state after : JournalState) → open_of after.opened lane ≡ open_of state.opened lane → ended_own after.ended lane ≡ ended_own state.ended lane
      → IsCovered log state lane → IsCovered log after lane
  covered_by state after opened ended covered =
      covered ∙ (ap (λ own. own ++ open_own log state.opened lane) (sym ended)
      ∙ ap (λ (found : Option OpenCall). ended_own after.ended lane ++ own_since log lane found) (sym opened))

  -- where a call of the lane is taken at the end of the log, nothing of its own is behind
  covered_taken : (opened : List OpenCall) (o : OpenCall) → open_of opened lane ≡ None → o.call.lane ≡ lane → o.front ≡ length log
      → open_own log (o ∷ opened) lane ≡ open_own log opened lane
  covered_taken opened o free its front =
      ap (own_since log lane) (open_of-first o opened lane its)
      ∙ (ap (λ from. own_moments log lane from (length log)) front
      ∙ (own_behind log lane
      ∙ sym (ap (own_since log lane) free)))

  ended_own-other : (e : EndedCall) (ended : List EndedCall) → e.call.lane ≢ lane → ended_own (e ∷ ended) lane ≡ ended_own ended lane
  ended_own-other e ended differ = ap (λ t. cond t (ended_own ended lane ++ e.own) (ended_own ended lane)) (other_lane e.call.lane lane differ)

  ended_own-its : (e : EndedCall) (ended : List EndedCall) → e.call.lane ≡ lane → ended_own (e ∷ ended) lane ≡ ended_own ended lane ++ e.own
  ended_own-its e ended same = ap (λ t. cond t (ended_own ended lane ++ e.own) (ended_own ended lane)) (same_lane e.call.lane lane same)

  -- what its open call made stands among what its done calls made
  covered_done : (state : JournalState) (start : BucketState) (front : ℕ) (h : How) (items : List Item) (o : OpenCall) → open_of state.opened o.call.lane ≡ Some o
      → own_moments_of items ≡ own_moments log o.call.lane o.front front → front ≡ length log
      → (((o.call.lane == lane) ≡ true) × (o.call.lane ≡ lane)) ⊎ (((o.call.lane == lane) ≡ false) × (o.call.lane ≢ lane))
      → IsCovered log state lane → IsCovered log (after_done start log state front h items o) lane
  covered_done state start front h items o is own whole (inr far) covered =
      covered_by state (after_done start log state front h items o) (open_of-others state.opened lane o.call.lane (λ same. far.1 (sym same)))
      (ended_own-other (ended_by start log state.mount o h items) state.ended far.1) covered
  covered_done state start front h items o is own whole (inl its) covered =
      covered
      ∙ (ap (λ mine. ended_own state.ended lane ++ mine) (opened ∙ sym made)
      ∙ (sym (ended_own-its (ended_by start log state.mount o h items) state.ended its.1)
      ∙ (sym (append-nil (ended_own (after_done start log state front h items o).ended lane))
      ∙ ap (λ mine. ended_own (after_done start log state front h items o).ended lane ++ mine) (sym gone))))
    where
      opened : open_own log state.opened lane ≡ own_moments log lane o.front (length log)
      opened = ap (own_since log lane) (ap (open_of state.opened) (sym its.1) ∙ is)

      made : own_moments_of items ≡ own_moments log lane o.front (length log)
      made = own ∙ (ap (λ n. own_moments log n o.front front) its.1 ∙ ap (own_moments log lane o.front) whole)

      gone : open_own log (others_of state.opened o.call.lane) lane ≡ []
      gone = ap (own_since log lane)
          (ap (λ n. open_of (others_of state.opened n) lane) its.1 ∙ open_of-gone state.opened lane)

pub turn_keeps_covered : TurnKeepsCovered
turn_keeps_covered config start log state (account.take call front request) lane may whole covered = by (eqb_tells call.lane lane)
  where
    by : (((call.lane == lane) ≡ true) × (call.lane ≡ lane)) ⊎ (((call.lane == lane) ≡ false) × (call.lane ≢ lane))
        → IsCovered log (after_turn config start log state (account.take call front request)) lane
    by (inl its) = covered ∙ ap (λ mine. ended_own state.ended lane ++ mine)
        (sym (covered_taken log lane state.opened _ (ap (open_of state.opened) (sym its.1) ∙ may.next.0) its.1 whole))
    by (inr far) = covered_by log lane state (after_turn config start log state (account.take call front request)) (open_of-later _ state.opened lane far.1) refl covered
turn_keeps_covered config start log state (account.done call front h items fill) lane may whole covered =
    subst (λ (found : Option OpenCall). IsCovered log (option_map_or (after_done start log state front h items) found state) lane) (sym may.next.1)
    (covered_done log lane state start front h items may.next.0 (ap (λ (c : CallId). open_of state.opened c.lane) may.next.2 ∙ may.next.1) may.next.3.walk.own whole
    (eqb_tells may.next.0.call.lane lane) covered)
turn_keeps_covered config start log state (account.tick front seconds) lane may whole covered = covered

pub event_keeps_covered : EventKeepsCovered
event_keeps_covered config start log account event lane is covered its =
    subst (λ s. IsCovered (log ++ event ∷ []) s lane) (sym (log_grows config start log (event ∷ []) account is).reaches)
    (own_pushed log event lane 0 (omega arith)
    ∙ (ap (λ own. own ++ new_own lane event (length log + 1)) covered
    ∙ (append_assoc (ended_own state.ended lane) (open_own log state.opened lane) (new_own lane event (length log + 1))
    ∙ ap (λ own. ended_own state.ended lane ++ own) (by (open_of state.opened lane) refl))))
  where
    state : JournalState
    state = reached config start log account

    by : (found : Option OpenCall) → open_of (reached config start log account).opened lane ≡ found
        → own_since log lane found ++ new_own lane event (length log + 1)
        ≡ own_since (log ++ event ∷ []) lane found
    by None free = none (eqb_tells event.lane lane)
      where
        none : (((event.lane == lane) ≡ true) × (event.lane ≡ lane)) ⊎ (((event.lane == lane) ≡ false) × (event.lane ≢ lane)) → new_own lane event (length log + 1) ≡ []
        none (inl same) = absurd (let never : false ≡ true = subst (λ (x : Option OpenCall). IsSome x) free (its same.1) in cc)
        none (inr far) = ap (λ t. cond t ((length log + 1) ∷ []) []) far.0
    by (Some o) is_open = sym (own_pushed log event lane o.front
        (let turn : IsInTurn (reached config start log account) o = at_lane (IsInTurn (reached config start log account)) (reached config start log account).opened lane o is_open
        (lanes_are_in_turn config start log account is.follows) in
        let seen : o.front ≤ (reached config start log account).front = turn.front in
        let within : (reached config start log account).front ≤ length log = is.within in
        omega arith))
