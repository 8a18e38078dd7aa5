-- Calls whose claims stand apart along an account: one account behind another, and over logs that are the same up to a front.
use Rattle.std.proofs.Common.{◌≡◌, ℕ, ◌≤◌, List, [], ◌∷◌, ◌++◌, take, sym, subst, arith, inl, inr}
use Rattle.bucket_api.specs.BucketState.{BucketState}
use Rattle.bucket_api.specs.LogEvent.{LogEvent}
use Rattle.history_spec.proofs.Agreeing.{at_same}
use Rattle.history_spec.proofs.Following.{front_after, fronts_rise, stays_same}
use Rattle.history_spec.specs.Account as account
use Rattle.history_spec.specs.Account.{Account, Turn, front_of}
use Rattle.history_spec.specs.Claims.{EndsNext, InOneTurn, StandApart}
use Rattle.history_spec.specs.Fits.{Follows, MayFollow}
use Rattle.history_spec.specs.JournalState.{JournalState, after_turn, after_turns}
use Rattle.mount_model.specs.declared.config.Config.{Config}
use Rattle.mount_model.specs.declared.gate.CallId.{CallId}
use Rattle.mount_rules.specs.Dispatch.{plan}
use Rattle.mount_rules.specs.Plans.{Step}

-- ---- in parts
EndsNext-append : (call : CallId) (turns more : Account) → EndsNext call turns → EndsNext call (turns ++ more)
EndsNext-append call [] more ends = absurd ends
EndsNext-append call (account.take c front request ∷ turns) more ends = absurd ends
EndsNext-append call (account.done c front how items fill ∷ turns) more ends = ends
EndsNext-append call (account.tick front seconds ∷ turns) more ends = absurd ends

InOneTurn-append : (step : Step) (call : CallId) (turns more : Account) → InOneTurn step call turns → InOneTurn step call (turns ++ more)
InOneTurn-append step call turns more (inl asks) = inl asks
InOneTurn-append step call turns more (inr ends) = inr (ends.0, EndsNext-append call turns more ends.1)

module _ (config : Config) (start : BucketState) (log : List LogEvent) where
  pub StandApart-append : (state : JournalState) (turns more : Account) → StandApart config start log state turns
      → StandApart config start log (after_turns config start log state turns) more → StandApart config start log state (turns ++ more)
  StandApart-append state [] more apart later = later
  StandApart-append state (account.take call front request ∷ turns) more apart later = (
    apart.0,
    InOneTurn-append _ call turns more apart.1,
    StandApart-append (after_turn config start log state (account.take call front request)) turns more apart.2 later,
  )
  StandApart-append state (account.done call front how items fill ∷ turns) more apart later =
      StandApart-append (after_turn config start log state (account.done call front how items fill)) turns more apart later
  StandApart-append state (account.tick front seconds ∷ turns) more apart later =
      StandApart-append (after_turn config start log state (account.tick front seconds)) turns more apart later

-- ---- over another log
module _ (config : Config) (start : BucketState) (one other : List LogEvent) (upto : ℕ) (same : take upto one ≡ take upto other) where
  turn_same : (state : JournalState) (turn : Turn) → MayFollow start one state turn → front_of turn ≤ upto
      → after_turn config start other state turn ≡ after_turn config start one state turn
  turn_same state turn may within =
      (stays_same config start one other upto same state (turn ∷ []) (may, tt)
      (let is : (after_turn config start one state turn).front ≡ front_of turn = front_after config start one state turn may in omega (arith, is))).reaches

  within_front : (state : JournalState) (turn : Turn) (turns : Account) → Follows config start one state (turn ∷ turns)
      → (after_turns config start one state (turn ∷ turns)).front ≤ upto → front_of turn ≤ upto
  within_front state turn turns follows within =
      let is : (after_turn config start one state turn).front ≡ front_of turn = front_after config start one state turn follows.0 in
      let later : (after_turn config start one state turn).front ≤ (after_turns config start one (after_turn config start one state turn) turns).front =
      fronts_rise config start one (after_turn config start one state turn) turns follows.1 in
      omega (arith, within)

  pub apart_same : (state : JournalState) (turns : Account) → Follows config start one state turns → (after_turns config start one state turns).front ≤ upto
      → StandApart config start one state turns → StandApart config start other state turns
  apart_same state [] follows within apart = tt
  apart_same state (account.take call front request ∷ turns) follows within apart = (
    apart.0,
    subst (λ at. InOneTurn (plan at state.mount request []) call turns)
        (at_same start one other upto same config state.clock front (within_front state (account.take call front request) turns follows within)) apart.1,
    subst (λ s. StandApart config start other s turns)
        (sym (turn_same state (account.take call front request) follows.0 (within_front state (account.take call front request) turns follows within)))
        (apart_same (after_turn config start one state (account.take call front request)) turns follows.1 within apart.2),
  )
  apart_same state (account.done call front how items fill ∷ turns) follows within apart =
      subst (λ s. StandApart config start other s turns)
      (sym (turn_same state (account.done call front how items fill) follows.0 (within_front state (account.done call front how items fill) turns follows within)))
      (apart_same (after_turn config start one state (account.done call front how items fill)) turns follows.1 within apart)
  apart_same state (account.tick front seconds ∷ turns) follows within apart =
      subst (λ s. StandApart config start other s turns)
      (sym (turn_same state (account.tick front seconds) follows.0 (within_front state (account.tick front seconds) turns follows within)))
      (apart_same (after_turn config start one state (account.tick front seconds)) turns follows.1 within apart)
