-- Calls one at a time stand apart.
use Rattle.std.proofs.Common.{◌≡◌, List, [], ◌∷◌, refl, sym, subst, inl, inr}
use Rattle.bucket_api.specs.BucketState.{BucketState}
use Rattle.bucket_api.specs.LogEvent.{LogEvent}
use Rattle.history_laws.proofs.CallPairs.{IsPair, after_pair, pair_of}
use Rattle.history_laws.specs.Apart.{OneByOne, OneByOneIsApart}
use Rattle.history_spec.specs.Account as account
use Rattle.history_spec.specs.Account.{Account, Item}
use Rattle.history_spec.specs.Claims.{EndsNext, InOneTurn, StandApart, shared_of}
use Rattle.history_spec.specs.Fits.{Follows}
use Rattle.history_spec.specs.JournalState.{JournalState, OpenCall, after_turn, at_front, first_journal}
use Rattle.mount_model.specs.declared.config.Config.{Config}
use Rattle.mount_model.specs.declared.gate.CallId.{CallId}
use Rattle.mount_rules.specs.Dispatch.{claims, plan}
use Rattle.mount_rules.specs.Overlap as overlap
use Rattle.mount_rules.specs.Overlap.{opened_at}
use Rattle.mount_rules.specs.Plans.{Step, ask, done, may_read}

-- a call that is done next stays under way no longer, whatever it asks
in_one_turn : (step : Step) (call : CallId) (turns : Account) → EndsNext call turns → InOneTurn step call turns
in_one_turn done call turns ends = inr (refl, ends)
in_one_turn (ask op) call turns ends = inl (λ same. cc)
in_one_turn (may_read source next) call turns ends = inl (λ same. cc)

module _ (config : Config) (start : BucketState) (log : List LogEvent) where
  apart_along : (state : JournalState) (turns : Account) → state.opened ≡ [] → Follows config start log state turns → OneByOne turns → StandApart config start log state turns
  apart_along state [] none follows one = tt
  apart_along state (account.tick front seconds ∷ turns) none follows one =
      apart_along (after_turn config start log state (account.tick front seconds)) turns none follows.1 one
  apart_along state (account.take call front request ∷ account.done ended behind h items fill ∷ turns) none follows one = (
    subst (λ (os : List OpenCall). overlap.ApartFromAll (claims state.mount request) (shared_of (record state { opened = os })).open_calls) (sym none) tt,
    in_one_turn (plan (at_front config start log state.clock front) state.mount request []) call (account.done ended behind h items fill ∷ turns) one.0,
    subst (λ s. StandApart config start log s turns) (sym pair.reaches)
        (apart_along (after_pair config start log state call front request behind h items) turns pair.none pair.rest one.1),
  )
    where
      pair : IsPair config start log state call front request ended behind h items fill turns
      pair = pair_of config start log state call front request ended behind h items fill turns none follows one.0
  apart_along state (account.take call front request ∷ []) none follows one = absurd one
  apart_along state (account.take call front request ∷ account.take c f r ∷ turns) none follows one = absurd one
  apart_along state (account.take call front request ∷ account.tick f s ∷ turns) none follows one = absurd one
  apart_along state (account.done call front h items fill ∷ turns) none follows one = absurd one

pub one_by_one_is_apart : OneByOneIsApart
one_by_one_is_apart config start log turns follows one = apart_along config start log first_journal turns refl follows one
