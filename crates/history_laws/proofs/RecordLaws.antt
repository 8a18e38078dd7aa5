-- Along an account that is serial, own writes leave no record standing.
use Rattle.std.proofs.Common.{◌≡◌, ◌≤◌, ℕ, List, [], ◌∷◌, ◌++◌, length, refl, sym, subst, arith}
use Rattle.bucket_api.specs.BucketState.{BucketState}
use Rattle.bucket_api.specs.LogEvent.{LogEvent}
use Rattle.history_laws.proofs.AloneWalks.{IsOfRecord, of_record}
use Rattle.history_laws.proofs.CallPairs.{IsPair, after_pair, pair_of}
use Rattle.history_laws.proofs.LookPlans.{plan_asks_looks}
use Rattle.history_laws.proofs.RecordsNow.{record_shows_now}
use Rattle.history_laws.proofs.ToldPasts.{told_along}
use Rattle.fuse_requests.specs.declared.request.Request.{Request}
use Rattle.history_laws.specs.Apart.{OneByOne}
use Rattle.history_laws.specs.Records.{RecordsShowNow, call_in}
use Rattle.history_spec.proofs.Following.{Follows-first, after_turns-append, fronts_rise}
use Rattle.history_spec.specs.Account as account
use Rattle.history_spec.specs.Account.{Account}
use Rattle.history_spec.specs.Fits.{Follows}
use Rattle.history_spec.specs.JournalState.{EndedCall, JournalState, OpenCall, after_turn, after_turns, first_journal, reached}
use Rattle.history_spec.specs.Looks.{MayRecall}
use Rattle.history_spec.specs.Pasts.{key_of}
use Rattle.mount_model.specs.declared.config.Config.{Config}
use Rattle.mount_model.specs.declared.gate.CallId.{CallId}
use Rattle.std.specs.Prelude.{Contains, Some}
use Rattle.bucket_api.specs.Log.{event_at}

-- at a take of calls one at a time no call is under way
record IsBetween (config : Config) (start : BucketState) (log : List LogEvent) (state : JournalState) (turns : Account) : Type 0 where
  pub none : state.opened ≡ []
  pub rest : Follows config start log state turns
  pub one : OneByOne turns

module _ (config : Config) (start : BucketState) (log : List LogEvent) where
  between : (state : JournalState) (turns more : Account) (call : CallId) (front : ℕ) (request : Request) → state.opened ≡ []
      → Follows config start log state (turns ++ account.take call front request ∷ more) → OneByOne (turns ++ account.take call front request ∷ more)
      → IsBetween config start log (after_turns config start log state turns) (account.take call front request ∷ more)
  between state [] more call front request none follows one = record { none = none; rest = follows; one = one }
  between state (account.tick at seconds ∷ turns) more call front request none follows one =
      between (after_turn config start log state (account.tick at seconds)) turns more call front request none follows.1 one
  between state (account.take c at r ∷ account.done ended behind h items fill ∷ turns) more call front request none follows one =
      subst (λ s. IsBetween config start log (after_turns config start log s turns) (account.take call front request ∷ more)) (sym pair.reaches)
      (between (after_pair config start log state c at r behind h items) turns more call front request pair.none pair.rest one.1)
    where
      pair : IsPair config start log state c at r ended behind h items fill (turns ++ account.take call front request ∷ more)
      pair = pair_of config start log state c at r ended behind h items fill (turns ++ account.take call front request ∷ more) none follows one.0
  between state (account.take c at r ∷ []) more call front request none follows one = absurd one
  between state (account.take c at r ∷ account.take d f q ∷ turns) more call front request none follows one = absurd one
  between state (account.take c at r ∷ account.tick f s ∷ turns) more call front request none follows one = absurd one
  between state (account.done c at h items fill ∷ turns) more call front request none follows one = absurd one

pub records_show_now : RecordsShowNow
records_show_now config start log turns more call front request told moment seen alone asked look is may =
    record_shows_now config start log state later b.none b.rest b.one within (told_along start log config first_journal turns so_far tt) own
    o seen.op its.position refl (subst (MayRecall o seen.op) its.at may) seen its.shown.event
    ((plan_asks_looks o.taken.at state.mount request (key_of seen.op) may.asked).at told seen.op asked look) look its.shown.there (sym its.shown.op) its.shown.answer
  where
    state : JournalState
    state = reached config start log turns

    later : Account
    later = account.take call front request ∷ more

    o : OpenCall
    o = call_in config start log state call front request

    b : IsBetween config start log state later
    b = between config start log first_journal turns more call front request refl alone.is.follows alone.one

    so_far : Follows config start log first_journal turns
    so_far = Follows-first config start log first_journal turns later alone.is.follows

    whole : reached config start log (turns ++ later) ≡ after_turns config start log state later
    whole = after_turns-append config start log first_journal turns later

    within : state.front ≤ length log
    within =
        let rises : state.front ≤ (after_turns config start log state later).front = fronts_rise config start log state later b.rest in
        let end : (after_turns config start log state later).front ≤ length log = subst (λ (s : JournalState). s.front ≤ length log) whole alone.is.within in
        omega (arith, rises, end)

    own : (m : ℕ) (event : LogEvent) → event_at log m ≡ Some event → (e : EndedCall) × Contains (after_turns config start log state later).ended e × Contains e.own m
    own m event there = subst (λ (s : JournalState). (e : EndedCall) × Contains s.ended e × Contains e.own m) whole (alone.own m event there)

    its : IsOfRecord start log alone.done moment seen
    its = of_record start log alone.done moment seen is
