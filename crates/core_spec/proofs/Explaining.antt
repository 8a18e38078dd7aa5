-- The log explains the journal, and what the mount's lanes made is their calls' own.
use Rattle.std.proofs.Common.{◌≡◌, ℕ, ◌<◌, ◌≤◌, List, length, Option, Some, None, refl, subst, sym, arith, inl, inr}
use Rattle.std.specs.Prelude.{◌⊎◌, Contains}
use Rattle.bucket_api.specs.Log.{event_at}
use Rattle.bucket_api.specs.LogEvent.{LogEvent}
use Rattle.core_spec.proofs.Looking.{looks_same, looks_told}
use Rattle.core_spec.specs.Cores.{Tells, come_to, with_seen}
use Rattle.core_spec.specs.Laws.{IsOfCalls, LogExplains, LooksStay}
use Rattle.history_spec.proofs.OwnMoments.{own_between}
use Rattle.history_spec.proofs.Settling.{IsOfEnded, contains_all, contains_either, of_ended, own_contains}
use Rattle.history_spec.specs.JournalState.{JournalState, OpenCall, open_of}
use Rattle.history_spec.specs.Lanes.{IsCovered, ended_own, open_own, own_since}
use Rattle.history_spec.specs.Observing.{own_moments}

-- whose an event is of a lane that is covered
of_calls : (log : List LogEvent) (state : JournalState) (moment : ℕ) (event : LogEvent) → event_at log moment ≡ Some event → IsCovered log state event.lane → IsOfCalls state moment event
of_calls log state moment event there covered =
    by (contains_either (ended_own state.ended event.lane) (open_own log state.opened event.lane) moment
    (subst (λ own. Contains own moment) covered (own_contains log moment event there)))
  where
    of_done : IsOfEnded state.ended moment → IsOfCalls state moment event
    of_done is = inl (is.call, is.there, is.its)

    of_open : (found : Option OpenCall) → open_of state.opened event.lane ≡ found → Contains (own_since log event.lane found) moment → IsOfCalls state moment event
    of_open None is (k, within, at) = absurd (omega arith)
    of_open (Some o) is found =
        inr (o, is, (contains_all (λ m. (o.front < m) × (m ≤ length log)) (own_moments log event.lane o.front (length log)) moment found (own_between log event.lane o.front (length log))).0)

    by : Contains (ended_own state.ended event.lane) moment ⊎ Contains (open_own log state.opened event.lane) moment → IsOfCalls state moment event
    by (inl found) = of_done (of_ended state.ended event.lane moment found)
    by (inr found) = of_open (open_of state.opened event.lane) refl found

pub log_explains : (I : Type 0) → LogExplains I
log_explains I core told tells = record {
  fits = record { account = told; told = tells.printed; is = tells.is };
  own = λ moment event there home. of_calls core.pass.seen (come_to core told) moment event there (tells.covered event.lane home);
}

pub looks_stay : (I : Type 0) → LooksStay I
looks_stay I core log (rest, is, none) = record {
  more = (rest, is, none);
  kept = refl;
  tells = λ told tells. subst (λ events. Tells (with_seen core events) told) (sym is) (looks_told core told tells rest none);
  same = λ told tells. subst (λ events. come_to (with_seen core events) told ≡ come_to core told) (sym is) (looks_same core told tells rest none);
}
