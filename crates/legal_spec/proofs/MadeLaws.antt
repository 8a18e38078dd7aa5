-- Each event of a lane that is covered by its done calls is the own event of one.
use Rattle.std.proofs.Common.{◌≡◌, ℕ, List, [], ◌++◌, subst, ◌⊎◌, inl, inr, arith}
use Rattle.std.specs.List.{Contains}
use Rattle.std.specs.Prelude.{IsTrue}
use Rattle.bucket_api.specs.LogEvent.{LogEvent}
use Rattle.history_spec.proofs.Settling.{IsOfEnded, contains_either, of_ended, own_contains}
use Rattle.history_spec.specs.JournalState.{EndedCall, JournalState, OpenCall}
use Rattle.history_spec.specs.Lanes.{IsCovered, ended_own, open_own}
use Rattle.legal_spec.specs.Legal.{IsMade}
use Rattle.legal_spec.specs.Promises.{CoveredIsMade}
use Rattle.legal_spec.specs.Schedules.{is_remote, lane_at}

own_of_done : (log : List LogEvent) (state : JournalState) (lane moment : ℕ) → state.opened ≡ [] → Contains (ended_own state.ended lane ++ open_own log state.opened lane) moment
    → (e : EndedCall) × Contains state.ended e × Contains e.own moment
own_of_done log state lane moment none found = by (contains_either (ended_own state.ended lane) (open_own log state.opened lane) moment found)
  where
    ended : IsOfEnded state.ended moment → (e : EndedCall) × Contains state.ended e × Contains e.own moment
    ended is = (is.call, is.there, is.its)

    nothing : Contains (open_own log [] lane) moment → ⊥
    nothing (k, within, at) = absurd (omega arith)

    by : Contains (ended_own state.ended lane) moment ⊎ Contains (open_own log state.opened lane) moment → (e : EndedCall) × Contains state.ended e × Contains e.own moment
    by (inl its) = ended (of_ended state.ended lane moment its)
    by (inr its) = absurd (nothing (subst (λ (os : List OpenCall). Contains (open_own log os lane) moment) none its))

pub covered_is_made : CoveredIsMade
covered_is_made phases log state none each moment event there = by (each moment event there)
  where
    by : IsTrue (is_remote (lane_at phases event.lane)) ⊎ IsCovered log state event.lane → IsMade phases state moment event
    by (inl remote) = inl remote
    by (inr covered) = inr (own_of_done log state event.lane moment none (subst (λ own. Contains own moment) covered (own_contains log moment event there)))
