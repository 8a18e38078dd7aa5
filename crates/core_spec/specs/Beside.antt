-- Calls that were under way beside one another: what they asked is covered by claims that don't conflict.
use Rattle.std.specs.Prelude.{◌≡◌, ℕ, List, [], ◌∷◌, ◌++◌, Some}
use Rattle.std.specs.List.{AllByRecursion}
use Rattle.bucket_api.specs.Log.{event_at}
use Rattle.bucket_api.specs.LogEvent.{LogEvent}
use Rattle.claim_spec.specs.Conflicts.{AreApart}
use Rattle.claim_spec.specs.declared.claim.Claim.{Claim}
use Rattle.history_spec.specs.JournalState.{EndedCall, OpenCall}
use Rattle.mount_rules.specs.Laws.{IsCovered}

-- the event at a moment asked what the claims cover
pub record IsAsked (log : List LogEvent) (claimed : List Claim) (moment : ℕ) : Type 0 where
  pub event : LogEvent
  pub there : event_at log moment ≡ Some event
  pub covered : IsCovered claimed event.op

-- a call that is done asked what its claims cover, and they don't conflict with those of a call under way
pub record WasApart (log : List LogEvent) (o : OpenCall) (e : EndedCall) : Type 0 where
  pub claimed : List Claim
  pub asked : AllByRecursion (IsAsked log claimed) e.own
  pub apart : AreApart claimed o.taken.claimed

-- so were all calls that were done since the take of a call under way
pub record WereApart (log : List LogEvent) (ended : List EndedCall) (o : OpenCall) : Type 0 where
  pub since : List EndedCall
  pub earlier : ended ≡ since ++ o.before
  pub apart : AllByRecursion (WasApart log o) since

-- no two calls under way have claims that conflict
abbrev pub AllApart : List OpenCall → Type 0
AllApart [] = Unit {0}
AllApart (o ∷ os) = AllByRecursion (λ (p : OpenCall). AreApart o.taken.claimed p.taken.claimed) os × AllApart os

-- calls under way, and those that are done since their takes
pub record AreBeside (log : List LogEvent) (opened : List OpenCall) (ended : List EndedCall) : Type 0 where
  pub open_calls : AllApart opened
  pub done_calls : AllByRecursion (WereApart log ended) opened
