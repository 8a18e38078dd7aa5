-- Along an account whose calls stand apart, each call sees at its end what it saw at its take.
use Rattle.std.proofs.Common.{◌≡◌, List, [], ◌∷◌, ◌++◌, map, Some, refl, sym, ap, subst, ◌∙◌, ◌⊎◌, inl, inr}
use Rattle.std.specs.List.{AllByRecursion}
use Rattle.std.specs.Prelude.{ℕ}
use Rattle.bucket_api.specs.BucketState.{BucketState}
use Rattle.bucket_api.specs.LogEvent.{LogEvent}
use Rattle.fuse_requests.specs.declared.request.Request.{Request}
use Rattle.history_laws.specs.Apart.{EndsSeeAsTaken}
use Rattle.history_laws.specs.Ends.{CallEnd, SeesAsTaken, mount_at, turn_of}
use Rattle.history_spec.proofs.Claiming.{accounts_happen}
use Rattle.history_spec.proofs.Following.{Follows-first, after_turns-append}
use Rattle.history_spec.proofs.Lanes.{at_lane, open_of-first}
use Rattle.history_spec.specs.Account as account
use Rattle.history_spec.specs.Account.{Account, Turn}
use Rattle.history_spec.specs.Claims.{EndsNext, InOneTurn, StandApart}
use Rattle.history_spec.specs.Fits.{Follows}
use Rattle.history_spec.specs.JournalState.{JournalState, OpenCall, after_turn, at_front, first_journal, open_of, reached, taken_by}
use Rattle.history_spec.specs.Laws.{Happens}
use Rattle.mount_laws.proofs.Keeping.{same_Some}
use Rattle.mount_laws.proofs.Overlaps.{open_calls_see}
use Rattle.mount_model.specs.declared.config.Config.{Config}
use Rattle.mount_model.specs.declared.gate.CallId.{CallId}
use Rattle.mount_rules.specs.Dispatch.{view_in}
use Rattle.mount_rules.specs.Overlap as overlap
use Rattle.mount_rules.specs.Overlap.{Shared, opened_at}
use Rattle.mount_rules.specs.Plans.{Step}

-- what is the end of a call before some turns is so before others
ends_next : (call : CallId) (turn : Turn) (some others : Account) → EndsNext call (turn ∷ some) → EndsNext call (turn ∷ others)
ends_next call (account.done ended front how items fill) some others ends = ends
ends_next call (account.take taken front request) some others ends = absurd ends
ends_next call (account.tick front seconds) some others ends = absurd ends

in_one_turn : (step : Step) (call : CallId) (turn : Turn) (some others : Account) → InOneTurn step call (turn ∷ some) → InOneTurn step call (turn ∷ others)
in_one_turn step call turn some others (inl asks) = inl asks
in_one_turn step call turn some others (inr (nothing, ends)) = inr (nothing, ends_next call turn some others ends)

-- the call was taken last of all
record IsLastTaken (turns : Account) (call : CallId) : Type 0 where
  before : Account
  front : ℕ
  request : Request
  whole : turns ≡ before ++ account.take call front request ∷ []

last_taken_after : (turn : Turn) (turns : Account) (call : CallId) → IsLastTaken turns call → IsLastTaken (turn ∷ turns) call
last_taken_after turn turns call last = record { before = turn ∷ last.before; front = last.front; request = last.request; whole = ap (λ (ts : Account). turn ∷ ts) last.whole }

module _ (config : Config) (start : BucketState) (log : List LogEvent) (e : CallEnd) (more : Account) where
  abbrev Before : JournalState → Account → Type 0
  Before state turns = StandApart config start log state turns ⊎ IsLastTaken turns e.call.call

  -- the turns before the end of a call stand apart by themselves, or the call was taken just before
  apart_first : (state : JournalState) (turns : Account) → StandApart config start log state (turns ++ turn_of e ∷ more) → Before state turns
  apart_first state [] apart = inl tt
  apart_first state (account.tick front seconds ∷ turns) apart = by (apart_first (after_turn config start log state (account.tick front seconds)) turns apart)
    where
      by : Before (after_turn config start log state (account.tick front seconds)) turns → Before state (account.tick front seconds ∷ turns)
      by (inl later) = inl later
      by (inr last) = inr (last_taken_after _ turns e.call.call last)
  apart_first state (account.done call front how items fill ∷ turns) apart = by (apart_first (after_turn config start log state (account.done call front how items fill)) turns apart)
    where
      by : Before (after_turn config start log state (account.done call front how items fill)) turns → Before state (account.done call front how items fill ∷ turns)
      by (inl later) = inl later
      by (inr last) = inr (last_taken_after _ turns e.call.call last)
  apart_first state (account.take call front request ∷ []) (apart, inl asks, rest) = inl (apart, inl asks, tt)
  apart_first state (account.take call front request ∷ []) (apart, inr (nothing, ends), rest) =
      inr record { before = []; front = front; request = request; whole = ap (λ (c : CallId). account.take c front request ∷ []) (sym ends) }
  apart_first state (account.take call front request ∷ turn ∷ turns) (apart, one, rest) =
      by (apart_first (after_turn config start log state (account.take call front request)) (turn ∷ turns) rest)
    where
      by : Before (after_turn config start log state (account.take call front request)) (turn ∷ turns) → Before state (account.take call front request ∷ turn ∷ turns)
      by (inl later) = inl (apart, in_one_turn _ call turn (turns ++ turn_of e ∷ more) turns one, later)
      by (inr last) = inr (last_taken_after _ (turn ∷ turns) e.call.call last)

-- what holds of what all calls have from their takes
all_taken : (P : overlap.OpenCall → Type 0) (opened : List OpenCall) → AllByRecursion P (map (λ (o : OpenCall). o.taken) opened) → AllByRecursion (λ (o : OpenCall). P o.taken) opened
all_taken P [] all = tt
all_taken P (o ∷ opened) all = (all.0, all_taken P opened all.1)

module _ (config : Config) (start : BucketState) (log : List LogEvent) (turns : Account) (e : CallEnd)
    (under_way : open_of (reached config start log turns).opened e.call.call.lane ≡ Some e.call) where
  sees_apart : Follows config start log first_journal turns → StandApart config start log first_journal turns → SeesAsTaken (mount_at config start log turns) e
  sees_apart follows apart = by (accounts_happen config start log turns follows apart)
    where
      by : Happens config start log first_journal turns → SeesAsTaken (mount_at config start log turns) e
      by happens =
          (at_lane (λ (o : OpenCall). overlap.SeesAsTaken (mount_at config start log turns) o.taken) (reached config start log turns).opened e.call.call.lane e.call under_way
          (all_taken (overlap.SeesAsTaken (mount_at config start log turns)) (reached config start log turns).opened
          (subst (λ (s : Shared). AllByRecursion (overlap.SeesAsTaken s.mount) s.open_calls) happens.reaches (open_calls_see happens.turns happens.happen)))).view

  sees_last : IsLastTaken turns e.call.call → SeesAsTaken (mount_at config start log turns) e
  sees_last last =
      subst (λ (s : JournalState). SeesAsTaken s.mount e) (sym comes) (subst (λ (o : OpenCall). view_in before.mount o.taken.request ≡ o.taken.view) one refl)
    where
      before : JournalState
      before = reached config start log last.before

      taken : OpenCall
      taken = taken_by before e.call.call last.front (opened_at (at_front config start log before.clock last.front) before.mount last.request)

      comes : reached config start log turns ≡ after_turn config start log before (account.take e.call.call last.front last.request)
      comes = ap (reached config start log) last.whole ∙ after_turns-append config start log first_journal last.before (account.take e.call.call last.front last.request ∷ [])

      one : taken ≡ e.call
      one = same_Some (sym (open_of-first taken before.opened e.call.call.lane refl) ∙ sym (ap (λ (s : JournalState). open_of s.opened e.call.call.lane) comes) ∙ under_way)

pub ends_see_as_taken : EndsSeeAsTaken
ends_see_as_taken config start log turns more e follows apart under_way = by (apart_first config start log e more first_journal turns apart)
  where
    by : StandApart config start log first_journal turns ⊎ IsLastTaken turns e.call.call → SeesAsTaken (mount_at config start log turns) e
    by (inl before) = sees_apart config start log turns e under_way (Follows-first config start log first_journal turns (turn_of e ∷ more) follows) before
    by (inr last) = sees_last config start log turns e under_way last
