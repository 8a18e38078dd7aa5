-- What a call sees by a stat of its own is settled, where no call beside it has changed the name.
use Rattle.std.proofs.Common.{◌≡◌, ◌≢◌, ℕ, zero, suc, ◌+◌, ◌<◌, ◌≤◌, Bool, true, false, List, [], ◌∷◌, ◌++◌, length, take, Some, None, refl, sym, ap, subst, ◌∙◌, inl, inr, arith}
use Rattle.std.specs.Prelude.{Option, ◌==◌, ◌⊎◌, Contains, slice_get, if◌then◌else◌}
use Rattle.std.specs.List.{AllByRecursion}
use Rattle.std.proofs.Math.Seq.{take-length}
use Rattle.std.proofs.lemmas.Bool.Decides.{eqb_tells}
use Rattle.bucket_api.specs.Log.{event_at}
use Rattle.bucket_api.specs.LogEvent.{LogEvent}
use Rattle.history_spec.specs.JournalState.{EndedCall, OpenCall, open_of}
use Rattle.history_spec.specs.Lanes.{ended_own, open_own, own_since}
use Rattle.history_spec.specs.Laws.{StatIsSettled}
use Rattle.history_spec.specs.Looks.{IsKnownTo}
use Rattle.history_spec.specs.Observing.{moments_of, own_moments}
use Rattle.history_spec.proofs.Lanes.{lane_of_open, same_lane}
use Rattle.history_spec.proofs.OwnMoments.{own_between}

-- ---- elements of lists
pub contains_later : {X : Type 0} (x : X) (xs : List X) (y : X) → Contains xs y → Contains (x ∷ xs) y
contains_later x xs y there = (suc there.0, omega arith, there.2)

pub contains_either : {X : Type 0} (xs ys : List X) (z : X) → Contains (xs ++ ys) z → Contains xs z ⊎ Contains ys z
contains_either [] ys z there = inr there
contains_either (x ∷ xs) ys z (zero, within, is) = inl (zero, omega arith, is)
contains_either (x ∷ xs) ys z (suc k, within, is) = by (contains_either xs ys z (k, omega arith, is))
  where
    by : Contains xs z ⊎ Contains ys z → Contains (x ∷ xs) z ⊎ Contains ys z
    by (inl left) = inl (contains_later x xs z left)
    by (inr right) = inr right

pub contains_all : {X : Type 0} (P : X → Type 0) (xs : List X) (y : X) → Contains xs y → AllByRecursion P xs → P y
contains_all P [] y (k, within, is) all = absurd (omega arith)
contains_all P (x ∷ xs) y (zero, within, is) all = subst P is all.0
contains_all P (x ∷ xs) y (suc k, within, is) all = contains_all P xs y (k, omega arith, is) all.1

-- ---- the events of a lane
moments_of-contains : (lane first k : ℕ) (events : List LogEvent) (event : LogEvent) → slice_get events k ≡ Some event → event.lane ≡ lane
    → Contains (moments_of lane first events) (first + k)
moments_of-contains lane first k [] event there its = absurd (let never : None ≡ Some event = there in cc)
moments_of-contains lane first zero (e ∷ events) event there its =
    let same : e ≡ event = cc in
    subst (λ t. Contains (if t then first ∷ moments_of lane (first + 1) events else moments_of lane (first + 1) events) (first + 0))
    (sym (same_lane e.lane lane (ap (λ (x : LogEvent). x.lane) same ∙ its))) (zero, omega arith, omega arith)
moments_of-contains lane first (suc k) (e ∷ events) event there its =
    by (e.lane == lane) (let next : first + 1 + k ≡ first + suc k = omega arith in
    subst (Contains (moments_of lane (first + 1) events)) next (moments_of-contains lane (first + 1) k events event there its))
  where
    by : (t : Bool) → Contains (moments_of lane (first + 1) events) (first + suc k)
        → Contains (if t then first ∷ moments_of lane (first + 1) events else moments_of lane (first + 1) events) (first + suc k)
    by true later = contains_later first (moments_of lane (first + 1) events) (first + suc k) later
    by false later = later

pub own_contains : (log : List LogEvent) (moment : ℕ) (event : LogEvent) → event_at log moment ≡ Some event → Contains (own_moments log event.lane 0 (length log)) moment
own_contains log zero event there = absurd (let never : None ≡ Some event = there in cc)
own_contains log (suc k) event there =
    let next : 1 + k ≡ suc k = omega arith in
    subst (Contains (own_moments log event.lane 0 (length log))) next
    (moments_of-contains event.lane 1 k (take (length log) log) event (ap (λ events. slice_get events k) (take-length log) ∙ there) refl)

-- ---- whose they are
pub record IsOfEnded (ended : List EndedCall) (moment : ℕ) : Type 0 where
  pub call : EndedCall
  pub there : Contains ended call
  pub its : Contains call.own moment

pub of_ended : (ended : List EndedCall) (lane moment : ℕ) → Contains (ended_own ended lane) moment → IsOfEnded ended moment
of_ended [] lane moment (k, within, is) = absurd (omega arith)
of_ended (e ∷ ended) lane moment there = by (e.call.lane == lane) there (of_ended ended lane moment)
  where
    later : IsOfEnded ended moment → IsOfEnded (e ∷ ended) moment
    later is = record { call = is.call; there = contains_later e ended is.call is.there; its = is.its }

    by : (t : Bool) → Contains (if t then ended_own ended lane ++ e.own else ended_own ended lane) moment
        → (Contains (ended_own ended lane) moment → IsOfEnded ended moment) → IsOfEnded (e ∷ ended) moment
    by false found rest = later (rest found)
    by true found rest = either_of (contains_either (ended_own ended lane) e.own moment found)
      where
        either_of : Contains (ended_own ended lane) moment ⊎ Contains e.own moment → IsOfEnded (e ∷ ended) moment
        either_of (inl earlier) = later (rest earlier)
        either_of (inr its) = record { call = e; there = (zero, omega arith, refl); its = its }

record IsOfOpen (opened : List OpenCall) (lane moment : ℕ) : Type 0 where
  call : OpenCall
  there : open_of opened lane ≡ Some call
  since : call.front < moment

of_open : (log : List LogEvent) (opened : List OpenCall) (lane moment : ℕ) → Contains (open_own log opened lane) moment → IsOfOpen opened lane moment
of_open log opened lane moment there = by (open_of opened lane) refl there
  where
    by : (found : Option OpenCall) → open_of opened lane ≡ found
        → Contains (own_since log lane found) moment → IsOfOpen opened lane moment
    by None is (k, within, at) = absurd (omega arith)
    by (Some o) is found = record {
      call = o;
      there = is;
      since = (contains_all (λ m. (o.front < m) × (m ≤ length log)) (own_moments log lane o.front (length log)) moment found (own_between log lane o.front (length log))).0;
    }

pub stat_is_settled : StatIsSettled
stat_is_settled start log state o since moment name alone earlier covers beside m event before there its changed =
    whose (contains_either (ended_own state.ended event.lane) (open_own log state.opened event.lane) m
    (subst (λ own. Contains own m) (covers event.lane its) (own_contains log m event there)))
  where
    whose : Contains (ended_own state.ended event.lane) m ⊎ Contains (open_own log state.opened event.lane) m → IsKnownTo o m event
    whose (inl found) = ended (of_ended state.ended event.lane m found)
      where
        ended : IsOfEnded state.ended m → IsKnownTo o m event
        ended is = by (contains_either since o.before is.call (subst (λ (calls : List EndedCall). Contains calls is.call) earlier is.there))
          where
            by : Contains since is.call ⊎ Contains o.before is.call → IsKnownTo o m event
            by (inl late) = absurd (beside m event before there changed (inl (is.call, late, is.its)))
            by (inr known) = inr (is.call, known, is.its)
    whose (inr found) = opened (of_open log state.opened event.lane m found)
      where
        opened : IsOfOpen state.opened event.lane m → IsKnownTo o m event
        opened is = by (eqb_tells is.call.call.lane o.call.lane)
          where
            by : (((is.call.call.lane == o.call.lane) ≡ true) × (is.call.call.lane ≡ o.call.lane)) ⊎ (((is.call.call.lane == o.call.lane) ≡ false) × (is.call.call.lane ≢ o.call.lane))
                → IsKnownTo o m event
            by (inl same) =
                let lane : event.lane ≡ o.call.lane = sym (lane_of_open state.opened event.lane is.call is.there) ∙ same.1 in
                let both : Some is.call ≡ Some o = sym is.there ∙ (ap (open_of state.opened) lane ∙ alone) in
                let one : is.call ≡ o = cc in
                inl (lane, subst (λ (x : OpenCall). x.front < m) one is.since)
            by (inr far) = absurd (beside m event before there changed (inr (is.call, is.there, far.1, is.since)))
