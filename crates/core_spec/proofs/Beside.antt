-- What calls beside one another saw of one another: nothing, since their claims don't conflict.
use Rattle.std.proofs.Common.{◌≡◌, ℕ, zero, suc, ◌-◌, ◌<◌, Bool, true, false, cond, List, [], ◌∷◌, ◌++◌, Option, Some, None, map, refl, sym, ap, subst, ◌∙◌, arith}
use Rattle.std.specs.Prelude.{◌==◌, IfSome, not, option_and_then, slice_get}
use Rattle.std.specs.List.{AllByRecursion}
use Rattle.bucket_api.specs.BucketState.{BucketState, object_at}
use Rattle.bucket_api.specs.Log.{answer_at, event_at, state_at, state_by}
use Rattle.bucket_api.specs.LogEvent.{LogEvent}
use Rattle.bucket_api.specs.Operation.{Operation, copy, delete, insert, list, read, stat, update}
use Rattle.bucket_api.specs.declared.answers.Answer.{Answer}
use Rattle.claim_spec.proofs.Apart.{AreApart-swap}
use Rattle.claim_spec.specs.Conflicts.{AreApart, IsOwned}
use Rattle.claim_spec.specs.declared.claim.Claim.{Claim}
use Rattle.claim_spec.specs.declared.claim.ClaimKey.TheVariants as key
use Rattle.core_spec.proofs.Changing.{event_owned}
use Rattle.core_spec.specs.Beside.{AllApart, AreBeside, IsAsked, WasApart, WereApart}
use Rattle.history_spec.proofs.Agreeing.{shown}
use Rattle.history_spec.proofs.Lanes.{all_others, at_lane}
use Rattle.history_spec.proofs.OwnMoments.{all_weaker}
use Rattle.history_spec.proofs.Walking.{Walked}
use Rattle.history_spec.specs.Account.{Item, looked, made, own_moments_of, recalled}
use Rattle.history_spec.specs.JournalState.{EndedCall, OpenCall, open_of, others_of}
use Rattle.history_spec.specs.Looks.{AreUnseen, Changes, IsUnseen, SeesNothingOf}
use Rattle.history_spec.specs.Observing.{observed_at}
use Rattle.mount_model.specs.Observing.{Observed}
use Rattle.mount_rules.specs.Laws.{IsCovered}
use Rattle.mount_rules.specs.Overlap as overlap
use Rattle.mount_rules.specs.Plans.{Allows, Plan, answers_of, plan_after}

-- ---- lists
both_all : {X : Type 0} (P Q R : X → Type 0) → ((x : X) → P x → Q x → R x) → (xs : List X) → AllByRecursion P xs → AllByRecursion Q xs → AllByRecursion R xs
both_all P Q R so [] ps qs = tt
both_all P Q R so (x ∷ xs) ps qs = (so x ps.0 qs.0, both_all P Q R so xs ps.1 qs.1)

-- ---- events
-- an event has its effect on what the log had made before
step_at : (start : BucketState) (log : List LogEvent) (k : ℕ) (e : LogEvent) → slice_get log k ≡ Some e → state_at start log (suc k) ≡ state_by e.mode e.op (state_at start log k)
step_at start [] k e there = absurd (let never : None ≡ Some e = there in cc)
step_at start (x ∷ log) zero e there = let same : x ≡ e = cc in ap (λ (y : LogEvent). state_by y.mode y.op start) same
step_at start (x ∷ log) (suc k) e there = step_at (state_by x.mode x.op start) log k e there

-- what covers an event owns the name that it changed
changed_owned : (start : BucketState) (log : List LogEvent) (claimed : List Claim) (moment : ℕ) (name : List ℕ) → IsAsked log claimed moment → Changes start log moment name
    → IsOwned claimed (key.Name name)
changed_owned start log claimed zero name asked changed = absurd (let never : None ≡ Some asked.event = asked.there in cc)
changed_owned start log claimed (suc k) name asked changed =
    event_owned claimed (state_at start log k) name asked.event.mode asked.event.op asked.covered
    (λ same. changed (ap (λ b. object_at b name) (step_at start log k asked.event asked.there) ∙ (same ∙ ap (λ n. object_at (state_at start log n) name) back)))
  where
    back : k ≡ suc k - 1
    back = omega arith

-- a longer log has what was asked
get_longer : (log more : List LogEvent) (k : ℕ) (e : LogEvent) → slice_get log k ≡ Some e → slice_get (log ++ more) k ≡ Some e
get_longer [] more k e there = absurd (let never : None ≡ Some e = there in cc)
get_longer (x ∷ log) more zero e there = there
get_longer (x ∷ log) more (suc k) e there = get_longer log more k e there

event_longer : (log more : List LogEvent) (moment : ℕ) (e : LogEvent) → event_at log moment ≡ Some e → event_at (log ++ more) moment ≡ Some e
event_longer log more zero e there = absurd (let never : None ≡ Some e = there in cc)
event_longer log more (suc k) e there = get_longer log more k e there

asked_longer : (log more : List LogEvent) (claimed : List Claim) (own : List ℕ) → AllByRecursion (IsAsked log claimed) own → AllByRecursion (IsAsked (log ++ more) claimed) own
asked_longer log more claimed own asked =
    all_weaker (IsAsked log claimed) (IsAsked (log ++ more) claimed)
    (λ moment a. record { event = a.event; there = event_longer log more moment a.event a.there; covered = a.covered }) own asked

-- ---- neither sees the other
module _ (start : BucketState) (log : List LogEvent) (claimed others : List Claim) (apart : AreApart claimed others) where
  unseen_at : (moment changed : ℕ) → IsAsked log claimed moment → IsAsked log others changed → IfSome (event_at log moment) (λ (e : LogEvent). IsUnseen start log changed e.op)
  unseen_at moment changed asked theirs = subst (λ found. IfSome found (λ (e : LogEvent). IsUnseen start log changed e.op)) (sym asked.there) (by asked.event.op asked.covered)
    where
      by : (op : Operation) → IsCovered claimed op → IsUnseen start log changed op
      by (stat name) covered = λ change. apart.others_alone (key.Name name) covered (changed_owned start log others changed name theirs change)
      by (read name generation first count) covered = tt
      by (insert name content pairs only stamp) covered = tt
      by (update name pairs only only_meta stamp) covered = tt
      by (delete name only) covered = tt
      by (copy from generation to stamp) covered = tt
      by (list prefix slash max after) covered = tt

  sees_nothing : (own theirs : List ℕ) → AllByRecursion (IsAsked log claimed) own → AllByRecursion (IsAsked log others) theirs → SeesNothingOf start log own theirs
  sees_nothing own theirs asked their_asked =
      all_weaker (IsAsked log claimed) (λ moment. AllByRecursion (λ changed. changed < moment → IfSome (event_at log moment) (λ (e : LogEvent). IsUnseen start log changed e.op)) theirs)
      (λ moment a. all_weaker (IsAsked log others) (λ changed. changed < moment → IfSome (event_at log moment) (λ (e : LogEvent). IsUnseen start log changed e.op))
      (λ changed t before. unseen_at moment changed a t) theirs their_asked) own asked

-- what a call under way asked, and what a call asked that was done since its take
pub are_unseen : (start : BucketState) (log : List LogEvent) (o : OpenCall) (own : List ℕ) (e : EndedCall) → AllByRecursion (IsAsked log o.taken.claimed) own → WasApart log o e
    → AreUnseen start log own e.own
are_unseen start log o own e asked was = record {
  mine = sees_nothing start log o.taken.claimed was.claimed (AreApart-swap was.claimed o.taken.claimed was.apart) own e.own asked was.asked;
  theirs = sees_nothing start log was.claimed o.taken.claimed was.apart e.own own was.asked asked;
}

-- ---- what a walk asks
asked_at : (start : BucketState) (log : List LogEvent) (claimed : List Claim) (moment : ℕ) (seen : Observed) → observed_at start log moment ≡ Some seen → IsCovered claimed seen.op
    → IsAsked log claimed moment
asked_at start log claimed moment seen is covered = by (event_at log moment) refl is
  where
    on : (event : LogEvent) → event_at log moment ≡ Some event → (answer : Option Answer) → shown moment answer event ≡ Some seen → IsAsked log claimed moment
    on event there None is = absurd (let never : None ≡ Some seen = is in cc)
    on event there (Some answer) is =
        let same : record { op = event.op; moment = moment; answer = answer } ≡ seen = cc in
        record { event = event; there = there; covered = subst (IsCovered claimed) (sym (ap (λ (s : Observed). s.op) same)) covered }

    by : (found : Option LogEvent) → event_at log moment ≡ found → option_and_then (shown moment (answer_at start log moment)) found ≡ Some seen → IsAsked log claimed moment
    by None there is = absurd (let never : None ≡ Some seen = is in cc)
    by (Some event) there is = on event there (answer_at start log moment) is

pub walk_asked : (start : BucketState) (log : List LogEvent) (o : OpenCall) (claimed : List Claim) (plan : Plan)
    → ((seen : List Observed) (op : Operation) → Allows (plan (answers_of seen)) op → IsCovered claimed op)
    → (items : List Item) → Walked start log o plan items → AllByRecursion (IsAsked log claimed) (own_moments_of items)
walk_asked start log o claimed plan covers [] walked = tt
walk_asked start log o claimed plan covers (looked moment kept ∷ items) walked = (
  asked_at start log claimed moment walked.0 walked.1 (covers [] walked.0.op walked.2),
  walk_asked start log o claimed (plan_after plan walked.0.answer) (λ seen op. covers (walked.0 ∷ seen) op) items walked.4,
)
walk_asked start log o claimed plan covers (recalled moment ∷ items) walked =
    walk_asked start log o claimed (plan_after plan walked.0.answer) (λ seen op. covers (walked.0 ∷ seen) op) items walked.4
walk_asked start log o claimed plan covers (made moment ∷ items) walked = (
  asked_at start log claimed moment walked.0 walked.1 (covers [] walked.0.op walked.2),
  walk_asked start log o claimed (plan_after plan walked.0.answer) (λ seen op. covers (walked.0 ∷ seen) op) items walked.4,
)

-- ---- turns
-- a call is taken whose claims conflict with none that is held
pub all_taken : (P : overlap.OpenCall → Type 0) (opened : List OpenCall) → AllByRecursion P (map (λ (o : OpenCall). o.taken) opened) → AllByRecursion (λ (o : OpenCall). P o.taken) opened
all_taken P [] all = tt
all_taken P (o ∷ opened) all = (all.0, all_taken P opened all.1)

pub beside_taken : (log : List LogEvent) (opened : List OpenCall) (ended : List EndedCall) (o : OpenCall) → o.before ≡ ended
    → overlap.ApartFromAll o.taken.claimed (map (λ (p : OpenCall). p.taken) opened) → AreBeside log opened ended → AreBeside log (o ∷ opened) ended
beside_taken log opened ended o before apart beside = record {
  open_calls = (all_taken (λ (p : overlap.OpenCall). AreApart o.taken.claimed p.claimed) opened apart, beside.open_calls);
  done_calls = (record { since = []; earlier = sym before; apart = tt }, beside.done_calls);
}

-- more of the log is seen
pub beside_longer : (log more : List LogEvent) (opened : List OpenCall) (ended : List EndedCall) → AreBeside log opened ended → AreBeside (log ++ more) opened ended
beside_longer log more opened ended beside = record {
  open_calls = beside.open_calls;
  done_calls = all_weaker (WereApart log ended) (WereApart (log ++ more) ended)
      (λ o were. record {
        since = were.since;
        earlier = were.earlier;
        apart = all_weaker (WasApart log o) (WasApart (log ++ more) o)
            (λ e was. record { claimed = was.claimed; asked = asked_longer log more was.claimed e.own was.asked; apart = was.apart }) were.since were.apart;
      }) opened beside.done_calls;
}

-- a call is done, which asked what its claims cover
all_kept : (P : OpenCall → Type 0) (lane : ℕ) (os : List OpenCall) → AllByRecursion P os → AllByRecursion P (others_of os lane)
all_kept P lane os all = all_others P P lane (λ o differ is. is) os all

apart_others : (lane : ℕ) (os : List OpenCall) → AllApart os → AllApart (others_of os lane)
apart_others lane [] apart = tt
apart_others lane (o ∷ os) apart = by (not (o.call.lane == lane)) (apart_others lane os apart.1)
  where
    by : (kept : Bool) → AllApart (others_of os lane) → AllApart (cond kept (o ∷ others_of os lane) (others_of os lane))
    by true later = (all_kept (λ (p : OpenCall). AreApart o.taken.claimed p.taken.claimed) lane os apart.0, later)
    by false later = later

apart_from_others : (lane : ℕ) (os : List OpenCall) (o : OpenCall) → open_of os lane ≡ Some o → AllApart os
    → AllByRecursion (λ (p : OpenCall). AreApart o.taken.claimed p.taken.claimed) (others_of os lane)
apart_from_others lane [] o is apart = tt
apart_from_others lane (p ∷ os) o is apart = by (p.call.lane == lane) is (λ later. apart_from_others lane os o later apart.1)
  where
    by : (its : Bool) → cond its (Some p) (open_of os lane) ≡ Some o
        → (open_of os lane ≡ Some o → AllByRecursion (λ (q : OpenCall). AreApart o.taken.claimed q.taken.claimed) (others_of os lane))
        → AllByRecursion (λ (q : OpenCall). AreApart o.taken.claimed q.taken.claimed) (cond (not its) (p ∷ others_of os lane) (others_of os lane))
    by true is later =
        let one : p ≡ o = cc in
        subst (λ (x : OpenCall). AllByRecursion (λ (q : OpenCall). AreApart x.taken.claimed q.taken.claimed) (others_of os lane)) one
        (all_kept (λ (q : OpenCall). AreApart p.taken.claimed q.taken.claimed) lane os apart.0)
    by false is later = (
      AreApart-swap p.taken.claimed o.taken.claimed (at_lane (λ (q : OpenCall). AreApart p.taken.claimed q.taken.claimed) os lane o is apart.0),
      later is,
    )

pub beside_done : (log : List LogEvent) (opened : List OpenCall) (ended : List EndedCall) (o : OpenCall) (e : EndedCall) → open_of opened o.call.lane ≡ Some o
    → AllByRecursion (IsAsked log o.taken.claimed) e.own → AreBeside log opened ended → AreBeside log (others_of opened o.call.lane) (e ∷ ended)
beside_done log opened ended o e is asked beside = record {
  open_calls = apart_others o.call.lane opened beside.open_calls;
  done_calls = both_all (λ (p : OpenCall). AreApart o.taken.claimed p.taken.claimed) (WereApart log ended) (WereApart log (e ∷ ended))
      (λ p apart were. record {
        since = e ∷ were.since;
        earlier = ap (λ (calls : List EndedCall). e ∷ calls) were.earlier;
        apart = (record { claimed = o.taken.claimed; asked = asked; apart = apart }, were.apart);
      }) (others_of opened o.call.lane) (apart_from_others o.call.lane opened o is beside.open_calls)
      (all_kept (WereApart log ended) o.call.lane opened beside.done_calls);
}
