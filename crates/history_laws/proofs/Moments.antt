-- What a log tells of a moment: the event, what it made of the bucket and what it was answered.
use Rattle.std.proofs.Common.{◌≡◌, ◌≢◌, ◌≤◌, ℕ, zero, suc, ◌-◌, List, [], ◌∷◌, take, slice_get, fold, Option, Some, None, refl, sym, ap, ◌∙◌, arith}
use Rattle.std.proofs.lemmas.List.{take-take}
use Rattle.std.specs.Prelude.{option_and_then, option_map}
use Rattle.bucket_api.specs.BucketState.{BucketState}
use Rattle.bucket_api.specs.Log.{answer_by, event_at, state_at, state_by}
use Rattle.bucket_api.specs.LogEvent.{LogEvent}
use Rattle.bucket_api.specs.declared.answers.Answer.{Answer}
use Rattle.bucket_api.specs.declared.answers.Answer.TheVariants.{Fault}
use Rattle.bucket_api.specs.declared.events.Mode.{Mode}
use Rattle.bucket_api.specs.declared.events.Mode.TheVariants as modes
use Rattle.history_laws.specs.Flushes.{before_moment}
use Rattle.history_spec.specs.Observing.{observed_at}
use Rattle.mount_laws.proofs.Keeping.{no_Some, same_Some}
use Rattle.mount_model.specs.Observing.{Observed}

-- an event has its effect on what the log had made before
pub position_step : (start : BucketState) (log : List LogEvent) (k : ℕ) (e : LogEvent) → slice_get log k ≡ Some e → state_at start log (suc k) ≡ state_by e.mode e.op (state_at start log k)
position_step start [] k e there = absurd (no_Some there)
position_step start (x ∷ log) zero e there = ap (λ (y : LogEvent). state_by y.mode y.op start) (same_Some there)
position_step start (x ∷ log) (suc k) e there = position_step (state_by x.mode x.op start) log k e there

pub moment_step : (start : BucketState) (log : List LogEvent) (moment : ℕ) (e : LogEvent) → event_at log moment ≡ Some e
    → state_at start log moment ≡ state_by e.mode e.op (before_moment start log moment)
moment_step start log zero e there = absurd (no_Some there)
moment_step start log (suc k) e there =
    let back : k ≡ suc k - 1 = omega arith in position_step start log k e there ∙ ap (λ n. state_by e.mode e.op (state_at start log n)) back

-- what was observed at a moment is that
pub record Told (start : BucketState) (log : List LogEvent) (moment : ℕ) (seen : Observed) : Type 0 where
  pub event : LogEvent
  pub there : event_at log moment ≡ Some event
  pub op : seen.op ≡ event.op
  pub at : seen.moment ≡ moment
  pub answer : seen.answer ≡ answer_by event.mode event.op (before_moment start log moment)

pub told_at : (start : BucketState) (log : List LogEvent) (moment : ℕ) (seen : Observed) → observed_at start log moment ≡ Some seen → Told start log moment seen
told_at start log moment seen = by (event_at log moment) refl
  where
    answered : Option LogEvent → Option Answer
    answered found = option_map (λ (e : LogEvent). answer_by e.mode e.op (before_moment start log moment)) found

    by : (found : Option LogEvent) → event_at log moment ≡ found
        → option_and_then (λ (e : LogEvent). option_map (λ (a : Answer). record { op = e.op; moment = moment; answer = a }) (answered found)) found ≡ Some seen
        → Told start log moment seen
    by None there is = absurd (no_Some is)
    by (Some e) there is =
        let same : record { op = e.op; moment = moment; answer = answer_by e.mode e.op (before_moment start log moment) } ≡ seen = same_Some is in
        record {
          event = e;
          there = there;
          op = sym (ap (λ (s : Observed). s.op) same);
          at = sym (ap (λ (s : Observed). s.moment) same);
          answer = sym (ap (λ (s : Observed). s.answer) same);
        }

-- where it is no fault, the event was done
pub done_by : (mode : Mode) (e : LogEvent) (b : BucketState) → e.mode ≡ mode → answer_by mode e.op b ≢ Fault → e.mode ≡ modes.Done
done_by modes.Done e b is well = is
done_by modes.Failed e b is well = absurd (well refl)
done_by modes.Lost e b is well = absurd (well refl)

-- a log that is cut behind a moment has made the same by then
pub state_cut : (start : BucketState) (log : List LogEvent) (upto moment : ℕ) → moment ≤ upto → state_at start (take upto log) moment ≡ state_at start log moment
state_cut start log upto moment within = ap (λ events. fold (λ b (e : LogEvent). state_by e.mode e.op b) start events) (take-take moment upto log within)
