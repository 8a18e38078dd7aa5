-- Two logs that are the same up to a front tell the same of every moment up to there.
use Rattle.std.proofs.Common.{◌≡◌, ℕ, zero, suc, ◌-◌, ◌<◌, ◌≤◌, List, [], ◌∷◌, take, drop, fold, refl, sym, ap, ◌∙◌, arith}
use Rattle.std.specs.Prelude.{Option, slice_get, option_map, option_and_then}
use Rattle.std.specs.List.{AllByRecursion, cons_option}
use Rattle.std.proofs.lemmas.List.{take-take}
use Rattle.bucket_api.specs.BucketState.{BucketState}
use Rattle.bucket_api.specs.Log.{answer_at, answer_by, event_at, state_at, state_by}
use Rattle.bucket_api.specs.LogEvent.{LogEvent}
use Rattle.bucket_api.specs.declared.answers.Answer.{Answer}
use Rattle.bucket_api.specs.Moments.{moment_at}
use Rattle.history_spec.specs.Account.{Item, moment_of}
use Rattle.history_spec.specs.JournalState.{at_front}
use Rattle.history_spec.specs.Observing.{moments_of, observed_at, own_moments, seen_by}
use Rattle.history_spec.specs.Pasts.{past_by, saw, told_by, used, wrote}
use Rattle.mount_model.specs.declared.config.Config.{Config}
use Rattle.mount_model.specs.Observing.{Observed}
use Rattle.mount_rules.specs.OneThread.{contents_of}

get_taken : {X : Type 0} (n k : ℕ) (xs : List X) → k < n → slice_get (take n xs) k ≡ slice_get xs k
get_taken zero k xs below = absurd (omega arith)
get_taken (suc n) k [] below = refl
get_taken (suc n) zero (x ∷ xs) below = refl
get_taken (suc n) (suc k) (x ∷ xs) below = get_taken n k xs (omega arith)

-- what is observed, by what is answered and by the event
abbrev pub shown : ℕ → Option Answer → LogEvent → Option Observed
shown moment answer event = option_map (λ a. record { op = event.op; moment = moment; answer = a }) answer

module _ (start : BucketState) (one other : List LogEvent) (upto : ℕ) (same : take upto one ≡ take upto other) where
  pub taken_same : (front : ℕ) → front ≤ upto → take front one ≡ take front other
  taken_same front within = sym (take-take front upto one within) ∙ (ap (λ log. take front log) same ∙ take-take front upto other within)

  pub event_same : (moment : ℕ) → moment ≤ upto → event_at one moment ≡ event_at other moment
  event_same zero within = refl
  event_same (suc k) within = sym (get_taken upto k one within) ∙ (ap (λ log. slice_get log k) same ∙ get_taken upto k other within)

  pub state_same : (moment : ℕ) → moment ≤ upto → state_at start one moment ≡ state_at start other moment
  state_same moment within = ap (λ log. fold (λ b (e : LogEvent). state_by e.mode e.op b) start log) (taken_same moment within)

  answer_same : (moment : ℕ) → moment ≤ upto → answer_at start one moment ≡ answer_at start other moment
  answer_same moment within =
      ap (λ b. option_map (λ (e : LogEvent). answer_by e.mode e.op b) (event_at one moment)) (state_same (moment - 1) (omega arith))
      ∙ ap (λ found. option_map (λ (e : LogEvent). answer_by e.mode e.op (state_at start other (moment - 1))) found) (event_same moment within)

  pub observed_same : (moment : ℕ) → moment ≤ upto → observed_at start one moment ≡ observed_at start other moment
  observed_same moment within =
      ap (λ answer. option_and_then (shown moment answer) (event_at one moment)) (answer_same moment within)
      ∙ ap (option_and_then (shown moment (answer_at start other moment))) (event_same moment within)

  pub seen_same : (items : List Item) → AllByRecursion (λ item. moment_of item ≤ upto) items → seen_by start one items ≡ seen_by start other items
  seen_same [] within = refl
  seen_same (item ∷ items) within =
      ap (λ seen. cons_option seen (seen_by start one items)) (observed_same (moment_of item) within.0)
      ∙ ap (λ seen. cons_option (observed_at start other (moment_of item)) seen) (seen_same items within.1)

  told_same : {X : Type 0} (tells : Item → Observed → Option X) (items : List Item) → AllByRecursion (λ item. moment_of item ≤ upto) items
      → told_by start one tells items ≡ told_by start other tells items
  told_same tells [] within = refl
  told_same tells (item ∷ items) within =
      ap (λ seen. cons_option (option_and_then (tells item) seen) (told_by start one tells items)) (observed_same (moment_of item) within.0)
      ∙ ap (cons_option (option_and_then (tells item) (observed_at start other (moment_of item)))) (told_same tells items within.1)

  pub past_same : (clock : ℕ) (items : List Item) → AllByRecursion (λ item. moment_of item ≤ upto) items → past_by start one clock items ≡ past_by start other clock items
  past_same clock items within =
      ap (λ seen. record (past_by start one clock items) { seen = seen }) (told_same (saw clock) items within)
      ∙ (ap (λ uses. record { seen = told_by start other (saw clock) items; used = uses; written = told_by start one wrote items }) (told_same used items within)
      ∙ ap (λ writes. record { seen = told_by start other (saw clock) items; used = told_by start other used items; written = writes }) (told_same wrote items within))

  pub own_same : (lane from front : ℕ) → front ≤ upto → own_moments one lane from front ≡ own_moments other lane from front
  own_same lane from front within = ap (λ log. moments_of lane (moment_at from) (drop from log)) (taken_same front within)

  pub at_same : (config : Config) (clock front : ℕ) → front ≤ upto → at_front config start one clock front ≡ at_front config start other clock front
  at_same config clock front within =
      ap (λ log. record (at_front config start one clock front) { contents = contents_of (record { start = start; log = log }) }) (taken_same front within)
