-- A log and another one without the reads of the first: both make the same bucket, and know the same contents.
use Rattle.std.proofs.Common.{◌≡◌, ℕ, zero, suc, List, [], ◌∷◌, ◌++◌, take, length, fold, Option, Some, None, refl, sym, ap, ◌∙◌}
use Rattle.std.proofs.Math.Seq.{take-length}
use Rattle.std.proofs.lemmas.List.Sums.{fold-append}
use Rattle.std.specs.Prelude.{slice_get}
use Rattle.bucket_api.proofs.LogLaws.{state_at-pushed}
use Rattle.bucket_api.specs.BucketState.{BucketState, object_of}
use Rattle.bucket_api.specs.BucketStep.{state_after}
use Rattle.bucket_api.specs.Log.{content_of, content_or, state_at, state_by}
use Rattle.bucket_api.specs.LogEvent.{LogEvent}
use Rattle.bucket_api.specs.Operation.{Operation, stat, read, insert, update, delete, copy, list}
use Rattle.bucket_api.specs.declared.events.Mode.TheVariants as modes
use Rattle.bucket_api.specs.declared.objects.Object.{Object}
use Rattle.mount_laws.proofs.Keeping.{no_Some, same_Some}
use Rattle.mount_rules.specs.Laws.{IsRead}

-- ---- contents behind one more event
abbrev effect : BucketState → LogEvent → BucketState
effect b e = state_by e.mode e.op b

-- a content that was known, or else that of what stands there now
abbrev known_or : Option (List ℕ) → Option Object → Option (List ℕ)
known_or (Some content) found = Some content
known_or None found = content_or found None

content_of-pushed : (b : BucketState) (log : List LogEvent) (e : LogEvent) (name : List ℕ) (generation : ℕ)
    → content_of b (log ++ e ∷ []) name generation ≡ known_or (content_of b log name generation) (object_of (effect (fold effect b log) e) name generation)
content_of-pushed b [] e name generation = by (object_of b name generation)
  where
    by : (found : Option Object) → content_or found (content_or (object_of (effect b e) name generation) None) ≡ known_or (content_or found None) (object_of (effect b e) name generation)
    by None = refl
    by (Some o) = refl
content_of-pushed b (x ∷ log) e name generation = by (object_of b name generation) (content_of-pushed (effect b x) log e name generation)
  where
    by : (found : Option Object) → content_of (effect b x) (log ++ e ∷ []) name generation ≡ known_or (content_of (effect b x) log name generation)
        (object_of (effect (fold effect (effect b x) log) e) name generation)
        → content_or found (content_of (effect b x) (log ++ e ∷ []) name generation)
        ≡ known_or (content_or found (content_of (effect b x) log name generation)) (object_of (effect (fold effect (effect b x) log) e) name generation)
    by None later = later
    by (Some o) later = refl

-- what stands in the last bucket is known
last_known : (b : BucketState) (log : List LogEvent) (name : List ℕ) (generation : ℕ) →
    known_or (content_of b log name generation) (object_of (fold effect b log) name generation) ≡ content_of b log name generation
last_known b [] name generation = by (object_of b name generation)
  where
    by : (found : Option Object) → known_or (content_or found None) found ≡ content_or found None
    by None = refl
    by (Some o) = refl
last_known b (x ∷ log) name generation = by (object_of b name generation) (last_known (effect b x) log name generation)
  where
    by : (found : Option Object) → known_or (content_of (effect b x) log name generation) (object_of (fold effect (effect b x) log) name generation) ≡ content_of (effect b x) log name generation
        → known_or (content_or found (content_of (effect b x) log name generation)) (object_of (fold effect (effect b x) log) name generation) ≡ content_or
        found (content_of (effect b x) log name generation)
    by None later = later
    by (Some o) later = refl

-- so an event that leaves the bucket as it was tells no new content
content_of-idle : (b : BucketState) (log : List LogEvent) (e : LogEvent) (name : List ℕ) (generation : ℕ) → effect (fold effect b log) e ≡ fold effect b log
    → content_of b (log ++ e ∷ []) name generation ≡ content_of b log name generation
content_of-idle b log e name generation idle =
    content_of-pushed b log e name generation
    ∙ ap (λ s. known_or (content_of b log name generation) (object_of s name generation)) idle
    ∙ last_known b log name generation

-- ---- a log and its reads
pub take_next : (log : List LogEvent) (k : ℕ) (e : LogEvent) → slice_get log k ≡ Some e → take (suc k) log ≡ take k log ++ e ∷ []
take_next [] k e there = absurd (no_Some there)
take_next (x ∷ log) zero e there = ap (λ (y : LogEvent). y ∷ []) (same_Some there)
take_next (x ∷ log) (suc k) e there = ap (λ (l : List LogEvent). x ∷ l) (take_next log k e there)

-- what the one-thread mount makes
abbrev pub made_by : Operation → LogEvent
made_by op = record { lane = 1; op = op; mode = modes.Done }

-- these operations made what the log made up to this position
pub record SameStore (start : BucketState) (log : List LogEvent) (k : ℕ) (made : List LogEvent) : Type 0 where
  pub bucket : state_at start made (length made) ≡ state_at start log k
  pub contents : (name : List ℕ) (generation : ℕ) → content_of start made name generation ≡ content_of start (take k log) name generation

module _ (start : BucketState) (log : List LogEvent) (k : ℕ) (made : List LogEvent) (so : SameStore start log k made) where
  -- all that was made
  abbrev all_made : BucketState
  all_made = fold effect start made

  all_is : all_made ≡ state_at start log k
  all_is = sym (ap (λ l. fold effect start l) (take-length made)) ∙ so.bucket

  -- one more operation, as the log has it
  pub store_made : (e : LogEvent) → slice_get log k ≡ Some e → e.mode ≡ modes.Done → SameStore start log (suc k) (made ++ made_by e.op ∷ [])
  store_made e there done = record {
    bucket = state_at-pushed start made (made_by e.op) ∙ ap (state_after e.op) so.bucket ∙ sym step;
    contents = λ name generation.
        content_of-pushed start made (made_by e.op) name generation
        ∙ ap (λ known. known_or known (object_of (state_after e.op all_made) name generation)) (so.contents name generation)
        ∙ ap (λ b. known_or (content_of start (take k log) name generation) (object_of b name generation))
        (ap (state_after e.op) all_is ∙ ap (λ mode. state_by mode e.op (state_at start log k)) (sym done))
        ∙ sym (ap (λ l. content_of start l name generation) (take_next log k e there) ∙ content_of-pushed start (take k log) e name generation);
  }
    where
      step : state_at start log (suc k) ≡ state_after e.op (state_at start log k)
      step = ap (λ l. fold effect start l) (take_next log k e there) ∙ fold-append effect start (take k log) (e ∷ [])
          ∙ ap (λ mode. state_by mode e.op (state_at start log k)) done

  -- one that the log has, and that leaves the bucket as it was
  pub store_read : (e : LogEvent) → slice_get log k ≡ Some e → state_by e.mode e.op (state_at start log k) ≡ state_at start log k → SameStore start log (suc k) made
  store_read e there idle = record {
    bucket = so.bucket ∙ sym (ap (λ l. fold effect start l) (take_next log k e there) ∙ fold-append effect start (take k log) (e ∷ []) ∙ idle);
    contents = λ name generation. so.contents name generation
        ∙ sym (ap (λ l. content_of start l name generation) (take_next log k e there) ∙ content_of-idle start (take k log) e name generation idle);
  }

  -- one that the log doesn't have, and that leaves the bucket as it was
  pub store_idle : (op : Operation) → state_after op (state_at start log k) ≡ state_at start log k → SameStore start log k (made ++ made_by op ∷ [])
  store_idle op idle = record {
    bucket = state_at-pushed start made (made_by op) ∙ ap (state_after op) so.bucket ∙ idle;
    contents = λ name generation.
        content_of-idle start made (made_by op) name generation (ap (state_after op) all_is ∙ idle ∙ sym all_is)
        ∙ so.contents name generation;
  }

-- a read leaves the bucket as it was
pub read_idle : (op : Operation) (b : BucketState) → IsRead op → state_after op b ≡ b
read_idle (read name generation first count) b is = refl
read_idle (stat name) b is = absurd is
read_idle (insert name content pairs only stamp) b is = absurd is
read_idle (update name pairs only only_meta stamp) b is = absurd is
read_idle (delete name only) b is = absurd is
read_idle (copy from generation to stamp) b is = absurd is
read_idle (list prefix slash max after) b is = absurd is
