-- The laws of the content of a generation, along a log of operations that may be asked.
use Rattle.std.specs.Prelude.{◌≡◌, ℕ, ◌<◌, List, ◌++◌, length, All, Some, None}
use Rattle.bucket_api.specs.declared.objects.Object.{Object}
use Rattle.bucket_api.specs.LogEvent.{LogEvent}
use Rattle.bucket_api.specs.Operation.{IsAllowed}
use Rattle.bucket_api.specs.BucketState.{BucketState, object_of, IsBucket}
use Rattle.bucket_api.specs.Log.{state_at, content_of}

-- a live generation's content is what stands there, at each moment of the log
abbrev pub LiveContentIsKnown : Type 0
LiveContentIsKnown = (start : BucketState) (log : List LogEvent) (moment : ℕ) (name : List ℕ) (generation : ℕ) (o : Object) → IsBucket start → All (λ e. IsAllowed e.op) log
    → object_of (state_at start log moment) name generation ≡ Some o → content_of start log name generation ≡ Some o.content

-- the content of a generation stays so as the log grows
abbrev pub ContentStays : Type 0
ContentStays = (start : BucketState) (log more : List LogEvent) (name : List ℕ) (generation : ℕ) (content : List ℕ)
    → content_of start log name generation ≡ Some content → content_of start (log ++ more) name generation ≡ Some content

-- a generation that was not given by the log's end has no content
abbrev pub NewGenerationIsFresh : Type 0
NewGenerationIsFresh = (start : BucketState) (log : List LogEvent) (name : List ℕ) (generation : ℕ) → IsBucket start → All (λ e. IsAllowed e.op) log
    → (state_at start log (length log)).last < generation → content_of start log name generation ≡ None
