-- What the log of a bucket tells of the items of a call: its operations, their moments and their answers.
use Rattle.std.specs.Prelude.{ℕ, ◌+◌, List, [], ◌∷◌, take, drop, Option, ◌==◌, if◌then◌else◌, option_and_then, option_map}
use Rattle.std.specs.List.{filter_map}
use Rattle.bucket_api.specs.BucketState.{BucketState}
use Rattle.bucket_api.specs.Log.{answer_at, event_at}
use Rattle.bucket_api.specs.LogEvent.{LogEvent}
use Rattle.bucket_api.specs.Moments.{moment_at}
use Rattle.history_spec.specs.Account.{Item, moment_of}
use Rattle.mount_model.specs.Observing.{Observed}

-- what was observed at a moment; nothing where the log has no such moment
abbrev pub observed_at : BucketState → List LogEvent → ℕ → Option Observed
observed_at start log moment =
    option_and_then (λ (event : LogEvent). option_map (λ answer. record { op = event.op; moment = moment; answer = answer }) (answer_at start log moment))
    (event_at log moment)

abbrev pub seen_by : BucketState → List LogEvent → List Item → List Observed
seen_by start log items = filter_map (λ item. observed_at start log (moment_of item)) items

-- the moments of the events that a lane made, among these, of which the first stands at this moment
abbrev pub moments_of : ℕ → ℕ → List LogEvent → List ℕ
moments_of lane moment [] = []
moments_of lane moment (event ∷ events) =
    if event.lane == lane then moment ∷ moments_of lane (moment + 1) events else moments_of lane (moment + 1) events

-- the moments of a lane's events behind one front, up to another
abbrev pub own_moments : List LogEvent → ℕ → ℕ → ℕ → List ℕ
own_moments log lane from upto = moments_of lane (moment_at from) (drop from (take upto log))
