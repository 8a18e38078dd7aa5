-- Own writes leave no record standing: where calls come one at a time over a log that is theirs alone, a record that may serve
-- a call shows what the bucket would answer.
use Rattle.std.specs.Prelude.{◌≡◌, ℕ, List, ◌∷◌, ◌++◌, Some}
use Rattle.bucket_api.specs.BucketState.{BucketState}
use Rattle.bucket_api.specs.BucketStep.{answer_to}
use Rattle.bucket_api.specs.Log.{state_at}
use Rattle.bucket_api.specs.LogEvent.{LogEvent}
use Rattle.bucket_api.specs.declared.answers.Answer.{Answer}
use Rattle.fuse_requests.specs.declared.request.Request.{Request}
use Rattle.history_laws.specs.Agreements.{IsSerial}
use Rattle.history_spec.specs.Account as account
use Rattle.history_spec.specs.Account.{Account}
use Rattle.history_spec.specs.Fits.{plan_of}
use Rattle.history_spec.specs.JournalState.{JournalState, OpenCall, at_front, reached, taken_by}
use Rattle.history_spec.specs.Looks.{IsLook, MayRecall}
use Rattle.history_spec.specs.Observing.{observed_at}
use Rattle.mount_model.specs.Observing.{Observed}
use Rattle.mount_model.specs.declared.config.Config.{Config}
use Rattle.mount_model.specs.declared.gate.CallId.{CallId}
use Rattle.mount_rules.specs.Overlap.{opened_at}
use Rattle.mount_rules.specs.Plans.{Allows}

-- the call that is taken in this state, at a front
abbrev pub call_in : Config → BucketState → List LogEvent → JournalState → CallId → ℕ → Request → OpenCall
call_in config start log state call front request = taken_by state call front (opened_at (at_front config start log state.clock front) state.mount request)

-- A record of this moment shows, of a look that the plan of a call asks for after these answers, what the bucket answers to it
-- where the call is taken.
abbrev pub RecordsShowNow : Type 0
RecordsShowNow = (config : Config) (start : BucketState) (log : List LogEvent) (turns more : Account) (call : CallId) (front : ℕ) (request : Request)
    (told : List Answer) (moment : ℕ) (seen : Observed)
    → IsSerial config start log (turns ++ account.take call front request ∷ more)
    → Allows (plan_of (reached config start log turns) (call_in config start log (reached config start log turns) call front request) told) seen.op → IsLook seen.op
    → observed_at start log moment ≡ Some seen → MayRecall (call_in config start log (reached config start log turns) call front request) seen.op moment
    → seen.answer ≡ answer_to seen.op (state_at start log (reached config start log turns).front)
