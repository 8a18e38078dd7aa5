-- The mount on one thread: requests performed one after the other, each at once, on a mount and a bucket.
use Rattle.std.specs.Prelude.{◌≡◌, ◌≢◌, ℕ, ◌+◌, List, [], ◌∷◌, ◌++◌, length, map, Some, None, unwrap_or}
use Rattle.std.specs.List.{AllByRecursion}
use Rattle.bucket_api.specs.BucketState.{BucketState, object_of}
use Rattle.bucket_api.specs.BucketStep.{answer_to}
use Rattle.bucket_api.specs.Log.{content_of, state_at}
use Rattle.bucket_api.specs.LogEvent.{LogEvent}
use Rattle.bucket_api.specs.declared.events.Mode.TheVariants as modes
use Rattle.bucket_api.specs.Operation.{Operation}
use Rattle.fuse_head.specs.Head.{in_head}
use Rattle.fuse_replies.specs.declared.reply.Reply.{Reply}
use Rattle.fuse_replies.specs.declared.reply.Reply.TheVariants.{Error}
use Rattle.fuse_replies.specs.Replies.{frame_of}
use Rattle.fuse_requests.specs.declared.request.Request.{Request}
use Rattle.fuse_requests.specs.Grammar.{request_of}
use Rattle.mount_model.specs.declared.config.Config.{Config}
use Rattle.mount_rules.specs.Dispatch.{mount_after, plan, reply_to, wants}
use Rattle.fuse_replies.specs.Errno.{enomem, estale}
use Rattle.mount_rules.specs.Mount.{MountModel, first_mount, second_at}
use Rattle.mount_model.specs.Observing.{Observed}
use Rattle.mount_rules.specs.Plans.{Contents, Plan, Step, Wanted, done, asked_by, Completes, IsHarmless, Walks}
use Rattle.mount_rules.specs.Rules.{AtTake}

-- A bucket as it was at first, and the log of what was made of it. No read stands in the log: what a file's source holds
-- is known from the log (`content_of`). All is made under one lane, and nothing fails.
pub record Store : Type 0 where
  pub start : BucketState
  pub log : List LogEvent

-- the bucket as it stands
abbrev pub bucket_of : Store → BucketState
bucket_of store = state_at store.start store.log (length store.log)

-- what each generation holds that was live at some time
abbrev pub contents_of : Store → Contents
contents_of store name generation = unwrap_or (content_of store.start store.log name generation) []

-- one more operation was made
abbrev pub after_operation : Store → Operation → Store
after_operation store op = record store { log = store.log ++ record { lane = 1; op = op; mode = modes.Done } ∷ [] }

abbrev pub after_observation : Store → Observed → Store
after_observation store o = after_operation store o.op

-- the operations that were observed were made, in order
abbrev pub after_operations : Store → List Observed → Store
after_operations store [] = store
after_operations store (o ∷ more) = after_operations (after_operation store o.op) more

-- The bucket, as it stands, answers what the step asks, reads left out, and the moment is the next place in the log.
pub record Answers (store : Store) (step : Step) (o : Observed) : Type 0 where
  pub asked : asked_by step ≡ Some o.op
  pub moment : o.moment ≡ length store.log + 1
  pub answer : o.answer ≡ answer_to o.op (bucket_of store)

-- the bucket supplies what the plan asks
abbrev pub Observes : Plan → Store → List Observed → Type 0
Observes = Walks Answers after_observation

-- The mount and the bucket between two requests.
pub record RunState : Type 0 where
  pub mount : MountModel
  pub store : Store

-- before the first request, over this bucket
abbrev pub first_state : BucketState → RunState
first_state bucket = record { mount = first_mount; store = record { start = bucket; log = [] } }

-- How a call ends: performed to its end; short, for want of memory; or stale, since the bucket has the generation that it
-- wants a byte of no more.
pub data Ending : Type 0 where
  performed : Ending
  short : Ending
  stale : Ending

-- A request, by the number that the kernel gave it; what it observed of the bucket; and how it ended.
pub record Call : Type 0 where
  pub unique : ℕ
  pub request : Request
  pub seen : List Observed
  pub ending : Ending

-- the clock of one thread stands still
abbrev pub second_of : Config → ℕ
second_of config = second_at config 0

-- what a request has from its take at this state
abbrev pub at_state : Config → RunState → AtTake
at_state config state = record { config = config; second = second_of config; contents = contents_of state.store }

-- what it asks
abbrev pub plan_at : Config → RunState → Request → Plan
plan_at config state request = plan (at_state config state) state.mount request

-- A call that stops short made nothing but look-ups, copies and lists before, and would have asked something.
pub record StopsShort (config : Config) (state : RunState) (request : Request) (seen : List Observed) : Type 0 where
  pub asks : plan_at config state request [] ≢ done
  pub harmless : AllByRecursion (λ (o : Observed). IsHarmless o.op) seen

-- A stale call wants a byte of a source that is live no more.
pub record IsStale (config : Config) (state : RunState) (request : Request) (seen : List Observed) : Type 0 where
  pub wanted : Wanted
  pub wants_it : wants config state.mount request ≡ Some wanted
  pub gone : object_of (bucket_of state.store) wanted.name wanted.generation ≡ None
  pub silent : seen ≡ []

abbrev pub Ends : Config → RunState → Request → List Observed → Ending → Type 0
Ends config state request seen performed = Completes (plan_at config state request) seen
Ends config state request seen short = StopsShort config state request seen
Ends config state request seen stale = IsStale config state request seen

-- The call could be made so at this state.
pub record IsLawful (config : Config) (state : RunState) (call : Call) : Type 0 where
  pub observed : Observes (plan_at config state call.request) state.store call.seen
  pub ends : Ends config state call.request call.seen call.ending

-- what a call is answered, by how it ended
abbrev pub reply_by : Config → RunState → Call → Ending → Reply
reply_by config state call performed = reply_to (at_state config state) state.mount call.request call.seen
reply_by config state call short = Error enomem
reply_by config state call stale = Error estale

abbrev pub mount_by : Config → RunState → Call → Ending → MountModel
mount_by config state call performed = mount_after (at_state config state) state.mount call.request call.seen
mount_by config state call short = state.mount
mount_by config state call stale = state.mount

abbrev pub reply_in : Config → RunState → Call → Reply
reply_in config state call = reply_by config state call call.ending

-- the mount and the bucket after the call
abbrev pub state_after_call : Config → RunState → Call → RunState
state_after_call config state call = record { mount = mount_by config state call call.ending; store = after_operations state.store call.seen }

-- One more request is performed, or ends otherwise: what it is answered, and the state that it leaves.
pub record Performs (config : Config) (state : RunState) (request : Request) (answer : Reply) (after : RunState) : Type 0 where
  pub seen : List Observed
  pub ending : Ending
  pub lawful : IsLawful config state (record { unique = 0; request = request; seen = seen; ending = ending })
  pub answered : answer ≡ reply_in config state (record { unique = 0; request = request; seen = seen; ending = ending })
  pub left : after ≡ state_after_call config state (record { unique = 0; request = request; seen = seen; ending = ending })

-- These calls are made one after the other from the state on, each lawful where it is made.
abbrev pub IsRun : Config → RunState → List Call → Type 0
IsRun config state [] = Unit {0}
IsRun config state (call ∷ calls) = IsLawful config state call × IsRun config (state_after_call config state call) calls

-- the state after the calls
abbrev pub state_after_calls : Config → RunState → List Call → RunState
state_after_calls config state [] = state
state_after_calls config state (call ∷ calls) = state_after_calls config (state_after_call config state call) calls

-- the frames of their replies, one behind the other; a request that gets no reply has none
abbrev pub text_of : Config → RunState → List Call → List ℕ
text_of config state [] = []
text_of config state (call ∷ calls) =
    frame_of call.unique (reply_in config state call) ++ text_of config (state_after_call config state call) calls

-- the number and the request of a call
abbrev pub asked_of : Call → ℕ × Request
asked_of call = (call.unique, call.request)

-- the number and the request of a frame
abbrev pub asked_in : List ℕ → ℕ × Request
asked_in frame = ((in_head frame).unique, request_of frame)

-- The one-thread mount serves these frames, from the one state to the other, and its replies are these bytes:
-- its calls are those of the frames, in order, and those answered for want of memory are the short ones.
pub record Serves (config : Config) (from : RunState) (frames : List (List ℕ)) (put : List ℕ) (to : RunState) : Type 0 where
  pub calls : List Call
  pub asked : map asked_of calls ≡ map asked_in frames
  pub lawful : IsRun config from calls
  pub reached : state_after_calls config from calls ≡ to
  pub told : put ≡ text_of config from calls

-- The bytes are a prefix of the replies of the one-thread mount to these frames.
pub record BeginsServing (config : Config) (from : RunState) (frames : List (List ℕ)) (put : List ℕ) : Type 0 where
  pub unput : List ℕ
  pub to : RunState
  pub whole : Serves config from frames (put ++ unput) to
