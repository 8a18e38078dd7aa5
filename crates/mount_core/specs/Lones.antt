-- The mount on one thread that keeps its log and its journal: what contracts see of it, and what each of its calls adds.
use Rattle.std.specs.Prelude.{◌≡◌, ℕ, ◌+◌, All, Contains, length, List, [], ◌∷◌, ◌++◌}
use Rattle.bucket_api.specs.BucketState.{BucketState, IsBucket}
use Rattle.bucket_api.specs.Log.{FollowsScript, scripted_mode}
use Rattle.bucket_api.specs.LogEvent.{LogEvent}
use Rattle.bucket_api.specs.Moments.{moment_at}
use Rattle.bucket_api.specs.Operation.{IsAllowed, Operation}
use Rattle.bucket_api.specs.declared.events.Mode.{Mode}
use Rattle.fuse_replies.specs.declared.reply.Reply.{Reply}
use Rattle.fuse_requests.specs.declared.request.Request.{Request}
use Rattle.history_laws.specs.Apart.{OneByOne}
use Rattle.history_spec.specs.Account as account
use Rattle.history_spec.specs.Account.{Account, Item, journal_of}
use Rattle.history_spec.specs.Fits.{IsAccount, ended_in}
use Rattle.history_spec.specs.JournalState.{EndedCall, JournalState, OpenCall, reached}
use Rattle.history_spec.specs.Lanes.{IsCovered}
use Rattle.history_spec.specs.Laws.{IsTaken, done_of, take_of}
use Rattle.history_spec.specs.Looks.{lanes_of}
use Rattle.mount_model.specs.Configs.{IsConfig}
use Rattle.mount_model.specs.Journal as journal
use Rattle.mount_model.specs.Journal.{Entry}
use Rattle.mount_model.specs.declared.config.Config.{Config}
use Rattle.mount_model.specs.declared.gate.CallId.{CallId}
use Rattle.mount_model.specs.declared.journal.Fill.{Fill}
use Rattle.mount_model.specs.declared.journal.Fill.TheVariants as fills
use Rattle.mount_model.specs.declared.journal.How.{How}
use Rattle.mount_model.specs.declared.journal.Use.{Use}
use Rattle.thrift_spec.specs.Records.{RecordsAreTold, records_at}
use Rattle.thrift_spec.specs.Thrift.{AllThrifty}

-- The settings; the bucket before its log, and the script of its faults; the log; and the journal.
pub record LoneState : Type 0 where
  pub config : Config
  pub start : BucketState
  pub script : List (ℕ × Mode)
  pub log : List LogEvent
  pub journal : List Entry

-- before its first call
abbrev pub first_lone : Config → BucketState → List (ℕ × Mode) → LoneState
first_lone config start script = record { config = config; start = start; script = script; log = []; journal = [] }

-- what an account of it has come to
abbrev pub come_to : LoneState → Account → JournalState
come_to lone told = reached lone.config lone.start lone.log told

-- The account tells all that the mount did: the journal is what is printed of it, and the log explains it; each call was
-- done before the next one was taken, and none is under way; and all that its lanes made is their calls' own.
pub record Tells (lone : LoneState) (told : Account) : Type 0 where
  pub is : IsAccount lone.config lone.start lone.log told
  pub printed : journal_of told ≡ lone.journal
  pub one_by_one : OneByOne told
  pub idle : (come_to lone told).opened ≡ []
  pub covered : (lane : ℕ) → Contains (lanes_of (come_to lone told)) lane → IsCovered lone.log (come_to lone told) lane

-- Its settings are in their ranges; its bucket was one, was asked what may be asked of one, and failed where the script
-- says; and an account tells all that it did.
pub record IsLone (lone : LoneState) : Type 0 where
  pub settings : IsConfig lone.config
  pub bucket : IsBucket lone.start
  pub allowed : All (λ e. IsAllowed e.op) lone.log
  pub follows : FollowsScript lone.script lone.log
  pub account : Account
  pub tells : Tells lone account

-- ---- calls
-- The call is the next one of its lane, which has made nothing but in its calls.
pub record HasNext (lone : LoneState) (call : CallId) : Type 0 where
  pub account : Account
  pub tells : Tells lone account
  pub next : call.index ≡ ended_in (come_to lone account) call.lane + 1
  pub covered : IsCovered lone.log (come_to lone account) call.lane

-- One more call: behind the log stands what it made, all of its lane; behind the journal its take and its end, with its looks.
-- No file is kept. Its account is told, and it is the latest that ended, with its reply. It was taken where the account stood; it
-- looked a name up itself only where no record of it lived at its take, and each record that served it was found there; and the
-- flags of the account say what the record list made of what was seen.
pub record Calls (before : LoneState) (told : Account) (call : CallId) (request : Request) (reply : Reply) (after : LoneState) : Type 0 where
  pub more : List LogEvent
  pub how : How
  pub uses : List Use
  pub fill : Fill
  pub own : All (λ e. e.lane ≡ call.lane) more
  pub unfilled : fill ≡ fills.Nothing
  pub left : after ≡ record before {
    log = before.log ++ more;
    journal = before.journal ++ journal.taken call (length before.log) request ∷ journal.done call (length (before.log ++ more)) how uses fill ∷ [];
  }
  pub account : Account
  pub tells : Tells after account
  pub taken : OpenCall
  pub items : List Item
  pub is : account ≡ told ++ take_of taken ∷ done_of taken (length (before.log ++ more)) how items fill ∷ []
  pub takes : IsTaken before.config before.start before.log (come_to before told) taken
  pub looks : AllThrifty before.start (before.log ++ more) taken (records_at before.config before.start before.log told) items
  pub flags : RecordsAreTold before.config before.start (before.log ++ more) account
  pub ended : EndedCall
  pub is_call : ended.call ≡ call
  pub answered : ended.reply ≡ reply
  pub ends : (come_to after account).ended ≡ ended ∷ (come_to before told).ended

-- whatever account tells what it did, the call is added to it
abbrev pub CallsOne : LoneState → CallId → Request → Reply → LoneState → Type 0
CallsOne before call request reply after = (told : Account) → Tells before told → Calls before told call request reply after

-- ---- a writer beside it
-- no call was made in this lane
pub record HasNoCall (lone : LoneState) (lane : ℕ) : Type 0 where
  pub account : Account
  pub tells : Tells lone account
  pub beside : Contains (lanes_of (come_to lone account)) lane → ⊥

-- one more operation of the bucket, in the mode that the script sets
abbrev pub with_event : LoneState → ℕ → Operation → LoneState
with_event lone lane op = record lone { log = lone.log ++ record { lane = lane; op = op; mode = scripted_mode lone.script (moment_at (length lone.log)) } ∷ [] }

-- an account that told all still does, and comes to the same
pub record StillTells (before after : LoneState) (told : Account) : Type 0 where
  pub tells : Tells after told
  pub same : come_to after told ≡ come_to before told

abbrev pub Writes : LoneState → LoneState → Type 0
Writes before after = (told : Account) → Tells before told → StillTells before after told

-- ---- the clock
abbrev pub with_tick : LoneState → ℕ → LoneState
with_tick lone seconds = record lone { journal = lone.journal ++ journal.ticked (length lone.log) seconds ∷ [] }

-- the account goes on by the seconds, and no more calls have ended
pub record TicksOn (before after : LoneState) (told : Account) (seconds : ℕ) : Type 0 where
  pub tells : Tells after (told ++ account.tick (length before.log) seconds ∷ [])
  pub same : (come_to after (told ++ account.tick (length before.log) seconds ∷ [])).ended ≡ (come_to before told).ended

abbrev pub Ticks : LoneState → LoneState → ℕ → Type 0
Ticks before after seconds = (told : Account) → Tells before told → TicksOn before after told seconds
