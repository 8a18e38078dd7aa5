-- The laws of what a mount keeps along an account, as statements.
use Rattle.std.specs.Prelude.{◌≡◌, ◌≤◌, ◌++◌, ℕ, All, Contains, List, Some}
use Rattle.bucket_api.specs.BucketState.{BucketState, IsBucket}
use Rattle.bucket_api.specs.LogEvent.{LogEvent}
use Rattle.bucket_api.specs.Operation.{IsAllowed, Operation, stat}
use Rattle.bucket_api.specs.declared.answers.Answer.{Answer}
use Rattle.cache_spec.specs.KeptFiles.{KeptFiles, content_of}
use Rattle.cache_spec.specs.declared.file_key.FileKey.{FileKey}
use Rattle.fuse_requests.specs.declared.request.Request.{Request}
use Rattle.history_spec.specs.Account.{Account, Item}
use Rattle.history_spec.specs.Fits.{HasWalked, IsAccount}
use Rattle.history_spec.specs.JournalState.{JournalState, OpenCall, at_front, reached, taken_by}
use Rattle.history_spec.specs.Laws.{IsTaken}
use Rattle.history_spec.specs.Looks.{IsLook, MayRecall, keys_taken}
use Rattle.history_spec.specs.Observing.{observed_at, seen_by}
use Rattle.history_spec.specs.Pasts.{key_of, lifetime_of, shown_of}
use Rattle.mount_model.specs.Observing.{Observed}
use Rattle.mount_model.specs.declared.config.Config.{Config}
use Rattle.mount_model.specs.declared.gate.CallId.{CallId}
use Rattle.mount_model.specs.declared.journal.Fill.{Fill}
use Rattle.mount_model.specs.declared.journal.How.{How}
use Rattle.mount_rules.specs.Dispatch.{plan}
use Rattle.mount_rules.specs.Mount.{IsMount, MountModel}
use Rattle.mount_rules.specs.Overlap.{opened_at}
use Rattle.mount_rules.specs.Plans.{Allows, Plan, answers_of}
use Rattle.mount_rules.specs.Requests.Lookup.{probed}
use Rattle.mount_rules.specs.Rules.{AtTake}
use Rattle.record_spec.specs.RecordList.{Key, known_to}
use Rattle.record_spec.specs.Steps.{live_record}
use Rattle.record_spec.specs.declared.records.Record.{Record}
use Rattle.record_spec.specs.declared.records.Shown.{Shown}
use Rattle.thrift_spec.specs.Contents.{AreContents, FillsSome}
use Rattle.thrift_spec.specs.Files.{wholes_read}
use Rattle.thrift_spec.specs.OneCall.{KeepsCall, KeptOver, kept_done, kept_taken}
use Rattle.thrift_spec.specs.Recalls.{IsOfLog, IsProbing, RecallsOn, StandsFor, look_for}
use Rattle.thrift_spec.specs.Records.{RecordsAreTold, answer_of, records_at}
use Rattle.thrift_spec.specs.Thrift.{Kept}

-- ---- the record list
-- the call that is taken there
abbrev pub call_at : Config → BucketState → List LogEvent → JournalState → CallId → ℕ → Request → OpenCall
call_at config start log state call front request = taken_by state call front (opened_at (at_front config start log state.clock front) state.mount request)

-- A record that lives in the list at a take may serve a look of the call that is taken, of a key for which it looks; whatever
-- other calls are under way.
abbrev pub RecordsServe : Type 0
RecordsServe = (config : Config) (start : BucketState) (log : List LogEvent) (turns : Account) (call : CallId) (front : ℕ) (request : Request) (op : Operation) (r : Record)
    → RecordsAreTold config start log turns
    → Contains (keys_taken (call_at config start log (reached config start log turns) call front request).taken) (key_of op)
    → live_record (records_at config start log turns) (key_of op) (reached config start log turns).clock (lifetime_of config (key_of op)) ≡ Some r
    → MayRecall (call_at config start log (reached config start log turns) call front request) op r.moment

-- A record that lived in the list at a take is no newer than what the list knows of its key after any more turns: what was
-- learned and written meanwhile lets nothing fall. So a call that used it tells of it, at its end, as of one that was known.
abbrev pub FoundStaysKnown : Type 0
FoundStaysKnown = (config : Config) (start : BucketState) (log : List LogEvent) (turns more : Account) (key : Key) (now lifetime : ℕ) (r : Record)
    → RecordsAreTold config start log (turns ++ more) → live_record (records_at config start log turns) key now lifetime ≡ Some r
    → r.moment ≤ known_to (records_at config start log (turns ++ more)) key

-- ---- along an account
-- A longer log leaves all that is kept along an account as it was, and its thrift.
abbrev pub LogLeavesKept : Type 0
LogLeavesKept = (config : Config) (start : BucketState) (log more : List LogEvent) (turns : Account)
    → IsAccount config start log turns → KeptOver config start log (log ++ more) turns

-- A call that is taken at the end of a log, and done at the end of a longer one: what is kept then; and the account stays
-- thrifty by a thrifty end, whose flags say what the list made of its own looks.
abbrev pub CallIsKept : Type 0
CallIsKept = (config : Config) (start : BucketState) (log more : List LogEvent) (turns : Account) (o : OpenCall) (h : How) (items : List Item) (fill : Fill)
    → IsAccount config start log turns → IsTaken config start log (reached config start log turns) o
    → KeepsCall config start log more turns o h items fill

-- Kept files have the contents of their generations, after a call still, where no empty file is kept by its fill.
abbrev pub ContentsAreKept : Type 0
ContentsAreKept = (config : Config) (start : BucketState) (log more : List LogEvent) (state : JournalState) (o : OpenCall) (kept : Kept) (items : List Item) (fill : Fill)
    → IsTaken config start log state o → IsBucket start → All (λ e. IsAllowed e.op) (log ++ more)
    → FillsSome fill (wholes_read o.taken.at.contents (seen_by start (log ++ more) items)) → AreContents start log kept.files
    → AreContents start (log ++ more) (kept_done config start (log ++ more) (kept_taken config state kept o) o items fill).files

-- Of a file that is kept at a take that is the content which the call knows from there.
abbrev pub KeptIsKnown : Type 0
KeptIsKnown = (config : Config) (start : BucketState) (log : List LogEvent) (state : JournalState) (o : OpenCall) (files : KeptFiles) (key : FileKey) (content : List ℕ)
    → IsTaken config start log state o → AreContents start log files → content_of files key ≡ Some content
    → o.taken.at.contents key.name key.generation ≡ content

-- ---- recalls
-- A record that lives in the list of an account is of a look that the log tells of, with what it showed.
abbrev pub RecordsTellLog : Type 0
RecordsTellLog = (config : Config) (start : BucketState) (log : List LogEvent) (turns : Account) (key : Key) (now lifetime : ℕ) (r : Record)
    → IsAccount config start log turns → RecordsAreTold config start log turns → live_record (records_at config start log turns) key now lifetime ≡ Some r
    → IsOfLog start log (reached config start log turns).front key r

-- A walk goes on, over the same log, by a look that the plan asks next and a record may serve, which tells of a moment up to
-- the front.
abbrev pub WalkRecalls : Type 0
WalkRecalls = (start : BucketState) (log : List LogEvent) (plan : Plan) (o : OpenCall) (front : ℕ) (items : List Item) (moment : ℕ) (seen : Observed)
    → HasWalked start log plan o front items → observed_at start log moment ≡ Some seen → moment ≤ front
    → Allows (plan (answers_of (seen_by start log items))) seen.op → IsLook seen.op → MayRecall o seen.op moment
    → RecallsOn start log plan o front items moment seen

-- At every mount one operation looks a key up.
abbrev pub LooksAreOne : Type 0
LooksAreOne = (at : AtTake) (mount : MountModel) (request : Request) (told : List Answer) (op : Operation)
    → IsMount mount → Allows (plan at mount request told) op → IsLook op → op ≡ look_for at.config.implicit_dirs (key_of op)

-- A record of a stat tells its answer itself. One of a probe tells whether the directory is there, which is all that a LOOKUP
-- or RENAME goes by.
abbrev pub StatsAreTold : Type 0
StatsAreTold = (start : BucketState) (log : List LogEvent) (moment : ℕ) (seen : Observed) (name : List ℕ) (shown : Shown)
    → observed_at start log moment ≡ Some seen → seen.op ≡ stat name → shown_of seen.answer ≡ Some shown → answer_of shown ≡ seen.answer

abbrev pub ProbesAreTold : Type 0
ProbesAreTold = (answer : Answer) (shown : Shown) → shown_of answer ≡ Some shown → probed answer ≡ probed (answer_of shown)

abbrev pub ProbesStand : Type 0
ProbesStand = (at : AtTake) (mount : MountModel) (request : Request) (first other : Observed)
    → IsProbing request → probed first.answer ≡ probed other.answer → first.moment ≡ other.moment → StandsFor at mount request first other
