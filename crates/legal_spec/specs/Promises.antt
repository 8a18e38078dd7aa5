-- What legal histories promise, for whoever reads one.
use Rattle.std.specs.Prelude.{◌≡◌, ◌≢◌, ℕ, ◌==◌, if◌then◌else◌, All, List, [], ◌∷◌, ◌++◌, IsSome, IsTrue, Some, None, ◌⊎◌}
use Rattle.std.specs.FinMap as fin
use Rattle.std.specs.List.{AllByRecursion, flat_map}
use Rattle.std.specs.Option.{option_map_or}
use Rattle.bucket_api.specs.BucketState.{IsBucket}
use Rattle.bucket_api.specs.Log.{event_at}
use Rattle.bucket_api.specs.LogEvent.{LogEvent}
use Rattle.bucket_api.specs.Operation.{IsAllowed, Operation}
use Rattle.bucket_api.specs.declared.answers.Answer.TheVariants.{Fault}
use Rattle.fuse_replies.specs.declared.reply.Reply.TheVariants.{Content, Opened}
use Rattle.fuse_requests.specs.declared.request.Request.TheVariants.{Opening, Read}
use Rattle.history_laws.specs.Agreements.{Agrees, StaleWantBytes}
use Rattle.history_laws.specs.Ends.{CallEnd, over, reply_at, seen_at, turn_of}
use Rattle.history_laws.specs.Flushes.{IsGuarded}
use Rattle.history_laws.specs.Nodes.{count_of}
use Rattle.history_laws.specs.Opens.{IsFresh}
use Rattle.history_spec.specs.Account.{Account, own_moments_of}
use Rattle.history_spec.specs.Claims.{StandApart}
use Rattle.history_spec.specs.JournalState.{EndedCall, JournalState, first_journal, open_of}
use Rattle.history_spec.specs.Lanes.{IsCovered}
use Rattle.history_text.specs.HistoryText.{IsPlayed}
use Rattle.inode_spec.specs.Inodes.{lookups_of}
use Rattle.legal_spec.specs.Frames.{Replies, frame_by, reply_of}
use Rattle.legal_spec.specs.Legal.{IsMade, Legal, played}
use Rattle.legal_spec.specs.Schedules.{IsMerge, Move, calls_of, is_remote, lane_at}
use Rattle.legal_spec.specs.Texts.{history_of}
use Rattle.mount_model.specs.Journal.{Entry}
use Rattle.mount_model.specs.Observing.{Observed}
use Rattle.mount_model.specs.declared.gate.CallId.{CallId}
use Rattle.mount_model.specs.declared.journal.How.TheVariants as how
use Rattle.mount_rules.specs.Dispatch.{early}
use Rattle.mount_rules.specs.Laws.{AreOfContent, IsFlushOf, content_at}
use Rattle.mount_rules.specs.Mount.{MountModel}
use Rattle.mount_rules.specs.OneThread as one_thread
use Rattle.mount_rules.specs.View.{Sight, sight_at}
use Rattle.scenario.specs.Parts.{Call, Lane, ScenarioData, calls}
use Rattle.scenario.specs.declared.call.Fix.{Fix}
use Rattle.staging_spec.specs.StagedFiles.{StagedContent}

-- ---- frames
-- A call whose fixups name calls that are done has its frame, whatever is done later.
abbrev pub FramesStay : Type 0
FramesStay = (replies more : Replies) (call : Call) → AllByRecursion (λ (fix : Fix). IsSome (reply_of replies fix.call)) call.fixes
    → frame_by (replies ++ more) call ≡ frame_by replies call

-- ---- schedules
-- Lanes that do their work one behind the other are merged.
pub record LanesInOrder : Type 0 where
  pub moves : (lists : List (List Move)) → IsMerge lists (flat_map (λ list. list) lists)
  pub operations : (lists : List (List (ℕ × Operation))) → IsMerge lists (flat_map (λ list. list) lists)

-- the calls of a lane that are done, one after another
abbrev pub done_in : List EndedCall → ℕ → List CallId
done_in [] lane = []
done_in (e ∷ ended) lane = if e.call.lane == lane then done_in ended lane ++ e.call ∷ [] else done_in ended lane

-- In each lane the scripted calls are done, one after another, and no other; and none is under way.
pub record IsComplete (scenario : ScenarioData) (log : List LogEvent) (account : Account) : Type 0 where
  pub lanes : (number : ℕ) → done_in (played scenario log account).ended number ≡ option_map_or (calls_of number) (lane_at scenario.phases number) []
  pub none : (played scenario log account).opened ≡ []

abbrev pub CallsAreDone : Type 0
CallsAreDone = (scenario : ScenarioData) (log : List LogEvent) (journal : List Entry) (legal : Legal scenario log journal) → IsComplete scenario log legal.fits.account

-- Where no call is under way, and all that a lane made is covered by its calls, each event of that lane is a done call's own.
-- So each event of a log is accounted for, if it is one of a remote writer, or of a lane that is covered.
abbrev pub CoveredIsMade : Type 0
CoveredIsMade = (phases : List (List Lane)) (log : List LogEvent) (state : JournalState) → state.opened ≡ []
    → ((moment : ℕ) (event : LogEvent) → event_at log moment ≡ Some event → IsTrue (is_remote (lane_at phases event.lane)) ⊎ IsCovered log state event.lane)
    → (moment : ℕ) (event : LogEvent) → event_at log moment ≡ Some event → IsMade phases state moment event

-- ---- text
-- What is printed has a reply frame for each call, and the calls rise by lane and then by index.
abbrev pub HistoriesArePlayed : Type 0
HistoriesArePlayed = (scenario : ScenarioData) (log : List LogEvent) (account : Account) → IsPlayed (history_of scenario log account)

-- ---- histories
-- A legal history over a bucket, of operations that may be asked of one, in which no two calls under way had claims that
-- conflict.
pub record Orderly (scenario : ScenarioData) (log : List LogEvent) (journal : List Entry) : Type 0 where
  pub legal : Legal scenario log journal
  pub bucket : IsBucket scenario.start
  pub allowed : All (λ e. IsAllowed e.op) log
  pub apart : StandApart scenario.config scenario.start log first_journal legal.fits.account

-- the mount after the first turns of a history
abbrev pub mount_then : ScenarioData → List LogEvent → Account → MountModel
mount_then scenario log turns = (played scenario log turns).mount

-- a call ends in the account, behind these turns
pub record EndsIn (scenario : ScenarioData) (log : List LogEvent) (account turns : Account) (e : CallEnd) : Type 0 where
  pub more : Account
  pub whole : account ≡ turns ++ turn_of e ∷ more
  pub under_way : open_of (played scenario log turns).opened e.call.call.lane ≡ Some e.call

-- Live nodes: at any time a node other than the root has the look-ups that were given of it and not given back; so it is
-- live exactly where its count is above 0.
abbrev pub LiveNodes : Type 0
LiveNodes = (scenario : ScenarioData) (log : List LogEvent) (journal : List Entry) (legal : Legal scenario log journal) (turns more : Account) (number : ℕ)
    → number ≢ 1 → legal.fits.account ≡ turns ++ more
    → lookups_of (mount_then scenario log turns).table number ≡ count_of scenario.config scenario.start log turns number

-- Content of reads: a READ that is answered bytes is answered those asked for of what is staged of its file, or of the
-- content of the generation that the file shows.
abbrev pub ContentOfReads : Type 0
ContentOfReads = (scenario : ScenarioData) (log : List LogEvent) (journal : List Entry) (history : Orderly scenario log journal) (turns : Account) (e : CallEnd) (node fh first size : ℕ) (bytes : List ℕ)
    → EndsIn scenario log history.legal.fits.account turns e → e.call.taken.request ≡ Read node fh first size
    → reply_at scenario.start log (mount_then scenario log turns) e ≡ Content bytes
    → AreOfContent (over scenario.start log (mount_then scenario log turns)) node first size bytes

-- Guarded flush: a flush of staged content that is not refused, does not stop short and observes no fault makes one new
-- generation where the one that its file shows is live at its last own event, and else nothing.
abbrev pub GuardedFlush : Type 0
GuardedFlush = (scenario : ScenarioData) (log : List LogEvent) (journal : List Entry) (history : Orderly scenario log journal) (turns : Account) (e : CallEnd) (node : ℕ) (file : Sight) (staged : StagedContent)
    → EndsIn scenario log history.legal.fits.account turns e → IsFlushOf node e.call.taken.request
    → sight_at (mount_then scenario log turns).table node ≡ Some file → fin.get (mount_then scenario log turns).staged node ≡ Some staged
    → early (mount_then scenario log turns) e.call.taken.request ≡ None → e.how ≡ how.Ok
    → AllByRecursion (λ (o : Observed). o.answer ≢ Fault) (seen_at scenario.start log e)
    → IsGuarded scenario.start log file (content_at (over scenario.start log (mount_then scenario log turns)) node) (own_moments_of e.items)
    (reply_at scenario.start log (mount_then scenario log turns) e)

-- Fresh open: where records of objects serve for no time, an OPEN that is answered well, of a file of which nothing is
-- staged, has seen by an own stat since its take that the generation which the file shows is live; and it is the newest by
-- then.
abbrev pub FreshOpen : Type 0
FreshOpen = (scenario : ScenarioData) (log : List LogEvent) (journal : List Entry) (history : Orderly scenario log journal) (turns : Account) (e : CallEnd) (node flags fh : ℕ) (file : Sight)
    → scenario.config.stat_lifetime ≡ 0 → EndsIn scenario log history.legal.fits.account turns e → e.call.taken.request ≡ Opening node flags
    → sight_at (mount_then scenario log turns).table node ≡ Some file → fin.get (mount_then scenario log turns).staged node ≡ None
    → reply_at scenario.start log (mount_then scenario log turns) e ≡ Opened fh
    → IsFresh scenario.start log file e.call.front (own_moments_of e.items)

-- ---- one lane
-- the phase has no lane, or one, which makes calls
abbrev pub HasOneLane : List Lane → Type 0
HasOneLane [] = Unit {0}
HasOneLane (calls cs ∷ []) = Unit {0}
HasOneLane lanes = ⊥

-- The scenario has one lane at a time, of calls: no remote writer, no clock, and no scripted fault.
pub record IsOneLane (scenario : ScenarioData) : Type 0 where
  pub phases : AllByRecursion HasOneLane scenario.phases
  pub script : scenario.script ≡ []

-- Agreement: a legal history of such a scenario, in which each READ and each WRITE that is answered ESTALE wants a byte, is
-- one of the one-thread mount. That has a run over the same bucket, with the same requests, the same replies and the same
-- bucket at its end.
abbrev pub OneLaneAgrees : Type 0
OneLaneAgrees = (scenario : ScenarioData) (log : List LogEvent) (journal : List Entry) (legal : Legal scenario log journal)
    → IsBucket scenario.start → All (λ e. IsAllowed e.op) log → IsOneLane scenario → StaleWantBytes scenario.config scenario.start log legal.fits.account
    → (made : List one_thread.Call) × Agrees scenario.config scenario.start log legal.fits.account made
