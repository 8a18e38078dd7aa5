-- The laws of accounts, and of the journals that a log explains, as statements.
use Rattle.std.specs.Prelude.{◌≡◌, ◌≢◌, ℕ, ◌+◌, ◌<◌, ◌≤◌, Contains, length, List, [], ◌∷◌, ◌++◌, take, IsSome, Some, None}
use Rattle.std.specs.List.{AllByRecursion}
use Rattle.bucket_api.specs.BucketState.{BucketState}
use Rattle.bucket_api.specs.Log.{answer_by, content_of, event_at, state_at}
use Rattle.bucket_api.specs.LogEvent.{LogEvent}
use Rattle.bucket_api.specs.Moments.{moment_at}
use Rattle.bucket_api.specs.Operation.{stat}
use Rattle.history_spec.specs.Account as account
use Rattle.history_spec.specs.Account.{Account, Item, Turn, front_of, journal_of, last_front, own_moments_of, own_of}
use Rattle.history_spec.specs.Claims.{StandApart, plan_taken, shared_of}
use Rattle.history_spec.specs.Fits.{Fits, Follows, HasWalked, IsAccount, MayBeDone, MayFollow, MayTell, ended_in}
use Rattle.history_spec.specs.JournalState.{EndedCall, JournalState, OpenCall, after_done, after_turn, after_turns, at_front, first_journal, open_of, reached, taken_by, with_taken}
use Rattle.history_spec.specs.Lanes.{IsBeside, IsCovered, IsInTurn}
use Rattle.history_spec.specs.Looks.{Changes, IsSettled, lanes_of}
use Rattle.history_spec.specs.Observing.{seen_by}
use Rattle.mount_model.specs.Journal.{Entry}
use Rattle.mount_model.specs.Observing.{Observed}
use Rattle.mount_model.specs.declared.config.Config.{Config}
use Rattle.mount_model.specs.declared.journal.Fill.{Fill}
use Rattle.mount_model.specs.declared.journal.How.{How}
use Rattle.mount_rules.specs.Dispatch.{plan}
use Rattle.mount_rules.specs.Mount.{MountModel}
use Rattle.mount_rules.specs.Overlap as overlap
use Rattle.mount_rules.specs.Overlap.{opened_at}
use Rattle.mount_rules.specs.Plans.{Allows, Plan, answers_of}

-- ---- one more turn
-- the account goes on by a turn, which has its effect on what the account had come to
pub record GoesOn (config : Config) (start : BucketState) (log : List LogEvent) (account : Account) (turn : Turn) : Type 0 where
  pub is : IsAccount config start log (account ++ turn ∷ [])
  pub reaches : reached config start log (account ++ turn ∷ []) ≡ after_turn config start log (reached config start log account) turn

abbrev pub EntryIsAdded : Type 0
EntryIsAdded = (config : Config) (start : BucketState) (log : List LogEvent) (account : Account) (turn : Turn)
    → IsAccount config start log account → MayFollow start log (reached config start log account) turn → front_of turn ≤ length log
    → GoesOn config start log account turn

-- the turns of a call under way: its take, and its end
abbrev pub take_of : OpenCall → Turn
take_of o = account.take o.call o.front o.taken.request

abbrev pub done_of : OpenCall → ℕ → How → List Item → Fill → Turn
done_of o front how items fill = account.done o.call front how items fill

-- the call is the next one of a lane that has none under way, taken at this state, at the end of the log
pub record IsTaken (config : Config) (start : BucketState) (log : List LogEvent) (state : JournalState) (o : OpenCall) : Type 0 where
  pub free : open_of state.opened o.call.lane ≡ None
  pub next : o.call.index ≡ ended_in state o.call.lane + 1
  pub so : o ≡ taken_by state o.call (length log) (opened_at (at_front config start log state.clock (length log)) state.mount o.taken.request)

-- A call that is taken at the end of a log, and done at the end of a longer one, with what its lane made meanwhile, is added
-- to the account whole.
pub record IsAdded (config : Config) (start : BucketState) (log more : List LogEvent) (account : Account) (o : OpenCall) (how : How) (items : List Item) (fill : Fill) : Type 0 where
  pub is : IsAccount config start (log ++ more) (account ++ take_of o ∷ done_of o (length (log ++ more)) how items fill ∷ [])
  pub reaches : reached config start (log ++ more) (account ++ take_of o ∷ done_of o (length (log ++ more)) how items fill ∷ [])
      ≡ after_done start (log ++ more) (with_taken (reached config start log account) o) (length (log ++ more)) how items o

abbrev pub CallIsAdded : Type 0
CallIsAdded = (config : Config) (start : BucketState) (log more : List LogEvent) (account : Account) (o : OpenCall) (how : How) (items : List Item) (fill : Fill)
    → IsAccount config start log account → IsTaken config start log (reached config start log account) o
    → MayBeDone start (log ++ more) (with_taken (reached config start log account) o) o (length (log ++ more)) how items
    → IsAdded config start log more account o how items fill

-- ---- other logs
-- another log has the same account, which comes to the same over it
pub record StaysOver (config : Config) (start : BucketState) (log other : List LogEvent) (account : Account) : Type 0 where
  pub is : IsAccount config start other account
  pub reaches : reached config start other account ≡ reached config start log account

-- a longer log has the same account, and explains the same journal
abbrev pub LogGrows : Type 0
LogGrows = (config : Config) (start : BucketState) (log more : List LogEvent) (account : Account)
    → IsAccount config start log account → StaysOver config start log (log ++ more) account

abbrev pub JournalStays : Type 0
JournalStays = (config : Config) (start : BucketState) (log more : List LogEvent) (journal : List Entry)
    → Fits config start log journal → Fits config start (log ++ more) journal

-- a beginning of an account needs no more of the log than the mount had seen by then; and so a beginning of a journal
abbrev pub AccountIsCut : Type 0
AccountIsCut = (config : Config) (start : BucketState) (log : List LogEvent) (account more : Account)
    → IsAccount config start log (account ++ more) → StaysOver config start log (take (reached config start log account).front log) account

abbrev pub JournalIsCut : Type 0
JournalIsCut = (config : Config) (start : BucketState) (log : List LogEvent) (journal more : List Entry)
    → Fits config start log (journal ++ more) → Fits config start (take (last_front journal) log) journal

-- what a take knows of a generation that was live by then is what the whole log says of it
abbrev pub ContentsStay : Type 0
ContentsStay = (config : Config) (start : BucketState) (log : List LogEvent) (clock front : ℕ) (name : List ℕ) (generation : ℕ) (content : List ℕ)
    → content_of start (take front log) name generation ≡ Some content
    → ((at_front config start log clock front).contents name generation ≡ content) × (content_of start log name generation ≡ Some content)

-- ---- one account
-- Two accounts of one journal over one log are one: so what each call observed, what it was answered and what the mount
-- came to are told by the journal and the log alone.
abbrev pub AccountsAreOne : Type 0
AccountsAreOne = (config : Config) (start : BucketState) (log : List LogEvent) (one other : Account)
    → Follows config start log first_journal one → Follows config start log first_journal other
    → journal_of one ≡ journal_of other → one ≡ other

-- ---- lanes
-- along an account each lane has at most one call under way, which is its next one
abbrev pub LanesAreInTurn : Type 0
LanesAreInTurn = (config : Config) (start : BucketState) (log : List LogEvent) (account : Account)
    → Follows config start log first_journal account
    → AllByRecursion (IsInTurn (reached config start log account)) (reached config start log account).opened

-- A lane whose events are covered by its calls stays so by a turn at which the mount has seen the whole log; and by an event
-- of another lane, or of its call under way.
abbrev pub TurnKeepsCovered : Type 0
TurnKeepsCovered = (config : Config) (start : BucketState) (log : List LogEvent) (state : JournalState) (turn : Turn) (lane : ℕ)
    → MayFollow start log state turn → front_of turn ≡ length log → IsCovered log state lane
    → IsCovered log (after_turn config start log state turn) lane

abbrev pub EventKeepsCovered : Type 0
EventKeepsCovered = (config : Config) (start : BucketState) (log : List LogEvent) (account : Account) (event : LogEvent) (lane : ℕ)
    → IsAccount config start log account → IsCovered log (reached config start log account) lane
    → (event.lane ≡ lane → IsSome (open_of (reached config start log account).opened lane))
    → IsCovered (log ++ event ∷ []) (reached config start (log ++ event ∷ []) account) lane

-- What a call sees by a stat of its own is settled, where all that the mount's lanes made is covered by their calls, and no
-- call beside it has changed the name.
abbrev pub StatIsSettled : Type 0
StatIsSettled = (start : BucketState) (log : List LogEvent) (state : JournalState) (o : OpenCall) (since : List EndedCall) (moment : ℕ) (name : List ℕ)
    → open_of state.opened o.call.lane ≡ Some o → state.ended ≡ since ++ o.before
    → ((lane : ℕ) → Contains (lanes_of state) lane → IsCovered log state lane)
    → ((m : ℕ) (event : LogEvent) → m < moment → event_at log m ≡ Some event → Changes start log m name → IsBeside since state o m event → ⊥)
    → IsSettled start log state o moment (stat name)

-- Once no call is under way, and all that the mount's lanes made is covered by their calls, what each call saw by a stat of its
-- own was settled: whatever the mount's calls had changed under that name by then is its own change, or one of a call that was
-- done before its take.
abbrev pub SettledAtLast : Type 0
SettledAtLast = (config : Config) (start : BucketState) (log : List LogEvent) (turns more : Account) (o : OpenCall) (front : ℕ) (h : How) (items : List Item) (fill : Fill)
    (moment : ℕ) (event : LogEvent) (name : List ℕ)
    → Follows config start log first_journal (turns ++ done_of o front h items fill ∷ more)
    → (reached config start log (turns ++ done_of o front h items fill ∷ more)).opened ≡ []
    → ((lane : ℕ) → Contains (lanes_of (reached config start log (turns ++ done_of o front h items fill ∷ more))) lane
    → IsCovered log (reached config start log (turns ++ done_of o front h items fill ∷ more)) lane)
    → open_of (reached config start log turns).opened o.call.lane ≡ Some o
    → Contains (own_moments_of items) moment → event_at log moment ≡ Some event → event.op ≡ stat name
    → IsSettled start log (reached config start log (turns ++ done_of o front h items fill ∷ more)) o moment (stat name)

-- ---- the walk of a call under way
-- what one more event shows, at its moment
abbrev pub shown_by : BucketState → List LogEvent → LogEvent → Observed
shown_by start log event = record {
  op = event.op;
  moment = moment_at (length log);
  answer = answer_by event.mode event.op (state_at start log (length log));
}

-- an item of the call's own at this moment
abbrev pub IsOwnAt : ℕ → Item → Type 0
IsOwnAt moment item = own_of item ≡ Some moment

-- the walk has one item more, which tells of the last event
pub record WalkedOn (start : BucketState) (log : List LogEvent) (event : LogEvent) (plan : Plan) (o : OpenCall) (items : List Item) (item : Item) : Type 0 where
  pub walk : HasWalked start (log ++ event ∷ []) plan o (length (log ++ event ∷ [])) (items ++ item ∷ [])
  pub seen : seen_by start (log ++ event ∷ []) (items ++ item ∷ []) ≡ seen_by start log items ++ shown_by start log event ∷ []

-- A call that is taken at the end of the log has walked with no item. It walks on by an event of its lane which its plan
-- allows there, as an item of its own may tell; and events of other lanes leave its walk as it was.
abbrev pub WalkBegins : Type 0
WalkBegins = (start : BucketState) (log : List LogEvent) (plan : Plan) (o : OpenCall)
    → o.front ≡ length log → HasWalked start log plan o (length log) []

abbrev pub WalkGoesOn : Type 0
WalkGoesOn = (start : BucketState) (log : List LogEvent) (event : LogEvent) (plan : Plan) (o : OpenCall) (items : List Item) (item : Item)
    → o.front ≤ length log → HasWalked start log plan o (length log) items
    → event.lane ≡ o.call.lane → Allows (plan (answers_of (seen_by start log items))) event.op
    → IsOwnAt (moment_at (length log)) item → MayTell o event.op item
    → WalkedOn start log event plan o items item

abbrev pub WalkStays : Type 0
WalkStays = (start : BucketState) (log : List LogEvent) (event : LogEvent) (plan : Plan) (o : OpenCall) (items : List Item)
    → o.front ≤ length log → HasWalked start log plan o (length log) items → event.lane ≢ o.call.lane
    → HasWalked start (log ++ event ∷ []) plan o (length (log ++ event ∷ [])) items

-- ---- claims
-- what happens to the calls of an account, as the law of claims speaks of it
pub record Happens (config : Config) (start : BucketState) (log : List LogEvent) (state : JournalState) (account : Account) : Type 0 where
  pub turns : List overlap.Turn
  pub happen : overlap.HappenFrom (shared_of state) turns
  pub reaches : overlap.after_turns (shared_of state) turns ≡ shared_of (after_turns config start log state account)

-- Calls that stand apart along an account happen as the law of claims asks: so each call under way sees what it saw at its
-- take.
abbrev pub AccountsHappen : Type 0
AccountsHappen = (config : Config) (start : BucketState) (log : List LogEvent) (account : Account)
    → Follows config start log first_journal account → StandApart config start log first_journal account
    → Happens config start log first_journal account

-- a call that sees what it saw at its take asks what it asked then
abbrev pub PlansStay : Type 0
PlansStay = (mount : MountModel) (o : overlap.OpenCall) → overlap.SeesAsTaken mount o → plan o.at mount o.request ≡ plan_taken o
