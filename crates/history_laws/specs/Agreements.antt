-- Agreement with the mount on one thread: calls one at a time, over a log that is theirs alone, come to what that mount
-- comes to with the same requests.
use Rattle.std.specs.Prelude.{◌≡◌, ℕ, All, Contains, List, [], ◌∷◌, ◌++◌, length, map, IsSome, Option, Some, None}
use Rattle.std.specs.List.{AllByRecursion, filter_map}
use Rattle.bucket_api.specs.BucketState.{BucketState, IsBucket}
use Rattle.bucket_api.specs.Log.{event_at, state_at}
use Rattle.bucket_api.specs.LogEvent.{LogEvent}
use Rattle.bucket_api.specs.Operation.{IsAllowed}
use Rattle.bucket_api.specs.declared.events.Mode.TheVariants as modes
use Rattle.fuse_replies.specs.Errno.{estale}
use Rattle.fuse_replies.specs.declared.reply.Reply.{Reply}
use Rattle.fuse_replies.specs.declared.reply.Reply.TheVariants.{Error}
use Rattle.fuse_requests.specs.declared.request.Request.{Request}
use Rattle.fuse_requests.specs.declared.request.Request.TheVariants.{Read, Write}
use Rattle.history_laws.specs.Apart.{OneByOne}
use Rattle.history_laws.specs.Ends.{CallEnd, mount_at, reply_at, turn_of}
use Rattle.history_spec.specs.Account as account
use Rattle.history_spec.specs.Account.{Account, Turn}
use Rattle.history_spec.specs.Fits.{IsAccount}
use Rattle.history_spec.specs.JournalState.{EndedCall, open_of, reached, replies_of}
use Rattle.mount_model.specs.declared.config.Config.{Config}
use Rattle.mount_model.specs.declared.gate.CallId.{CallId}
use Rattle.mount_model.specs.declared.journal.How.{How}
use Rattle.mount_model.specs.declared.journal.How.TheVariants as how
use Rattle.mount_rules.specs.Dispatch.{wants}
use Rattle.mount_rules.specs.OneThread.{Call, Ending, IsRun, RunState, bucket_of, first_state, performed, reply_in, short, stale, state_after_call, state_after_calls}

-- ---- accounts that one thread could have
-- the turn is no tick
abbrev pub StandsStill : Turn → Type 0
StandsStill (account.tick front seconds) = ⊥
StandsStill turn = Unit {0}

-- Calls one at a time, while the clock stands still, over a log that is theirs alone: no operation failed, and each event
-- is a done call's own.
pub record IsSerial (config : Config) (start : BucketState) (log : List LogEvent) (turns : Account) : Type 0 where
  pub bucket : IsBucket start
  pub allowed : All (λ e. IsAllowed e.op) log
  pub is : IsAccount config start log turns
  pub one : OneByOne turns
  pub still : AllByRecursion StandsStill turns
  pub done : All (λ e. e.mode ≡ modes.Done) log
  pub own : (moment : ℕ) (event : LogEvent) → event_at log moment ≡ Some event
      → (e : EndedCall) × Contains (reached config start log turns).ended e × Contains e.own moment

-- the requests that a call of the one-thread mount may end stale with
abbrev pub IsReadOrWrite : Request → Type 0
IsReadOrWrite (Read node fh first size) = Unit {0}
IsReadOrWrite (Write node fh first content) = Unit {0}
IsReadOrWrite request = ⊥

-- Each READ and each WRITE of the account that is answered ESTALE wants a byte of its file's source. One that wants none
-- may find in a history that the source is gone, by a read that it needn't make; one thread makes no such read.
abbrev pub StaleWantBytes : Config → BucketState → List LogEvent → Account → Type 0
StaleWantBytes config start log turns = (before after : Account) (e : CallEnd) → turns ≡ before ++ turn_of e ∷ after
    → open_of (reached config start log before).opened e.call.call.lane ≡ Some e.call → IsReadOrWrite e.call.taken.request
    → reply_at start log (mount_at config start log before) e ≡ Error estale
    → IsSome (wants config (mount_at config start log before) e.call.taken.request)

-- ---- runs of the one-thread mount
-- the requests that were taken, and how the calls were done, in order
abbrev pub request_of : Turn → Option Request
request_of (account.take call front request) = Some request
request_of turn = None

abbrev pub how_of : Turn → Option How
how_of (account.done call front h items fill) = Some h
how_of turn = None

-- how a journal says that a call ended so
abbrev pub told_as : Ending → How
told_as performed = how.Ok
told_as short = how.NoMemory
told_as stale = how.Ok

-- what the calls are answered, one after the other
abbrev pub replies_in : Config → RunState → List Call → List Reply
replies_in config state [] = []
replies_in config state (call ∷ calls) = reply_in config state call ∷ replies_in config (state_after_call config state call) calls

-- These calls of the one-thread mount, over the same bucket, agree with the account: they have its requests, in order; the
-- short ones are those that were done for want of memory, and the stale ones are READs and WRITEs; they are answered the
-- same; and they leave the same bucket.
pub record Agrees (config : Config) (start : BucketState) (log : List LogEvent) (turns : Account) (calls : List Call) : Type 0 where
  pub run : IsRun config (first_state start) calls
  pub requests : map (λ (c : Call). c.request) calls ≡ filter_map request_of turns
  pub endings : map (λ (c : Call). told_as c.ending) calls ≡ filter_map how_of turns
  pub stale : AllByRecursion (λ (c : Call). c.ending ≡ stale → IsReadOrWrite c.request) calls
  pub replies : replies_in config (first_state start) calls ≡ map (λ (r : CallId × Reply). r.1) (replies_of (reached config start log turns))
  pub bucket : bucket_of (state_after_calls config (first_state start) calls).store ≡ state_at start log (length log)

-- the one-thread mount has a run that agrees
abbrev pub OneThreadAgrees : Type 0
OneThreadAgrees = (config : Config) (start : BucketState) (log : List LogEvent) (turns : Account)
    → IsSerial config start log turns → StaleWantBytes config start log turns
    → (calls : List Call) × Agrees config start log turns calls
