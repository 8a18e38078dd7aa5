-- Guarded flush: what is staged becomes a generation only where the one that the file shows is live, and else nothing does.
use Rattle.std.specs.Prelude.{◌≡◌, ◌≢◌, ℕ, ◌+◌, List, [], ◌∷◌, ◌++◌, IsSome, Some, None}
use Rattle.std.specs.FinMap as fin
use Rattle.std.specs.List.{AllByRecursion}
use Rattle.bucket_api.specs.BucketState.{BucketState, object_of}
use Rattle.bucket_api.specs.BucketStep.{with_new}
use Rattle.bucket_api.specs.Log.{state_at}
use Rattle.bucket_api.specs.LogEvent.{LogEvent}
use Rattle.bucket_api.specs.Moments.{position_of}
use Rattle.bucket_api.specs.declared.answers.Answer.TheVariants.{Fault}
use Rattle.bucket_api.specs.declared.objects.Object.{Object}
use Rattle.fuse_replies.specs.Errno.{estale}
use Rattle.fuse_replies.specs.declared.reply.Reply.{Reply}
use Rattle.fuse_replies.specs.declared.reply.Reply.TheVariants.{Empty, Error}
use Rattle.history_laws.specs.Ends.{CallEnd, IsLast, SeesAsTaken, mount_at, over, reply_at, seen_at}
use Rattle.history_spec.specs.Account.{Account, own_moments_of}
use Rattle.mount_model.specs.Observing.{Observed}
use Rattle.mount_model.specs.declared.config.Config.{Config}
use Rattle.mount_model.specs.declared.journal.How.TheVariants as how
use Rattle.mount_rules.specs.Dispatch.{early}
use Rattle.mount_rules.specs.Laws.{IsFlushOf, content_at}
use Rattle.mount_rules.specs.View.{Sight, sight_at}
use Rattle.staging_spec.specs.StagedFiles.{StagedContent}

-- the bucket before the event at a moment, and after it
abbrev pub before_moment : BucketState → List LogEvent → ℕ → BucketState
before_moment start log moment = state_at start log (position_of moment)

-- the event at a moment left the bucket as it was
abbrev pub LeavesBucket : BucketState → List LogEvent → ℕ → Type 0
LeavesBucket start log moment = state_at start log moment ≡ before_moment start log moment

-- exactly one generation is made between two buckets, under a name, with this content
pub record MakesGeneration (before after : BucketState) (name content : List ℕ) : Type 0 where
  pub object : Object
  pub made : after ≡ with_new before name object
  pub fresh : object.meta.generation ≡ before.last + 1
  pub holds : object.content ≡ content

-- What a flush comes to with these own events: the last of them decides. Where the generation that the file shows is live
-- under its name then, that event makes one with this content, and the flush is answered well; else it is answered ESTALE,
-- and the event leaves the bucket as it was. The events before it do so in any case.
pub record IsGuarded (start : BucketState) (log : List LogEvent) (file : Sight) (content own : List ℕ) (answer : Reply) : Type 0 where
  pub earlier : List ℕ
  pub moment : ℕ
  pub last : own ≡ earlier ++ moment ∷ []
  pub quiet : AllByRecursion (LeavesBucket start log) earlier
  pub live : IsSome (object_of (before_moment start log moment) file.name file.source)
      → (answer ≡ Empty) × MakesGeneration (before_moment start log moment) (state_at start log moment) file.name content
  pub gone : object_of (before_moment start log moment) file.name file.source ≡ None → (answer ≡ Error estale) × LeavesBucket start log moment

-- Each flush of staged content is so, that is not refused, does not stop short and observes no fault.
abbrev pub FlushesAreGuarded : Type 0
FlushesAreGuarded = (config : Config) (start : BucketState) (log : List LogEvent) (account : Account) (e : CallEnd) (node : ℕ) (file : Sight) (staged : StagedContent)
    → IsLast config start log account e → SeesAsTaken (mount_at config start log account) e → IsFlushOf node e.call.taken.request
    → sight_at (mount_at config start log account).table node ≡ Some file → fin.get (mount_at config start log account).staged node ≡ Some staged
    → early (mount_at config start log account) e.call.taken.request ≡ None → e.how ≡ how.Ok
    → AllByRecursion (λ (o : Observed). o.answer ≢ Fault) (seen_at start log e)
    → IsGuarded start log file (content_at (over start log (mount_at config start log account)) node) (own_moments_of e.items) (reply_at start log (mount_at config start log account) e)
