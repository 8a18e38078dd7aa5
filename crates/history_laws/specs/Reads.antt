-- Content of reads: a READ that is answered bytes is answered those of its file's content.
use Rattle.std.specs.Prelude.{◌≡◌, ℕ, List}
use Rattle.bucket_api.specs.BucketState.{BucketState}
use Rattle.bucket_api.specs.LogEvent.{LogEvent}
use Rattle.fuse_replies.specs.declared.reply.Reply.TheVariants.{Content}
use Rattle.fuse_requests.specs.declared.request.Request.TheVariants.{Read}
use Rattle.history_laws.specs.Ends.{CallEnd, IsLast, SeesAsTaken, mount_at, over, reply_at}
use Rattle.history_spec.specs.Account.{Account}
use Rattle.mount_model.specs.declared.config.Config.{Config}
use Rattle.mount_rules.specs.Laws.{AreOfContent}

-- They are those asked for of what is staged of the file, or of the content of the generation that it shows, which was live
-- at some time of the log: the whole log tells it.
abbrev pub ReadsAreOfContent : Type 0
ReadsAreOfContent = (config : Config) (start : BucketState) (log : List LogEvent) (account : Account) (e : CallEnd) (node fh first size : ℕ) (bytes : List ℕ)
    → IsLast config start log account e → SeesAsTaken (mount_at config start log account) e → e.call.taken.request ≡ Read node fh first size
    → reply_at start log (mount_at config start log account) e ≡ Content bytes
    → AreOfContent (over start log (mount_at config start log account)) node first size bytes
