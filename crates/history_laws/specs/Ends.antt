-- The end of a call, as the last turn of an account.
use Rattle.std.specs.Prelude.{◌≡◌, ℕ, All, List, [], ◌∷◌, ◌++◌, Some}
use Rattle.bucket_api.specs.BucketState.{BucketState, IsBucket}
use Rattle.bucket_api.specs.LogEvent.{LogEvent}
use Rattle.bucket_api.specs.Operation.{IsAllowed}
use Rattle.fuse_replies.specs.declared.reply.Reply.{Reply}
use Rattle.history_spec.specs.Account.{Account, Item, Turn}
use Rattle.history_spec.specs.Fits.{IsAccount}
use Rattle.history_spec.specs.JournalState.{OpenCall, open_of, reached, reply_by}
use Rattle.history_spec.specs.Laws.{done_of}
use Rattle.history_spec.specs.Observing.{seen_by}
use Rattle.mount_model.specs.Observing.{Observed}
use Rattle.mount_model.specs.declared.config.Config.{Config}
use Rattle.mount_model.specs.declared.journal.Fill.{Fill}
use Rattle.mount_model.specs.declared.journal.How.{How}
use Rattle.mount_rules.specs.Dispatch.{view_in}
use Rattle.mount_rules.specs.Mount.{MountModel}
use Rattle.mount_rules.specs.OneThread.{RunState}

-- Which call it is, how much of the log the mount had seen, how the call ended and what it observed.
pub record CallEnd : Type 0 where
  pub call : OpenCall
  pub front : ℕ
  pub how : How
  pub items : List Item
  pub fill : Fill

abbrev pub turn_of : CallEnd → Turn
turn_of e = done_of e.call e.front e.how e.items e.fill

-- the mount as it stands at the end of an account
abbrev pub mount_at : Config → BucketState → List LogEvent → Account → MountModel
mount_at config start log account = (reached config start log account).mount

-- a mount and a bucket, of which the whole log is known
abbrev pub over : BucketState → List LogEvent → MountModel → RunState
over start log mount = record { mount = mount; store = record { start = start; log = log } }

-- what the call saw, and what it is answered by the mount as it stands
abbrev pub seen_at : BucketState → List LogEvent → CallEnd → List Observed
seen_at start log e = seen_by start log e.items

abbrev pub reply_at : BucketState → List LogEvent → MountModel → CallEnd → Reply
reply_at start log mount e = reply_by start log mount e.call e.how e.items

-- The call ends there, behind an account, over a log of operations that may be asked of a bucket.
pub record IsLast (config : Config) (start : BucketState) (log : List LogEvent) (account : Account) (e : CallEnd) : Type 0 where
  pub bucket : IsBucket start
  pub allowed : All (λ x. IsAllowed x.op) log
  pub is : IsAccount config start log (account ++ turn_of e ∷ [])
  pub under_way : open_of (reached config start log account).opened e.call.call.lane ≡ Some e.call

-- the call sees at its end what it saw at its take
abbrev pub SeesAsTaken : MountModel → CallEnd → Type 0
SeesAsTaken mount e = view_in mount e.call.taken.request ≡ e.call.taken.view
