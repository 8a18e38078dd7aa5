-- What of its observations a request looks at: the answers, and the moment of the last one. And of the reads of its source:
-- that they were given bytes.
use Rattle.std.specs.Prelude.{◌≡◌, ℕ, List, [], ◌∷◌, Option, Some, None}
use Rattle.bucket_api.specs.Operation.{read}
use Rattle.bucket_api.specs.declared.answers.Answer.{Answer}
use Rattle.bucket_api.specs.declared.answers.Answer.TheVariants.{Bytes, Fault, NotFound}
use Rattle.fuse_replies.specs.Errno.{eio, estale}
use Rattle.fuse_replies.specs.declared.reply.Reply.TheVariants.{Error}
use Rattle.fuse_requests.specs.declared.request.Request.{Request}
use Rattle.mount_model.specs.Observing.{Observed}
use Rattle.mount_model.specs.declared.config.Config.{Config}
use Rattle.mount_rules.specs.Dispatch.{mount_after, plan, reply_to, wants}
use Rattle.mount_rules.specs.Mount.{IsMount, MountModel}
use Rattle.mount_rules.specs.Plans.{Allows, MayEnd, Wanted, answers_of, last_moment}
use Rattle.mount_rules.specs.Rules.{AtTake}

-- both tell a request the same: the same answers, and the same moment at the end
pub record TellSame (seen other : List Observed) : Type 0 where
  pub answers : answers_of seen ≡ answers_of other
  pub moment : last_moment seen ≡ last_moment other

-- a request that observed the one is answered, and leaves, what one does that observed the other
pub record EndSame (at : AtTake) (mount : MountModel) (request : Request) (seen other : List Observed) : Type 0 where
  pub reply : reply_to at mount request seen ≡ reply_to at mount request other
  pub after : mount_after at mount request seen ≡ mount_after at mount request other

-- What a request comes to is told by its answers and the last moment alone. Which operations were answered so is no
-- matter of its end: its plan asked them.
abbrev pub AnswersTell : Type 0
AnswersTell = (at : AtTake) (mount : MountModel) (request : Request) (seen other : List Observed)
    → TellSame seen other → EndSame at mount request seen other

-- what a request wants of a source may be read before anything else, all at once
abbrev pub WantedMayBeRead : Type 0
WantedMayBeRead = (config : Config) (at : AtTake) (mount : MountModel) (request : Request) (wanted : Wanted)
    → IsMount mount → wants config mount request ≡ Some wanted
    → Allows (plan at mount request []) (read wanted.name wanted.generation wanted.range.first wanted.range.count)

-- a read that was given bytes is passed over: what is asked next, and what the request comes to, are as without it
pub record IsPassedOver (at : AtTake) (mount : MountModel) (request : Request) (o : Observed) : Type 0 where
  pub asks : (answers : List Answer) → plan at mount request (o.answer ∷ answers) ≡ plan at mount request answers
  pub ends : (seen : List Observed) → EndSame at mount request (o ∷ seen) seen

-- so it is with each read of a request that wants bytes of a source
abbrev pub ReadsArePassedOver : Type 0
ReadsArePassedOver = (config : Config) (at : AtTake) (mount : MountModel) (request : Request) (wanted : Wanted) (o : Observed) (bytes : List ℕ)
    → wants config mount request ≡ Some wanted → o.answer ≡ Bytes bytes → IsPassedOver at mount request o

-- the error of a read that was given no bytes: the generation is live no more, or the bucket failed
abbrev pub errno_unread : Answer → Option ℕ
errno_unread NotFound = Some estale
errno_unread Fault = Some eio
errno_unread answer = None

-- the request may end after this observation, with this error, and leaves the mount as it was
pub record IsRefusedAfter (at : AtTake) (mount : MountModel) (request : Request) (o : Observed) (errno : ℕ) : Type 0 where
  pub ends : MayEnd (plan at mount request (o.answer ∷ []))
  pub answered : reply_to at mount request (o ∷ []) ≡ Error errno
  pub left : mount_after at mount request (o ∷ []) ≡ mount

-- so does a request that wants bytes of a source and was given none
abbrev pub UnreadIsRefused : Type 0
UnreadIsRefused = (config : Config) (at : AtTake) (mount : MountModel) (request : Request) (wanted : Wanted) (o : Observed) (errno : ℕ)
    → wants config mount request ≡ Some wanted → errno_unread o.answer ≡ Some errno → IsRefusedAfter at mount request o errno
