-- The reply of the request that was performed is written as the frame that serves it.
use Rattle.gcsmount.proofs.AnswerLaws.{Serves-written}
use Rattle.gcsmount.proofs.answer.reply_to.Goals as goal

pub returns-clause-ok : goal.returns-clause-ok
returns-clause-ok c =
    Serves-written _ _ _ _ _ _ c.in_ok-request.ensures.ok c.in_ok-reply.ensures.ok (rw c.head_of.ensures at c.write_reply.ensures.ok)
