-- The next call of the lane, and none of the other.
use Rattle.std.proofs.Common.{arith}
use Rattle.fuse_replies.specs.Replies.{without_spare as reply_without_spare}
use Rattle.fuse_requests.specs.Grammar.{without_spare}
use Rattle.mount_core.proofs.LoneNext.{next_called, no_call_called}
use Rattle.mount_core.proofs.tests.lone.sends.Goals as goal

pub returns-clause-next : goal.returns-clause-next
returns-clause-next c =
    next_called c.args.lone.now c.call.new.self (record { lane = 1; index = c.args.index }) (without_spare c.in_ok-request.request) (reply_without_spare c.in_ok-reply.reply)
    c.in_ok-reply.ensures.ok c.requires.next

pub returns-clause-beside : goal.returns-clause-beside
returns-clause-beside c =
    no_call_called c.args.lone.now c.call.new.self (record { lane = 1; index = c.args.index }) (without_spare c.in_ok-request.request) (reply_without_spare c.in_ok-reply.reply)
    c.in_ok-reply.ensures.ok 9 (λ same. omega (arith, same)) c.requires.beside
