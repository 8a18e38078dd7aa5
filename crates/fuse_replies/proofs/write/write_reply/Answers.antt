-- The frame of a reply that isn't silent is its head and its body.
use Rattle.std.proofs.Common.{◌≡◌, ◌+◌, ◌++◌, length, refl, sym, ap, ◌∙◌, arith}
use Rattle.fuse_head.specs.Head.{out_head}
use Rattle.fuse_replies.specs.Replies.{body_of, errno_of, without_spare}
use Rattle.fuse_replies.proofs.ReplyLemmas.{frame_of-sent, length-body_of, without_spare-silent}
use Rattle.fuse_replies.proofs.write.write_reply.Goals as goal

pub overflow_add-len : goal.overflow_add-len
overflow_add-len c = omega (arith, length-body_of (without_spare c.args.reply.now) c.requires, c.body_len-len.ensures)

pub returns : goal.returns
returns c =
    let reply = without_spare c.args.reply.now in
    let head : c.put_head.new.out.items ≡ out_head (16 + length (body_of reply)) (errno_of reply) c.args.unique =
    rw (c.in_ok-put_head.ensures.ok, c.in_ok-out.ensures.items, c.body_len-len.ensures, c.errno.ensures) refl in
    let sent = frame_of-sent c.args.unique reply (without_spare-silent c.args.reply.now c.in_default.not-Silent) in
    record { ok = c.from_vec-2.ensures.bytes ∙ c.in_ok-put_body.ensures.ok ∙ ap (λ bytes. bytes ++ body_of reply) head ∙ sym sent; silent = λ is. absurd (c.in_default.not-Silent is) }
