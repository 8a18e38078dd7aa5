-- A dirent is no longer than all of them together.
use Rattle.std.proofs.Common.{length, refl, ap, arith}
use Rattle.fuse_replies.specs.declared.reply.Dirent.{Dirent}
use Rattle.fuse_replies.specs.Layouts.{dirent_text, dirents_text}
use Rattle.fuse_replies.proofs.TextLemmas.{dirent_within, length-dirents_more}
use Rattle.fuse_replies.proofs.dirents.dirents_len.Goals as goal

pub loop-dirent-init : goal.loop-dirent-init
unfolding dirents_text
loop-dirent-init c = refl

pub entry_len-len-requires : goal.entry_len-len-requires
entry_len-len-requires c =
    let item = ap (λ (d : Dirent). length (dirent_text d)) c.dirent-item.is in
    omega (arith, item, dirent_within c.args.dirents.now c.loop-dirent.dirent-index c.dirent-item.result c.loop-dirent-test.true, c.requires)

pub overflow_add-len : goal.overflow_add-len
overflow_add-len c =
    let item = ap (λ (d : Dirent). length (dirent_text d)) c.dirent-item.is in
    omega (arith, item, dirent_within c.args.dirents.now c.loop-dirent.dirent-index c.dirent-item.result c.loop-dirent-test.true, c.requires, c.entry_len-len.ensures, c.loop-dirent.invariant)

pub loop-dirent-preserved : goal.loop-dirent-preserved
loop-dirent-preserved c =
    let item = ap (λ (d : Dirent). length (dirent_text d)) c.dirent-item.is in
    omega (arith, item, length-dirents_more c.args.dirents.now c.loop-dirent.dirent-index c.dirent-item.result c.loop-dirent-test.true, c.entry_len-len.ensures, c.loop-dirent.invariant)
