-- A dirent is no longer than all of them together.
use Rattle.std.proofs.Common.{ap, length, arith}
use Rattle.fuse_replies.specs.declared.reply.Dirent.{Dirent}
use Rattle.fuse_replies.specs.Layouts.{dirent_text}
use Rattle.fuse_replies.proofs.TextLemmas.{dirent_within}
use Rattle.fuse_replies.proofs.dirents.put_dirents.Goals as goal

pub put_dirent-requires : goal.put_dirent-requires
put_dirent-requires c =
    let item = ap (λ (d : Dirent). length (dirent_text d)) c.dirent-item.is in
    omega (arith, item, dirent_within c.args.dirents.now c.loop-dirent.dirent-index c.dirent-item.result c.loop-dirent-test.true, c.requires)
