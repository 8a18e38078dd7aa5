-- The length of the dirents so far.
use Rattle.std.proofs.Common.{◌≡◌, length, take}
use Rattle.fuse_replies.specs.Layouts.{dirents_text}
use Rattle.fuse_replies.proofs.dirents.dirents_len.Given as goal

abbrev pub invariant-loop-dirent : goal.invariant-loop-dirent
invariant-loop-dirent l = l.len ≡ length (dirents_text (take l.dirent-index l.dirents))
