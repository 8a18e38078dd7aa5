-- What is appended so far are the dirents so far.
use Rattle.std.proofs.Common.{◌≡◌, ◌++◌, take}
use Rattle.std.specs.List.{flat_map}
use Rattle.fuse_replies.specs.Layouts.{dirent_text}
use Rattle.fuse_replies.proofs.dirents.put_dirents.Given as goal

abbrev pub invariant-loop-dirent : goal.invariant-loop-dirent
invariant-loop-dirent l = l.out.items ≡ l.initial.out.items ++ flat_map dirent_text (take l.dirent-index l.dirents)
