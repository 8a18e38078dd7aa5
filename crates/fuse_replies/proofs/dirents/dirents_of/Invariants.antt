-- The body is the text of the dirents so far, and the rest.
use Rattle.std.proofs.Common.{◌≡◌, ◌++◌, length, All}
use Rattle.fuse_replies.specs.Layouts.{dirents_text}
use Rattle.fuse_replies.specs.Replies.{IsDirent}
use Rattle.fuse_replies.proofs.dirents.dirents_of.Given as goal

abbrev pub invariant-loop-rest : goal.invariant-loop-rest
invariant-loop-rest l = (l.initial.rest ≡ dirents_text l.dirents.items ++ l.rest) × All IsDirent l.dirents.items

abbrev pub decreases-loop-rest : goal.decreases-loop-rest
decreases-loop-rest l = length l.rest
