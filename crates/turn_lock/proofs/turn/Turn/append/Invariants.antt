-- Which entry an append makes.
use Rattle.std.proofs.Common.{length, slice_get}
use Rattle.turn_lock.proofs.turn.Turn.append.Given as goal

abbrev pub ghosts-write_next : goal.ghosts-write_next
ghosts-write_next g a = record { entry = slice_get (g.S.Booked.entries a.state.now) (length a.place.now.me.0.seen) }
