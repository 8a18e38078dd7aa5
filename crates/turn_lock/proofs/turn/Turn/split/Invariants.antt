-- Which number a split gives away.
use Rattle.turn_lock.proofs.turn.Turn.split.Given as goal

abbrev pub ghosts-give : goal.ghosts-give
ghosts-give g a = record { number = a.number }
