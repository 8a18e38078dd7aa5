-- What `write` leaves: the prefix that a failed sink has, and the law of its lines.
use Rattle.history_text.proofs.PrintLaws.{prefix_put}
use Rattle.history_text.proofs.WordLaws.{is_line_by_line}
use Rattle.history_text.proofs.writing.write.Goals as goal

pub returns-in_default-clause-lines : goal.returns-in_default-clause-lines
returns-in_default-clause-lines g c = is_line_by_line

pub returns-in-Ok-history-clause-lines : goal.returns-in-Ok-history-clause-lines
returns-in-Ok-history-clause-lines g c = is_line_by_line

pub returns-clause-err : goal.returns-clause-err
returns-clause-err g c = prefix_put _ c.in-Ok.ensures.ok c.in-Err.ensures.puts

pub returns-clause-lines : goal.returns-clause-lines
returns-clause-lines g c = is_line_by_line
