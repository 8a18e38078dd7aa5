-- Each promise of legal histories is a lemma.
use Rattle.legal_spec.proofs.CompleteLaws.{calls_are_done}
use Rattle.legal_spec.proofs.MadeLaws.{covered_is_made}
use Rattle.legal_spec.proofs.Merging.{in_order}
use Rattle.legal_spec.proofs.OneLaneLaws.{one_lane_agrees}
use Rattle.legal_spec.proofs.PromiseLaws.{content_of_reads, frames_stay, fresh_open, guarded_flush, live_nodes}
use Rattle.legal_spec.proofs.TextLaws.{histories_are_played}
use Rattle.legal_spec.proofs.laws.legal_laws.Goals as goal

pub returns-clause-frames : goal.returns-clause-frames
returns-clause-frames c = frames_stay

pub returns-clause-nodes : goal.returns-clause-nodes
returns-clause-nodes c = live_nodes

pub returns-clause-reads : goal.returns-clause-reads
returns-clause-reads c = content_of_reads

pub returns-clause-flushes : goal.returns-clause-flushes
returns-clause-flushes c = guarded_flush

pub returns-clause-opens : goal.returns-clause-opens
returns-clause-opens c = fresh_open

pub returns-clause-merged : goal.returns-clause-merged
returns-clause-merged c = record { moves = in_order; operations = in_order }

pub returns-clause-calls : goal.returns-clause-calls
returns-clause-calls c = calls_are_done

pub returns-clause-played : goal.returns-clause-played
returns-clause-played c = histories_are_played

pub returns-clause-made : goal.returns-clause-made
returns-clause-made c = covered_is_made

pub returns-clause-agrees : goal.returns-clause-agrees
returns-clause-agrees c = one_lane_agrees
