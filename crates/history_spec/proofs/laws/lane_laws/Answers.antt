-- The laws of lanes.
use Rattle.history_spec.proofs.LaneLaws.{event_keeps_covered, lanes_are_in_turn, turn_keeps_covered}
use Rattle.history_spec.proofs.SettledAtLast.{settled_at_last}
use Rattle.history_spec.proofs.Settling.{stat_is_settled}
use Rattle.history_spec.proofs.laws.lane_laws.Goals as goal

pub returns-clause-turns : goal.returns-clause-turns
returns-clause-turns c = lanes_are_in_turn

pub returns-clause-covers : goal.returns-clause-covers
returns-clause-covers c = turn_keeps_covered

pub returns-clause-events : goal.returns-clause-events
returns-clause-events c = event_keeps_covered

pub returns-clause-settled : goal.returns-clause-settled
returns-clause-settled c = stat_is_settled

pub returns-clause-last : goal.returns-clause-last
returns-clause-last c = settled_at_last
