-- The directories' lanes, and then the remote writer's.
use Rattle.std.proofs.Common.{◌∙◌}
use Rattle.drill_maker.proofs.PhaseLaws.{phase_is}
use Rattle.drill_maker.proofs.making.second_phase.Goals as goal

pub returns : goal.returns
returns c = record {
  ok = phase_is c.args.seed c.reserve.new.self.items c.push_directories.new.lanes.items c.push.new.self.items c.in_ok-remote_lane.field-0
      (c.in_ok-reserve.ensures.kept ∙ c.new-lanes.ensures.items) c.in_ok-push_directories.ensures.ok c.in_ok-remote_lane.ensures.ok c.push.ensures.items;
}
