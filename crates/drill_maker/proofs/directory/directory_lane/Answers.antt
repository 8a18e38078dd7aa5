-- The three parts of the lane, one after the other.
use Rattle.drill_maker.proofs.PhaseLaws.{lane_is}
use Rattle.drill_maker.proofs.directory.directory_lane.Goals as goal

pub returns : goal.returns
returns c = record {
  ok = lane_is c.args.seed c.args.directory c.in_ok-lane.lane c.make_directory.new.lane c.fill_files.new.lane c.remove_files.new.lane _
      c.in_ok-lane.ensures.ok c.in_ok-make_directory.ensures.ok c.in_ok-fill_files.ensures.ok c.in_ok-remove_files.ensures.ok c.finish.ensures;
}
