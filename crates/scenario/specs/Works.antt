-- The plain data of a lane.
use Rattle.std.specs.Prelude.{map}
use Rattle.bucket_api.specs.Operation.{operation}
use Rattle.scenario.specs.declared.lane.LaneWork.{LaneWork}
use Rattle.scenario.specs.declared.lane.LaneWork.TheVariants.{Calls, Remote, Clock}
use Rattle.scenario.specs.Parts.{Lane, calls, remote, clock}

abbrev pub lane_of : LaneWork → Lane
lane_of (Calls row) = calls row.items
lane_of (Remote row) = remote (map operation row.items)
lane_of (Clock row) = clock row.items
