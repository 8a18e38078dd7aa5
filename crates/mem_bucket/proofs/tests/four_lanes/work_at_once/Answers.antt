-- Passes, and what a lane has done, go to another thread, and all threads share the bucket.
use denote.Param.Send.{sendable}
use Rattle.std.proofs.Crossing.{crosses}
use Rattle.mem_bucket.proofs.Sent.{pass_sent, bucket_shared}
use Rattle.mem_bucket.proofs.tests.four_lanes.work_at_once.Goals as goal

pub map_vec-requires-send-J : goal.map_vec-requires-send-J
map_vec-requires-send-J g c κs within = search (sendable, pass_sent) depth 30

pub map_vec-requires-send-X : goal.map_vec-requires-send-X
map_vec-requires-send-X g c κs within = search (sendable, crosses, pass_sent) depth 30

pub map_vec-requires-sync-F : goal.map_vec-requires-sync-F
map_vec-requires-sync-F g c κs within = search (sendable, bucket_shared) depth 30
