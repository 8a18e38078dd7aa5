-- What a bucket's lock keeps may go to another thread, so passes may, and the bucket may be shared. In parts, since one search for all of it gives up.
use denote.Param.Send.{IsSend, IsSync, sendable, recorded_send, recorded_sync, struct_send, struct_sync}
use Rattle.std.proofs.Crossing.{crosses}
use Rattle.std.proofs.MapsCrossing as maps
use Rattle.io_ports.specs.contracts.text.Text.{the_row as text_row}
use Rattle.io_ports.specs.contracts.bytes.Bytes.{the_row as bytes_row}
use Rattle.bucket_api.specs.contracts.objects.Pair.{the_row as pair_row}
use Rattle.bucket_api.specs.contracts.objects.Object.{the_row as object_row}
use Rattle.bucket_api.specs.contracts.operations.Op.{the_field as op_field}
use Rattle.bucket_api.specs.contracts.events.Mode.{the_field as mode_field}
use Rattle.bucket_api.specs.contracts.events.Event.{the_row as event_row}
use Rattle.bucket_api.specs.contracts.events.Event.TheInside as inside
use denote.Struct.Declared.{shape}
use Rattle.bucket_plain.specs.contracts.plain.Plain.{the_row as plain_row}
use Rattle.logged_bucket.specs.contracts.logged_bucket.LoggedBucket.{the_row as logged_row}
use Rattle.turn_lock.proofs.Sent.{seat_sent, turn_shared}
use Rattle.mem_bucket.specs.contracts.kept.KeptBooked.TheImpl.{ghosts}
use Rattle.mem_bucket.specs.contracts.kept.Kept.{the_row as kept_row}
use Rattle.mem_bucket.specs.contracts.mem_pass.MemPass.{the_row as pass_row}
use Rattle.mem_bucket.specs.contracts.mem_pass.MemPass.TheInside as pass
use Rattle.mem_bucket.specs.contracts.mem_bucket.MemBucket.TheInside as bucket
use Rattle.mem_bucket.specs.contracts.mem_bucket.MemBucket.{the_row as bucket_row}

text_sent : IsSend text_row
text_sent = search (sendable, crosses, maps.crosses) depth 30

bytes_sent : IsSend bytes_row
bytes_sent = search (sendable, crosses, maps.crosses) depth 30

pair_sent : IsSend pair_row
pair_sent = search (sendable, text_sent) depth 30

object_sent : IsSend object_row
object_sent = search (sendable, crosses, maps.crosses) depth 30

op_sent : IsSend op_field.row
op_sent = search (sendable, crosses, text_sent, bytes_sent, pair_sent) depth 30

mode_sent : IsSend mode_field.row
mode_sent = search sendable depth 30

inside_sent : IsSend inside.the_row
inside_sent = recorded_send inside.the_field.row _ _ inside.the_type.to_one (struct_send (shape inside.the_type) (search sendable, (op_sent, (mode_sent, tt))))

event_sent : IsSend event_row
event_sent = search (sendable, inside_sent) depth 30

plain_sent : IsSend plain_row
plain_sent = search (sendable, crosses, maps.crosses, object_sent) depth 30

logged_sent : IsSend logged_row
logged_sent = search (sendable, crosses, plain_sent, event_sent) depth 30

pub kept_sent : IsSend kept_row
kept_sent = search (sendable, crosses, logged_sent) depth 30

pass_inside_sent : IsSend pass.the_row
pass_inside_sent = recorded_send pass.the_field.row _ _ pass.the_type.to_one (struct_send (shape pass.the_type) (seat_sent kept_row event_row ghosts kept_sent, (search sendable, (search sendable, tt))))

pub pass_sent : IsSend pass_row
pass_sent = search (sendable, pass_inside_sent) depth 30

bucket_inside_shared : IsSync bucket.the_row
bucket_inside_shared = recorded_sync bucket.the_field.row _ _ bucket.the_type.to_one (struct_sync (shape bucket.the_type) (turn_shared kept_row event_row ghosts kept_sent, tt))

pub bucket_shared : IsSync bucket_row
bucket_shared = search (sendable, bucket_inside_shared) depth 30
