-- The next call stays the next one.
use Rattle.std.proofs.Common.{length, refl, arith}
use Rattle.bucket_api.specs.Log.{scripted_mode}
use Rattle.bucket_api.specs.LogEvent.{LogEvent}
use Rattle.bucket_api.specs.Moments.{moment_at}
use Rattle.bucket_api.specs.Operation.{Operation, operation}
use Rattle.mount_core.proofs.LoneNext.{next_written, no_call_written}
use Rattle.mount_core.specs.Lones.{LoneState}
use Rattle.mount_core.proofs.tests.lone.puts.Goals as goal

abbrev event_of : LoneState → Operation → LogEvent
event_of lone op = record { lane = 9; op = op; mode = scripted_mode lone.script (moment_at (length lone.log)) }

pub returns-clause-next : goal.returns-clause-next
returns-clause-next g c =
    next_written c.args.lone.now c.remote.new.self 9 (event_of c.args.lone.now (operation c.in_ok-op.op)) refl c.in_ok-remote.ensures.ok c.requires.beside
    (record { lane = 1; index = c.args.index }) (λ same. omega (arith, same)) c.requires.next

pub returns-clause-beside : goal.returns-clause-beside
returns-clause-beside g c =
    no_call_written c.args.lone.now c.remote.new.self 9 (event_of c.args.lone.now (operation c.in_ok-op.op)) refl c.in_ok-remote.ensures.ok c.requires.beside
