-- A served stream has its end told, and a good input is served whole.
use Rattle.std.proofs.Common.{◌≡◌, sym, subst, ap}
use Rattle.gcsmount.proofs.Completeness.{EndsWith-done}
use Rattle.gcsmount.proofs.tool.run_command.Goals as goal
use Rattle.gcsmount.specs.Serve.{Streams}
use Rattle.gcsmount.specs.Tool.{Runs}

pub returns-in-Serve-clause-runs : goal.returns-in-Serve-clause-runs
returns-in-Serve-clause-runs g c =
    subst (λ command. Runs command (g.R.Source.port c.args.source.now) (g.R.Source.port c.serve_stream-end.new.source) (g.W.Sink.port c.args.sink.now) (g.W.Sink.port c.serve_stream-end.new.sink)
    (g.E.Sink.port c.args.notes.now) (g.E.Sink.port c.status_of.new.notes) c.status_of.result) (sym c.in-Serve.is) (
      record {
        end = c.serve_stream-end.result;
        streams = subst (λ config. Streams config c.serve_stream-end.result (g.R.Source.port c.args.source.now) (g.R.Source.port c.serve_stream-end.new.source)
            (g.W.Sink.port c.args.sink.now) (g.W.Sink.port c.serve_stream-end.new.sink)) c.new.ensures c.serve_stream-end.ensures.streams;
        told = c.status_of.ensures.ends;
      },
      λ input told good source_held sink_held.
          EndsWith-done c.serve_stream-end.result _ _ _ c.status_of.ensures.ends (c.serve_stream-end.ensures.complete input told good source_held sink_held),
    )
