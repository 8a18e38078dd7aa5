-- The words say one command at most, and what is promised of it is what its run comes to.
use Rattle.std.proofs.Common.{◌≡◌, ℕ, sym, subst}
use Rattle.cli_words.specs.declared.command.Command.TheVariants.{Serve, Play, Drill}
use Rattle.gcsmount.proofs.PlayLaws.{plays_whole, prints}
use Rattle.gcsmount.proofs.tool.run_tool.Goals as goal
use Rattle.gcsmount.specs.Tool.{Runs}

pub returns-in-Ok-clause-serve : goal.returns-in-Ok-clause-serve
returns-in-Ok-clause-serve g c = λ is.
    (subst (λ command. Runs command (g.R.Source.port c.args.source.now) (g.R.Source.port c.run_command.new.source) (g.W.Sink.port c.args.sink.now) (g.W.Sink.port c.run_command.new.sink)
    (g.E.Sink.port c.args.notes.now) (g.E.Sink.port c.run_command.new.notes) c.run_command.result) (sym (c.in-Ok.ensures.only Serve is)) c.run_command.ensures.runs).0

pub returns-in-Ok-clause-complete : goal.returns-in-Ok-clause-complete
returns-in-Ok-clause-complete g c = λ is.
    (subst (λ command. Runs command (g.R.Source.port c.args.source.now) (g.R.Source.port c.run_command.new.source) (g.W.Sink.port c.args.sink.now) (g.W.Sink.port c.run_command.new.sink)
    (g.E.Sink.port c.args.notes.now) (g.E.Sink.port c.run_command.new.notes) c.run_command.result) (sym (c.in-Ok.ensures.only Serve is)) c.run_command.ensures.runs).1

pub returns-in-Ok-clause-history : goal.returns-in-Ok-clause-history
returns-in-Ok-clause-history g c = λ workers form.
    prints (g.R.Source.port c.args.source.now) (g.R.Source.port c.run_command.new.source) (g.W.Sink.port c.args.sink.now) (g.W.Sink.port c.run_command.new.sink)
    (g.E.Sink.port c.args.notes.now) (g.E.Sink.port c.run_command.new.notes) c.run_command.result
    (subst (λ command. Runs command (g.R.Source.port c.args.source.now) (g.R.Source.port c.run_command.new.source) (g.W.Sink.port c.args.sink.now) (g.W.Sink.port c.run_command.new.sink)
    (g.E.Sink.port c.args.notes.now) (g.E.Sink.port c.run_command.new.notes) c.run_command.result) (sym (c.in-Ok.ensures.only (Play workers) form)) c.run_command.ensures.runs)

pub returns-in-Ok-clause-played : goal.returns-in-Ok-clause-played
returns-in-Ok-clause-played g c = λ workers form.
    plays_whole (g.R.Source.port c.args.source.now) (g.R.Source.port c.run_command.new.source) (g.W.Sink.port c.args.sink.now) (g.W.Sink.port c.run_command.new.sink)
    (g.E.Sink.port c.args.notes.now) (g.E.Sink.port c.run_command.new.notes) c.run_command.result
    (subst (λ command. Runs command (g.R.Source.port c.args.source.now) (g.R.Source.port c.run_command.new.source) (g.W.Sink.port c.args.sink.now) (g.W.Sink.port c.run_command.new.sink)
    (g.E.Sink.port c.args.notes.now) (g.E.Sink.port c.run_command.new.notes) c.run_command.result) (sym (c.in-Ok.ensures.only (Play workers) form)) c.run_command.ensures.runs)

pub returns-in-Ok-clause-drill : goal.returns-in-Ok-clause-drill
returns-in-Ok-clause-drill g c = λ seed workers form.
    (subst (λ command. Runs command (g.R.Source.port c.args.source.now) (g.R.Source.port c.run_command.new.source) (g.W.Sink.port c.args.sink.now) (g.W.Sink.port c.run_command.new.sink)
    (g.E.Sink.port c.args.notes.now) (g.E.Sink.port c.run_command.new.notes) c.run_command.result) (sym (c.in-Ok.ensures.only (Drill seed workers) form)) c.run_command.ensures.runs).0

pub returns-in-Err-clause-serve : goal.returns-in-Err-clause-serve
returns-in-Err-clause-serve g c = λ is. absurd (c.in-Err.ensures.err Serve is)

pub returns-in-Err-clause-complete : goal.returns-in-Err-clause-complete
returns-in-Err-clause-complete g c = λ is. absurd (c.in-Err.ensures.err Serve is)

pub returns-in-Err-clause-play : goal.returns-in-Err-clause-play
returns-in-Err-clause-play g c = λ workers form. absurd (c.in-Err.ensures.err (Play workers) form)

pub returns-in-Err-clause-played : goal.returns-in-Err-clause-played
returns-in-Err-clause-played g c = λ workers form. absurd (c.in-Err.ensures.err (Play workers) form)

pub returns-in-Err-clause-drill : goal.returns-in-Err-clause-drill
returns-in-Err-clause-drill g c = λ seed workers form. absurd (c.in-Err.ensures.err (Drill seed workers) form)
