-- The frames that the piece made whole were answered, or answering them stopped.
use Rattle.std.proofs.Common.{subst, sym}
use Rattle.gcsmount.specs.Serving.{EndsIn, ServesPiece}
use Rattle.gcsmount.proofs.PieceLaws.{EndsIn-stopped, ServesPiece-answered}
use Rattle.gcsmount.proofs.server.serve_piece.Goals as goal

pub returns-in-Ok : goal.returns-in-Ok
returns-in-Ok g c = record {
  served =
      λ config input put so_far.
      subst (λ r. ServesPiece config input put c.args.piece.now c.answer_waiting.new.cutter c.answer_waiting.new.serial (g.W.Sink.port c.args.sink.now) (g.W.Sink.port c.answer_waiting.new.sink) r)
      (sym c.end_of.ensures)
      (ServesPiece-answered config input put c.args.cutter.now c.args.serial.now so_far c.args.piece.now c.feed-fed.result c.feed-fed.new.self _ _ _ _ c.feed-fed.ensures.answer c.in-Ok.ensures.answers c.in-Ok.ensures.cutter);
}

pub returns-in-Err : goal.returns-in-Err
returns-in-Err g c = record {
  served =
      λ config input put so_far.
      subst (λ end. EndsIn config end input put c.args.piece.now (g.W.Sink.port c.args.sink.now) (g.W.Sink.port c.answer_waiting.new.sink))
      (sym c.end_by.ensures)
      (EndsIn-stopped config input put c.args.cutter.now c.args.serial.now so_far c.args.piece.now c.feed-fed.result c.feed-fed.new.self c.in-Err.stop _ _ c.feed-fed.ensures.answer c.in-Err.ensures.answers.0 c.in-Err.ensures.answers.1);
}
