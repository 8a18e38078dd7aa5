-- The bytes of a take are served but for one past the longest input.
use Rattle.std.proofs.Common.{subst}
use Rattle.gcsmount.specs.Serving.{EndsIn, ServesOn}
use Rattle.gcsmount.proofs.ServeLaws.{EndsIn-stops, ServesOn-past}
use Rattle.gcsmount.proofs.serve.serve_taken.Goals as goal

pub returns-in-Err : goal.returns-in-Err
returns-in-Err g c = record {
  served =
      λ config input put is so_far.
      EndsIn-stops config c.in-Err.end input put c.args.buffer.now c.args.taken c.args.count c.min-counted.result _ _ is c.requires.taken c.min-counted.ensures
      (subst (λ piece. EndsIn config c.in-Err.end input put piece (g.W.Sink.port c.args.sink.now) (g.W.Sink.port c.serve_piece.new.sink)) c.split_at.ensures.front
      (c.in-Err.ensures.served config input put so_far));
}

pub returns-in-Ok : goal.returns-in-Ok
returns-in-Ok g c = record {
  served =
      λ config input put is so_far.
      ServesOn-past config input put c.args.buffer.now c.args.taken c.args.count c.min-counted.result _ _ _ _ is c.requires.taken c.min-counted.ensures c.requires.buffer c.requires.bound c.if-counted-count.true
      (subst (λ piece. ServesOn config input put piece c.serve_piece.new.cutter c.serve_piece.new.serial (g.W.Sink.port c.args.sink.now) (g.W.Sink.port c.serve_piece.new.sink)) c.split_at.ensures.front
      (c.in-Ok.ensures.served config input put so_far));
}
