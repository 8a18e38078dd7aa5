-- The usage line is told in two parts.
use Rattle.std.proofs.Common.{◌≡◌, ◌++◌, ◌∷◌, [], List, ℕ, inr, refl, subst}
use Rattle.gcsmount.proofs.TellLaws.{prefix_of_both, tells_both}
use Rattle.gcsmount.proofs.tool.tell_usage.Goals as goal
use Rattle.gcsmount.specs.Tool.{Tells}

pub returns-in-Ok : goal.returns-in-Ok
returns-in-Ok g c = record {
  tells = subst (λ first. Tells 2 (first ++ 10 ∷ []) (g.E.Sink.port c.args.notes.now) (g.E.Sink.port c.tell.new.notes) c.tell.result) c.as_bytes.ensures.value
      (tells_both 2 c.as_bytes.result.now (10 ∷ []) (g.E.Sink.port c.args.notes.now) (g.E.Sink.port c.put.new.self) (g.E.Sink.port c.tell.new.notes) c.tell.result
      c.in-Ok.ensures.bytes c.in-Ok.ensures.ok c.tell.ensures.tells);
}

pub returns-in-Err : goal.returns-in-Err
returns-in-Err g c = record {
  tells = subst (λ first. Tells 2 (first ++ 10 ∷ []) (g.E.Sink.port c.args.notes.now) (g.E.Sink.port c.put.new.self) 4) c.as_bytes.ensures.value
      (inr (refl, c.in-Err.ensures.failed, prefix_of_both c.as_bytes.result.now (10 ∷ []) (g.E.Sink.port c.args.notes.now) (g.E.Sink.port c.put.new.self) c.in-Err.ensures.err));
}
