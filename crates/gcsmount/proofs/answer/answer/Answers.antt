-- A reply that was written is handed to the sink; want of memory puts nothing.
use Rattle.std.proofs.Common.{◌∷◌, [], List, ℕ, refl, subst, sym}
use Rattle.gcsmount.specs.Answers.{ServesFrames}
use Rattle.gcsmount.proofs.AnswerLaws.{AnswersSome-nothing, Answers-put}
use Rattle.gcsmount.proofs.answer.answer.Goals as goal

pub returns-in-Err : goal.returns-in-Err
returns-in-Err g c = record {
  answers = (AnswersSome-nothing _ _ _, refl);
}

pub returns-in-Ok : goal.returns-in-Ok
returns-in-Ok g c = record {
  answers =
      let served : ServesFrames c.args.serial.now (c.args.frame.now ∷ []) c.as_slice.result.now c.reply_to.new.serial =
      subst (λ (text : List ℕ). ServesFrames c.args.serial.now (c.args.frame.now ∷ []) text c.reply_to.new.serial) (sym c.as_slice.ensures.bytes) c.in-Ok.ensures.ok in
      Answers-put _ _ _ _ _ _ _ c.reply_to.ensures.config served c.put.ensures.ok c.put.ensures.err c.put.ensures.failed c.put.ensures.kept;
}
