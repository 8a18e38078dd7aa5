-- The frame that waited longest is answered next.
use Rattle.std.proofs.Common.{◌≡◌, ◌++◌, ◌∷◌, [], length, refl, sym, ap, ◌∙◌, arith}
use Rattle.gcsmount.proofs.AnswerLaws.{AnswersAll-nothing, AnswersAll-then, Answers-stopped}
use Rattle.gcsmount.proofs.FrameLists.{length-concat-push, split-next}
use Rattle.gcsmount.proofs.answer.answer_waiting.Goals as goal

pub returns-in-Err-clause-answers : goal.returns-in-Err-clause-answers
returns-in-Err-clause-answers g c =
    let first : c.loop-frame.cutter.held ≡ c.as_slice.result.now ∷ c.next.new.self.held =
    c.in-Some.ensures.answer.first ∙ ap (λ frame. frame ∷ c.next.new.self.held) (sym c.as_slice.ensures.bytes) in
    Answers-stopped _ _ c.loop-frame.invariant.done c.next.new.self.held _ c.as_slice.result.now _ _ _ _
    (c.loop-frame.invariant.split ∙ ap (λ waiting. c.loop-frame.invariant.done ++ waiting) first)
    c.loop-frame.invariant.answered c.in-Err.ensures.answers.0 c.in-Err.ensures.answers.1

pub loop-frame-preserved : goal.loop-frame-preserved
loop-frame-preserved g c =
    let first : c.loop-frame.cutter.held ≡ c.as_slice.result.now ∷ c.next.new.self.held =
    c.in-Some.ensures.answer.first ∙ ap (λ frame. frame ∷ c.next.new.self.held) (sym c.as_slice.ensures.bytes) in
    record {
      done = c.loop-frame.invariant.done ++ c.as_slice.result.now ∷ [];
      split = split-next _ c.loop-frame.invariant.done c.next.new.self.held _ (c.as_slice.result.now ∷ []) c.loop-frame.invariant.split first;
      given =
          omega (arith, length-concat-push c.loop-frame.invariant.done c.as_slice.result.now, c.loop-frame.invariant.given, c.in-Some.ensures.answer.given, ap length c.as_slice.ensures.bytes);
      rest = c.in-Some.ensures.answer.rest ∙ c.loop-frame.invariant.rest;
      answered = AnswersAll-then _ _ _ _ _ _ _ _ c.loop-frame.invariant.answered c.in-Ok.ensures.answers;
    }

pub loop-frame-init : goal.loop-frame-init
loop-frame-init g c = record { done = []; split = refl; given = omega arith; rest = refl; answered = AnswersAll-nothing _ _ }
