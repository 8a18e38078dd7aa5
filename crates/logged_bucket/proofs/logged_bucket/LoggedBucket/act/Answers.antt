-- The next event was made, in the mode that the script sets.
use Rattle.std.proofs.Common.{arith, ◌+◌, ◌∷◌, [], ◌++◌, drop, ap, ◌∙◌, subst}
use Rattle.bucket_api.specs.Operation.{operation}
use Rattle.bucket_api.specs.Scripts.{script_of}
use Rattle.bucket_api.specs.Log.{scripted_mode}
use Rattle.logged_bucket.specs.LoggedState.{LoggedState}
use Rattle.logged_bucket.specs.Logging.{IsToCome, MakesEvent}
use Rattle.logged_bucket.proofs.LoggingLaws.{IsNext, logged_on, is_made}
use Rattle.logged_bucket.proofs.logged_bucket.LoggedBucket.act.Goals as goal

abbrev was : goal.After-self-1 → LoggedState
was c = record { start = c.self.inside.start.value; script = script_of c.self.inside.script.items; log = c.self.inside.log.items }

next : (c : goal.After-self-1) → IsNext (was c) c.self.inside.bucket c.apply_by.new.bucket (drop c.self.inside.behind (script_of c.self.inside.script.items)) (drop c.next_mode-mode.result.1 (script_of c.self.inside.script.items)) c.args.lane (operation c.args.op) c.next_mode-mode.result.0 c.push.new.self.items
next c = let len = c.len-events.ensures in let same = c.as_slice.ensures.items in record {
  was = c.self.invariant;
  may = c.requires.may;
  set = c.next_mode-mode.ensures.mode ∙ (ap (λ xs. scripted_mode (script_of xs) (c.len-events.result + 1)) same ∙ ap (λ k. scripted_mode (script_of c.self.inside.script.items) (k + 1)) len);
  made = c.in_ok-answer.ensures.after;
  to_come = subst (λ k. IsToCome (k + 1) (script_of c.self.inside.script.items) (drop c.next_mode-mode.result.1 (script_of c.self.inside.script.items))) len
      (subst (λ xs. IsToCome (c.len-events.result + 1) (script_of xs) (drop c.next_mode-mode.result.1 (script_of xs))) same c.next_mode-mode.ensures.to_come);
  pushed = c.push.ensures.items ∙ ap (λ (l : _). l ++ record { lane = c.args.lane; op = operation c.args.op; mode = c.next_mode-mode.result.0 } ∷ []) c.in_ok-reserve.ensures.kept;
}

pub invariant_of-self-2 : goal.invariant_of-self-2
invariant_of-self-2 c = logged_on (next c)

pub returns-clause-ok : goal.returns-clause-ok
returns-clause-ok c = let len = c.len-events.ensures in let few = c.if-events-ge-MOST_EVENTS.false in
    subst (λ (k : LoggedState). MakesEvent c.args.lane (operation c.args.op) k (record (was c) { log = c.push.new.self.items }) c.moment_at-moment.result c.in_ok-answer.answer) c.self.view_is
    (is_made (next c) c.moment_at-moment.result c.in_ok-answer.answer (omega arith) (c.moment_at-moment.ensures ∙ ap (λ k. k + 1) len) c.in_ok-answer.ensures.ok)
