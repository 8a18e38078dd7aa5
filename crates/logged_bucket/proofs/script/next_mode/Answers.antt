-- The front of what is to come says the next mode.
use Rattle.std.proofs.Common.{length, refl, sym, ◌∙◌}
use Rattle.std.proofs.lemmas.Option.{slice_get_read}
use Rattle.logged_bucket.proofs.ScriptLaws.{done_next, still_to_come, faulty_next, next_to_come}
use Rattle.logged_bucket.proofs.script.next_mode.Goals as goal

pub returns-then-fault-moment-clause-mode : goal.returns-then-fault-moment-clause-mode
returns-then-fault-moment-clause-mode c = let found = c.in-Some.ensures.lookup in
    done_next _ _ _ _ (slice_get_read c.args.script.now (length c.args.script.now) c.args.behind c.in-Some.fault.now refl found.3.0 found.1) c.requires.to_come
    (λ e. c.if-fault-moment.true (e ∙ sym c.moment_at-moment.ensures))

pub returns-then-fault-moment-clause-to_come : goal.returns-then-fault-moment-clause-to_come
returns-then-fault-moment-clause-to_come c = let found = c.in-Some.ensures.lookup in
    still_to_come _ _ _ _ (slice_get_read c.args.script.now (length c.args.script.now) c.args.behind c.in-Some.fault.now refl found.3.0 found.1) c.requires.to_come
    (λ e. c.if-fault-moment.true (e ∙ sym c.moment_at-moment.ensures))

pub returns-clause-mode : goal.returns-clause-mode
returns-clause-mode c = let found = c.in-Some.ensures.lookup in
    faulty_next _ _ _ _ (slice_get_read c.args.script.now (length c.args.script.now) c.args.behind c.in-Some.fault.now refl found.3.0 found.1) c.requires.to_come
    (c.if-fault-moment.false ∙ c.moment_at-moment.ensures)

pub returns-clause-to_come : goal.returns-clause-to_come
returns-clause-to_come c = let found = c.in-Some.ensures.lookup in
    next_to_come _ _ _ _ (slice_get_read c.args.script.now (length c.args.script.now) c.args.behind c.in-Some.fault.now refl found.3.0 found.1) c.requires.to_come
    (c.if-fault-moment.false ∙ c.moment_at-moment.ensures)
