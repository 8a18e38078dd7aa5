-- The next phase is the first of those that are left; behind the last all is played, and keeps the promises of histories.
use Rattle.std.proofs.Common.{◌≡◌, ◌≤◌, ◌+◌, ◌∷◌, ◌++◌, [], List, drop, length, ap, subst, ◌∙◌}
use Rattle.std.proofs.lemmas.List.{drop_all}
use Rattle.legal_spec.proofs.OneLaneLaws.{one_lane_agrees}
use Rattle.legal_spec.proofs.PromiseLaws.{content_of_reads, fresh_open, guarded_flush, live_nodes}
use Rattle.play_lanes.proofs.HistoryLaws.{history_played}
use Rattle.play_lanes.proofs.Results.{drop_next}
use Rattle.play_lanes.proofs.playing.play.Goals as goal
use Rattle.play_lanes.specs.Histories.{IsHistory}
use Rattle.play_lanes.specs.Playing.{IsBetween, lanes_in}
use Rattle.scenario.specs.Parts.{Lane}

pub phase-requires : goal.phase-requires
phase-requires c =
    let phases = c.as_slice-phase-items.ensures.items ∙ ap (λ s. s.phases) c.scenario.view_is in
    record {
      next = (
        c.args.scenario.now,
        lanes_in (drop (c.loop-phase.phase-index + 1) c.args.scenario.now.phases),
        subst (λ left. IsBetween c.args.scenario.now c.loop-phase.player (lanes_in left))
            (subst (λ ps. drop c.loop-phase.phase-index ps ≡ c.phase-item.result ∷ drop (c.loop-phase.phase-index + 1) ps) phases
            (drop_next c.as_slice-phase-items.result.now c.loop-phase.phase-index c.phase-item.result c.phase-item.result c.loop-phase-test.true c.phase-item.is))
            c.loop-phase.invariant,
      );
    }

pub loop-phase-preserved : goal.loop-phase-preserved
loop-phase-preserved c =
    let phases = c.as_slice-phase-items.ensures.items ∙ ap (λ s. s.phases) c.scenario.view_is in
    c.in_ok-phase.ensures.ok c.args.scenario.now (lanes_in (drop (c.loop-phase.phase-index + 1) c.args.scenario.now.phases))
    (subst (λ left. IsBetween c.args.scenario.now c.loop-phase.player (lanes_in left))
    (subst (λ ps. drop c.loop-phase.phase-index ps ≡ c.phase-item.result ∷ drop (c.loop-phase.phase-index + 1) ps) phases
    (drop_next c.as_slice-phase-items.result.now c.loop-phase.phase-index c.phase-item.result c.phase-item.result c.loop-phase-test.true c.phase-item.is))
    c.loop-phase.invariant)

history : (c : goal.After-finish) → IsHistory c.args.scenario.now c.finish.result
history c =
    let phases = c.as_slice-phase-items.ensures.items ∙ ap (λ s. s.phases) c.scenario.view_is in
    c.finish.ensures.history c.args.scenario.now
    (subst (λ left. IsBetween c.args.scenario.now c.loop-phase.player (lanes_in left))
    (subst (λ ps. drop c.loop-phase.phase-index ps ≡ []) phases (drop_all c.loop-phase.phase-index c.as_slice-phase-items.result.now c.loop-phase-test.false))
    c.loop-phase.invariant)

pub returns-clause-ok : goal.returns-clause-ok
returns-clause-ok c = history c

pub returns-clause-played : goal.returns-clause-played
returns-clause-played c = history_played c.args.scenario.now c.finish.result (history c)

pub returns-clause-nodes : goal.returns-clause-nodes
returns-clause-nodes c = live_nodes

pub returns-clause-reads : goal.returns-clause-reads
returns-clause-reads c = content_of_reads

pub returns-clause-flushes : goal.returns-clause-flushes
returns-clause-flushes c = guarded_flush

pub returns-clause-opens : goal.returns-clause-opens
returns-clause-opens c = fresh_open

pub returns-clause-agrees : goal.returns-clause-agrees
returns-clause-agrees c = one_lane_agrees
