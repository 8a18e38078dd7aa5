-- The next lane is the first of those that are left, and behind the last the phase ends.
use Rattle.std.proofs.Common.{◌≡◌, ◌≤◌, ◌+◌, ◌∷◌, ◌++◌, List, drop, length, map, sym, ap, subst, ◌∙◌, arith}
use Rattle.std.proofs.lemmas.List.{drop_all, length-map}
use Rattle.play_lanes.proofs.Results.{drop_mapped}
use Rattle.play_lanes.proofs.player.Player.phase.Goals as goal
use Rattle.play_lanes.specs.Playing.{IsBetween}
use Rattle.scenario.specs.Parts.{Lane, ScenarioData}
use Rattle.scenario.specs.Works.{lane_of}

pub lane-requires : goal.lane-requires
lane-requires c =
    let lanes = sym c.phase.view_is ∙ ap (map lane_of) (sym c.as_slice-work-items.ensures.items) in
    record {
      next = (
        c.requires.next.0,
        drop (c.loop-work.work-index + 1) c.args.phase.now ++ c.requires.next.1,
        subst (λ left. IsBetween c.requires.next.0 c.loop-work.self (left ++ c.requires.next.1))
            (drop_mapped lane_of c.as_slice-work-items.result.now c.args.phase.now c.loop-work.work-index c.work-item.result lanes c.loop-work-test.true c.work-item.is)
            (c.loop-work.invariant c.requires.next.0 c.requires.next.1 c.requires.next.2),
      );
    }

pub loop-work-preserved : goal.loop-work-preserved
loop-work-preserved c = λ (scenario : ScenarioData) (left : List Lane) between.
    let lanes = sym c.phase.view_is ∙ ap (map lane_of) (sym c.as_slice-work-items.ensures.items) in
    c.in_ok-lane.ensures.ok scenario (drop (c.loop-work.work-index + 1) c.args.phase.now ++ left)
    (subst (λ next. IsBetween scenario c.loop-work.self (next ++ left))
    (drop_mapped lane_of c.as_slice-work-items.result.now c.args.phase.now c.loop-work.work-index c.work-item.result lanes c.loop-work-test.true c.work-item.is)
    (c.loop-work.invariant scenario left between))

pub returns : goal.returns
returns c =
    let lanes = sym c.phase.view_is ∙ ap (map lane_of) (sym c.as_slice-work-items.ensures.items) in
    let size : length c.args.phase.now ≡ length c.as_slice-work-items.result.now = ap length lanes ∙ length-map c.as_slice-work-items.result.now lane_of in
    record {
      ok = λ (scenario : ScenarioData) (left : List Lane) between.
          subst (λ next. IsBetween scenario c.loop-work.self (next ++ left)) (drop_all c.loop-work.work-index c.args.phase.now (omega (arith, size, c.loop-work-test.false)))
          (c.loop-work.invariant scenario left between);
    }
