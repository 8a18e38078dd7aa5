-- A lane of each kind begins with all of its items left.
use Rattle.std.proofs.Common.{◌≡◌, ◌∷◌, ℕ, List, map, refl, sym, ap, subst, ◌∙◌}
use Rattle.bucket_api.specs.Operation.{Operation, operation}
use Rattle.play_lanes.proofs.LaneLaws.{lane_begins}
use Rattle.play_lanes.proofs.Results.{OnOk-then}
use Rattle.play_lanes.proofs.player.Player.lane.Goals as goal
use Rattle.play_lanes.specs.Playing.{IsAmid}
use Rattle.scenario.specs.Parts.{Call, Lane, ScenarioData, calls, clock, remote}
use Rattle.scenario.specs.Works.{lane_of}

pub calls-requires : goal.calls-requires
calls-requires c = record {
  next = (
    c.requires.next.0,
    c.requires.next.1,
    lane_begins calls refl (λ number. refl) c.requires.next.0 c.args.self.now _ c.begin_lane.new.self (lane_of c.args.work.now) c.as_slice.result.now c.requires.next.1 c.self.view_is c.in_ok-begin_lane.ensures.ok
        (ap lane_of c.in-Calls.is ∙ ap calls (sym c.as_slice.ensures.items)) c.requires.next.2,
  );
}

pub remote-requires : goal.remote-requires
remote-requires c = record {
  next = (
    c.requires.next.0,
    c.requires.next.1,
    lane_begins remote refl (λ number. refl) c.requires.next.0 c.args.self.now _ c.begin_lane.new.self (lane_of c.args.work.now) (map operation c.as_slice-in-Remote.result.now) c.requires.next.1 c.self.view_is
        c.in_ok-begin_lane.ensures.ok (ap lane_of c.in-Remote.is ∙ ap (λ ops. remote (map operation ops)) (sym c.as_slice-in-Remote.ensures.items)) c.requires.next.2,
  );
}

pub clock-requires : goal.clock-requires
clock-requires c = record {
  next = (
    c.requires.next.0,
    c.requires.next.1,
    lane_begins clock refl (λ number. refl) c.requires.next.0 c.args.self.now _ c.begin_lane.new.self (lane_of c.args.work.now) c.as_slice-in-Clock.result.now c.requires.next.1 c.self.view_is
        c.in_ok-begin_lane.ensures.ok (ap lane_of c.in-Clock.is ∙ ap clock (sym c.as_slice-in-Clock.ensures.items)) c.requires.next.2,
  );
}

pub returns-in-Calls : goal.returns-in-Calls
returns-in-Calls c = record {
  ok = OnOk-then c.calls.result
      (λ so (scenario : ScenarioData) (left : List Lane) between. so scenario left
      (lane_begins calls refl (λ number. refl) scenario c.args.self.now _ c.begin_lane.new.self (lane_of c.args.work.now) c.as_slice.result.now left c.self.view_is c.in_ok-begin_lane.ensures.ok
      (ap lane_of c.in-Calls.is ∙ ap calls (sym c.as_slice.ensures.items)) between)) c.calls.ensures.ok;
}

pub returns-in-Remote : goal.returns-in-Remote
returns-in-Remote c = record {
  ok = OnOk-then c.remote.result
      (λ so (scenario : ScenarioData) (left : List Lane) between. so scenario left
      (lane_begins remote refl (λ number. refl) scenario c.args.self.now _ c.begin_lane.new.self (lane_of c.args.work.now) (map operation c.as_slice-in-Remote.result.now) left c.self.view_is
      c.in_ok-begin_lane.ensures.ok (ap lane_of c.in-Remote.is ∙ ap (λ ops. remote (map operation ops)) (sym c.as_slice-in-Remote.ensures.items)) between)) c.remote.ensures.ok;
}

pub returns-in-Clock : goal.returns-in-Clock
returns-in-Clock c = record {
  ok = OnOk-then c.clock.result
      (λ so (scenario : ScenarioData) (left : List Lane) between. so scenario left
      (lane_begins clock refl (λ number. refl) scenario c.args.self.now _ c.begin_lane.new.self (lane_of c.args.work.now) c.as_slice-in-Clock.result.now left c.self.view_is
      c.in_ok-begin_lane.ensures.ok (ap lane_of c.in-Clock.is ∙ ap clock (sym c.as_slice-in-Clock.ensures.items)) between)) c.clock.ensures.ok;
}
