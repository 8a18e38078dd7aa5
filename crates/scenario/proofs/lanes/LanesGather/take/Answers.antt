-- The lane was read at the next spot.
use Rattle.std.proofs.Common.{ap, subst, ◌∙◌, ◌+◌, [], ◌∷◌, map}
use Rattle.std.proofs.lemmas.List.{map-append}
use Rattle.scenario.specs.Checks.{items_of}
use Rattle.scenario.specs.Lawful.{IsLane, StaysCounted}
use Rattle.scenario.specs.Works.{lane_of}
use Rattle.scenario.proofs.Growing.{lanes_next}
use Rattle.scenario.proofs.lanes.LanesGather.take.Goals as goal

pub returns-clause-fits : goal.returns-clause-fits
returns-clause-fits c =
    let self = c.args.self.now in
    let l = lane_of c.in_ok-lane.lane in
    lanes_next self.counts.now self.first self.items _ (map lane_of self.lanes.items) (map lane_of c.push.new.self.items) l
    (ap (map lane_of) c.in_ok-push.ensures.items ∙ map-append lane_of self.lanes.items (c.in_ok-lane.lane ∷ [])) (ap (λ k. self.items + k) c.items.ensures) c.requires
    (subst (λ s. IsLane s l) c.next_spot-spot.ensures c.in_ok-lane.ensures.good) (subst (λ s. StaysCounted s (items_of l)) c.next_spot-spot.ensures c.in_ok-lane.ensures.few)
