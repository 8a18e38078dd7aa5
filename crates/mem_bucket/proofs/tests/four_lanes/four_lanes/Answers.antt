-- The home that has met all passes holds all lanes.
use Rattle.std.proofs.Common.{sym, ◌∙◌, subst}
use Rattle.lane_spec.specs.Numbers.{HasAll}
use Rattle.mem_bucket.proofs.Gathering.{same_together}
use Rattle.mem_bucket.proofs.tests.four_lanes.four_lanes.Goals as goal

pub ended-log-requires-clause-all : goal.ended-log-requires-clause-all
ended-log-requires-clause-all g c =
    subst HasAll (sym (c.in_ok-home.ensures.held
    ∙ same_together (λ w. w.pass.held) (λ p. p.held) _ c.in_ok-works.works.items c.in_ok-passes.passes.items c.in_ok-works.ensures.len c.in_ok-works.ensures.held)) c.in_ok-passes.ensures.all
