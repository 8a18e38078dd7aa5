use Rattle.std.proofs.Common.{take, ap, ◌∙◌, sym}
use Rattle.claims.specs.TallyWords.{less}
use Rattle.claims.specs.Tallies.{tally_at, tally_by, tally_of}
use Rattle.claims.proofs.TallySums.{less-less, tally_of-take}
use Rattle.claims.proofs.tallies.Tallies.take_all_away.Goals as goal

-- what was tallied before the loop, without the claims so far and then without the next one
pub loop-claim-preserved : goal.loop-claim-preserved
loop-claim-preserved c = (
  λ key.
      let before = tally_at c.args.self.now.nodes.map c.args.self.now.names.map key in
      let so_far = tally_of key (take c.loop-claim.claim-index c.args.claims.now) in
      c.take_away.ensures.tallies key
      ∙ ap (λ t. less t (tally_by key c.claim-item.result)) (c.loop-claim.invariant.0 key)
      ∙ less-less before so_far (tally_by key c.claim-item.result)
      ∙ ap (less before) (sym (tally_of-take key c.args.claims.now c.loop-claim.claim-index c.claim-item.result c.loop-claim-test.true c.claim-item.is)),
  c.take_away.ensures.node_room ∙ c.loop-claim.invariant.1,
  c.take_away.ensures.name_room ∙ c.loop-claim.invariant.2,
)
