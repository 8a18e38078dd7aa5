use Rattle.std.proofs.Common.{take, ap, ◌∙◌, sym, arith}
use Rattle.std.proofs.lemmas.List.{length-take}
use Rattle.claims.specs.HeldClaims.{is_named}
use Rattle.claims.specs.TallyWords.{plus}
use Rattle.claims.specs.Tallies.{tally_at, tally_by, tally_of}
use Rattle.claims.proofs.TallySums.{claims_within, exclusive_within, plus_assoc, tally_of-take, named-take}
use Rattle.claims.proofs.tallies.Tallies.add_all.Goals as goal

pub add-requires-clause-claims : goal.add-requires-clause-claims
add-requires-clause-claims c =
    omega (
      arith,
      ap (λ t. t.claims) (c.loop-claim.invariant.0 c.claim-item.result.key),
      claims_within c.claim-item.result.key (take c.loop-claim.claim-index c.args.wanted.now),
      length-take c.loop-claim.claim-index c.args.wanted.now,
      c.requires.claims c.claim-item.result.key,
    )

pub add-requires-clause-exclusive : goal.add-requires-clause-exclusive
add-requires-clause-exclusive c =
    omega (
      arith,
      ap (λ t. t.exclusive) (c.loop-claim.invariant.0 c.claim-item.result.key),
      exclusive_within c.claim-item.result.key (take c.loop-claim.claim-index c.args.wanted.now),
      length-take c.loop-claim.claim-index c.args.wanted.now,
      c.requires.exclusive c.claim-item.result.key,
    )

-- what was tallied before the loop, with the claims so far and then with the next one
pub loop-claim-preserved : goal.loop-claim-preserved
loop-claim-preserved c = (
  λ key.
      let before = tally_at c.args.self.now.nodes.map c.args.self.now.names.map key in
      let so_far = tally_of key (take c.loop-claim.claim-index c.args.wanted.now) in
      c.add.ensures.tallies key
      ∙ ap (λ t. plus t (tally_by key c.claim-item.result)) (c.loop-claim.invariant.0 key)
      ∙ plus_assoc before so_far (tally_by key c.claim-item.result)
      ∙ ap (plus before) (sym (tally_of-take key c.args.wanted.now c.loop-claim.claim-index c.claim-item.result c.loop-claim-test.true c.claim-item.is)),
  omega (arith, c.add.ensures.node_room, c.loop-claim.invariant.1),
  omega (arith, c.add.ensures.name_room, c.loop-claim.invariant.2, named-take is_named c.args.wanted.now c.loop-claim.claim-index c.claim-item.result c.loop-claim-test.true c.claim-item.is),
)
