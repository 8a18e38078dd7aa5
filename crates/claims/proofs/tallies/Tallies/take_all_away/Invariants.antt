use Rattle.std.proofs.Common.{◌≡◌, take}
use Rattle.claim_spec.specs.declared.claim.ClaimKey.{ClaimKey}
use Rattle.claims.specs.TallyWords.{less}
use Rattle.claims.specs.Tallies.{tally_at, tally_of}
use Rattle.claims.proofs.tallies.Tallies.take_all_away.Given as goal

abbrev pub invariant-loop-claim : goal.invariant-loop-claim
invariant-loop-claim l =
    ((key : ClaimKey) → tally_at l.self.nodes.map l.self.names.map key ≡ less (tally_at l.fn.self.nodes.map l.fn.self.names.map key) (tally_of key (take l.claim-index l.claims)))
    × (l.self.nodes.spare ≡ l.fn.self.nodes.spare)
    × (l.self.names.spare ≡ l.fn.self.names.spare)
