use Rattle.std.proofs.Common.{◌≡◌, ◌+◌, ◌≤◌, take, count_by}
use Rattle.claim_spec.specs.declared.claim.ClaimKey.{ClaimKey}
use Rattle.claims.specs.HeldClaims.{is_named}
use Rattle.claims.specs.TallyWords.{plus}
use Rattle.claims.specs.Tallies.{tally_at, tally_of}
use Rattle.claims.proofs.tallies.Tallies.add_all.Given as goal

abbrev pub invariant-loop-claim : goal.invariant-loop-claim
invariant-loop-claim l =
    ((key : ClaimKey) → tally_at l.self.nodes.map l.self.names.map key ≡ plus (tally_at l.fn.self.nodes.map l.fn.self.names.map key) (tally_of key (take l.claim-index l.wanted)))
    × (l.fn.self.nodes.spare ≤ l.self.nodes.spare + l.claim-index)
    × (l.fn.self.names.spare ≤ l.self.names.spare + count_by is_named (take l.claim-index l.wanted))
