use Rattle.std.proofs.Common.{ap, subst, ◌∙◌}
use Rattle.std.specs.FinMap as fin
use Rattle.std.specs.List.{list_any}
use Rattle.claim_spec.specs.Conflicts.{any_conflict}
use Rattle.claims.specs.HeldClaims.{HeldClaims, IsTable}
use Rattle.claims.specs.Tallies.{tally_at}
use Rattle.claims.proofs.Tested.{tested}
use Rattle.claims.proofs.table.Claims.conflicts.Goals as goal

pub returns-clause-ok : goal.returns-clause-ok
returns-clause-ok c =
    c.conflict_with.ensures
    ∙ tested (tally_at c.self.inside.tallies.nodes.map c.self.inside.tallies.names.map) c.args.wanted.now (fin.values c.self.inside.calls.map) c.self.invariant.tallies
    ∙ ap (λ t. list_any (any_conflict c.args.wanted.now) (fin.values t.held)) c.self.view_is

pub returns-clause-apart : goal.returns-clause-apart
returns-clause-apart c = subst (λ (t : HeldClaims). IsTable t.held t.next) c.self.view_is c.self.invariant.table
