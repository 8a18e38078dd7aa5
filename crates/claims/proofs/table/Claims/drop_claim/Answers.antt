use Rattle.std.proofs.Common.{ap, sym, ◌∙◌}
use Rattle.claims.specs.TallyWords.{less}
use Rattle.claims.specs.Tallies.{tally_at, tally_of}
use Rattle.claims.proofs.TableLaws.{IsTallied-remove}
use Rattle.claims.proofs.table.Claims.drop_claim.Goals as goal

pub invariant_of-self : goal.invariant_of-self
invariant_of-self c =
    IsTallied-remove c.self.inside.calls.map c.self.inside.tallies.nodes.map c.self.inside.tallies.names.map c.self.inside.next c.self.invariant
    c.remove.new.self.map c.take_all_away.new.self.nodes.map c.take_all_away.new.self.names.map c.args.number c.unwrap-call.result
    (sym c.remove.ensures.value ∙ c.unwrap-call.ensures) c.remove.ensures.map
    (λ key. c.take_all_away.ensures.tallies key ∙ ap (λ claims. less (tally_at c.self.inside.tallies.nodes.map c.self.inside.tallies.names.map key) (tally_of key claims)) (c.as_slice.ensures.items ∙ c.call.view_is))

pub returns-clause-apart : goal.returns-clause-apart
returns-clause-apart c = (invariant_of-self c).table
