use Rattle.std.proofs.Common.{◌+◌, length, ap, ◌∙◌, arith}
use Rattle.std.specs.FinMap as fin
use Rattle.std.specs.List.{list_any}
use Rattle.claim_spec.specs.Conflicts.{any_conflict}
use Rattle.claims.specs.Tallies.{tally_of}
use Rattle.claims.specs.TallyWords.{plus}
use Rattle.claims.specs.Tallies.{tally_at}
use Rattle.claims.proofs.TallySums.{all_claims_within, all_exclusive_within}
use Rattle.claims.proofs.TableLaws.{IsTallied-insert}
use Rattle.claims.proofs.table.Claims.hold.Goals as goal

pub add_all-requires-clause-claims : goal.add_all-requires-clause-claims
add_all-requires-clause-claims c = λ key.
    omega (
      arith,
      ap (λ t. t.claims) (c.self.invariant.tallies key),
      all_claims_within key (fin.values c.self.inside.calls.map),
      c.self.invariant.size,
      c.requires.room.numbers,
      ap (λ t. t.next) c.self.view_is,
      ap length c.as_slice.ensures.items,
    )

pub add_all-requires-clause-exclusive : goal.add_all-requires-clause-exclusive
add_all-requires-clause-exclusive c = λ key.
    omega (
      arith,
      ap (λ t. t.exclusive) (c.self.invariant.tallies key),
      all_exclusive_within key (fin.values c.self.inside.calls.map),
      c.self.invariant.size,
      c.requires.room.numbers,
      ap (λ t. t.next) c.self.view_is,
      ap length c.as_slice.ensures.items,
    )

pub invariant_of-self : goal.invariant_of-self
invariant_of-self c =
    IsTallied-insert c.self.inside.calls.map c.self.inside.tallies.nodes.map c.self.inside.tallies.names.map c.self.inside.next c.self.invariant
    c.put.new.self.map c.add_all.new.self.nodes.map c.add_all.new.self.names.map (c.self.inside.next + (c.len.result + 1)) c.args.wanted.items
    c.put.ensures.map (λ key. c.add_all.ensures.tallies key ∙ ap (λ claims. plus (tally_at c.self.inside.tallies.nodes.map c.self.inside.tallies.names.map key) (tally_of key claims)) c.as_slice.ensures.items)
    (ap (λ t. list_any (any_conflict c.args.wanted.items) (fin.values t.held)) c.self.view_is ∙ c.requires.free)
    (ap (λ n. c.self.inside.next + (n + 1)) c.len.ensures) (omega (arith, c.requires.room.numbers, ap (λ t. t.next) c.self.view_is))

pub returns-clause-apart : goal.returns-clause-apart
returns-clause-apart c = (invariant_of-self c).table
