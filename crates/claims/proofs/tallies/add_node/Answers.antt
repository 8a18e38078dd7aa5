use Rattle.std.proofs.Common.{ap, ◌∙◌, unwrap_or}
use Rattle.claims.specs.TallyWords.{no_tally, one_tally, plus}
use Rattle.claims.specs.Tallies.{tally_in}
use Rattle.claims.proofs.TallySums.{plus-none}
use Rattle.claims.proofs.TallyMaps.{tally_in-insert_number}
use Rattle.claims.proofs.tallies.add_node.Goals as goal

pub returns-clause-tallies : goal.returns-clause-tallies
returns-clause-tallies c = λ q.
    ap (λ m. tally_in m q) c.put.ensures.map
    ∙ tally_in-insert_number plus plus-none c.args.nodes.now.map c.args.number (one_tally c.args.exclusive) c.with.result
    (c.with.ensures ∙ ap (λ t. plus t (one_tally c.args.exclusive)) (c.unwrap_or-tally.ensures ∙ ap (λ o. unwrap_or o no_tally) (c.copied.ensures ∙ c.get.ensures))) q
