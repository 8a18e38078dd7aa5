use Rattle.std.proofs.Common.{◌≡◌, sym, ap, ◌∙◌, unwrap_or}
use Rattle.claims.specs.TallyWords.{no_tally, one_tally, less}
use Rattle.claims.specs.Tallies.{tally_in}
use Rattle.claims.proofs.TallySums.{less-none}
use Rattle.claims.proofs.TallyMaps.{tally_in-insert_number, tally_in-remove_number}
use Rattle.claims.proofs.tallies.take_node_away.Goals as goal

pub returns-then-is_none-clause-tallies : goal.returns-then-is_none-clause-tallies
returns-then-is_none-clause-tallies c = λ q.
    let there : tally_in c.args.nodes.now.map c.args.number ≡ c.in-Some.tally = ap (λ o. unwrap_or o no_tally) (sym c.get.ensures ∙ sym c.copied.ensures ∙ c.in-Some.is) in
    ap (λ m. tally_in m q) c.remove.ensures.map
    ∙ tally_in-remove_number less less-none c.args.nodes.now.map c.args.number (one_tally c.args.exclusive)
    (sym (c.is_none.ensures.0 c.if-is_none.true) ∙ c.without-rest.ensures ∙ ap (λ t. less t (one_tally c.args.exclusive)) (sym there)) q

pub returns-clause-tallies : goal.returns-clause-tallies
returns-clause-tallies c = λ q.
    let there : tally_in c.args.nodes.now.map c.args.number ≡ c.in-Some.tally = ap (λ o. unwrap_or o no_tally) (sym c.get.ensures ∙ sym c.copied.ensures ∙ c.in-Some.is) in
    tally_in-insert_number less less-none c.args.nodes.now.map c.args.number (one_tally c.args.exclusive) c.without-rest.result
    (c.without-rest.ensures ∙ ap (λ t. less t (one_tally c.args.exclusive)) (sym there)) q
