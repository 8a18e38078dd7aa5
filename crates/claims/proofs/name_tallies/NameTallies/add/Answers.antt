use Rattle.std.proofs.Common.{◌≡◌, sym, ap, ◌∙◌, unwrap_or}
use Rattle.claims.specs.TallyWords.{no_tally, one_tally, plus}
use Rattle.claims.specs.Tallies.{tally_in}
use Rattle.claims.proofs.TallySums.{plus-none}
use Rattle.claims.proofs.TallyMaps.{tally_in-insert_name}
use Rattle.claims.proofs.name_tallies.NameTallies.add.Goals as goal

pub returns-in_default-clause-tallies : goal.returns-in_default-clause-tallies
returns-in_default-clause-tallies c = λ q.
    let none : tally_in c.args.self.now.map c.args.name.now ≡ no_tally = ap (λ o. unwrap_or o no_tally) (sym c.get.ensures ∙ c.in_default.is) in
    ap (λ m. tally_in m q) c.put.ensures.map
    ∙ tally_in-insert_name plus plus-none c.args.self.now.map c.args.name.now (one_tally c.args.exclusive) c.with.result
    (c.with.ensures ∙ ap (λ t. plus t (one_tally c.args.exclusive)) (sym none)) q

pub returns-clause-tallies : goal.returns-clause-tallies
returns-clause-tallies c = λ q.
    let there : tally_in c.args.self.now.map c.args.name.now ≡ c.in-Some.tally = ap (λ o. unwrap_or o no_tally) (sym c.get.ensures ∙ c.in-Some.is) in
    ap (λ m. tally_in m q) c.write.ensures.map
    ∙ tally_in-insert_name plus plus-none c.args.self.now.map c.args.name.now (one_tally c.args.exclusive) c.with-2.result
    (c.with-2.ensures ∙ ap (λ t. plus t (one_tally c.args.exclusive)) (sym there)) q
