-- What `read_words` leaves: that no other command has the same words.
use Rattle.std.proofs.Common.{◌≡◌, ◌∷◌, codes, rules}
use Rattle.cli_words.proofs.FormLaws.{only_form}
use Rattle.cli_words.proofs.words.read_words.Goals as goal

pub returns-in-play-clause-only : goal.returns-in-play-clause-only
returns-in-play-clause-only c =
    let words : c.args.words.now ≡ codes "play" ∷ c.in-Some.rest.now = search rules in
    rw words (only_form _ _ c.read_play.result c.read_play.ensures.cases)

pub returns-in-drill-clause-only : goal.returns-in-drill-clause-only
returns-in-drill-clause-only c =
    let words : c.args.words.now ≡ codes "drill" ∷ c.in-Some.rest.now = search rules in
    rw words (only_form _ _ c.read_drill.result c.read_drill.ensures.cases)
