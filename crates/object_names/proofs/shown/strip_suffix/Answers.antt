-- The suffix is the one byte at the end.
use Rattle.std.proofs.Common.{Some, ◌++◌, ap, ◌∙◌}
use Rattle.std.proofs.lemmas.Bool.Decides.{Decides-eqb}
use Rattle.std.proofs.lemmas.Slice.Eq.{strip_suffix_is}
use Rattle.object_names.proofs.EndLemmas.{GivesBack-suffixed}
use Rattle.object_names.proofs.shown.strip_suffix.Goals as goal

pub returns-in-Some-clause-whole : goal.returns-in-Some-clause-whole
returns-in-Some-clause-whole c =
    strip_suffix_is Decides-eqb c.args.bytes.now c.as_slice.result.now (Some c.in-Some.bare) c.in-Some.ensures.cases
    ∙ ap (λ end. c.in-Some.bare.now ++ end) c.as_slice.ensures

pub returns-in-Some-clause-back : goal.returns-in-Some-clause-back
returns-in-Some-clause-back c = GivesBack-suffixed c.args.bytes.now c.in-Some.bare.now
    (strip_suffix_is Decides-eqb c.args.bytes.now c.as_slice.result.now (Some c.in-Some.bare) c.in-Some.ensures.cases
    ∙ ap (λ end. c.in-Some.bare.now ++ end) c.as_slice.ensures)
