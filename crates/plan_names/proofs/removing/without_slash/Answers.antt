-- The one byte at the end is a slash.
use Rattle.std.proofs.Common.{◌≡◌, ◌≢◌, ℕ, ◌++◌, List, subst}
use Rattle.std.proofs.lemmas.Bool.Decides.{Decides-eqb}
use Rattle.std.proofs.lemmas.Slice.Eq.{strip_suffix_is}
use Rattle.std.specs.Option.{MatchOption}
use Rattle.plan_names.proofs.removing.without_slash.Goals as goal

pub returns : goal.returns
returns c =
    subst (λ end. MatchOption c.strip_suffix.result ((front : List ℕ) → c.args.name.now ≢ front ++ end) (λ front. c.args.name.now ≡ front.now ++ end)) c.as_slice.ensures
    (strip_suffix_is Decides-eqb c.args.name.now c.as_slice.result.now c.strip_suffix.result c.strip_suffix.ensures.cases)
