-- The zeros are as many as were asked for.
use Rattle.std.proofs.Common.{ℕ, List, replicate, subst, take}
use Rattle.std.proofs.lemmas.Bool.Decides.{Decides-eqb}
use Rattle.std.proofs.lemmas.List.{take-replicate}
use Rattle.std.proofs.lemmas.Slice.Eq.{strip_prefix_is}
use Rattle.fuse_replies.specs.Reading.{Strips}
use Rattle.fuse_replies.proofs.dirents.strip_zeros.Goals as goal

pub returns : goal.returns
returns c =
    subst (λ (zeros : List ℕ). Strips c.args.bytes.now zeros c.strip_prefix.result) (take-replicate c.args.count 8 0 c.requires)
    (strip_prefix_is Decides-eqb c.args.bytes.now (take c.args.count (replicate 8 0)) c.strip_prefix.result c.strip_prefix.ensures.cases)
