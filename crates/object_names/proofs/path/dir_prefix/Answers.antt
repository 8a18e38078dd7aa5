-- The prefix of the directory at a path is the path and a slash.
use Rattle.std.proofs.Common.{◌≡◌, ◌++◌, ◌∷◌, [], subst, sym}
use Rattle.std.proofs.lemmas.Result.{IfOk-weaker}
use Rattle.object_names.specs.Paths.{IsPrefix}
use Rattle.object_names.proofs.PathLemmas.{IsPrefix-dir}
use Rattle.object_names.proofs.path.dir_prefix.Goals as goal

pub returns-clause-prefix : goal.returns-clause-prefix
returns-clause-prefix c = λ p.
    IfOk-weaker c.joined.result (λ text. text ≡ c.args.path.now ++ 47 ∷ []) IsPrefix
    (λ text e. subst IsPrefix (sym e) (IsPrefix-dir c.args.path.now p)) c.joined.ensures.ok
