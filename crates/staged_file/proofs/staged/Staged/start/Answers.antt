use Rattle.std.proofs.Common.{◌≡◌, ℕ, false, List, [], Option, None, Some, IfSome, is_some, nat_lt, refl, sym, ap, subst, ◌∙◌, length}
use Rattle.std.proofs.lemmas.Bool.{false≢true}
use Rattle.block_pool.specs.Chains.{ChainMap}
use Rattle.staging_spec.specs.Staging.{staged}
use Rattle.staged_file.specs.Staged.{staging_of}
use Rattle.staged_file.proofs.Contents.{bytes-source}
use Rattle.staged_file.proofs.staged.Staged.start.Goals as goal

none_of : (o : Option ℕ) → is_some o ≡ false → o ≡ None
none_of None e = refl
none_of (Some n) e = absurd (false≢true (sym e))

-- with no blocks the content is the source's
source_alone : (chains : ChainMap (List ℕ)) (head : Option ℕ) (base : ℕ) (source : List ℕ) → head ≡ None → length source ≡ base
    → staging_of chains (record { chain = head; base = base; size = base; limit = base; touched = 0 }) source ≡ staged source
source_alone chains head base source none e =
    ap (λ h. staging_of chains (record { chain = h; base = base; size = base; limit = base; touched = 0 }) source) none
    ∙ (λ i. record { content = bytes-source source base e i; touched = []; limit = sym e i })

pub returns-clause-ok : goal.returns-clause-ok
returns-clause-ok c source e =
    source_alone c.take.new.self.chains c.unwrap-chain.result c.args.base source
    (none_of c.unwrap-chain.result (subst (λ o. IfSome o (λ chain. is_some chain ≡ nat_lt 0 0)) c.unwrap-chain.ensures c.take.ensures.head)) e
