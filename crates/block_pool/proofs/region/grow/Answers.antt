use Rattle.std.proofs.Common.{◌+◌, ◌-◌, ◌++◌, ap, ◌∙◌, cond, is_ok, take, replicate, vec_len}
use Rattle.block_pool.proofs.Parts.{grown}
use Rattle.block_pool.proofs.region.grow.Goals as goal

pub returns-clause-bytes : goal.returns-clause-bytes
returns-clause-bytes c =
    let xs = c.args.bytes.now.items in
    let ok = c.args.bytes.now.ok in
    c.resize.ensures.items ∙ ap (λ r. cond (is_ok r) (take (c.len-len.result + c.args.count) xs ++ replicate ((c.len-len.result + c.args.count) - vec_len c.args.bytes.now) 0) xs) c.unwrap.ensures
    ∙ grown xs c.len-len.result (vec_len c.args.bytes.now) c.args.count (c.len-len.ensures ∙ ok.0) ok.0
