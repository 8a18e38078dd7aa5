-- Each write leaves the text up to its place and adds a field; after the last the text is the whole array.
use Rattle.std.proofs.Common.{◌≡◌, take, sym, ◌∙◌, arith}
use Rattle.std.proofs.lemmas.List.{take_all}
use Rattle.fuse_head.proofs.in_head.write_in_head.Goals as goal

pub returns : goal.returns
returns c =
    let whole : take 40 c.put_u32-6.new.out ≡ c.put_u32-6.new.out = take_all 40 c.put_u32-6.new.out (omega arith) in
    sym whole ∙ cc
