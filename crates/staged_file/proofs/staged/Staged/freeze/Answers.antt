-- The copy is whole.
use Rattle.std.proofs.Common.{◌≡◌, length, sym, ◌∙◌, arith}
use Rattle.staged_file.proofs.Copies.{copied-content, copied-wanted}
use Rattle.staged_file.proofs.staged.Staged.freeze.Goals as goal

pub returns-clause-ok : goal.returns-clause-ok
returns-clause-ok c source =
    let bytes = c.copy_blocks.new.bytes in
    copied-content c.args.pool.now.chains c.args.self.now c.requires bytes.items c.copy_blocks.new.touched.items c.div_ceil-blocks.result c.limit-limit.result c.copy_blocks.ensures.copies
    (let e = c.div_ceil-blocks.ensures in let l = c.len.ensures in omega arith)
    (let n = bytes.ok.0 in let m = c.copy_blocks.ensures.len in omega arith) c.limit-limit.ensures source

pub returns-clause-wanted : goal.returns-clause-wanted
returns-clause-wanted c =
    let bytes = c.copy_blocks.new.bytes in
    copied-wanted c.args.pool.now.chains c.args.self.now c.requires bytes.items c.copy_blocks.new.touched.items c.div_ceil-blocks.result c.limit-limit.result c.copy_blocks.ensures.copies
    (let e = c.div_ceil-blocks.ensures in let l = c.len.ensures in omega arith)
    (let n = bytes.ok.0 in let m = c.copy_blocks.ensures.len in omega arith) c.limit-limit.ensures
