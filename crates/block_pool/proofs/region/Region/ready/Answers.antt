use Rattle.std.proofs.Common.{◌<◌, sym, ◌∙◌, length, arith}
use Rattle.block_pool.proofs.RegionLaws.{used_is, fits_in, part_added, part_cleared}
use Rattle.block_pool.proofs.region.Region.ready.Goals as goal

pub returns-then-block-self : goal.returns-then-block-self
returns-then-block-self c =
    let len = c.self.inside.bytes.ok in
    part_added 65536 c.self.inside.used c.self.inside.limit c.self.inside.bytes.items (sym len.0 ∙ c.self.invariant.0) c.args.self.now c.self.view_is c.args.block c.grow.new.bytes.items
    c.if-block-self.true c.grow.ensures.bytes

pub clear_at-requires : goal.clear_at-requires
clear_at-requires c =
    let len = c.self.inside.bytes.ok in
    let apart = c.if-block-self.false in
    let lt : c.args.block < length c.args.self.now.blocks =
    (let used =
    used_is 65536 c.self.inside.used c.self.inside.limit c.self.inside.bytes.items (sym len.0 ∙ c.self.invariant.0) c.args.self.now c.self.view_is in let le = c.requires.next in omega arith) in
    let fits = fits_in 65536 c.self.inside.used c.self.inside.limit c.self.inside.bytes.items (sym len.0 ∙ c.self.invariant.0) c.args.self.now c.self.view_is c.args.block 0 65536 lt (omega arith) in
    omega arith

pub returns : goal.returns
returns c =
    let len = c.self.inside.bytes.ok in
    part_cleared 65536 c.self.inside.used c.self.inside.limit c.self.inside.bytes.items (sym len.0 ∙ c.self.invariant.0) c.args.self.now c.self.view_is c.args.block c.clear_at.new.bytes.items
    c.requires.next c.if-block-self.false c.clear_at.ensures.bytes
