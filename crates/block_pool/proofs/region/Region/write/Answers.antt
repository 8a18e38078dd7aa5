use Rattle.std.proofs.Common.{sym, ◌∙◌, length, arith}
use Rattle.block_pool.proofs.RegionLaws.{fits_in, part_written}
use Rattle.block_pool.proofs.region.Region.write.Goals as goal

pub overflow_mul-block : goal.overflow_mul-block
overflow_mul-block c =
    let len = c.self.inside.bytes.ok in
    let small = c.self.inside.bytes.small in
    let fits =
    fits_in 65536 c.self.inside.used c.self.inside.limit c.self.inside.bytes.items (sym len.0 ∙ c.self.invariant.0) c.args.self.now c.self.view_is c.args.block c.args.first
    (length c.args.from.now) c.requires.block c.requires.range in
    omega arith

pub overflow_add-block : goal.overflow_add-block
overflow_add-block c =
    let len = c.self.inside.bytes.ok in
    let small = c.self.inside.bytes.small in
    let fits =
    fits_in 65536 c.self.inside.used c.self.inside.limit c.self.inside.bytes.items (sym len.0 ∙ c.self.invariant.0) c.args.self.now c.self.view_is c.args.block c.args.first
    (length c.args.from.now) c.requires.block c.requires.range in
    omega arith

pub write_at-requires : goal.write_at-requires
write_at-requires c =
    let len = c.self.inside.bytes.ok in
    let fits =
    fits_in 65536 c.self.inside.used c.self.inside.limit c.self.inside.bytes.items (sym len.0 ∙ c.self.invariant.0) c.args.self.now c.self.view_is c.args.block c.args.first
    (length c.args.from.now) c.requires.block c.requires.range in
    omega arith

pub returns : goal.returns
returns c =
    let len = c.self.inside.bytes.ok in
    part_written 65536 c.self.inside.used c.self.inside.limit c.self.inside.bytes.items (sym len.0 ∙ c.self.invariant.0) c.args.self.now c.self.view_is c.args.block c.args.first c.args.from.now
    c.write_at.new.bytes.items c.requires.block c.requires.range c.write_at.ensures.bytes
