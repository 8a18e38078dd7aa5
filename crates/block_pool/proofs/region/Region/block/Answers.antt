-- A block's bytes are its part of the region.
use Rattle.std.proofs.Common.{◌+◌, ◌*◌, ◌≤◌, length, sym, ◌∙◌, arith}
use Rattle.block_pool.proofs.RegionLaws.{fits_in, part_is}
use Rattle.block_pool.proofs.region.Region.block.Goals as goal

pub overflow_mul-block : goal.overflow_mul-block
overflow_mul-block c =
    let len = c.self.inside.bytes.ok in
    let small = c.self.inside.bytes.small in
    let fits =
    fits_in 65536 c.self.inside.used c.self.inside.limit c.self.inside.bytes.items (sym len.0 ∙ c.self.invariant.0) c.args.self.now c.self.view_is c.args.block 0 65536 c.requires (omega arith) in
    omega arith

pub part_of-requires : goal.part_of-requires
part_of-requires c =
    let len = c.self.inside.bytes.ok in
    let fits =
    fits_in 65536 c.self.inside.used c.self.inside.limit c.self.inside.bytes.items (sym len.0 ∙ c.self.invariant.0) c.args.self.now c.self.view_is c.args.block 0 65536 c.requires (omega arith) in
    omega arith

pub returns : goal.returns
returns c =
    let len = c.self.inside.bytes.ok in
    c.part_of.ensures
    ∙ part_is 65536 c.self.inside.used c.self.inside.limit c.self.inside.bytes.items (sym len.0 ∙ c.self.invariant.0) c.args.self.now c.self.view_is c.args.block c.requires
