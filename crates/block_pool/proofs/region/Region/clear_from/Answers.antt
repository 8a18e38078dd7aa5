use Rattle.std.proofs.Common.{ℕ, ◌+◌, ◌-◌, ◌≤◌, sym, ◌∙◌, length, arith}
use Rattle.staging_spec.specs.Content.{zeros}
use Rattle.block_pool.proofs.Parts.{length-zeros}
use Rattle.block_pool.proofs.RegionLaws.{fits_in, part_written}
use Rattle.block_pool.proofs.region.Region.clear_from.Goals as goal

pub overflow_mul-block : goal.overflow_mul-block
overflow_mul-block c =
    let len = c.self.inside.bytes.ok in
    let small = c.self.inside.bytes.small in
    let fits =
    fits_in 65536 c.self.inside.used c.self.inside.limit c.self.inside.bytes.items (sym len.0 ∙ c.self.invariant.0) c.args.self.now c.self.view_is c.args.block c.args.first 0 c.requires.block
    (let le = c.requires.range in omega arith) in
    omega arith

pub overflow_add-block : goal.overflow_add-block
overflow_add-block c =
    let len = c.self.inside.bytes.ok in
    let small = c.self.inside.bytes.small in
    let fits =
    fits_in 65536 c.self.inside.used c.self.inside.limit c.self.inside.bytes.items (sym len.0 ∙ c.self.invariant.0) c.args.self.now c.self.view_is c.args.block c.args.first 0 c.requires.block
    (let le = c.requires.range in omega arith) in
    omega arith

pub clear_at-requires : goal.clear_at-requires
clear_at-requires c =
    let len = c.self.inside.bytes.ok in
    let fits =
    fits_in 65536 c.self.inside.used c.self.inside.limit c.self.inside.bytes.items (sym len.0 ∙ c.self.invariant.0) c.args.self.now c.self.view_is c.args.block c.args.first (65536 - c.args.first)
    c.requires.block (let le = c.requires.range in omega arith) in
    omega arith

pub returns : goal.returns
returns c =
    let len = c.self.inside.bytes.ok in
    part_written 65536 c.self.inside.used c.self.inside.limit c.self.inside.bytes.items (sym len.0 ∙ c.self.invariant.0) c.args.self.now c.self.view_is c.args.block c.args.first
    (zeros (65536 - c.args.first)) c.clear_at.new.bytes.items c.requires.block
    (let le = c.requires.range in let n = length-zeros (65536 - c.args.first) in omega arith) c.clear_at.ensures.bytes
