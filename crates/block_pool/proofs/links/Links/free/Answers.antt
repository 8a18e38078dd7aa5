use Rattle.std.proofs.Common.{◌≡◌, ◌+◌, ◌-◌, subst, arith}
use Rattle.block_pool.specs.Links.{IsValid, free_of}
use Rattle.block_pool.proofs.Held.{IsValid-held, few_freed}
use Rattle.block_pool.proofs.Walks.{length-walk}
use Rattle.block_pool.proofs.links.Links.free.Goals as goal

pub overflow_add-result : goal.overflow_add-result
overflow_add-result c =
    let few = few_freed c.self.inside.nodes.items c.self.inside.first_freed c.self.inside.freed c.self.invariant.linked in
    let len = c.self.inside.nodes.ok in
    let most = c.self.invariant.few in
    let room = c.self.invariant.room in
    let small = c.self.inside.nodes.small in
    omega arith

pub returns-clause-count : goal.returns-clause-count
returns-clause-count c =
    subst (λ v. c.self.inside.freed + (c.self.inside.blocks - c.len.result) ≡ free_of v) c.self.view_is
    (let few = length-walk c.self.inside.nodes.items c.self.inside.freed c.self.inside.first_freed in
    let len = c.self.inside.nodes.ok in
    omega arith)

pub returns-clause-valid : goal.returns-clause-valid
returns-clause-valid c = subst IsValid c.self.view_is (IsValid-held c.self.inside.nodes.items c.self.inside.first_freed c.self.inside.freed c.self.inside.blocks _ c.self.invariant)
