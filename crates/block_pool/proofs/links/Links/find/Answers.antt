use Rattle.std.proofs.Common.{ap, subst, ◌∙◌}
use Rattle.block_pool.specs.Chains.{at}
use Rattle.block_pool.proofs.LinkLaws.{whole, entries_are}
use Rattle.block_pool.proofs.Held.{IsValid-held}
use Rattle.block_pool.specs.Links.{IsValid}
use Rattle.block_pool.proofs.links.Links.find.Goals as goal

pub block_at-requires : goal.block_at-requires
block_at-requires c = whole c.self.invariant c.args.self.now c.self.view_is c.args.head c.requires

pub returns-clause-block : goal.returns-clause-block
returns-clause-block c = c.block_at.ensures ∙ ap (λ es. at es c.args.position) (entries_are c.self.invariant c.args.self.now c.self.view_is c.args.head)

pub returns-clause-valid : goal.returns-clause-valid
returns-clause-valid c = subst IsValid c.self.view_is (IsValid-held c.self.inside.nodes.items c.self.inside.first_freed c.self.inside.freed c.self.inside.blocks _ c.self.invariant)
