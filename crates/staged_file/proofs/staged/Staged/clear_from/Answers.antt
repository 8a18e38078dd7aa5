use Rattle.std.proofs.Common.{◌≡◌, ◌-◌, ◌/◌, ◌%◌, is_some, sym, ap, subst, ◌∙◌}
use Rattle.block_pool.specs.Chains.{at, entries_of}
use Rattle.block_pool.specs.Pool.{Keeps, write_block}
use Rattle.staging_spec.specs.Content.{zeros}
use Rattle.staged_file.proofs.Positions.{among-positions}
use Rattle.staged_file.proofs.Shortening.{IsCleared, cleared-step, cleared-touched, cleared-bytes}
use Rattle.staged_file.specs.contracts.staged.Staged.{the_view}
use Rattle.staged_file.proofs.staged.Staged.clear_from.Goals as goal

pub clear_from-requires-clause-there : goal.clear_from-requires-clause-there
clear_from-requires-clause-there c =
    ap (λ v. is_some (at (entries_of c.args.pool.now.chains v.chain) (c.args.low / 65536))) c.self.view_is
    ∙ sym (among-positions (entries_of c.args.pool.now.chains c.args.self.now.chain) (c.args.low / 65536)) ∙ c.requires.there

-- the facts of the call
cleared : (c : goal.After-clear_from) → IsCleared c.args.pool.now c.clear_from.new.self c.args.self.now (the_view (record c.self.inside { chain = c.clear_from.new.chain })) c.args.low
cleared c = record {
  staged = c.requires.staged;
  valid = c.clear_from.ensures.valid;
  there = c.requires.there;
  is = subst (λ h. c.clear_from.new.self ≡ write_block c.args.pool.now h (c.args.low / 65536) (c.args.low % 65536) (zeros (65536 - c.args.low % 65536))) (ap (λ v. v.chain) c.self.view_is)
      c.clear_from.ensures.ok;
  kept = subst (λ h. Keeps c.args.pool.now.chains c.clear_from.new.self.chains h c.clear_from.new.chain) (ap (λ v. v.chain) c.self.view_is) c.clear_from.ensures.kept;
  same = (λ i. record { chain = c.clear_from.ensures.head i; base = c.self.inside.base; size = c.self.inside.len; limit = c.self.inside.limit; touched = c.self.inside.touched }) ∙ c.self.view_is;
}

pub returns-clause-step : goal.returns-clause-step
returns-clause-step c = cleared-step c.args.pool.now c.clear_from.new.self c.args.self.now (the_view (record c.self.inside { chain = c.clear_from.new.chain })) c.args.low (cleared c)

pub returns-clause-touched : goal.returns-clause-touched
returns-clause-touched c = cleared-touched c.args.pool.now c.clear_from.new.self c.args.self.now (the_view (record c.self.inside { chain = c.clear_from.new.chain })) c.args.low (cleared c)

pub returns-clause-bytes : goal.returns-clause-bytes
returns-clause-bytes c = cleared-bytes c.args.pool.now c.clear_from.new.self c.args.self.now (the_view (record c.self.inside { chain = c.clear_from.new.chain })) c.args.low (cleared c)
