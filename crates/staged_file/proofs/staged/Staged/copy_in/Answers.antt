use Rattle.std.proofs.Common.{◌≡◌, ◌/◌, ◌%◌, is_some, sym, ap, subst, ◌∙◌, arith}
use Rattle.std.proofs.lemmas.List.{get_or_past}
use Rattle.block_pool.specs.Chains.{at, entries_of}
use Rattle.block_pool.specs.Pool.{Keeps, write_block}
use Rattle.staged_file.proofs.Positions.{among-positions}
use Rattle.staged_file.proofs.Leaves.{IsCopied, copied-step, copied-touched, copied-held, copied-bytes}
use Rattle.staged_file.specs.contracts.staged.Staged.{the_view}
use Rattle.staged_file.proofs.staged.Staged.copy_in.Goals as goal

pub write-requires-clause-there : goal.write-requires-clause-there
write-requires-clause-there c =
    ap (λ v. is_some (at (entries_of c.args.pool.now.chains v.chain) (c.args.low / 65536))) c.self.view_is
    ∙ sym (among-positions (entries_of c.args.pool.now.chains c.args.self.now.chain) (c.args.low / 65536)) ∙ c.requires.there

-- the facts of the call
copied : (c : goal.After-write) → IsCopied c.args.pool.now c.write.new.self c.args.self.now (the_view (record c.self.inside { chain = c.write.new.chain })) c.args.low c.args.part.now
copied c = record {
  staged = c.requires.staged;
  valid = c.write.ensures.valid;
  there = c.requires.there;
  block = c.requires.block;
  tail = λ k le. get_or_past c.args.part.now k 0 (let i = c.requires.inside in omega arith);
  is = subst (λ h. c.write.new.self ≡ write_block c.args.pool.now h (c.args.low / 65536) (c.args.low % 65536) c.args.part.now) (ap (λ v. v.chain) c.self.view_is) c.write.ensures.ok;
  kept = subst (λ h. Keeps c.args.pool.now.chains c.write.new.self.chains h c.write.new.chain) (ap (λ v. v.chain) c.self.view_is) c.write.ensures.kept;
  same = (λ i. record { chain = c.write.ensures.head i; base = c.self.inside.base; size = c.self.inside.len; limit = c.self.inside.limit; touched = c.self.inside.touched }) ∙ c.self.view_is;
}

pub returns-clause-step : goal.returns-clause-step
returns-clause-step c = copied-step c.args.pool.now c.write.new.self c.args.self.now (the_view (record c.self.inside { chain = c.write.new.chain })) c.args.low c.args.part.now (copied c)

pub returns-clause-touched : goal.returns-clause-touched
returns-clause-touched c = copied-touched c.args.pool.now c.write.new.self c.args.self.now (the_view (record c.self.inside { chain = c.write.new.chain })) c.args.low c.args.part.now (copied c)

pub returns-clause-held : goal.returns-clause-held
returns-clause-held c = copied-held c.args.pool.now c.write.new.self c.args.self.now (the_view (record c.self.inside { chain = c.write.new.chain })) c.args.low c.args.part.now (copied c)

pub returns-clause-bytes : goal.returns-clause-bytes
returns-clause-bytes c = copied-bytes c.args.pool.now c.write.new.self c.args.self.now (the_view (record c.self.inside { chain = c.write.new.chain })) c.args.low c.args.part.now (copied c)
