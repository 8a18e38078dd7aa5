use Rattle.std.proofs.Common.{◌≡◌, ◌+◌, ap, subst, ◌∙◌, arith}
use Rattle.std.proofs.lemmas.Bool.{OnTrue_at, lt-ltb}
use Rattle.block_pool.specs.Chains.{at, entries_of}
use Rattle.block_pool.specs.Pool.{Keeps, put_block}
use Rattle.staged_file.proofs.Positions.{none-among}
use Rattle.staged_file.proofs.Chains.{chain-rises}
use Rattle.staged_file.proofs.Leaves.{IsAdded, few_touched, added-step, added-touched, added-bytes}
use Rattle.staged_file.specs.contracts.staged.Staged.{the_view}
use Rattle.staged_file.proofs.staged.Staged.add_block.Goals as goal

pub insert_sorted-requires-clause-absent : goal.insert_sorted-requires-clause-absent
insert_sorted-requires-clause-absent c =
    ap (λ v. at (entries_of c.args.pool.now.chains v.chain) c.args.block) c.self.view_is ∙ none-among (entries_of c.args.pool.now.chains c.args.self.now.chain) c.args.block c.requires.absent

pub overflow_add-self : goal.overflow_add-self
overflow_add-self c =
    let few =
    few_touched (entries_of c.args.pool.now.chains c.args.self.now.chain) c.args.self.now.size (chain-rises c.args.pool.now c.args.self.now.chain c.insert_sorted.ensures.valid)
    c.requires.staged.inside in
    let count = c.requires.staged.count in
    let same = ap (λ v. v.touched) c.self.view_is in
    let most = c.requires.staged.most.1 in
    omega arith

-- the facts of the call
added : (c : goal.After-self-1)
    → IsAdded c.args.pool.now c.insert_sorted.new.self c.args.self.now (the_view (record c.self.inside { chain = c.insert_sorted.new.chain; touched = c.self.inside.touched + 1 })) c.args.block
added c =
    let ok = OnTrue_at (c.insert_sorted.ensures.full ∙ lt-ltb 0 c.args.pool.now.free c.requires.free) c.insert_sorted.ensures.ok in
    record {
      staged = c.requires.staged;
      valid = c.insert_sorted.ensures.valid;
      absent = c.requires.absent;
      inside = c.requires.inside;
      free = c.requires.free;
      is = subst (λ h. c.insert_sorted.new.self ≡ put_block c.args.pool.now h c.insert_sorted.new.chain c.args.block) (ap (λ v. v.chain) c.self.view_is) ok.0;
      some = ok.1;
      kept = subst (λ h. Keeps c.args.pool.now.chains c.insert_sorted.new.self.chains h c.insert_sorted.new.chain) (ap (λ v. v.chain) c.self.view_is) c.insert_sorted.ensures.kept;
      same = λ i. record
          { chain = c.insert_sorted.new.chain; base = (c.self.view_is i).base; size = (c.self.view_is i).size; limit = (c.self.view_is i).limit; touched = (c.self.view_is i).touched + 1 };
    }

pub returns-clause-step : goal.returns-clause-step
returns-clause-step c =
    added-step c.args.pool.now c.insert_sorted.new.self c.args.self.now
    (the_view (record c.self.inside { chain = c.insert_sorted.new.chain; touched = c.self.inside.touched + 1 })) c.args.block (added c)

pub returns-clause-touched : goal.returns-clause-touched
returns-clause-touched c =
    added-touched c.args.pool.now c.insert_sorted.new.self c.args.self.now
    (the_view (record c.self.inside { chain = c.insert_sorted.new.chain; touched = c.self.inside.touched + 1 })) c.args.block (added c)

pub returns-clause-bytes : goal.returns-clause-bytes
returns-clause-bytes c =
    added-bytes c.args.pool.now c.insert_sorted.new.self c.args.self.now
    (the_view (record c.self.inside { chain = c.insert_sorted.new.chain; touched = c.self.inside.touched + 1 })) c.args.block (added c)
