use Rattle.std.proofs.Common.{◌≡◌, ◌-◌, ap, subst, ◌∙◌, length, arith}
use Rattle.block_pool.specs.Chains.{entries_of}
use Rattle.block_pool.specs.Pool.{Keeps, cut_chain, cut_head}
use Rattle.staged_file.proofs.Chains.{length-below}
use Rattle.staged_file.proofs.Shortening.{IsCut, cut-step, cut-touched, cut-bytes}
use Rattle.staged_file.specs.contracts.staged.Staged.{the_view}
use Rattle.staged_file.proofs.staged.Staged.cut.Goals as goal

pub overflow_sub-self : goal.overflow_sub-self
overflow_sub-self c =
    let less = c.free.ensures.count ∙ ap (λ p. p.free) c.cut_from.ensures.ok in
    let before = c.free-before.ensures.count in
    let count = c.requires.staged.count in
    let same = ap (λ v. v.touched) c.self.view_is in
    let all = ap (λ v. length (entries_of c.args.pool.now.chains v.chain)) c.self.view_is in
    let fewer = length-below (entries_of c.args.pool.now.chains c.self.inside.chain) c.div_ceil.result in
    omega arith

-- the facts of the call
cut : (c : goal.After-self-1)
    → IsCut c.args.pool.now c.cut_from.new.self c.args.self.now
    (the_view (record c.self.inside { chain = c.cut_from.new.chain; touched = c.self.inside.touched - (c.free.result - c.free-before.result) })) c.div_ceil.result c.args.len
cut c = record {
  staged = c.requires.staged;
  is = subst (λ h. c.cut_from.new.self ≡ cut_chain c.args.pool.now h c.cut_from.new.chain c.div_ceil.result) (ap (λ v. v.chain) c.self.view_is) c.cut_from.ensures.ok;
  head = c.cut_from.ensures.head ∙ ap (λ v. cut_head c.args.pool.now.chains v.chain c.div_ceil.result) c.self.view_is;
  kept = subst (λ h. Keeps c.args.pool.now.chains c.cut_from.new.self.chains h c.cut_from.new.chain) (ap (λ v. v.chain) c.self.view_is) c.cut_from.ensures.kept;
  same = λ i. record {
    chain =
        c.cut_from.new.chain;
    base =
        (c.self.view_is i).base;
    size = (c.self.view_is i).size;
    limit = (c.self.view_is i).limit;
    touched = (c.self.view_is i).touched - (c.free.ensures.count i - c.free-before.ensures.count i);
  };
  round = ((let e = c.div_ceil.ensures in omega arith), (let e = c.div_ceil.ensures in omega arith));
}

pub returns-clause-step : goal.returns-clause-step
returns-clause-step c =
    cut-step c.args.pool.now c.cut_from.new.self c.args.self.now
    (the_view (record c.self.inside { chain = c.cut_from.new.chain; touched = c.self.inside.touched - (c.free.result - c.free-before.result) })) c.div_ceil.result c.args.len (cut c)

pub returns-clause-touched : goal.returns-clause-touched
returns-clause-touched c =
    cut-touched c.args.pool.now c.cut_from.new.self c.args.self.now
    (the_view (record c.self.inside { chain = c.cut_from.new.chain; touched = c.self.inside.touched - (c.free.result - c.free-before.result) })) c.div_ceil.result c.args.len (cut c)

pub returns-clause-bytes : goal.returns-clause-bytes
returns-clause-bytes c =
    cut-bytes c.args.pool.now c.cut_from.new.self c.args.self.now
    (the_view (record c.self.inside { chain = c.cut_from.new.chain; touched = c.self.inside.touched - (c.free.result - c.free-before.result) })) c.div_ceil.result c.args.len (cut c)
