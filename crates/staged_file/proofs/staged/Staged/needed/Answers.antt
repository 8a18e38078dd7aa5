use Rattle.std.proofs.Common.{◌≡◌, ℕ, ◌+◌, ◌-◌, ◌/◌, Bool, true, false, cond, refl, ◌∙◌, sym, arith}
use Rattle.staged_file.specs.Staged.{touched_of}
use Rattle.staged_file.proofs.Positions.{new_ones, new-few, new-counted}
use Rattle.staged_file.proofs.staged.Staged.needed.Goals as goal
use Rattle.staged_file.proofs.staged.Staged.needed.Goals.{then-not-holds, else-not-holds}

pub overflow_add-needed : goal.overflow_add-needed
overflow_add-needed c =
    let few = new-few (touched_of c.args.pool.now.chains c.args.self.now) (c.args.first / 65536) (c.loop-block.block - c.args.first / 65536) in
    let i = c.loop-block.invariant in
    let lt = c.loop-block-test.true in
    let range = c.requires.range in
    omega arith

-- the count after a block that is touched or not
counted : (c : goal.Joined-not-holds) (n : ℕ) (t : Bool) → c.if-not-holds.needed ≡ n → n ≡ c.loop-block.needed + cond t 0 1 → c.holds.result ≡ t
    → c.if-not-holds.needed ≡ new_ones (touched_of c.args.pool.now.chains c.args.self.now) (c.args.first / 65536) (c.loop-block.block + 1 - c.args.first / 65536)
counted c n t e f r =
    e ∙ f ∙ new-counted (touched_of c.args.pool.now.chains c.args.self.now) (c.args.first / 65536) c.loop-block.block c.loop-block.needed t c.loop-block.auto.block
    (sym c.holds.ensures ∙ r) c.loop-block.invariant

pub loop-block-preserved : goal.loop-block-preserved
loop-block-preserved c = elim c.if-not-holds.branch [
  | then-not-holds w ↦ counted c (c.loop-block.needed + 1) false w.needed-is refl w.if-not-holds.true
  | else-not-holds w ↦ counted c c.loop-block.needed true w.needed-is (omega arith) w.if-not-holds.false
]
