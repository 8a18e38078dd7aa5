use Rattle.std.proofs.Common.{◌/◌, IsTrue, subst, ◌∙◌, arith}
use Rattle.staging_spec.specs.Blocks.{is_among}
use Rattle.staged_file.specs.Staged.{touched_of}
use Rattle.staged_file.proofs.Touching.{IsStep-then}
use Rattle.staged_file.proofs.Shortening.{among-untouch, shorter-staged, shorter-shows, longer-shows}
use Rattle.staged_file.proofs.staged.Staged.set_len.Goals as goal

pub returns-then-len-clause-ok : goal.returns-then-len-clause-ok
returns-then-len-clause-ok c =
    longer-shows c.args.pool.now c.args.self.now c.reach.new.self c.args.len c.requires.staged (let ge = c.if-len.true in let e = c.len.ensures in omega arith) c.reach.ensures

pub clear_end-requires-clause-inside : goal.clear_end-requires-clause-inside
clear_end-requires-clause-inside c b t = (among-untouch (touched_of c.args.pool.now.chains c.args.self.now) c.args.len b (subst (λ ns. IsTrue (is_among ns b)) c.cut.ensures.touched t)).0

pub returns-clause-ok : goal.returns-clause-ok
returns-clause-ok c =
    shorter-shows c.args.pool.now c.args.self.now c.clear_end.new.pool c.clear_end.new.self c.shorten.new.self c.args.len c.requires.staged
    (let lt = c.if-len.false in let e = c.len.ensures in omega arith)
    (IsStep-then c.cut.ensures.step c.clear_end.ensures.step) (c.clear_end.ensures.touched ∙ c.cut.ensures.touched)
    (λ source i l. c.clear_end.ensures.kept source i l ∙ c.cut.ensures.bytes source i l)
    (λ source i ge t. c.clear_end.ensures.zeros source i ge (subst (λ ns. IsTrue (is_among ns (i / 65536))) c.clear_end.ensures.touched t)) c.shorten.ensures

pub returns-clause-staged : goal.returns-clause-staged
returns-clause-staged c =
    shorter-staged c.args.pool.now c.args.self.now c.clear_end.new.pool c.clear_end.new.self c.shorten.new.self c.args.len c.requires.staged
    (let lt = c.if-len.false in let e = c.len.ensures in omega arith)
    (IsStep-then c.cut.ensures.step c.clear_end.ensures.step) (c.clear_end.ensures.touched ∙ c.cut.ensures.touched)
    (λ source i l. c.clear_end.ensures.kept source i l ∙ c.cut.ensures.bytes source i l)
    (λ source i ge t. c.clear_end.ensures.zeros source i ge (subst (λ ns. IsTrue (is_among ns (i / 65536))) c.clear_end.ensures.touched t)) c.shorten.ensures
