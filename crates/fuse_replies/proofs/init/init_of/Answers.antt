-- The numbers that are read are those of each text that the bytes are.
use Rattle.std.proofs.Common.{◌≡◌, ℕ, List, [], ◌++◌, ap, length, refl, sym, ◌∙◌, arith}
use Rattle.std.proofs.lemmas.List.{append-nil, length-append, nil_from_length}
use Rattle.fuse_head.specs.Little.{u32_at}
use Rattle.fuse_replies.specs.Reading.{numbers_text, AreNumbers}
use Rattle.fuse_replies.proofs.ReadLemmas.{init_at-text, reads_none, reads_other, reads_some}
use Rattle.fuse_replies.proofs.TextLemmas.{length-init_text}
use Rattle.fuse_replies.proofs.init.init_of.Goals as goal

pub returns-then-body-ne64 : goal.returns-then-body-ne64
returns-then-body-ne64 c = reads_none numbers_text AreNumbers c.args.body.now (λ x fits is. omega (arith, ap length is, length-init_text x.0 x.1))

numbers_at : List ℕ → ℕ × ℕ
numbers_at bytes = (u32_at bytes 8, u32_at bytes 12)

pub returns-in_err-after_init : goal.returns-in_err-after_init
unfolding numbers_at
returns-in_err-after_init c =
    let x : ℕ × ℕ = (c.u32_at-readahead.result, c.u32_at-flags.result) in
    let x-is : x ≡ numbers_at c.args.body.now = rw (c.u32_at-readahead.ensures, c.u32_at-flags.ensures) refl in
    rw c.from_residual.ensures (reads_other numbers_text AreNumbers numbers_at c.args.body.now x init_at-text x-is (λ is. c.in_err-after_init.ensures [] (is ∙ sym (append-nil (numbers_text x)))))

pub returns : goal.returns
unfolding numbers_at
returns c =
    let x : ℕ × ℕ = (c.u32_at-readahead.result, c.u32_at-flags.result) in
    let x-is : x ≡ numbers_at c.args.body.now = rw (c.u32_at-readahead.ensures, c.u32_at-flags.ensures) refl in
    let is : c.args.body.now ≡ numbers_text x ++ c.in_ok-after_init.field-0.now = c.in_ok-after_init.ensures in
    let none : c.in_ok-after_init.field-0.now ≡ [] = nil_from_length c.in_ok-after_init.field-0.now (omega (arith, ap length is, length-append (numbers_text x) c.in_ok-after_init.field-0.now, length-init_text x.0 x.1, c.if-body-ne64.false)) in
    reads_some numbers_text AreNumbers numbers_at c.args.body.now x init_at-text x-is (c.u32_at-readahead.type_inv, c.u32_at-flags.type_inv) (is ∙ ap (λ (xs : List ℕ). numbers_text x ++ xs) none ∙ append-nil (numbers_text x))
