-- The head is read first; then an error, or the body of a reply of the kind.
use Rattle.std.proofs.Common.{◌≡◌, ◌+◌, ◌∙◌, ◌++◌, ◌==◌, ℕ, true, List, [], ap, length, sym, arith}
use Rattle.std.proofs.lemmas.Bool.{eqb-true}
use Rattle.std.proofs.lemmas.List.{nil_from_length}
use Rattle.std.proofs.lemmas.Result.{err_from_is_err_and}
use Rattle.fuse_head.specs.Head.{out_head}
use Rattle.fuse_replies.specs.Replies.{without_spare}
use Rattle.fuse_replies.proofs.HeadReads.{body_of_frame, error_again, error_frame, errno_small, frame_of_body, no_frame, pos_from, same_head}
use Rattle.fuse_replies.proofs.read.read_reply.Goals as goal

pub returns-in_default-clause-again : goal.returns-in_default-clause-again
returns-in_default-clause-again c = λ unique reply frame. absurd (no_frame c.args.kind unique reply c.args.bytes.now c.in_default.ensures frame)

pub returns-in_default-clause-malformed : goal.returns-in_default-clause-malformed
returns-in_default-clause-malformed c = λ malformed unique reply frame. no_frame c.args.kind unique reply c.args.bytes.now c.in_default.ensures frame

pub returns-then-errno-gt-LAST_ERRNO-clause-again : goal.returns-then-errno-gt-LAST_ERRNO-clause-again
returns-then-errno-gt-LAST_ERRNO-clause-again c = λ unique reply frame.
    let same = same_head c.args.kind c.in-Some.errno c.in-Some.unique unique c.in-Some.body.now c.args.bytes.now reply c.in-Some.ensures.0 c.in-Some.ensures.1 c.in-Some.ensures.3 frame in
    absurd (omega (arith, same.errno_is, errno_small reply frame.reply_fits.sendable, c.if-errno-gt-LAST_ERRNO.true))

pub returns-then-errno-gt-LAST_ERRNO-clause-malformed : goal.returns-then-errno-gt-LAST_ERRNO-clause-malformed
returns-then-errno-gt-LAST_ERRNO-clause-malformed c = λ malformed unique reply frame.
    let same = same_head c.args.kind c.in-Some.errno c.in-Some.unique unique c.in-Some.body.now c.args.bytes.now reply c.in-Some.ensures.0 c.in-Some.ensures.1 c.in-Some.ensures.3 frame in
    omega (arith, same.errno_is, errno_small reply frame.reply_fits.sendable, c.if-errno-gt-LAST_ERRNO.true)

pub returns-then-errno-eq0-clause-ok : goal.returns-then-errno-eq0-clause-ok
returns-then-errno-eq0-clause-ok c =
    let is = c.in-Some.ensures.3 ∙ ap (λ (errno : ℕ). out_head (16 + length c.in-Some.body.now) errno c.in-Some.unique ++ c.in-Some.body.now) c.if-errno-eq0.true in
    frame_of_body c.args.kind c.in-Some.unique c.in-Some.body.now c.args.bytes.now (without_spare c.in_ok-reply.reply) c.in-Some.ensures.1 is c.in_ok-reply.ensures.read.found

pub returns-then-errno-eq0-clause-again : goal.returns-then-errno-eq0-clause-again
returns-then-errno-eq0-clause-again c = λ unique reply frame.
    let is = c.in-Some.ensures.3 ∙ ap (λ (errno : ℕ). out_head (16 + length c.in-Some.body.now) errno c.in-Some.unique ++ c.in-Some.body.now) c.if-errno-eq0.true in
    let same = same_head c.args.kind c.in-Some.errno c.in-Some.unique unique c.in-Some.body.now c.args.bytes.now reply c.in-Some.ensures.0 c.in-Some.ensures.1 c.in-Some.ensures.3 frame in
    (same.unique_is, c.in_ok-reply.ensures.read.again reply (body_of_frame c.args.kind c.in-Some.unique unique c.in-Some.body.now c.args.bytes.now reply c.in-Some.ensures.1 is frame))

pub returns-in_err-reply-clause-again : goal.returns-in_err-reply-clause-again
returns-in_err-reply-clause-again c =
    let is = c.in-Some.ensures.3 ∙ ap (λ (errno : ℕ). out_head (16 + length c.in-Some.body.now) errno c.in-Some.unique ++ c.in-Some.body.now) c.if-errno-eq0.true in
    let p = err_from_is_err_and c.from_residual.result c.from_residual.ensures.1 in
    rw (p.1, p.2) (λ unique reply frame. c.in_err-reply.ensures.read.again reply (body_of_frame c.args.kind c.in-Some.unique unique c.in-Some.body.now c.args.bytes.now reply c.in-Some.ensures.1 is frame))

pub returns-in_err-reply-clause-malformed : goal.returns-in_err-reply-clause-malformed
returns-in_err-reply-clause-malformed c = λ malformed unique reply frame.
    let is = c.in-Some.ensures.3 ∙ ap (λ (errno : ℕ). out_head (16 + length c.in-Some.body.now) errno c.in-Some.unique ++ c.in-Some.body.now) c.if-errno-eq0.true in
    let p = err_from_is_err_and c.from_residual.result c.from_residual.ensures.1 in
    let memory = c.in_err-reply.ensures.read.again reply (body_of_frame c.args.kind c.in-Some.unique unique c.in-Some.body.now c.args.bytes.now reply c.in-Some.ensures.1 is frame) in
    cc (malformed, p.1, p.2, memory)

pub returns-then-not-is_empty-clause-again : goal.returns-then-not-is_empty-clause-again
returns-then-not-is_empty-clause-again c = λ unique reply frame.
    let of = error_again c.args.kind c.in-Some.errno c.in-Some.unique unique c.in-Some.body.now c.args.bytes.now reply (pos_from c.in-Some.errno c.if-errno-eq0.false) c.in-Some.ensures.0 c.in-Some.ensures.1 c.in-Some.ensures.3 frame in
    let empty : length c.in-Some.body.now == 0 ≡ true = ap (λ (xs : List ℕ). length xs == 0) of.2 in
    absurd (cc (empty, c.if-not-is_empty.ensures))

pub returns-then-not-is_empty-clause-malformed : goal.returns-then-not-is_empty-clause-malformed
returns-then-not-is_empty-clause-malformed c = λ malformed unique reply frame.
    let of = error_again c.args.kind c.in-Some.errno c.in-Some.unique unique c.in-Some.body.now c.args.bytes.now reply (pos_from c.in-Some.errno c.if-errno-eq0.false) c.in-Some.ensures.0 c.in-Some.ensures.1 c.in-Some.ensures.3 frame in
    let empty : length c.in-Some.body.now == 0 ≡ true = ap (λ (xs : List ℕ). length xs == 0) of.2 in
    cc (empty, c.if-not-is_empty.ensures)

pub returns-clause-ok : goal.returns-clause-ok
returns-clause-ok c =
    let none : c.in-Some.body.now ≡ [] = nil_from_length c.in-Some.body.now (eqb-true (length c.in-Some.body.now) 0 (sym c.if-not-is_empty.ensures)) in
    error_frame c.args.kind c.in-Some.errno c.in-Some.unique c.in-Some.body.now c.args.bytes.now (pos_from c.in-Some.errno c.if-errno-eq0.false) c.if-errno-gt-LAST_ERRNO.false c.in-Some.ensures.1 none c.in-Some.ensures.3

pub returns-clause-again : goal.returns-clause-again
returns-clause-again c = λ unique reply frame.
    let of = error_again c.args.kind c.in-Some.errno c.in-Some.unique unique c.in-Some.body.now c.args.bytes.now reply (pos_from c.in-Some.errno c.if-errno-eq0.false) c.in-Some.ensures.0 c.in-Some.ensures.1 c.in-Some.ensures.3 frame in
    (of.3, ap without_spare (sym of.0))
