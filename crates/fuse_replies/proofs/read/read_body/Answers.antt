-- Each kind is read by the reader of its text.
use Rattle.std.proofs.Common.{◌<◌, ◌^◌, ℕ, List, ◌==◌, ◌∙◌, ap, sym, length}
use Rattle.std.proofs.lemmas.Bool.{eqb-true}
use Rattle.std.proofs.lemmas.List.{nil_from_length}
use Rattle.std.proofs.lemmas.Result.{err_from_is_err_and}
use Rattle.fuse_replies.specs.declared.reply.Reply.TheVariants.{Entry, Attr, Created, Opened, Content, Target, Written}
use Rattle.fuse_replies.specs.declared.reply.ReplyKind.TheVariants as kinds
use Rattle.fuse_replies.specs.Layouts.{attr_out_text, entry_text, open_text, written_text}
use Rattle.fuse_replies.specs.Reading.{created_text, IsCreated}
use Rattle.fuse_replies.specs.Replies.{IsAttr, IsEntry}
use Rattle.fuse_replies.proofs.BodyLemmas.{attr_carries, content_carries, created_carries, entry_carries, opened_carries, reads_bytes, reads_dirents, reads_empty, reads_no_dirents, reads_nothing, reads_stat, reads_value, target_carries, written_carries}
use Rattle.fuse_replies.proofs.read.read_body.Goals as goal

pub returns-in_err-ok_or-in-Entry-clause-read : goal.returns-in_err-ok_or-in-Entry-clause-read
returns-in_err-ok_or-in-Entry-clause-read c =
    let p = err_from_is_err_and c.from_residual.result c.from_residual.ensures.1 in
    rw (c.in-Entry.is, p.1) (reads_nothing kinds.Entry Entry entry_text IsEntry entry_carries c.args.body.now c.entry_of.result p.0 c.entry_of.ensures c.in_err-ok_or-in-Entry.ensures.ok_part)

pub returns-in_ok-ok_or-in-Entry-clause-read : goal.returns-in_ok-ok_or-in-Entry-clause-read
returns-in_ok-ok_or-in-Entry-clause-read c =
    rw c.in-Entry.is (reads_value kinds.Entry Entry entry_text IsEntry entry_carries c.args.body.now c.entry_of.result c.in_ok-ok_or-in-Entry.field-0 c.entry_of.ensures c.in_ok-ok_or-in-Entry.ensures.ok_part)

pub returns-in_err-ok_or-in-Attr-clause-read : goal.returns-in_err-ok_or-in-Attr-clause-read
returns-in_err-ok_or-in-Attr-clause-read c =
    let p = err_from_is_err_and c.from_residual-in_err-ok_or-in-Attr.result c.from_residual-in_err-ok_or-in-Attr.ensures.1 in
    rw (c.in-Attr.is, p.1) (reads_nothing kinds.Attr Attr attr_out_text IsAttr attr_carries c.args.body.now c.attr_out_of.result p.0 c.attr_out_of.ensures c.in_err-ok_or-in-Attr.ensures.ok_part)

pub returns-in_ok-ok_or-in-Attr-clause-read : goal.returns-in_ok-ok_or-in-Attr-clause-read
returns-in_ok-ok_or-in-Attr-clause-read c =
    rw c.in-Attr.is (reads_value kinds.Attr Attr attr_out_text IsAttr attr_carries c.args.body.now c.attr_out_of.result c.in_ok-ok_or-in-Attr.field-0 c.attr_out_of.ensures c.in_ok-ok_or-in-Attr.ensures.ok_part)

pub returns-in_err-entry-in-Created-clause-read : goal.returns-in_err-entry-in-Created-clause-read
returns-in_err-entry-in-Created-clause-read c =
    let p = err_from_is_err_and c.from_residual-in_err-entry-in-Created.result c.from_residual-in_err-entry-in-Created.ensures.1 in
    rw (c.in-Created.is, p.1) (reads_nothing kinds.Created (λ x. Created x.0 x.1) created_text IsCreated created_carries c.args.body.now c.created_of.result p.0 c.created_of.ensures c.in_err-entry-in-Created.ensures.ok_part)

pub returns-in_ok-entry-in-Created-clause-read : goal.returns-in_ok-entry-in-Created-clause-read
returns-in_ok-entry-in-Created-clause-read c =
    rw c.in-Created.is (reads_value kinds.Created (λ x. Created x.0 x.1) created_text IsCreated created_carries c.args.body.now c.created_of.result (c.in_ok-entry-in-Created.entry, c.in_ok-entry-in-Created.fh) c.created_of.ensures c.in_ok-entry-in-Created.ensures.ok_part)

pub returns-in_err-ok_or-in-Opened-clause-read : goal.returns-in_err-ok_or-in-Opened-clause-read
returns-in_err-ok_or-in-Opened-clause-read c =
    let p = err_from_is_err_and c.from_residual-in_err-ok_or-in-Opened.result c.from_residual-in_err-ok_or-in-Opened.ensures.1 in
    rw (c.in-Opened.is, p.1) (reads_nothing kinds.Opened Opened open_text (λ fh. fh < 2 ^ 64) opened_carries c.args.body.now c.open_of.result p.0 c.open_of.ensures c.in_err-ok_or-in-Opened.ensures.ok_part)

pub returns-in_ok-ok_or-in-Opened-clause-read : goal.returns-in_ok-ok_or-in-Opened-clause-read
returns-in_ok-ok_or-in-Opened-clause-read c =
    rw c.in-Opened.is (reads_value kinds.Opened Opened open_text (λ fh. fh < 2 ^ 64) opened_carries c.args.body.now c.open_of.result c.in_ok-ok_or-in-Opened.field-0 c.open_of.ensures c.in_ok-ok_or-in-Opened.ensures.ok_part)

pub returns-in_err-ok_or-in-Written-clause-read : goal.returns-in_err-ok_or-in-Written-clause-read
returns-in_err-ok_or-in-Written-clause-read c =
    let p = err_from_is_err_and c.from_residual-in_err-ok_or-in-Written.result c.from_residual-in_err-ok_or-in-Written.ensures.1 in
    rw (c.in-Written.is, p.1) (reads_nothing kinds.Written Written written_text (λ size. size < 2 ^ 32) written_carries c.args.body.now c.written_of.result p.0 c.written_of.ensures c.in_err-ok_or-in-Written.ensures.ok_part)

pub returns-in_ok-ok_or-in-Written-clause-read : goal.returns-in_ok-ok_or-in-Written-clause-read
returns-in_ok-ok_or-in-Written-clause-read c =
    rw c.in-Written.is (reads_value kinds.Written Written written_text (λ size. size < 2 ^ 32) written_carries c.args.body.now c.written_of.result c.in_ok-ok_or-in-Written.field-0 c.written_of.ensures c.in_ok-ok_or-in-Written.ensures.ok_part)

pub returns-in_ok-of-in-Content-clause-read : goal.returns-in_ok-of-in-Content-clause-read
returns-in_ok-of-in-Content-clause-read c =
    rw c.in-Content.is (reads_bytes kinds.Content Content content_carries c.args.body.now c.in_ok-of-in-Content.field-0 c.requires c.in_ok-of-in-Content.ensures.ok)

pub returns-in_ok-of-in-Target-clause-read : goal.returns-in_ok-of-in-Target-clause-read
returns-in_ok-of-in-Target-clause-read c =
    rw c.in-Target.is (reads_bytes kinds.Target Target target_carries c.args.body.now c.in_ok-of-in-Target.field-0 c.requires c.in_ok-of-in-Target.ensures.ok)

pub returns-in_err-dirents_of-in-Dirents-clause-read : goal.returns-in_err-dirents_of-in-Dirents-clause-read
returns-in_err-dirents_of-in-Dirents-clause-read c =
    let p = err_from_is_err_and c.from_residual-in_err-dirents_of-in-Dirents.result c.from_residual-in_err-dirents_of-in-Dirents.ensures.1 in
    rw (c.in-Dirents.is, p.1, p.2) (reads_no_dirents c.args.body.now c.in_err-dirents_of-in-Dirents.field-0.0 c.in_err-dirents_of-in-Dirents.ensures)

pub returns-in_ok-dirents_of-in-Dirents-clause-read : goal.returns-in_ok-dirents_of-in-Dirents-clause-read
returns-in_ok-dirents_of-in-Dirents-clause-read c =
    rw c.in-Dirents.is (reads_dirents c.from_vec.result c.in_ok-dirents_of-in-Dirents.field-0.items c.args.body.now c.from_vec.ensures.items c.requires c.in_ok-dirents_of-in-Dirents.ensures.0 c.in_ok-dirents_of-in-Dirents.ensures.1)

pub returns-in-Stat-clause-read : goal.returns-in-Stat-clause-read
returns-in-Stat-clause-read c =
    rw (c.in-Stat.is, c.fixed.ensures) (reads_stat c.args.body.now c.is_statfs.result c.is_statfs.ensures.0 c.is_statfs.ensures.1)

pub returns-in-Empty-clause-read : goal.returns-in-Empty-clause-read
returns-in-Empty-clause-read c =
    rw (c.in-Empty.is, c.fixed-in-Empty.ensures) (reads_empty c.args.body.now c.is_empty.result
    (λ empty. nil_from_length c.args.body.now (eqb-true (length c.args.body.now) 0 (sym c.is_empty.ensures ∙ empty)))
    (λ none. c.is_empty.ensures ∙ ap (λ (xs : List ℕ). length xs == 0) none))
