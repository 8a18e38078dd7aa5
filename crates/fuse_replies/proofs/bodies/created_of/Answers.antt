-- Both parts are read, or the bytes are the text of nothing.
use Rattle.std.proofs.Common.{◌<◌, ◌^◌, ap, length, arith}
use Rattle.std.proofs.lemmas.List.{length-append}
use Rattle.fuse_replies.specs.Layouts.{entry_text, open_text}
use Rattle.fuse_replies.specs.Reading.{created_text, IsCreated}
use Rattle.fuse_replies.specs.Replies.{IsEntry}
use Rattle.fuse_replies.proofs.ReadLemmas.{created_joined, reads_both, reads_first_none, reads_none, reads_second_none}
use Rattle.fuse_replies.proofs.TextLemmas.{length-entry_text, length-open_text}
use Rattle.fuse_replies.proofs.bodies.created_of.Goals as goal

pub returns-then-body-ne144 : goal.returns-then-body-ne144
returns-then-body-ne144 c =
    reads_none created_text IsCreated c.args.body.now (λ e e_fits is. omega (arith, ap length is, length-entry_text e.0, length-open_text e.1, length-append (entry_text e.0) (open_text e.1)))

pub returns-in_err-entry : goal.returns-in_err-entry
returns-in_err-entry c =
    rw c.from_residual.ensures (reads_first_none created_text IsCreated entry_text IsEntry open_text (λ fh. fh < 2 ^ 64) (λ x. x.0) (λ x. x.1) 128 created_joined c.args.body.now c.split_at.result.0.now c.split_at.ensures.front c.in_err-entry.ensures)

pub returns-in_err-fh : goal.returns-in_err-fh
returns-in_err-fh c =
    rw c.from_residual-in_err-fh.ensures (reads_second_none created_text IsCreated entry_text IsEntry open_text (λ fh. fh < 2 ^ 64) (λ x. x.0) (λ x. x.1) 128 created_joined c.args.body.now c.split_at.result.1.now c.split_at.ensures.back c.in_err-fh.ensures)

pub returns : goal.returns
returns c =
    reads_both created_text IsCreated entry_text IsEntry open_text (λ fh. fh < 2 ^ 64) (λ x. x.0) (λ x. x.1) 128 created_joined c.args.body.now c.split_at.result.0.now c.split_at.result.1.now c.split_at.ensures.front c.split_at.ensures.back (c.in_ok-entry.entry, c.in_ok-fh.fh) c.in_ok-entry.ensures c.in_ok-fh.ensures
