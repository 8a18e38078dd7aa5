-- Both parts are read, or the bytes are the text of nothing.
use Rattle.std.proofs.Common.{◌<◌, ◌^◌, ap, length, arith}
use Rattle.fuse_replies.specs.Layouts.{attr_text, entry_text}
use Rattle.fuse_replies.specs.Reading.{node_text}
use Rattle.fuse_replies.specs.Replies.{IsAttr, IsEntry}
use Rattle.fuse_replies.proofs.ReadLemmas.{entry_joined, reads_both, reads_first_none, reads_none, reads_second_none}
use Rattle.fuse_replies.proofs.TextLemmas.{length-entry_text}
use Rattle.fuse_replies.proofs.bodies.entry_of.Goals as goal

pub returns-then-body-ne128 : goal.returns-then-body-ne128
returns-then-body-ne128 c = reads_none entry_text IsEntry c.args.body.now (λ e e_fits is. omega (arith, ap length is, length-entry_text e))

pub returns-in_err-node : goal.returns-in_err-node
returns-in_err-node c =
    rw c.from_residual.ensures (reads_first_none entry_text IsEntry node_text (λ node. node < 2 ^ 64) attr_text IsAttr (λ e. e.node) (λ e. e.attr) 40 entry_joined c.args.body.now c.split_at.result.0.now c.split_at.ensures.front c.in_err-node.ensures)

pub returns-in_err-attr : goal.returns-in_err-attr
returns-in_err-attr c =
    rw c.from_residual-in_err-attr.ensures (reads_second_none entry_text IsEntry node_text (λ node. node < 2 ^ 64) attr_text IsAttr (λ e. e.node) (λ e. e.attr) 40 entry_joined c.args.body.now c.split_at.result.1.now c.split_at.ensures.back c.in_err-attr.ensures)

pub returns : goal.returns
returns c =
    reads_both entry_text IsEntry node_text (λ node. node < 2 ^ 64) attr_text IsAttr (λ e. e.node) (λ e. e.attr) 40 entry_joined c.args.body.now c.split_at.result.0.now c.split_at.result.1.now c.split_at.ensures.front c.split_at.ensures.back (record { node = c.in_ok-node.node; attr = c.in_ok-attr.attr }) c.in_ok-node.ensures c.in_ok-attr.ensures
