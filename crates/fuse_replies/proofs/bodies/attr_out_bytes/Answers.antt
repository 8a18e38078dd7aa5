-- Each write leaves the text up to its place; after the last the text is the whole array.
use Rattle.std.proofs.Common.{arith}
use Rattle.fuse_replies.specs.Layouts.{attr_out_text}
use Rattle.fuse_replies.proofs.FieldLemmas.{fills}
use Rattle.fuse_replies.proofs.bodies.attr_out_bytes.Goals as goal

pub returns : goal.returns
unfolding attr_out_text
returns c = fills 104 c.write_attr.new.out _ (omega arith) cc
