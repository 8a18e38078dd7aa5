-- Each write leaves the text up to its place; after the last the text is the whole array.
use Rattle.std.proofs.Common.{arith}
use Rattle.fuse_replies.specs.Layouts.{entry_text}
use Rattle.fuse_replies.proofs.FieldLemmas.{fills}
use Rattle.fuse_replies.proofs.bodies.entry_bytes.Goals as goal

pub returns : goal.returns
unfolding entry_text
returns c = fills 128 c.write_attr.new.out _ (omega arith) cc
