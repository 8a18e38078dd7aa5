-- Each write leaves the text up to its place; after the last the text is the whole array.
use Rattle.std.proofs.Common.{arith}
use Rattle.fuse_replies.specs.Layouts.{open_text}
use Rattle.fuse_replies.proofs.FieldLemmas.{fills}
use Rattle.fuse_replies.proofs.bodies.open_bytes.Goals as goal

pub returns : goal.returns
unfolding open_text
returns c = fills 16 c.write_u32s.new.out _ (omega arith) cc
