-- Each write leaves the text up to its place; after the last the text is the whole array.
use Rattle.std.proofs.Common.{arith}
use Rattle.fuse_replies.specs.Layouts.{init_text}
use Rattle.fuse_replies.proofs.FieldLemmas.{fills}
use Rattle.fuse_replies.proofs.init.init_bytes.Goals as goal

pub returns : goal.returns
unfolding init_text
returns c = fills 64 c.write_u32s-3.new.out _ (omega arith) cc
