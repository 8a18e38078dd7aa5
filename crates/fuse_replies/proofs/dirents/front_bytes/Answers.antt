-- Each write leaves the text up to its place; after the last the text is the whole array.
use Rattle.std.proofs.Common.{arith}
use Rattle.fuse_replies.proofs.FieldLemmas.{fills}
use Rattle.fuse_replies.proofs.dirents.front_bytes.Goals as goal

pub returns : goal.returns
returns c = fills 24 c.write_u32s.new.out _ (omega arith) cc
