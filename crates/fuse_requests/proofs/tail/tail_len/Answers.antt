-- A pair has 16 bytes.
use Rattle.std.proofs.Common.{sym}
use Rattle.fuse_requests.proofs.PairTexts.{length-pairs_text}
use Rattle.fuse_requests.proofs.tail.tail_len.Goals as goal

pub returns-in-BatchForget : goal.returns-in-BatchForget
returns-in-BatchForget c =
    rw (c.in-BatchForget.is, c.as_slice-in-BatchForget.ensures.items) (sym (length-pairs_text c.in-BatchForget.pairs.items))
