-- As many bytes as the len tells are a frame; with fewer, or without a good len, there is none.
use Rattle.std.proofs.Common.{sym, arith}
use Rattle.std.proofs.lemmas.List.{take-append-drop}
use Rattle.fuse_frames.proofs.FrontLemmas.{unfinished_none, unfinished_short, whole_take}
use Rattle.fuse_frames.proofs.front.first_frame.Goals as goal

pub returns-in_default : goal.returns-in_default
returns-in_default c = unfinished_none c.args.bytes.now c.in_default.ensures

pub returns-then-bytes-len : goal.returns-then-bytes-len
returns-then-bytes-len c = unfinished_short c.args.bytes.now (omega (arith, c.in-Some.ensures.is))

pub returns : goal.returns
returns c =
    rw (c.split_at.ensures.front, c.split_at.ensures.back) record {
      joined = sym (take-append-drop c.in-Some.len c.args.bytes.now);
      whole = whole_take c.args.bytes.now c.in-Some.len c.in-Some.ensures c.if-bytes-len.false;
    }
