-- The answer that tells nothing comes first; no other has its text.
use Rattle.std.proofs.Common.{refl}
use Rattle.std.proofs.lemmas.Result.{err_from_is_err_and}
use Rattle.fuse_replies.proofs.BodyLemmas.{reads_no_init, reads_numbers, reads_waits}
use Rattle.fuse_replies.proofs.ReadLemmas.{untrue}
use Rattle.fuse_replies.proofs.read.read_init.Goals as goal

pub returns-then-is_waits-clause-read : goal.returns-then-is_waits-clause-read
returns-then-is_waits-clause-read c = reads_waits c.args.body.now (c.if-is_waits.ensures.0 refl)

pub returns-in_err-readahead-clause-read : goal.returns-in_err-readahead-clause-read
returns-in_err-readahead-clause-read c =
    let p = err_from_is_err_and c.from_residual.result c.from_residual.ensures.1 in
    rw p.1 (reads_no_init c.args.body.now c.init_of.result p.0 (λ is. untrue (c.if-is_waits.ensures.1 is)) c.init_of.ensures c.in_err-readahead.ensures.ok_part)

pub returns-clause-read : goal.returns-clause-read
returns-clause-read c =
    reads_numbers c.args.body.now c.init_of.result (c.in_ok-readahead.readahead, c.in_ok-readahead.flags) (λ is. untrue (c.if-is_waits.ensures.1 is)) c.init_of.ensures c.in_ok-readahead.ensures.ok_part
