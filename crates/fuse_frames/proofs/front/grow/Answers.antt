-- With a good len the rest grows by what the len wants; without one it stays as it is.
use Rattle.std.proofs.lemmas.Result.{IfOk-weaker}
use Rattle.fuse_frames.specs.Front.{Fills, GrowsTo}
use Rattle.fuse_frames.proofs.FrontLemmas.{grows_to_len}
use Rattle.fuse_frames.proofs.front.grow.Goals as goal

pub returns-in-Some-clause-ok : goal.returns-in-Some-clause-ok
returns-in-Some-clause-ok c =
    IfOk-weaker c.fill-in-Some.result
    (λ left. Fills c.fill.new.rest.items c.in-Some.len c.in_ok-behind.behind.now c.fill-in-Some.new.rest.items left.now)
    (λ left. GrowsTo c.args.rest.now.items c.args.bytes.now c.fill-in-Some.new.rest.items left.now)
    (λ left body. grows_to_len c.args.rest.now.items c.args.bytes.now c.fill.new.rest.items c.in_ok-behind.behind.now c.fill-in-Some.new.rest.items left.now c.in-Some.len
    c.requires.unfinished c.in_ok-behind.ensures.ok (rw c.as_slice.ensures.value at c.in-Some.ensures) body)
    c.fill-in-Some.ensures.ok
