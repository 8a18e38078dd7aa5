-- The frame is the request's text, whose laws say the rest.
use Rattle.fuse_requests.proofs.FrameTexts.{whole-request_text, unique-request_text}
use Rattle.fuse_requests.proofs.RequestTexts.{read-request_text}
use Rattle.fuse_requests.proofs.writing.write_request.Goals as goal

pub returns-clause-whole : goal.returns-clause-whole
returns-clause-whole c = rw (c.from_vec.ensures.bytes, c.in_ok-frame.ensures.ok) (whole-request_text c.args.unique c.args.request.now c.requires)

pub returns-clause-unique : goal.returns-clause-unique
returns-clause-unique c =
    rw (c.from_vec.ensures.bytes, c.in_ok-frame.ensures.ok) (unique-request_text c.args.unique c.args.request.now c.ranges.unique.fits c.requires c.in_ok-frame.ensures.range)

pub returns-clause-read : goal.returns-clause-read
returns-clause-read c =
    rw (c.from_vec.ensures.bytes, c.in_ok-frame.ensures.ok) (read-request_text c.args.unique c.args.request.now c.ranges.unique.fits c.requires c.in_ok-frame.ensures.range)
