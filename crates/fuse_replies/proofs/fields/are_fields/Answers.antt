-- Bytes that are all of the fields go on, after the first of them, with the others.
use Rattle.std.proofs.Common.{[]}
use Rattle.fuse_replies.specs.Layouts.{u32s, u64s}
use Rattle.fuse_replies.proofs.StripLemmas.{after_front_all}
use Rattle.fuse_replies.proofs.fields.are_fields.Goals as goal

pub returns-in_default-strip_u32s : goal.returns-in_default-strip_u32s
returns-in_default-strip_u32s c =
    (λ no. absurd cc, λ whole. absurd (c.in_default-strip_u32s.ensures [] (after_front_all c.args.bytes.now (u64s c.args.wide.now) c.in-Some.rest.now (u32s c.args.narrow.now) c.in-Some.ensures whole)))
