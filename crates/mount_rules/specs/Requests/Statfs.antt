-- STATFS: the numbers of a file system whose room is the bucket's (fuse.h: `struct fuse_kstatfs`).
use Rattle.std.specs.Prelude.{None, []}
use Rattle.fuse_replies.specs.declared.reply.Reply.TheVariants.{Stat}
use Rattle.mount_rules.specs.Plans.{done}
use Rattle.mount_rules.specs.Rules.{Rules, nowhere}

abbrev pub rules : Rules
rules = record {
  looks = nowhere;
  refusal = λ view. None;
  plan = λ taken answers. done;
  wants = λ view. None;
  claims = λ view. [];
  keys = λ view. [];
  reply = λ taken mount seen. Stat;
  after = λ taken mount seen. mount;
}
