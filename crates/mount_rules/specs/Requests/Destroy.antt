-- DESTROY: the kernel goes. It is answered, and changes nothing.
use Rattle.std.specs.Prelude.{None, []}
use Rattle.fuse_replies.specs.declared.reply.Reply.TheVariants.{Empty}
use Rattle.mount_rules.specs.Plans.{done}
use Rattle.mount_rules.specs.Rules.{Rules, nowhere}

abbrev pub rules : Rules
rules = record {
  looks = nowhere;
  refusal = λ view. None;
  plan = λ taken answers. done;
  wants = λ view. None;
  claims = λ view. [];
  keys = λ view. [];
  reply = λ taken mount seen. Empty;
  after = λ taken mount seen. mount;
}
