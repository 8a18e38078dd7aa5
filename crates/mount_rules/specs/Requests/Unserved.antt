-- The requests that the mount doesn't serve, and those whose bodies it could not read. They ask nothing and change
-- nothing: each is refused, but for INTERRUPT, and FORGETs that could not be read, which the kernel sends without waiting
-- for a reply.
use Rattle.std.specs.Prelude.{ℕ, None, Option, []}
use Rattle.fuse_replies.specs.declared.reply.Reply.TheVariants.{Silent}
use Rattle.mount_rules.specs.Plans.{done}
use Rattle.mount_rules.specs.Rules.{Rules, nowhere}

-- what refuses it, if anything does
abbrev pub rules : Option ℕ → Rules
rules errno = record {
  looks = nowhere;
  refusal = λ view. errno;
  plan = λ taken answers. done;
  wants = λ view. None;
  claims = λ view. [];
  keys = λ view. [];
  reply = λ taken mount seen. Silent;
  after = λ taken mount seen. mount;
}
