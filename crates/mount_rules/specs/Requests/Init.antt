-- INIT: the kernel offers a version, and the mount takes 7.31. Source: Linux fuse.h, protocol 7.31, and the
-- kernel's fuse documentation: a file system that has only an older major answers with its own, and the
-- kernel then offers that one. Which flags are granted is this project's own choice.
use Rattle.std.specs.Prelude.{ℕ, Bool, true, false, [], ◌==◌, ◌&&◌, nat_lt, nat_le, bit_and, None, if◌then◌else◌}
use Rattle.fuse_replies.specs.declared.reply.Reply.{Reply}
use Rattle.fuse_replies.specs.declared.reply.Reply.TheVariants.{Error, InitDone}
use Rattle.fuse_replies.specs.Errno.{eproto}
use Rattle.mount_rules.specs.Mount.{MountModel}
use Rattle.mount_rules.specs.Plans.{done}
use Rattle.mount_rules.specs.Rules.{Rules, nowhere}

-- the kernel's major is newer: it is told to offer 7
abbrev pub is_newer : ℕ → Bool
is_newer major = nat_lt 7 major

-- the version is 7.31, or a later minor of 7
abbrev pub is_taken : ℕ → ℕ → Bool
is_taken major minor = major == 7 && nat_le 31 minor

-- the flags that the mount grants where they are offered: ASYNC_READ, BIG_WRITES and PARALLEL_DIROPS
abbrev pub granted_flags : ℕ
granted_flags = 0x40021

abbrev pub reply : ℕ → ℕ → ℕ → ℕ → Reply
reply major minor readahead flags =
    if is_newer major then InitDone 0 0 true
    else if is_taken major minor then InitDone readahead (bit_and flags granted_flags) false
    else Error eproto

-- a version that isn't taken leaves an earlier agreement as it is
abbrev pub after : ℕ → ℕ → MountModel → MountModel
after major minor mount = if is_taken major minor then record mount { negotiated = true } else mount

abbrev pub rules : ℕ → ℕ → ℕ → ℕ → Rules
rules major minor readahead flags = record {
  looks = nowhere;
  refusal = λ view. None;
  plan = λ taken answers. done;
  wants = λ view. None;
  claims = λ view. [];
  keys = λ view. [];
  reply = λ taken mount seen. reply major minor readahead flags;
  after = λ taken mount seen. after major minor mount;
}
