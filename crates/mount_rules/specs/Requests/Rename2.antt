-- RENAME2: as RENAME (fuse.h: `struct fuse_rename2_in`). None of its flags is known here.
use Rattle.std.specs.Prelude.{ℕ, ◌==◌, Option, Some, if◌then◌else◌}
use Rattle.fuse_replies.specs.Errno.{einval}
use Rattle.mount_rules.specs.Requests.Rename as rename
use Rattle.mount_rules.specs.Rules.{Rules}
use Rattle.mount_rules.specs.View.{View}

abbrev pub refusal : ℕ → rename.Names → View → Option ℕ
refusal flags names view = if flags == 0 then rename.refusal names view else Some einval

abbrev pub rules : ℕ → ℕ → rename.Names → Rules
rules node flags names = record (rename.rules node names) { refusal = refusal flags names }
