-- The last byte is the slash.
use Rattle.mount_kept.proofs.Slashes.{last_byte}
use Rattle.mount_kept.proofs.lifetimes.ends_in_slash.Goals as goal

pub returns-then-not-is_empty : goal.returns-then-not-is_empty
returns-then-not-is_empty c = last_byte c.args.text.now
