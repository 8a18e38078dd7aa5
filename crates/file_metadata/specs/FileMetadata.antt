-- What gcsfuse keeps of a file in the custom metadata of its object. Source: gcsfuse's documents on semantics, "Symlink
-- inodes" and "File inodes".
use Rattle.std.specs.Prelude.{ℕ, List, codes}

-- the key of a symlink's target
abbrev pub target_key : List ℕ
target_key = codes "gcsfuse_symlink_target"

-- the key of the mtime that was set
abbrev pub mtime_key : List ℕ
mtime_key = codes "gcsfuse_mtime"

-- the last second of the clock and of an mtime
abbrev pub last_second : ℕ
last_second = 249_999_999_999
