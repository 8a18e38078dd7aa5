-- SYMLINK: a link to a target (fuse.h: FUSE_SYMLINK, whose body is two texts). An empty object is made, only where none
-- is live under the name, with the target in its metadata, as gcsfuse keeps it.
use Rattle.std.specs.Prelude.{ℕ, ◌==◌, ◌||◌, not, [], ◌∷◌, List, Option, Some, None, length, nat_lt, if◌then◌else◌}
use Rattle.std.specs.Option.{option_map_or}
use Rattle.std.specs.Str.{is_utf8}
use Rattle.bucket_api.specs.declared.objects.Pair.{Pair}
use Rattle.file_metadata.specs.FileMetadata.{target_key}
use Rattle.fuse_replies.specs.Errno.{einval, enametoolong}
use Rattle.mount_rules.specs.Guards.{in_directory, part_refusal}
use Rattle.mount_rules.specs.Requests.Mknod.{making_rules}
use Rattle.mount_rules.specs.Rules.{Rules}
use Rattle.mount_rules.specs.View.{Sight, View}

-- the most bytes of a target: PATH_MAX of limits.h, without the zero byte
abbrev pub longest_target : ℕ
longest_target = 4095

abbrev pub target_refusal : List ℕ → Option ℕ
target_refusal target =
    if length target == 0 || not (is_utf8 target) then Some einval
    else if nat_lt longest_target (length target) then Some enametoolong
    else None

-- the name is looked at first
abbrev pub texts_refusal : List ℕ → List ℕ → Sight → Option ℕ
texts_refusal name target directory = option_map_or Some (part_refusal name directory) (target_refusal target)

abbrev pub refusal : List ℕ → List ℕ → View → Option ℕ
refusal name target view = in_directory view.node (texts_refusal name target)

abbrev pub target_pair : List ℕ → Pair
target_pair target = record { key = target_key; value = target }

abbrev pub rules : ℕ → List ℕ → List ℕ → Rules
rules node name target = making_rules node name (target_pair target ∷ []) (refusal name target)
