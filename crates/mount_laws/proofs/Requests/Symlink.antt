-- The rules of SYMLINK are sound.
use Rattle.std.proofs.Common.{◌≡◌, ◌≢◌, ℕ, Bool, true, false, List, Option, Some, None, refl, length, nat_eq, nat_lt, arith}
use Rattle.std.specs.Prelude.{◌||◌, not, if◌then◌else◌}
use Rattle.std.specs.Option.{option_map_or}
use Rattle.std.specs.Str.{is_utf8}
use Rattle.fuse_replies.specs.Errno.{einval, enametoolong, enomem}
use Rattle.mount_rules.specs.Guards.{part_refusal}
use Rattle.mount_rules.specs.Requests.Symlink as symlink
use Rattle.mount_rules.specs.View.{Sight}
use Rattle.mount_laws.proofs.Guarding.{in_directory-less, in_directory-memory, part_refusal-memory}
use Rattle.mount_laws.proofs.Memory.{errors_differ, no_error}
use Rattle.mount_laws.proofs.Requests.Mknod.{making_sound}
use Rattle.mount_laws.proofs.Sound.{IsSound}

-- the name is looked at first
name_first : (refused next : Option ℕ) → option_map_or Some refused next ≡ None → refused ≡ None
name_first None next free = refl
name_first (Some errno) next free = absurd (let never : Some errno ≡ None = free in cc)

target_memory : (target : List ℕ) → symlink.target_refusal target ≢ Some enomem
target_memory target = by (nat_eq (length target) 0 || not (is_utf8 target)) (nat_lt symlink.longest_target (length target))
  where
    by : (bad long : Bool) → (if bad then Some einval else if long then Some enametoolong else None) ≢ Some enomem
    by true long e = errors_differ (λ same. absurd (omega (arith, same))) e
    by false true e = errors_differ (λ same. absurd (omega (arith, same))) e
    by false false e = no_error e

texts_memory : (name target : List ℕ) (directory : Sight) → symlink.texts_refusal name target directory ≢ Some enomem
texts_memory name target directory = by (part_refusal name directory) (part_refusal-memory name directory)
  where
    by : (refused : Option ℕ) → refused ≢ Some enomem → option_map_or Some refused (symlink.target_refusal target) ≢ Some enomem
    by None other e = target_memory target e
    by (Some errno) other e = other e

pub symlink_sound : (node : ℕ) (name target : List ℕ) → IsSound (symlink.rules node name target) (λ number. 0) (Some 1)
symlink_sound node name target = making_sound node name _ (symlink.refusal name target)
    (λ view free. in_directory-less view.node (symlink.texts_refusal name target) (part_refusal name)
    (λ directory none. name_first (part_refusal name directory) (symlink.target_refusal target) none) free)
    (λ view. in_directory-memory view.node (symlink.texts_refusal name target) (texts_memory name target))
