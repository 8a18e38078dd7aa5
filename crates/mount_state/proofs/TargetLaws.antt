-- The target of a symlink: its length, and the test of its bytes.
use Rattle.std.proofs.Common.{◌≡◌, ℕ, Bool, true, false, List, [], length, Option, Some, None, Result, Ok, Err, refl, sym}
use Rattle.std.proofs.lemmas.Str.{IsUtf8-from_is_utf8, is_utf8-from_IsUtf8}
use Rattle.std.specs.Prelude.{MatchResult, unwrap_or}
use Rattle.std.specs.Option.{option_map_or}
use Rattle.std.specs.Result.{is_ok}
use Rattle.std.specs.Str.{IsUtf8, is_utf8}

-- no target is as long as an empty one
pub length_or_none : (target : Option (List ℕ)) → length (unwrap_or target []) ≡ option_map_or length target 0
length_or_none None = refl
length_or_none (Some bytes) = refl

-- bytes are read as a text where they are UTF-8
pub read_if_utf8 : {T E : Type 0} (read : Result T E) (bytes : List ℕ) (P : T → Type 0) (Q : E → Type 0)
    → MatchResult read (λ text. P text × IsUtf8 bytes) (λ fault. (IsUtf8 bytes → ⊥) × Q fault) → is_ok read ≡ is_utf8 bytes
read_if_utf8 (Ok text) bytes P Q told = sym (is_utf8-from_IsUtf8 bytes told.1)
read_if_utf8 (Err fault) bytes P Q told = by (is_utf8 bytes) refl
  where
    by : (t : Bool) → is_utf8 bytes ≡ t → false ≡ t
    by true e = absurd (told.0 (IsUtf8-from_is_utf8 bytes e))
    by false e = refl
