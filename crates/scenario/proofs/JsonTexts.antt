-- Which value the bytes of a JSON text are.
use Rattle.std.proofs.Common.{◌≡◌, refl, ap, ◌∙◌, ℕ, Bool, true, false, List, Some, None, Ok}
use Rattle.std.specs.Prelude.{IsUtf8, if◌then◌else◌}
use Rattle.std.specs.Str.{is_utf8}
use Rattle.std.proofs.lemmas.Str.{IsUtf8-from_is_utf8, is_utf8-from_IsUtf8}
use Rattle.serde_json.specs.Data.{Data}
use Rattle.serde_json.specs.Read.{read as json_of}
use Rattle.scenario.specs.Walks.{asked, fault}
use Rattle.scenario.specs.Format.{json}

pub json_found : (bytes : List ℕ) (d : Data) → IsUtf8 bytes → json_of bytes ≡ Some d → json bytes ≡ Ok d
json_found bytes d utf8 is = ap (λ b. if b then asked 1 (json_of bytes) else fault 1) (is_utf8-from_IsUtf8 bytes utf8) ∙ ap (asked 1) is

pub json_refused : (bytes : List ℕ) → (IsUtf8 bytes → json_of bytes ≡ None) → json bytes ≡ fault 1
json_refused bytes none = by (is_utf8 bytes) refl
  where
    by : (b : Bool) → is_utf8 bytes ≡ b → (if b then asked 1 (json_of bytes) else fault {A = Data} 1) ≡ fault {A = Data} 1
    by true utf8 = ap (asked 1) (none (IsUtf8-from_is_utf8 bytes utf8))
    by false broken = refl
