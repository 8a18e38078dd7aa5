-- Components: the names that stand between the slashes of a path. Linux takes file names of 1 to 255 bytes without
-- `/` and the zero byte, and keeps `.` and `..` for itself (path_resolution(7)). Cloud Storage asks that an object's
-- name is UTF-8 without CR and LF.
use Rattle.std.specs.Prelude.{◌≡◌, ◌≢◌, ℕ, ◌≤◌, Bool, not, ◌||◌, List, length, Option, Some, None, nat_lt, ◌==◌, if◌then◌else◌, All, codes}
use Rattle.std.specs.List.{list_any}
use Rattle.std.specs.Str.{bytes_eq, is_utf8, IsUtf8}
use Rattle.object_names.specs.declared.component.NameFault.{NameFault}
use Rattle.object_names.specs.declared.component.NameFault.TheVariants.{NoMemory, Empty, TooLong, NotUtf8, Dot, Slash, Control}

-- the greatest length of a component, in bytes
abbrev pub component_max : ℕ
component_max = 255

-- `.` and `..`
abbrev pub is_dots : List ℕ → Bool
is_dots name = bytes_eq name (codes ".") || bytes_eq name (codes "..")

abbrev pub is_slash : ℕ → Bool
is_slash byte = byte == 47

-- the zero byte, LF and CR
abbrev pub is_control : ℕ → Bool
is_control byte = (byte == 0 || byte == 10) || byte == 13

-- the first fault of a name, in this order; none where it is a component
abbrev pub name_fault : List ℕ → Option NameFault
name_fault name =
    if length name == 0 then Some Empty
    else if nat_lt component_max (length name) then Some TooLong
    else if not (is_utf8 name) then Some NotUtf8
    else if is_dots name then Some Dot
    else if list_any is_slash name then Some Slash
    else if list_any is_control name then Some Control
    else None

-- a name is refused for its first fault, and for want of memory only where it has none
abbrev pub IsRefusedFor : List ℕ → NameFault → Type 0
IsRefusedFor name NoMemory = name_fault name ≡ None
IsRefusedFor name fault = name_fault name ≡ Some fault

-- what a name without a fault is
pub record IsComponent (name : List ℕ) : Type 0 where
  pub named : 1 ≤ length name
  pub short : length name ≤ component_max
  pub text : IsUtf8 name
  pub no_dots : (name ≢ codes ".") × (name ≢ codes "..")
  pub no_slash : All (λ byte. byte ≢ 47) name
  pub no_control : All (λ byte. (byte ≢ 0) × (byte ≢ 10) × (byte ≢ 13)) name
