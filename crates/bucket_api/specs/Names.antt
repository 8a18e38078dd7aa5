-- Which texts are names of objects. Source: Cloud Storage's "Object naming requirements".
use Rattle.std.specs.Prelude.{◌≢◌, ℕ, ◌≤◌, List, length, All, codes}

-- the byte is neither a line feed nor a carriage return
abbrev pub IsNameByte : ℕ → Type 0
IsNameByte b = (b ≢ 10) × (b ≢ 13)

-- the text, which is UTF-8, may name an object
pub record IsObjectName (name : List ℕ) : Type 0 where
  pub some : 1 ≤ length name
  pub bounded : length name ≤ 1024
  pub bytes : All IsNameByte name
  pub not_dot : name ≢ codes "."
  pub not_dots : name ≢ codes ".."
