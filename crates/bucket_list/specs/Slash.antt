-- Texts by their first slash.
use Rattle.std.specs.Prelude.{◌≡◌, ◌==◌, ℕ, false, List, ◌∷◌, ◌++◌}
use Rattle.std.specs.List.{AllByRecursion}

-- no byte is a slash
abbrev pub NoSlash : List ℕ → Type 0
NoSlash bytes = AllByRecursion (λ b. (b == 47) ≡ false) bytes

-- the part stands before the first slash of the text
pub record IsBeforeSlash (text part : List ℕ) : Type 0 where
  pub none : NoSlash part
  pub rest : List ℕ
  pub is : text ≡ part ++ 47 ∷ rest
