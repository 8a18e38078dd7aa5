-- What contracts see of a map with room of its own.
use Rattle.std.specs.Prelude.{ℕ, List, refl, map, String, string_bytes}
use Rattle.std.specs.Cmp.Lexicographic.{slice_cmp}
use Rattle.std.specs.Coded.{Coded, code_by, coded×, coded_ℕ, coded_list}
use Rattle.std.specs.FinMap as fin
use Rattle.std.specs.Ordering.{nat_cmp}

-- a map from numbers, and for how many more keys there is room
pub record Numbered (V : Type 0) : Type 0 where
  pub map : fin.FinMap nat_cmp V
  pub spare : ℕ

-- a map from names, by their bytes, to numbers
pub record Named : Type 0 where
  pub map : fin.FinMap (slice_cmp nat_cmp) ℕ
  pub spare : ℕ

abbrev pub numbered_code : {V : Type 0} → Coded V → Coded (Numbered V)
numbered_code {V} value =
    code_by (fin.FinMap nat_cmp V × ℕ) (coded× (fin.code coded_ℕ value) coded_ℕ) (λ n. (n.map, n.spare)) (λ p. record { map = p.0; spare = p.1 }) (λ _. refl)

abbrev pub named_code : Coded Named
named_code =
    code_by (fin.FinMap (slice_cmp nat_cmp) ℕ × ℕ) (coded× (fin.code (coded_list coded_ℕ) coded_ℕ) coded_ℕ) (λ n. (n.map, n.spare)) (λ p. record { map = p.0; spare = p.1 }) (λ _. refl)

-- entries under texts, by the bytes of the texts
abbrev pub by_bytes : {X Y : Type 0} → List (String Y × X) → List (List ℕ × X)
by_bytes entries = map (λ entry. (string_bytes entry.0, entry.1)) entries
