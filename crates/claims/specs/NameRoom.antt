-- What contracts see of the tallies of names.
use Rattle.std.specs.Prelude.{ℕ, refl}
use Rattle.std.specs.Cmp.Lexicographic.{slice_cmp}
use Rattle.std.specs.Coded.{Coded, code_by, coded×, coded_ℕ, coded_list}
use Rattle.std.specs.FinMap as fin
use Rattle.std.specs.Ordering.{nat_cmp}
use Rattle.claims.specs.declared.tally.Tally.{Tally}
use Rattle.claims.specs.TallyWords.{tally_code}

-- a map from names, by their bytes, to tallies, and for how many more names there is room
pub record NamedTallies : Type 0 where
  pub map : fin.FinMap (slice_cmp nat_cmp) Tally
  pub spare : ℕ

abbrev pub named_tallies_code : Coded NamedTallies
named_tallies_code =
    code_by (fin.FinMap (slice_cmp nat_cmp) Tally × ℕ) (coded× (fin.code (coded_list coded_ℕ) tally_code) coded_ℕ) (λ n. (n.map, n.spare)) (λ p. record { map = p.0; spare = p.1 }) (λ _. refl)
