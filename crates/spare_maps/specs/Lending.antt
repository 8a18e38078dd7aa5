-- What a map ends as, once a value in it was lent.
use Rattle.std.specs.Prelude.{ℕ}
use Rattle.std.specs.Borrow.{Lends, MutBor, Fml, RattleType}
use Rattle.std.specs.FinMap as fin
use Rattle.spare_maps.specs.SpareMaps.{Numbered}
use Rattle.spare_maps.specs.contracts.number_map.NumberMap.{the_row}

-- the map has the last value written through r under the number
abbrev pub LendsValue : (V : RattleType) → MutBor (Numbered V.Denot) → ℕ → MutBor V.Denot → Fml
LendsValue V m number r = Lends (the_row V) V m r (λ value. record m.now { map = fin.insert m.now.map number value })
