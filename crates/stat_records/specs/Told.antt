-- What a look-up tells: the moment of a record and what it shows.
use Rattle.std.specs.Prelude.{ℕ, Option, option_map}
use Rattle.std.specs.Borrow.{Bor}
use Rattle.record_spec.specs.declared.records.Record.{Record}
use Rattle.record_spec.specs.declared.records.Shown.{Shown}

-- of the record, where there is one
abbrev pub told_of : Option Record → Option (ℕ × Shown)
told_of = option_map (λ r. (r.moment, r.shown))

-- of what was lent
abbrev pub told : Option (ℕ × Bor Shown) → Option (ℕ × Shown)
told = option_map (λ t. (t.0, t.1.now))
