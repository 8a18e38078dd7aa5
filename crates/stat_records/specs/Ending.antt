-- What a table ends as, once what it lent has ended.
use Rattle.std.specs.Bool.{⊤}
use Rattle.std.specs.Borrow.{Fml, MutBor, follows_so}
use Rattle.std.specs.Prelude.{◌≡◌}
use mathlib.Core.Option.{none}
use Rattle.record_spec.specs.RecordList.{RecordList}
use Rattle.stat_records.specs.contracts.stat_records.StatRecords.{the_row}

abbrev pub EndsAs : MutBor RecordList → RecordList → Fml
EndsAs list after = follows_so the_row the_row list.ghost_name none (λ _ _. ⊤) (λ new. new ≡ after)
