-- The range of the source that is wanted.
use Rattle.staging_spec.specs.Wanted.{Range}
use Rattle.staged_file.specs.declared.wanted.Wanted.{Wanted}

abbrev pub range_of : Wanted → Range
range_of wanted = record { first = wanted.first; count = wanted.count }
