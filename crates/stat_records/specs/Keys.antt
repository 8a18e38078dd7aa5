-- Records under texts, by the bytes of the texts.
use Rattle.std.specs.Prelude.{ℕ, List, map, String, string_bytes}
use Rattle.record_spec.specs.declared.records.Record.{Record}

abbrev pub by_bytes : {Y : Type 0} → List (String Y × Record) → List (List ℕ × Record)
by_bytes entries = map (λ entry. (string_bytes entry.0, entry.1)) entries
