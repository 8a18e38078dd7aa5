-- What a drill puts.
use Rattle.std.specs.Prelude.{◌≡◌, ◌⊎◌, ℕ, List}
use Rattle.std.specs.Io.KnownBytes.{Appends}
use Rattle.drill_maker.specs.Drill.{drill}
use Rattle.drill_maker.specs.Summary.{summary_of}
use Rattle.history_text.specs.HistoryText.{History}
use Rattle.io_ports.specs.Faults.{Rose}
use Rattle.io_ports.specs.Ports.{Port}
use Rattle.io_ports.specs.Streams.{AppendsPrefix}
use Rattle.play_lanes.specs.Histories.{IsHistory}

-- the line of the drill of this seed, whose numbers are counted from one legal history of its scenario
abbrev pub IsDrillLine : ℕ → List ℕ → Type 0
IsDrillLine seed line = (history : History) × IsHistory (drill seed) history × (line ≡ summary_of seed history)

-- the line was put; or the sink failed, having taken a prefix of it; or memory was refused, and nothing was put
abbrev pub RunsDrill : ℕ → Port → Port → ℕ → Type 0
RunsDrill seed sink sink' status =
    ((status ≡ 0) × (line : List ℕ) × IsDrillLine seed line × Appends sink.bytes sink'.bytes line × (sink'.faults ≡ sink.faults))
    ⊎ (((status ≡ 4) × (line : List ℕ) × IsDrillLine seed line × AppendsPrefix sink.bytes sink'.bytes line × Rose sink.faults sink'.faults)
    ⊎ ((status ≡ 5) × (sink' ≡ sink)))
