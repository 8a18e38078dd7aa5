-- What playing a scenario from a stream to its end says of the stream and of what was put.
use Rattle.std.specs.Prelude.{◌≡◌, ◌≤◌, ◌+◌, ◌++◌, ℕ, List, [], Ok, Err, Some, length}
use Rattle.std.specs.Io.KnownBytes.{Appends, Consumes, IsAtEnd}
use Rattle.bucket_api.specs.LogEvent.{LogEvent}
use Rattle.history_text.specs.HistoryText.{History, history_text}
use Rattle.io_ports.specs.Faults.{Rose}
use Rattle.io_ports.specs.Ports.{Port}
use Rattle.io_ports.specs.Streams.{AppendsPrefix}
use Rattle.legal_spec.specs.Promises.{Orderly}
use Rattle.legal_spec.specs.Texts.{text}
use Rattle.mount_model.specs.Journal.{Entry}
use Rattle.play_lanes.specs.Histories.{IsHistory}
use Rattle.scenario.specs.Format.{scenario_of}
use Rattle.scenario.specs.Parts.{ScenarioData}
use Rattle.gcsmount.specs.Serve.{longest_input}
use Rattle.gcsmount.specs.declared.play_end.PlayEnd.{PlayEnd}
use Rattle.gcsmount.specs.declared.play_end.PlayEnd.TheVariants.{Played, Refused, ReadFault, WriteFault, NoMemory, TooLong}

-- the text is that of a legal history of the scenario
abbrev pub IsTextOf : ScenarioData → List ℕ → Type 0
IsTextOf scenario put = (history : History) × IsHistory scenario history × (put ≡ history_text history)

-- the whole input was taken
abbrev pub IsWhole : Port → List ℕ → Type 0
IsWhole source' taken = (length taken ≤ longest_input) × IsAtEnd source'.bytes

-- What an end says of the bytes taken, and of those put between two moments of the sink.
abbrev pub PlayEndsBy : PlayEnd → Port → List ℕ → Port → Port → Type 0
PlayEndsBy Played source' taken sink sink' =
    IsWhole source' taken × (scenario : ScenarioData) × (scenario_of taken ≡ Ok scenario)
    × (put : List ℕ) × IsTextOf scenario put × Appends sink.bytes sink'.bytes put × (sink'.faults ≡ sink.faults)
PlayEndsBy (Refused number place) source' taken sink sink' =
    IsWhole source' taken × (scenario_of taken ≡ Err (record { number = number; place = place })) × (sink' ≡ sink)
PlayEndsBy ReadFault source' taken sink sink' = (length taken ≤ longest_input) × (sink' ≡ sink)
PlayEndsBy WriteFault source' taken sink sink' =
    IsWhole source' taken × (scenario : ScenarioData) × (scenario_of taken ≡ Ok scenario)
    × (put : List ℕ) × IsTextOf scenario put × AppendsPrefix sink.bytes sink'.bytes put × Rose sink.faults sink'.faults
PlayEndsBy NoMemory source' taken sink sink' = sink' ≡ sink
PlayEndsBy TooLong source' taken sink sink' = (length taken ≡ longest_input + 1) × (sink' ≡ sink)

-- What an end says of the source's count of faults: it rose where a read failed, and else it stayed.
abbrev pub PlayReads : PlayEnd → Port → Port → Type 0
PlayReads ReadFault source source' = Rose source.faults source'.faults
PlayReads end source source' = source'.faults ≡ source.faults

-- A stream was played to this end, between these moments of its source and its sink.
pub record PlaysStream (end : PlayEnd) (source source' sink sink' : Port) : Type 0 where
  pub taken : List ℕ
  pub consumed : Consumes source.bytes source'.bytes taken
  pub bounded : length taken ≤ longest_input + 1
  pub ended : PlayEndsBy end source' taken sink sink'
  pub reads : PlayReads end source source'

-- what came of the input, before anything was put
abbrev pub ReadEndsBy : PlayEnd → Port → List ℕ → Type 0
ReadEndsBy end source' taken = (sink : Port) → PlayEndsBy end source' taken sink sink

pub record StopsReading (end : PlayEnd) (source source' : Port) : Type 0 where
  pub taken : List ℕ
  pub consumed : Consumes source.bytes source'.bytes taken
  pub bounded : length taken ≤ longest_input + 1
  pub ended : ReadEndsBy end source' taken
  pub reads : PlayReads end source source'

-- the whole input was taken, and is this scenario
pub record ReadsScenario (scenario : ScenarioData) (source source' : Port) : Type 0 where
  pub taken : List ℕ
  pub consumed : Consumes source.bytes source'.bytes taken
  pub whole : IsWhole source' taken
  pub is : scenario_of taken ≡ Ok scenario
  pub held : source'.faults ≡ source.faults

-- What playing a scenario to an end says of what was put.
abbrev pub ScenarioEndsBy : PlayEnd → ScenarioData → Port → Port → Type 0
ScenarioEndsBy Played scenario sink sink' = (put : List ℕ) × IsTextOf scenario put × Appends sink.bytes sink'.bytes put × (sink'.faults ≡ sink.faults)
ScenarioEndsBy WriteFault scenario sink sink' = (put : List ℕ) × IsTextOf scenario put × AppendsPrefix sink.bytes sink'.bytes put × Rose sink.faults sink'.faults
ScenarioEndsBy NoMemory scenario sink sink' = sink' ≡ sink
ScenarioEndsBy end scenario sink sink' = ⊥

-- ---- the whole program
-- The whole input was taken, it is a scenario, and what was put is the text of a legal history of it.
pub record IsPlayedFrom (input : List ℕ) (source' sink sink' : Port) : Type 0 where
  pub at_end : source'.bytes ≡ Some []
  pub scenario : ScenarioData
  pub is : scenario_of input ≡ Ok scenario
  pub log : List LogEvent
  pub journal : List Entry
  pub history : Orderly scenario log journal
  pub put : Appends sink.bytes sink'.bytes (text scenario log history.legal.fits.account)

-- an input that can be played: a scenario, of at most the longest input
pub record IsPlayable (input : List ℕ) : Type 0 where
  pub scenario : ScenarioData
  pub is : scenario_of input ≡ Ok scenario
  pub fits : length input ≤ longest_input
