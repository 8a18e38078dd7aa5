-- What came of taking the whole input.
use Rattle.std.specs.Prelude.{◌≡◌, ◌<◌, ◌≤◌, ◌+◌, ℕ, Bool, true, false, List, length}
use Rattle.std.specs.Io.KnownBytes.{Consumes, IsAtEnd}
use Rattle.io_ports.specs.Faults.{Rose}
use Rattle.io_ports.specs.Ports.{Port}
use Rattle.gcsmount.specs.Serve.{longest_input}
use Rattle.gcsmount.specs.declared.input.InputFault.{InputFault}
use Rattle.gcsmount.specs.declared.input.InputFault.TheVariants.{ReadFault, NoMemory, TooLong}

-- these bytes were taken, and no read failed
pub record Takes (source source' : Port) (taken : List ℕ) : Type 0 where
  pub consumed : Consumes source.bytes source'.bytes taken
  pub held : source'.faults ≡ source.faults

-- they are not too many, and the source has no more
pub record TakesAll (source source' : Port) (taken : List ℕ) : Type 0 where
  pub takes : Takes source source' taken
  pub within : length taken ≤ longest_input
  pub at_end : IsAtEnd source'.bytes

-- One more piece was taken behind the input so far; or there was none, and the input is whole.
abbrev pub TakesOn : Bool → Port → Port → List ℕ → List ℕ → Type 0
TakesOn true start source' input input' = Takes start source' input' × (length input < length input') × (length input' ≤ longest_input)
TakesOn false start source' input input' = TakesAll start source' input'

-- Why no more was taken than these: the source failed, memory was refused, or they are too many.
abbrev pub StopsBy : InputFault → Port → Port → List ℕ → Type 0
StopsBy ReadFault source source' taken = Consumes source.bytes source'.bytes taken × (length taken ≤ longest_input) × Rose source.faults source'.faults
StopsBy NoMemory source source' taken = Takes source source' taken × (length taken ≤ longest_input + 1)
StopsBy TooLong source source' taken = Takes source source' taken × (length taken ≡ longest_input + 1)

abbrev pub StopsInput : InputFault → Port → Port → Type 0
StopsInput fault source source' = (taken : List ℕ) × StopsBy fault source source' taken
