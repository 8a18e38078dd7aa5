-- What a call tells of a walk: its fault, unless memory was wanting.
use Rattle.std.specs.Prelude.{◌≡◌, Option, Some, None, Err, ⊤}
use Rattle.scenario.specs.declared.fault.ScenarioFault.{ScenarioFault}
use Rattle.scenario.specs.declared.fault.ScenarioFault.TheVariants.{NoMemory, Bad}
use Rattle.scenario.specs.Walks.{Fault, Walk}

-- the fault that is told
abbrev pub told : ScenarioFault → Option Fault
told NoMemory = None
told (Bad number place) = Some (record { number = number; place = place })

-- the fault that is told is the walk's
abbrev pub TellsFault : {A : Type 0} → ScenarioFault → Walk A → Type 0
TellsFault NoMemory walk = ⊤
TellsFault (Bad number place) walk = walk ≡ Err (record { number = number; place = place })
