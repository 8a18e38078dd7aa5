-- What is told of an array's items is told of the array.
use Rattle.std.proofs.Common.{◌≡◌, sym, subst, Ok}
use Rattle.serde_json.specs.Data.{Data, Items}
use Rattle.scenario.specs.declared.fault.ScenarioFault.{ScenarioFault}
use Rattle.scenario.specs.Told.{TellsFault}
use Rattle.scenario.specs.Walks.{Walk, ◌>>=◌, items, through}

-- the walk over the items begins with what was made before the first
pub array_fault : {S : Type 0} (e : ScenarioFault) (d : Data) (ds : Items) (step : S → Data → Walk S) (made first : S) → items d ≡ Ok ds → made ≡ first → TellsFault e (through step 0 made ds) → TellsFault e (items d >>= through step 0 first)
array_fault e d ds step made first found is told = subst (λ w. TellsFault e (w >>= through step 0 first)) (sym found) (subst (λ m. TellsFault e (through step 0 m ds)) is told)
