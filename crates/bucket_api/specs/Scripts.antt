-- Scripts of faults: each names a moment, and what becomes of the operation that is made then.
use Rattle.std.specs.Prelude.{◌≡◌, ◌≢◌, ◌↔◌, ℕ, ◌<◌, List, [], ◌∷◌, map, All}
use Rattle.bucket_api.specs.declared.answers.Answer.{Answer}
use Rattle.bucket_api.specs.declared.answers.Answer.TheVariants.{Fault}
use Rattle.bucket_api.specs.declared.events.Mode.{Mode}
use Rattle.bucket_api.specs.declared.events.Mode.TheVariants.{Done}
use Rattle.bucket_api.specs.declared.events.Scripted.{Scripted}
use Rattle.bucket_api.specs.Log.{scripted_mode}

-- the moments with their modes
abbrev pub script_of : List Scripted → List (ℕ × Mode)
script_of faults = map (λ f. (f.moment, f.mode)) faults

-- the moments rise, and all are later than this one
abbrev pub RisesAfter : ℕ → List (ℕ × Mode) → Type 0
RisesAfter moment [] = Unit {0}
RisesAfter moment (f ∷ fs) = (moment < f.0) × RisesAfter f.0 fs

-- the moments, which count from 1, rise, and no mode is `Done`
pub record IsScript (script : List (ℕ × Mode)) : Type 0 where
  pub rises : RisesAfter 0 script
  pub faults : All (λ f. f.1 ≢ Done) script

-- a fault is answered exactly where the script has one
abbrev pub FaultsByScript : List (ℕ × Mode) → ℕ → Answer → Type 0
FaultsByScript script moment answer = (answer ≡ Fault) ↔ (scripted_mode script moment ≢ Done)
