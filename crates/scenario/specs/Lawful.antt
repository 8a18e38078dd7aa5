-- What holds of each scenario that is read.
use Rattle.std.specs.Prelude.{◌≤◌, ◌-◌, ◌+◌, ◌^◌, ℕ, List, [], ◌∷◌, ◌++◌, length, All, IsTrue}
use Rattle.bucket_api.specs.BucketState.{IsWithin}
use Rattle.bucket_api.specs.Metadata.{KeysRise}
use Rattle.bucket_api.specs.Names.{IsObjectName}
use Rattle.bucket_api.specs.Operation.{IsAllowed, max_content}
use Rattle.bucket_api.specs.Scripts.{script_of, IsScript}
use Rattle.fuse_head.specs.Head.{IsWholeFrame}
use Rattle.mount_model.specs.Configs.{IsConfig}
use Rattle.scenario.specs.declared.call.Fix.{Fix}
use Rattle.scenario.specs.Parts.{ObjectParts, Call, Lane, calls, remote, clock, ScenarioData}
use Rattle.scenario.specs.Checks.{Spot, spot_after, counts_of, items_in, is_earlier}
use Rattle.scenario.specs.Format.{most_items}

-- the parts of an object may be stored
pub record AreParts (parts : ObjectParts) : Type 0 where
  pub name : IsObjectName parts.name
  pub content : length parts.content ≤ max_content
  pub pairs : KeysRise parts.pairs

-- each item has P, with those that stand before it
abbrev pub EachAfter : {A : Type 0} → (List A → A → Type 0) → List A → List A → Type 0
EachAfter P before [] = Unit {0}
EachAfter P before (x ∷ xs) = P before x × EachAfter P (before ++ x ∷ []) xs

-- a fixup of the call of this index, whose frame has this length: it names an earlier call, and its 8 bytes lie in the
-- frame behind the length that the frame tells
pub record IsFix (spot : Spot) (index size : ℕ) (fix : Fix) : Type 0 where
  pub lane : 1 ≤ fix.call.lane
  pub call : 1 ≤ fix.call.index
  pub earlier : IsTrue (is_earlier spot index fix.call.lane fix.call.index)
  pub place : 4 ≤ fix.at
  pub room : fix.at + 8 ≤ size

pub record IsCall (spot : Spot) (index : ℕ) (call : Call) : Type 0 where
  pub frame : IsWholeFrame call.frame
  pub fixes : All (IsFix spot index (length call.frame)) call.fixes

-- the seconds of a step of the clock
abbrev pub IsStep : ℕ → Type 0
IsStep seconds = (1 ≤ seconds) × (seconds ≤ 1_000_000)

-- the calls have the indices 1, 2, ..
abbrev pub AreCalls : Spot → List Call → Type 0
AreCalls spot cs = EachAfter (λ before. IsCall spot (length before + 1)) [] cs

abbrev pub IsLane : Spot → Lane → Type 0
IsLane spot (calls cs) = AreCalls spot cs
IsLane spot (remote ops) = All IsAllowed ops
IsLane spot (clock steps) = All IsStep steps

-- the lanes of a phase, behind phases with these calls and so many items
abbrev pub AreLanes : List ℕ → ℕ → List Lane → Type 0
AreLanes counts items lanes = EachAfter (λ beside. IsLane (spot_after counts items beside)) [] lanes

-- a phase behind these has 1 to 64 lanes
pub record IsPhase (before : List (List Lane)) (lanes : List Lane) : Type 0 where
  pub some : 1 ≤ length lanes
  pub few : length lanes ≤ 64
  pub each : AreLanes (counts_of before) (items_in before) lanes

abbrev pub ArePhases : List (List Lane) → Type 0
ArePhases phases = EachAfter IsPhase [] phases

pub record IsLawful (scenario : ScenarioData) : Type 0 where
  pub config : IsConfig scenario.config
  pub start : IsWithin (2 ^ 62 - 1) scenario.start
  pub script : IsScript (script_of scenario.script)
  pub phases : ArePhases scenario.phases
  pub items : items_in scenario.phases ≤ most_items

-- the items that are counted so far are not too many, if those before are not
abbrev pub StaysCounted : Spot → ℕ → Type 0
StaysCounted spot more = spot.items ≤ most_items → spot.items + more ≤ most_items
