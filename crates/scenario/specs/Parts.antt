-- A scenario as plain data.
use Rattle.std.specs.Prelude.{ℕ, List}
use Rattle.bucket_api.specs.declared.events.Scripted.{Scripted}
use Rattle.bucket_api.specs.declared.objects.Pair.{Pair}
use Rattle.bucket_api.specs.BucketState.{BucketState}
use Rattle.bucket_api.specs.Operation.{Operation}
use Rattle.mount_model.specs.declared.config.Config.{Config}
use Rattle.scenario.specs.declared.call.Fix.{Fix}

-- the parts that an object at the start and a write have in common
pub record ObjectParts : Type 0 where
  pub name : List ℕ
  pub content : List ℕ
  pub pairs : List Pair

-- a call of a lane: its frame, and what is written into it first
pub record Call : Type 0 where
  pub frame : List ℕ
  pub fixes : List Fix

-- a lane does one of three kinds of work, in order
pub data Lane : Type 0 where
  calls : List Call → Lane
  remote : List Operation → Lane
  clock : List ℕ → Lane

-- phases come one after another, the lanes of a phase run beside each other
pub record ScenarioData : Type 0 where
  pub config : Config
  pub start : BucketState
  pub script : List Scripted
  pub phases : List (List Lane)
