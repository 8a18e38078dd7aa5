-- What contracts see of a mount on one thread, and what a call comes to.
use Rattle.std.specs.Prelude.{◌≡◌}
use Rattle.bucket_api.specs.BucketState.{BucketState}
use Rattle.fuse_replies.specs.declared.reply.Reply.{Reply}
use Rattle.fuse_requests.specs.declared.request.Request.{Request}
use Rattle.mount_core.specs.Metadatas.{GivesMetadata}
use Rattle.mount_core.specs.Stores.{Counted, LeavesBucket}
use Rattle.mount_model.specs.Configs.{IsConfig}
use Rattle.mount_model.specs.declared.config.Config.{Config}
use Rattle.mount_rules.specs.Laws.{FilesHaveContent, StagedStandOver}
use Rattle.mount_rules.specs.Mount.{MountModel, first_mount}
use Rattle.mount_rules.specs.OneThread.{Performs, RunState}
use Rattle.mount_state.specs.Mounts.{MountState}

-- The settings, what the mount holds, and its bucket with the number of operations made on it. It keeps no log, so that
-- a mount that serves for long does not hold all that was ever written.
pub record SerialState : Type 0 where
  pub config : Config
  pub mount : MountModel
  pub store : Counted

-- before the first request, over this bucket
abbrev pub first_serial : Config → BucketState → SerialState
first_serial config bucket = record { config = config; mount = first_mount; store = record { bucket = bucket; made = 0 } }

-- A run came to this mount, by a log that leaves this bucket. What the files show was live in it, with content of their
-- sizes; what is staged stands over that; and what a flush gives as metadata may be given.
pub record CameTo (run : RunState) (serial : SerialState) : Type 0 where
  pub mount : serial.mount ≡ run.mount
  pub store : LeavesBucket run.store serial.store
  pub files : FilesHaveContent run
  pub staged : StagedStandOver run
  pub metadata : GivesMetadata run.mount

-- one more request of a run is performed, or ends otherwise, and what it leaves came to this
pub record GoesOn (run : RunState) (config : Config) (request : Request) (answer : Reply) (after : SerialState) : Type 0 where
  pub left : RunState
  pub performs : Performs config run request answer left
  pub came : CameTo left after

-- Whatever run came to the one state, the request is its next one, with this answer, and the longer run came to the other.
abbrev pub ServesOne : SerialState → Request → Reply → SerialState → Type 0
ServesOne before request answer after = (run : RunState) → CameTo run before → GoesOn run before.config request answer after

-- the settings are in their ranges and the mount's, no request is under way, and some run came to it
pub record IsSerial (config : Config) (mount : MountState) (store : Counted) : Type 0 where
  pub settings : IsConfig config
  pub same : mount.config ≡ config
  pub idle : mount.promised ≡ 0
  pub run : RunState
  pub came : CameTo run (record { config = config; mount = mount.mount; store = store })
