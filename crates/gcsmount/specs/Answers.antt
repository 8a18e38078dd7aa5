-- What answering frames comes to.
use Rattle.std.specs.Prelude.{◌≡◌, ℕ, List, Result, Ok, Err}
use Rattle.std.specs.Io.KnownBytes.{Appends}
use Rattle.io_ports.specs.Faults.{Rose}
use Rattle.mount_core.specs.Serials.{CameTo, SerialState}
use Rattle.mount_model.specs.declared.config.Config.{Config}
use Rattle.mount_rules.specs.OneThread.{BeginsServing, RunState, Serves}
use Rattle.io_ports.specs.Ports.{Port}
use Rattle.gcsmount.specs.declared.answer.Stop.{Stop}
use Rattle.gcsmount.specs.declared.answer.Stop.TheVariants.{WriteFault, NoMemory}

-- A run goes on through these frames, by these bytes, and comes to this mount.
pub record LeadsTo (run : RunState) (config : Config) (frames : List (List ℕ)) (put : List ℕ) (after : SerialState) : Type 0 where
  pub to : RunState
  pub served : Serves config run frames put to
  pub came : CameTo to after

-- Whatever run came to the one mount, it goes on through these frames, by these bytes, and comes to the other.
abbrev pub ServesFrames : SerialState → List (List ℕ) → List ℕ → SerialState → Type 0
ServesFrames before frames put after = (run : RunState) → CameTo run before → LeadsTo run before.config frames put after

-- Whatever run came to the mount, the bytes are a prefix of the replies to these frames.
abbrev pub BeginsFrames : SerialState → List (List ℕ) → List ℕ → Type 0
BeginsFrames before frames put = (run : RunState) → CameTo run before → BeginsServing before.config run frames put

-- These frames were answered: all replies of the one-thread mount to them were put.
pub record AnswersAll (mount mount' : SerialState) (frames : List (List ℕ)) (sink sink' : Port) : Type 0 where
  pub put : List ℕ
  pub appended : Appends sink.bytes sink'.bytes put
  pub config : mount'.config ≡ mount.config
  pub served : ServesFrames mount frames put mount'
  pub faults : sink'.faults ≡ sink.faults

-- A prefix of the replies to these frames was put.
pub record AnswersSome (mount : SerialState) (frames : List (List ℕ)) (sink sink' : Port) : Type 0 where
  pub put : List ℕ
  pub appended : Appends sink.bytes sink'.bytes put
  pub begun : BeginsFrames mount frames put

-- what a stop says of the sink's count of faults
abbrev pub IsCause : Stop → Port → Port → Type 0
IsCause WriteFault sink sink' = Rose sink.faults sink'.faults
IsCause NoMemory sink sink' = sink'.faults ≡ sink.faults

-- what answering frames came to
abbrev pub Answers : {U : Type 0} → SerialState → SerialState → List (List ℕ) → Port → Port → Result U Stop → Type 0
Answers mount mount' frames sink sink' (Ok _) = AnswersAll mount mount' frames sink sink'
Answers mount mount' frames sink sink' (Err stop) = AnswersSome mount frames sink sink' × IsCause stop sink sink'
