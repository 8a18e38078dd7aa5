-- What serving has come to on its way: after some input, after one more piece, and after one more turn.
use Rattle.std.specs.Prelude.{◌≡◌, ◌≤◌, ◌++◌, ◌⊎◌, ℕ, List, [], Result, Ok, Err, length, ◌≢◌}
use Rattle.std.specs.List.{concat}
use Rattle.std.specs.Io.KnownBytes.{Appends, Consumes}
use Rattle.bucket_api.specs.BucketState.{empty_bucket}
use Rattle.fuse_frames.specs.Cut.{Cuts, IsBelow40, IsOver, HasNoBadLen}
use Rattle.fuse_frames.specs.Cutter.{Cutter, place}
use Rattle.mount_model.specs.declared.config.Config.{Config}
use Rattle.mount_core.specs.Serials.{CameTo, SerialState}
use Rattle.mount_rules.specs.OneThread.{RunState, Serves, first_state}
use Rattle.io_ports.specs.Ports.{Port}
use Rattle.gcsmount.specs.Serve.{Answered, CountsReads, CountsWrites, EndsBy, PartlyAnswered, longest_input, place_of}
use Rattle.fuse_frames.specs.declared.fault.CutFault.{CutFault}
use Rattle.fuse_frames.specs.declared.fault.CutFault.TheVariants as cut
use Rattle.gcsmount.specs.declared.answer.Stop.{Stop}
use Rattle.gcsmount.specs.declared.answer.Stop.TheVariants as stops
use Rattle.gcsmount.specs.declared.serve_end.ServeEnd.{ServeEnd}
use Rattle.gcsmount.specs.declared.serve_end.ServeEnd.TheVariants.{Ended, Refused, ReadFault, WriteFault, NoMemory, TooLong}

-- Every whole frame of the input was answered, by these bytes; what is left of it waits in the cutter.
pub record HasServed (config : Config) (input put : List ℕ) (cutter : Cutter) (mount : SerialState) : Type 0 where
  pub frames : List (List ℕ)
  pub cut : Cuts input frames cutter.rest
  pub sound : HasNoBadLen cutter.rest
  pub none_waits : cutter.held ≡ []
  pub given : cutter.given ≡ length (concat frames)
  pub settings : mount.config ≡ config
  pub run : RunState
  pub came : CameTo run mount
  pub served : Serves config (first_state empty_bucket) frames put run

-- the bytes begin with a bad len: 15 where it is below 40, 16 where it is above 135,168
abbrev pub IsBadLen : ℕ → List ℕ → Type 0
IsBadLen number rest = ((number ≡ 15) × IsBelow40 rest) ⊎ ((number ≡ 16) × IsOver rest)

-- what an end within a piece says of the input up to and with the piece
abbrev pub PieceEnds : Config → ServeEnd → List ℕ → List ℕ → Type 0
PieceEnds config (Refused number place) input put =
    (rest : List ℕ) × (answered : Answered config input rest put) × (place ≡ place_of answered) × IsBadLen number rest
PieceEnds config WriteFault input put = PartlyAnswered config input put
PieceEnds config NoMemory input put = PartlyAnswered config input put
PieceEnds config Ended input put = ⊥
PieceEnds config ReadFault input put = ⊥
PieceEnds config TooLong input put = ⊥

-- a piece was served: its whole frames were answered
pub record ServesOn (config : Config) (input put piece : List ℕ) (cutter : Cutter) (mount : SerialState) (sink sink' : Port) : Type 0 where
  pub more : List ℕ
  pub appended : Appends sink.bytes sink'.bytes more
  pub on : HasServed config (input ++ piece) (put ++ more) cutter mount
  pub faults : sink'.faults ≡ sink.faults

-- serving ended within a piece
pub record EndsIn (config : Config) (end : ServeEnd) (input put piece : List ℕ) (sink sink' : Port) : Type 0 where
  pub more : List ℕ
  pub appended : Appends sink.bytes sink'.bytes more
  pub ends : PieceEnds config end (input ++ piece) (put ++ more)
  pub writes : CountsWrites end sink sink'

-- what serving a piece came to
abbrev pub ServesPiece : {U : Type 0} → Config → List ℕ → List ℕ → List ℕ → Cutter → SerialState → Port → Port → Result U ServeEnd → Type 0
ServesPiece config input put piece cutter' mount' sink sink' (Ok _) = ServesOn config input put piece cutter' mount' sink sink'
ServesPiece config input put piece cutter' mount' sink sink' (Err end) = EndsIn config end input put piece sink sink'

-- serving ended with these bytes taken, whatever the source did
pub record StopsAfter (config : Config) (end : ServeEnd) (input put piece : List ℕ) (sink sink' : Port) : Type 0 where
  pub more : List ℕ
  pub appended : Appends sink.bytes sink'.bytes more
  pub ends : (source' : Port) → EndsBy config end source' (input ++ piece) (put ++ more)
  pub reads : (source source' : Port) → source'.faults ≡ source.faults → CountsReads end source source'
  pub writes : CountsWrites end sink sink'

-- what serving the bytes of one take came to: only while the input isn't too long does it go on
abbrev pub ServesTaken : {U : Type 0} → Config → List ℕ → List ℕ → List ℕ → Cutter → SerialState → Port → Port → Result U ServeEnd → Type 0
ServesTaken config input put piece cutter' mount' sink sink' (Ok _) =
    (length (input ++ piece) ≤ longest_input) × ServesOn config input put piece cutter' mount' sink sink'
ServesTaken config input put piece cutter' mount' sink sink' (Err end) = StopsAfter config end input put piece sink sink'

-- the end to which a fault of cutting leads
abbrev pub end_of : {U : Type 0} → Result U CutFault → Result U ServeEnd
end_of (Ok u) = Ok u
end_of (Err cut.NoMemory) = Err NoMemory
end_of (Err (cut.LenBelow40 at)) = Err (Refused 15 at)
end_of (Err (cut.LenOver at)) = Err (Refused 16 at)
end_of (Err (cut.Truncated at)) = Err (Refused 17 at)

-- the end to which a stop leads
abbrev pub end_by : Stop → ServeEnd
end_by stops.WriteFault = WriteFault
end_by stops.NoMemory = NoMemory

-- the end of the input, after what waits in the cutter
abbrev pub FinishesBy : Cutter → ServeEnd → Type 0
FinishesBy cutter Ended = cutter.rest ≡ []
FinishesBy cutter (Refused number at) =
    IsBadLen number cutter.rest ⊎ ((number ≡ 17) × (cutter.rest ≢ []) × (at ≡ place cutter))
FinishesBy cutter end = ⊥

-- Serving goes on: between these moments of the source and of the sink so many bytes were taken, and every
-- whole frame of them was answered.
pub record Progress (config : Config) (source source' sink sink' : Port) (taken : ℕ) (cutter : Cutter) (mount : SerialState) : Type 0 where
  pub input : List ℕ
  pub put : List ℕ
  pub consumed : Consumes source.bytes source'.bytes input
  pub appended : Appends sink.bytes sink'.bytes put
  pub counted : taken ≡ length input
  pub within : taken ≤ longest_input
  pub source_held : source'.faults ≡ source.faults
  pub sink_held : sink'.faults ≡ sink.faults
  pub served : HasServed config input put cutter mount
