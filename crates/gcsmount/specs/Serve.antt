-- What serving a stream of request frames comes to, for each of its ends.
use Rattle.std.specs.Prelude.{◌≡◌, ◌≢◌, ◌≤◌, ◌+◌, ◌⊎◌, ℕ, List, [], Some, length, take}
use Rattle.std.specs.List.{concat}
use Rattle.std.specs.Io.KnownBytes.{Appends, Consumes, IsAtEnd}
use Rattle.bucket_api.specs.BucketState.{empty_bucket}
use Rattle.fuse_frames.specs.Cut.{Cuts, IsBelow40, IsOver, HasNoBadLen}
use Rattle.io_ports.specs.Faults.{Rose}
use Rattle.mount_model.specs.declared.config.Config.{Config}
use Rattle.mount_rules.specs.OneThread.{RunState, first_state, Serves, BeginsServing}
use Rattle.io_ports.specs.Ports.{Port}
use Rattle.gcsmount.specs.declared.serve_end.ServeEnd.{ServeEnd}
use Rattle.gcsmount.specs.declared.serve_end.ServeEnd.TheVariants.{Ended, Refused, ReadFault, WriteFault, NoMemory, TooLong}

-- the most bytes of input that are cut into frames
abbrev pub longest_input : ℕ
longest_input = 67108864

-- The input is cut into whole frames and a rest, and what was put are all replies of the one-thread mount over
-- an empty bucket to these frames.
pub record Answered (config : Config) (input rest put : List ℕ) : Type 0 where
  pub frames : List (List ℕ)
  pub cut : Cuts input frames rest
  pub to : RunState
  pub served : Serves config (first_state empty_bucket) frames put to

-- The input is cut likewise, and what was put is a prefix of those replies.
pub record PartlyAnswered (config : Config) (input put : List ℕ) : Type 0 where
  pub frames : List (List ℕ)
  pub rest : List ℕ
  pub cut : Cuts input frames rest
  pub begun : BeginsServing config (first_state empty_bucket) frames put

-- The place in the input of the first byte behind its whole frames.
abbrev pub place_of : {config : Config} {input rest put : List ℕ} → Answered config input rest put → ℕ
place_of answered = length (concat answered.frames)

-- What begins behind the whole frames is no frame: 15 says that its len is below 40, 16 that its len is above
-- 135,168, and 17 that the input ends within it.
abbrev pub IsFault : ℕ → List ℕ → Type 0 → Type 0
IsFault number rest at_end =
    ((number ≡ 15) × IsBelow40 rest) ⊎ (((number ≡ 16) × IsOver rest) ⊎ ((number ≡ 17) × HasNoBadLen rest × (rest ≢ []) × at_end))

-- What an end says of the bytes taken and of the bytes put.
abbrev pub EndsBy : Config → ServeEnd → Port → List ℕ → List ℕ → Type 0
EndsBy config Ended source' taken put =
    (length taken ≤ longest_input) × IsAtEnd source'.bytes × Answered config taken [] put
EndsBy config (Refused number place) source' taken put =
    (rest : List ℕ) × (answered : Answered config (take longest_input taken) rest put) × (place ≡ place_of answered)
    × IsFault number rest ((length taken ≤ longest_input) × IsAtEnd source'.bytes)
EndsBy config ReadFault source' taken put =
    (length taken ≤ longest_input) × (rest : List ℕ) × HasNoBadLen rest × Answered config taken rest put
EndsBy config WriteFault source' taken put =
    PartlyAnswered config (take longest_input taken) put
EndsBy config NoMemory source' taken put =
    PartlyAnswered config (take longest_input taken) put
EndsBy config TooLong source' taken put =
    (length taken ≡ longest_input + 1) × (rest : List ℕ) × HasNoBadLen rest × Answered config (take longest_input taken) rest put

-- What an end says of the source's count of faults: it rose where a read failed, and else it stayed.
abbrev pub CountsReads : ServeEnd → Port → Port → Type 0
CountsReads ReadFault source source' = Rose source.faults source'.faults
CountsReads end source source' = source'.faults ≡ source.faults

-- What an end says of the sink's count of faults: it rose where a write failed, and else it stayed.
abbrev pub CountsWrites : ServeEnd → Port → Port → Type 0
CountsWrites WriteFault sink sink' = Rose sink.faults sink'.faults
CountsWrites end sink sink' = sink'.faults ≡ sink.faults

-- A stream was served to this end, between these moments of its source and its sink.
pub record Streams (config : Config) (end : ServeEnd) (source source' sink sink' : Port) : Type 0 where
  pub taken : List ℕ
  pub put : List ℕ
  pub consumed : Consumes source.bytes source'.bytes taken
  pub appended : Appends sink.bytes sink'.bytes put
  pub bounded : length taken ≤ longest_input + 1
  pub ended : EndsBy config end source' taken put
  pub reads : CountsReads end source source'
  pub writes : CountsWrites end sink sink'

-- An input that can be served whole: frames one behind the other, at most the longest input.
pub record IsGood (input : List ℕ) : Type 0 where
  pub frames : List (List ℕ)
  pub cut : Cuts input frames []
  pub fits : length input ≤ longest_input

-- the end is that all was served, or want of memory
abbrev pub IsDoneOrNoMemory : ServeEnd → Type 0
IsDoneOrNoMemory Ended = Unit {0}
IsDoneOrNoMemory NoMemory = Unit {0}
IsDoneOrNoMemory end = ⊥

-- A good input, with no count of faults that rose, is served to its end, but for want of memory.
abbrev pub IsComplete : ServeEnd → Port → Port → Port → Port → Type 0
IsComplete end source source' sink sink' =
    (input : List ℕ) → source.bytes ≡ Some input → IsGood input → ¬ Rose source.faults source'.faults → ¬ Rose sink.faults sink'.faults
    → IsDoneOrNoMemory end
