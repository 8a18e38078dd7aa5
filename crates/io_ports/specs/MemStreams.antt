-- The streams in memory, by what they hold and by the calls of them that fail.
use Rattle.std.specs.Prelude.{ℕ, ◌-◌, ◌==◌, ◌++◌, List, length, Bool, min, take, drop, nat_lt, true, if◌then◌else◌, Some}
use Rattle.std.specs.List.{list_any}
use Rattle.io_ports.specs.Faults.{next_count}
use Rattle.io_ports.specs.Ports.{Port}

-- A source in memory: the bytes it has left, how many calls were made, how many of them failed, which
-- calls fail, by their numbers from 1, and how many bytes one call gives at most.
pub record MemLeft : Type 0 where
  pub left : List ℕ
  pub calls : ℕ
  pub faults : ℕ
  pub failing : List ℕ
  pub piece : ℕ

-- A sink in memory: the bytes put, how many calls were made, how many of them failed, which calls fail,
-- by their numbers from 1, and how many bytes it takes in all.
pub record MemPut : Type 0 where
  pub bytes : List ℕ
  pub calls : ℕ
  pub faults : ℕ
  pub failing : List ℕ
  pub room : ℕ

-- What the source tells.
abbrev pub source_port : MemLeft → Port
source_port source = record { bytes = Some source.left; faults = source.faults }

-- What the sink tells.
abbrev pub sink_port : MemPut → Port
sink_port sink = record { bytes = Some sink.bytes; faults = sink.faults }

-- The next call is one of those that fail.
abbrev pub is_failing : List ℕ → ℕ → Bool
is_failing failing calls = list_any (λ number. number == next_count calls) failing

-- How many bytes the next call of a source gives into a buffer of this length, where it doesn't fail.
abbrev pub given_count : MemLeft → ℕ → ℕ
given_count source room = min (min (length source.left) room) source.piece

-- A source after its next call, into a buffer of this length.
abbrev pub source_after : MemLeft → ℕ → MemLeft
source_after source room =
    if is_failing source.failing source.calls
    then record source { calls = next_count source.calls; faults = next_count source.faults }
    else record source { calls = next_count source.calls; left = drop (given_count source room) source.left }

-- The next call of a sink, with these bytes, fails: by its number, or because they pass the room.
abbrev pub put_fails : MemPut → List ℕ → Bool
put_fails sink bytes =
    if is_failing sink.failing sink.calls then true else nat_lt (sink.room - length sink.bytes) (length bytes)

-- How many of these bytes the next call of a sink takes: none where it fails by its number.
abbrev pub taken_count : MemPut → List ℕ → ℕ
taken_count sink bytes =
    if is_failing sink.failing sink.calls then 0 else min (length bytes) (sink.room - length sink.bytes)

-- A sink after its next call, with these bytes.
abbrev pub sink_after : MemPut → List ℕ → MemPut
sink_after sink bytes = record sink {
  bytes = sink.bytes ++ take (taken_count sink bytes) bytes;
  calls = next_count sink.calls;
  faults = (if put_fails sink bytes then next_count sink.faults else sink.faults);
}
