-- From the steps of a play to its ends, and from its ends to what was printed.
use Rattle.std.proofs.Common.{◌≡◌, ◌≤◌, ◌+◌, ◌++◌, inl, inr, [], List, ℕ, length, Option, Some, None, Ok, Err, subst, sym, refl, ap, ◌∙◌, ◌⊎◌, arith, append-nil, length-append}
use Rattle.std.specs.Io.KnownBytes.{Appends, Consumes, IsAtEnd}
use Rattle.history_text.specs.HistoryText.{History, history_text}
use Rattle.io_ports.specs.Faults.{Rose}
use Rattle.io_ports.specs.Ports.{Port}
use Rattle.scenario.specs.Format.{scenario_of}
use Rattle.scenario.specs.Parts.{ScenarioData}
use Rattle.scenario.specs.Walks.{Fault}
use Rattle.gcsmount.specs.Plays.{IsPlayable, IsPlayedFrom, PlayEndsBy, PlayReads, PlaysStream, ReadsScenario, ScenarioEndsBy, StopsReading}
use Rattle.gcsmount.specs.Serve.{longest_input}
use Rattle.gcsmount.specs.Tool.{EndsPlay, IsPlayedWhole, PrintsHistory, RunsPlay}
use Rattle.gcsmount.specs.declared.play_end.PlayEnd.{PlayEnd}
use Rattle.gcsmount.specs.declared.play_end.PlayEnd.TheVariants.{Played, Refused, ReadFault, WriteFault, NoMemory, TooLong}

-- ---- ends
-- the scenario that was read was played to this end
pub played_stream : (end : PlayEnd) (scenario : ScenarioData) (source source' sink sink' : Port) → ReadsScenario scenario source source' → ScenarioEndsBy end scenario sink sink'
    → PlaysStream end source source' sink sink'
played_stream end scenario source source' sink sink' reads ends = record {
  taken = reads.taken;
  consumed = reads.consumed;
  bounded = let within : length reads.taken ≤ longest_input = reads.whole.0 in omega (arith, within);
  ended = ended end ends;
  reads = counts end ends;
}
  where
    ended : (e : PlayEnd) → ScenarioEndsBy e scenario sink sink' → PlayEndsBy e source' reads.taken sink sink'
    ended Played its = (reads.whole, scenario, reads.is, its.0, its.1, its.2, its.3)
    ended WriteFault its = (reads.whole, scenario, reads.is, its.0, its.1, its.2, its.3)
    ended NoMemory its = its
    ended ReadFault its = absurd its
    ended TooLong its = absurd its
    ended (Refused number place) its = absurd its

    counts : (e : PlayEnd) → ScenarioEndsBy e scenario sink sink' → PlayReads e source source'
    counts Played its = reads.held
    counts WriteFault its = reads.held
    counts NoMemory its = reads.held
    counts ReadFault its = absurd its
    counts TooLong its = absurd its
    counts (Refused number place) its = absurd its

-- no scenario was read
pub stopped_stream : (end : PlayEnd) (source source' sink : Port) → StopsReading end source source' → PlaysStream end source source' sink sink
stopped_stream end source source' sink stops = record { taken = stops.taken; consumed = stops.consumed; bounded = stops.bounded; ended = stops.ended sink; reads = stops.reads }

-- ---- what is known of a told input
-- what is left of it
left_of : (input : List ℕ) (left : Option (List ℕ)) (taken : List ℕ) → Consumes (Some input) left taken → (rest : List ℕ) × (left ≡ Some rest) × (input ≡ taken ++ rest)
left_of input None taken consumed = absurd consumed
left_of input (Some rest) taken consumed = (rest, refl, consumed)

-- and where nothing is left, it was taken whole
record IsTaken (input : List ℕ) (left : Option (List ℕ)) (taken : List ℕ) : Type 0 where
  is : input ≡ taken
  at_end : left ≡ Some []

taken_whole : (input : List ℕ) (left : Option (List ℕ)) (taken : List ℕ) → Consumes (Some input) left taken → IsAtEnd left → IsTaken input left taken
taken_whole input None taken consumed at_end = absurd consumed
taken_whole input (Some rest) taken consumed at_end = record { is = consumed ∙ ap (λ back. taken ++ back) at_end ∙ append-nil taken; at_end = ap Some at_end }

-- ---- what a run prints
pub prints : (source source' sink sink' notes notes' : Port) (status : ℕ) → RunsPlay source source' sink sink' notes notes' status → PrintsHistory status source source' sink sink'
prints source source' sink sink' notes notes' status runs input told ok = by runs.end runs.told runs.streams.ended
  where
    its : Consumes (Some input) source'.bytes runs.streams.taken
    its = subst (λ left. Consumes left source'.bytes runs.streams.taken) told runs.streams.consumed

    by : (end : PlayEnd) → EndsPlay end notes notes' status → PlayEndsBy end source' runs.streams.taken sink sink' → IsPlayedFrom input source' sink sink'
    by Played ends (whole_input, scenario, is, put, (history, legal, printed), appended, held) =
        let whole = taken_whole input source'.bytes runs.streams.taken its whole_input.1 in
        record {
          at_end = whole.at_end;
          scenario = scenario;
          is = ap scenario_of whole.is ∙ is;
          log = legal.log;
          journal = legal.journal;
          history = legal.orderly;
          put = subst (Appends sink.bytes sink'.bytes) (printed ∙ ap history_text legal.printed) appended;
        }
    by (Refused number place) (inl (inl said)) ended = absurd (let never : 1 ≡ 0 = sym said.0 ∙ ok in omega (arith, never))
    by (Refused number place) (inl (inr failed)) ended = absurd (let never : 4 ≡ 0 = sym failed.0 ∙ ok in omega (arith, never))
    by (Refused number place) (inr memory) ended = absurd (let never : 5 ≡ 0 = sym memory.0 ∙ ok in omega (arith, never))
    by ReadFault ends ended = absurd (let never : 3 ≡ 0 = sym ends.0 ∙ ok in omega (arith, never))
    by WriteFault ends ended = absurd (let never : 4 ≡ 0 = sym ends.0 ∙ ok in omega (arith, never))
    by NoMemory ends ended = absurd (let never : 5 ≡ 0 = sym ends.0 ∙ ok in omega (arith, never))
    by TooLong ends ended = absurd (let never : 6 ≡ 0 = sym ends.0 ∙ ok in omega (arith, never))

-- an input that can be played is played whole
pub plays_whole : (source source' sink sink' notes notes' : Port) (status : ℕ) → RunsPlay source source' sink sink' notes notes' status → IsPlayedWhole status source source' sink sink'
plays_whole source source' sink sink' notes notes' status runs input told playable source_held sink_held = by runs.end runs.told runs.streams.ended runs.streams.reads
  where
    its : Consumes (Some input) source'.bytes runs.streams.taken
    its = subst (λ left. Consumes left source'.bytes runs.streams.taken) told runs.streams.consumed

    by : (end : PlayEnd) → EndsPlay end notes notes' status → PlayEndsBy end source' runs.streams.taken sink sink' → PlayReads end source source' → (status ≡ 0) ⊎ (status ≡ 5)
    by Played ends ended reads = inl ends.0
    by NoMemory ends ended reads = inr ends.0
    by ReadFault ends ended reads = absurd (source_held reads)
    by WriteFault ends (whole_input, scenario, is, put, printed, appended, rose) reads = absurd (sink_held rose)
    by TooLong ends (long, same) reads =
        let left = left_of input source'.bytes runs.streams.taken its in
        let fits : length input ≤ longest_input = playable.fits in
        let size : length input ≡ length runs.streams.taken + length left.0 = ap length left.2 ∙ length-append runs.streams.taken left.0 in
        absurd (omega (arith, long, fits, size))
    by (Refused number place) ends (whole_input, bad, same) reads =
        let whole = taken_whole input source'.bytes runs.streams.taken its whole_input.1 in
        let is : scenario_of input ≡ Ok playable.scenario = playable.is in
        absurd (let never : Err (record { number = number; place = place }) ≡ Ok playable.scenario = sym bad ∙ ap scenario_of (sym whole.is) ∙ is in cc)
