-- The calls of a scenario rise by lane and then by index, and each has a reply frame.
use Rattle.std.proofs.Common.{◌≤◌, ℕ, ◌+◌, List, [], ◌∷◌, ◌++◌, refl, inl, inr, arith}
use Rattle.std.proofs.lemmas.List.{length-map}
use Rattle.std.specs.List.{flat_map}
use Rattle.history_text.specs.HistoryText.{CallsRise}
use Rattle.history_spec.specs.JournalState.{replies_of}
use Rattle.legal_spec.specs.Legal.{played}
use Rattle.legal_spec.specs.Promises.{HistoriesArePlayed}
use Rattle.legal_spec.specs.Schedules.{brought, calls_from, calls_of}
use Rattle.legal_spec.specs.Texts.{all_calls, reply_frame}
use Rattle.mount_model.specs.declared.gate.CallId.{CallId}
use Rattle.scenario.specs.Parts.{Call, Lane, calls, clock, remote}

-- the first call, if any, is of this lane or a later one
abbrev BeginsAt : ℕ → List CallId → Type 0
BeginsAt lane [] = Unit {0}
BeginsAt lane (call ∷ more) = lane ≤ call.lane

begins_sooner : (lane : ℕ) (more : List CallId) → BeginsAt (lane + 1) more → BeginsAt lane more
begins_sooner lane [] begins = tt
begins_sooner lane (call ∷ more) begins = omega arith

-- a call before others
rise_first : (call : CallId) (more : List CallId) → CallsRise more → BeginsAt (call.lane + 1) more → CallsRise (call ∷ more)
rise_first call [] rise begins = tt
rise_first call (next ∷ more) rise begins = (inl (omega arith), rise)

-- the calls of a lane, before those of later ones
record AreInOrder (lane : ℕ) (list : List CallId) : Type 0 where
  rise : CallsRise list
  begins : BeginsAt lane list

lane_in_order : (lane index : ℕ) (cs : List Call) (more : List CallId) → AreInOrder (lane + 1) more → AreInOrder lane (calls_from lane index cs ++ more)
lane_in_order lane index [] more are = record { rise = are.rise; begins = begins_sooner lane more are.begins }
lane_in_order lane index (c ∷ []) more are = record { rise = rise_first (record { lane = lane; index = index }) more are.rise are.begins; begins = omega arith }
lane_in_order lane index (c ∷ d ∷ cs) more are = record {
  rise = (inr (refl, omega arith), (lane_in_order lane (index + 1) (d ∷ cs) more are).rise);
  begins = omega arith;
}

lanes_in_order : (first : ℕ) (lanes : List Lane) → AreInOrder first (flat_map (λ list. list) (brought calls_of first lanes))
lanes_in_order first [] = record { rise = tt; begins = tt }
lanes_in_order first (calls cs ∷ lanes) = lane_in_order first 1 cs (flat_map (λ list. list) (brought calls_of (first + 1) lanes)) (lanes_in_order (first + 1) lanes)
lanes_in_order first (remote ops ∷ lanes) = lane_in_order first 1 [] (flat_map (λ list. list) (brought calls_of (first + 1) lanes)) (lanes_in_order (first + 1) lanes)
lanes_in_order first (clock steps ∷ lanes) = lane_in_order first 1 [] (flat_map (λ list. list) (brought calls_of (first + 1) lanes)) (lanes_in_order (first + 1) lanes)

pub histories_are_played : HistoriesArePlayed
histories_are_played scenario log account = record {
  answered = length-map (all_calls scenario.phases) (reply_frame scenario.phases (replies_of (played scenario log account)));
  rise = (lanes_in_order 1 (flat_map (λ lanes. lanes) scenario.phases)).rise;
}
