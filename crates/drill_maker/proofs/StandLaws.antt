-- When steps may stand in a lane: each request can be written, and each fixup names an earlier call.
use Rattle.std.proofs.Common.{◌≡◌, refl, ap, subst, ◌∙◌, ℕ, ◌+◌, ◌≤◌, ◌<◌, List, [], ◌∷◌, ◌++◌, length, length-append, arith}
use Rattle.std.specs.Prelude.{Bool, true, ◌==◌, ◌-◌, nat_lt, nat_le, slice_index, IsTrue, All, if◌then◌else◌}
use Rattle.std.proofs.lemmas.Bool.Decides.{nat_tests}
use Rattle.fuse_requests.specs.Text.{request_text, IsWritable}
use Rattle.fuse_requests.proofs.FrameTexts.{whole-request_text}
use Rattle.mount_model.specs.declared.gate.CallId.{CallId}
use Rattle.scenario.specs.Checks.{Spot, is_earlier}
use Rattle.scenario.specs.Lawful.{EachAfter, IsFix, IsCall, AreCalls}
use Rattle.scenario.specs.Parts.{Call}
use Rattle.drill_maker.specs.Steps.{Step, call_of, numbered, node_of, handle_of}

-- the step may be the lane's call of this index
pub record MayStand (spot : Spot) (index : ℕ) (step : Step) : Type 0 where
  pub writable : IsWritable step.request
  pub fixes : All (IsFix spot index (length (request_text index step.request))) step.fixes

-- the steps may be the lane's calls from this index on
abbrev pub MayAllStand : Spot → ℕ → List Step → Type 0
MayAllStand spot index [] = Unit {0}
MayAllStand spot index (step ∷ steps) = MayStand spot index step × MayAllStand spot (index + 1) steps

-- steps one behind the other
pub stand-append : (spot : Spot) (index : ℕ) (xs ys : List Step) → MayAllStand spot index xs → MayAllStand spot (index + length xs) ys → MayAllStand spot index (xs ++ ys)
stand-append spot index [] ys all more = let same : index + 0 ≡ index = omega arith in subst (λ (n : ℕ). MayAllStand spot n ys) same more
stand-append spot index (x ∷ xs) ys all more =
    let same : index + length (x ∷ xs) ≡ index + 1 + length xs = omega arith in
    (all.0, stand-append spot (index + 1) xs ys all.1 (subst (λ (n : ℕ). MayAllStand spot n ys) same more))

-- behind calls that are as many as come before the index
stand_behind : (spot : Spot) (before : List Call) (index : ℕ) (steps : List Step) → index ≡ length before + 1 → MayAllStand spot index steps
    → EachAfter (λ b. IsCall spot (length b + 1)) before (numbered index steps)
stand_behind spot before index [] is all = tt
stand_behind spot before index (step ∷ steps) is all =
    let one = length-append before (call_of index step ∷ []) in
    let call : IsCall spot index (call_of index step) = record { frame = whole-request_text index step.request all.0.writable; fixes = all.0.fixes } in
    (subst (λ (n : ℕ). IsCall spot n (call_of index step)) is call, stand_behind spot (before ++ call_of index step ∷ []) (index + 1) steps (omega (arith, one, is)) all.1)

-- then their calls are those of a lawful lane
pub stand_in : (spot : Spot) (steps : List Step) → MayAllStand spot 1 steps → AreCalls spot (numbered 1 steps)
stand_in spot steps all = stand_behind spot [] 1 steps refl all

-- ---- fixups

-- a call of the lane before this index
earlier : (spot : Spot) (index : ℕ) (call : CallId) → call.lane ≡ spot.lane → call.index < index → IsTrue (is_earlier spot index call.lane call.index)
earlier spot index call lane before =
    let same : (call.lane == spot.lane) ≡ true = grind (arith, nat_tests) in
    let less : nat_lt call.index index ≡ true = grind (arith, nat_tests) in
    ap (λ (t : Bool). if t then nat_lt call.index index else nat_le call.index (slice_index spot.counts (call.lane - 1))) same ∙ less

module _ (spot : Spot) (index size : ℕ) (call : CallId) (lane : call.lane ≡ spot.lane) (numbered_lane : 1 ≤ call.lane) (first : 1 ≤ call.index) (before : call.index < index) where
  pub node_fits : 40 ≤ size → IsFix spot index size (node_of call)
  node_fits room = record { lane = numbered_lane; call = first; earlier = earlier spot index call lane before; place = omega arith; room = omega (arith, room) }

  pub handle_fits : 48 ≤ size → IsFix spot index size (handle_of call)
  handle_fits room = record { lane = numbered_lane; call = first; earlier = earlier spot index call lane before; place = omega arith; room = omega (arith, room) }
