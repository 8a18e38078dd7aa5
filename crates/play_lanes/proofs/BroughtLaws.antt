-- What lanes bring, one behind the other, is what the lanes of each phase bring, merged, phase by phase.
use Rattle.std.proofs.Common.{◌≡◌, ℕ, suc, ◌+◌, List, [], ◌∷◌, ◌++◌, length, map, refl, sym, ap, subst, ◌∙◌, arith, append-nil, append_assoc}
use Rattle.std.proofs.lemmas.Grind.{flat_map-append}
use Rattle.std.proofs.lemmas.List.{map-append}
use Rattle.std.specs.List.{flat_map}
use Rattle.bucket_api.specs.Operation.{Operation}
use Rattle.legal_spec.proofs.Merging.{in_order}
use Rattle.legal_spec.specs.Schedules.{InPhases, Move, brought, call_moves, calls_from, calls_of, done, moves_of, operations_of, taken, ticked}
use Rattle.mount_model.specs.declared.gate.CallId.{CallId}
use Rattle.play_lanes.specs.Playing.{Brought, joined, lanes_in, nothing, of_lane, of_lanes}
use Rattle.scenario.specs.Parts.{Call, Lane, calls, clock, remote}

-- ---- joining
pub joined_assoc : (a b c : Brought) → joined (joined a b) c ≡ joined a (joined b c)
joined_assoc a b c = λ i. record {
  moves = append_assoc a.moves b.moves c.moves i;
  writes = append_assoc a.writes b.writes c.writes i;
  calls = append_assoc a.calls b.calls c.calls i;
}

pub joined_nothing : (a : Brought) → joined a nothing ≡ a
joined_nothing a = λ i. record { moves = append-nil a.moves i; writes = append-nil a.writes i; calls = append-nil a.calls i }

-- ---- lanes
pub of_lanes-append : (first : ℕ) (lanes more : List Lane) → of_lanes first (lanes ++ more) ≡ joined (of_lanes first lanes) (of_lanes (first + length lanes) more)
of_lanes-append first [] more = let same : first ≡ first + 0 = omega arith in ap (λ n. of_lanes n more) same
of_lanes-append first (lane ∷ lanes) more =
    let next : first + 1 + length lanes ≡ first + length (lane ∷ lanes) = omega arith in
    ap (joined (of_lane first lane)) (of_lanes-append (first + 1) lanes more)
    ∙ sym (joined_assoc (of_lane first lane) (of_lanes (first + 1) lanes) (of_lanes (first + 1 + length lanes) more))
    ∙ ap (λ n. joined (joined (of_lane first lane) (of_lanes (first + 1) lanes)) (of_lanes n more)) next

-- one more lane
pub of_lanes-next : (lanes : List Lane) (lane : Lane) (number : ℕ) → number ≡ length lanes + 1
    → of_lanes 1 (lanes ++ lane ∷ []) ≡ joined (of_lanes 1 lanes) (of_lane number lane)
of_lanes-next lanes lane number is =
    let same : 1 + length lanes ≡ number = omega (arith, is) in
    of_lanes-append 1 lanes (lane ∷ []) ∙ ap (joined (of_lanes 1 lanes)) (joined_nothing (of_lane (1 + length lanes) lane) ∙ ap (λ n. of_lane n lane) same)

-- ---- phases
module _ {X : Type 0} (brings : ℕ → Lane → List X) where
  abbrev flat : List (List X) → List X
  flat lists = flat_map (λ list. list) lists

  brought-append : (first : ℕ) (lanes more : List Lane) → flat (brought brings first (lanes ++ more)) ≡ flat (brought brings first lanes) ++ flat (brought brings (first + length lanes) more)
  brought-append first [] more = let same : first ≡ first + 0 = omega arith in ap (λ n. flat (brought brings n more)) same
  brought-append first (lane ∷ lanes) more =
      let next : first + 1 + length lanes ≡ first + length (lane ∷ lanes) = omega arith in
      ap (λ list. brings first lane ++ list) (brought-append (first + 1) lanes more)
      ∙ sym (append_assoc (brings first lane) (flat (brought brings (first + 1) lanes)) (flat (brought brings (first + 1 + length lanes) more)))
      ∙ ap (λ n. (brings first lane ++ flat (brought brings (first + 1) lanes)) ++ flat (brought brings n more)) next

  phased : (first : ℕ) (phases : List (List Lane)) → InPhases brings first phases (flat (brought brings first (lanes_in phases)))
  phased first [] = refl
  phased first (lanes ∷ phases) = (
    flat (brought brings first lanes),
    flat (brought brings (first + length lanes) (lanes_in phases)),
    brought-append first lanes (lanes_in phases),
    in_order (brought brings first lanes),
    phased (first + length lanes) phases,
  )

  pub in_phases : (phases : List (List Lane)) (list : List X) → list ≡ flat (brought brings 1 (lanes_in phases)) → InPhases brings 1 phases list
  in_phases phases list is = subst (InPhases brings 1 phases) (sym is) (phased 1 phases)

pub moves_in_order : (first : ℕ) (lanes : List Lane) → (of_lanes first lanes).moves ≡ flat_map (λ (list : List Move). list) (brought moves_of first lanes)
moves_in_order first [] = refl
moves_in_order first (lane ∷ lanes) = ap (λ list. moves_of first lane ++ list) (moves_in_order (first + 1) lanes)

pub writes_in_order : (first : ℕ) (lanes : List Lane) → (of_lanes first lanes).writes ≡ flat_map (λ (list : List (ℕ × Operation)). list) (brought operations_of first lanes)
writes_in_order first [] = refl
writes_in_order first (lane ∷ lanes) = ap (λ list. operations_of first lane ++ list) (writes_in_order (first + 1) lanes)

pub calls_in_order : (first : ℕ) (lanes : List Lane) → (of_lanes first lanes).calls ≡ flat_map (λ (list : List CallId). list) (brought calls_of first lanes)
calls_in_order first [] = refl
calls_in_order first (lane ∷ lanes) = ap (λ list. calls_of first lane ++ list) (calls_in_order (first + 1) lanes)

-- ---- items of a lane
-- what one call brings
abbrev pub of_call : CallId → Brought
of_call call = record { moves = taken call ∷ done call ∷ []; writes = []; calls = call ∷ [] }

call_moves-next : (lane index : ℕ) (cs : List Call) (c : Call) (at : CallId) → at ≡ record { lane = lane; index = index + length cs }
    → call_moves lane index (cs ++ c ∷ []) ≡ call_moves lane index cs ++ taken at ∷ done at ∷ []
call_moves-next lane index [] c at is =
    let same : index ≡ index + 0 = omega arith in
    let its : record { lane = lane; index = index } ≡ at = ap (λ n. record { lane = lane; index = n }) same ∙ sym is in
    ap (λ (call : CallId). taken call ∷ done call ∷ []) its
call_moves-next lane index (d ∷ cs) c at is =
    let next : index + length (d ∷ cs) ≡ index + 1 + length cs = omega arith in
    ap (λ moves. taken (record { lane = lane; index = index }) ∷ done (record { lane = lane; index = index }) ∷ moves)
    (call_moves-next lane (index + 1) cs c at (is ∙ ap (λ n. record { lane = lane; index = n }) next))

calls_from-next : (lane index : ℕ) (cs : List Call) (c : Call) (at : CallId) → at ≡ record { lane = lane; index = index + length cs }
    → calls_from lane index (cs ++ c ∷ []) ≡ calls_from lane index cs ++ at ∷ []
calls_from-next lane index [] c at is =
    let same : index ≡ index + 0 = omega arith in
    let its : record { lane = lane; index = index } ≡ at = ap (λ n. record { lane = lane; index = n }) same ∙ sym is in
    ap (λ (call : CallId). call ∷ []) its
calls_from-next lane index (d ∷ cs) c at is =
    let next : index + length (d ∷ cs) ≡ index + 1 + length cs = omega arith in
    ap (λ calls. record { lane = lane; index = index } ∷ calls) (calls_from-next lane (index + 1) cs c at (is ∙ ap (λ n. record { lane = lane; index = n }) next))

pub call_next : (lane : ℕ) (cs : List Call) (c : Call) (at : CallId) → at ≡ record { lane = lane; index = 1 + length cs }
    → of_lane lane (calls (cs ++ c ∷ [])) ≡ joined (of_lane lane (calls cs)) (of_call at)
call_next lane cs c at is = λ i. record { moves = call_moves-next lane 1 cs c at is i; writes = []; calls = calls_from-next lane 1 cs c at is i }

-- what one operation of a remote writer brings
abbrev pub of_write : ℕ → Operation → Brought
of_write lane op = record { moves = []; writes = (lane, op) ∷ []; calls = [] }

pub write_next : (lane : ℕ) (ops : List Operation) (op : Operation) → of_lane lane (remote (ops ++ op ∷ [])) ≡ joined (of_lane lane (remote ops)) (of_write lane op)
write_next lane ops op = λ i. record { moves = []; writes = map-append (λ (o : Operation). (lane, o)) ops (op ∷ []) i; calls = [] }

-- what one step of a clock brings
abbrev pub of_step : ℕ → Brought
of_step seconds = record { moves = ticked seconds ∷ []; writes = []; calls = [] }

pub step_next : (lane : ℕ) (steps : List ℕ) (seconds : ℕ) → of_lane lane (clock (steps ++ seconds ∷ [])) ≡ joined (of_lane lane (clock steps)) (of_step seconds)
step_next lane steps seconds = λ i. record { moves = map-append ticked steps (seconds ∷ []) i; writes = []; calls = [] }
