-- In a legal history each scripted call is done, once, in the order of its lane, and none is under way.
use Rattle.std.proofs.Common.{◌≡◌, ◌≢◌, ℕ, ◌+◌, Bool, true, false, cond, List, [], ◌∷◌, ◌++◌, length, map, Option, Some, None, refl, sym, ap, ◌∙◌, ◌⊎◌, inl, inr, arith, append-nil, append_assoc, length-append}
use Rattle.std.proofs.lemmas.Bool.Decides.{eqb_tells}
use Rattle.std.specs.List.{cons_option, filter_map}
use Rattle.std.specs.Option.{option_map_or}
use Rattle.std.specs.Prelude.{if◌then◌else◌, ◌==◌}
use Rattle.bucket_api.specs.BucketState.{BucketState}
use Rattle.bucket_api.specs.LogEvent.{LogEvent}
use Rattle.history_spec.proofs.Lanes.{open_of-first, open_of-gone, open_of-later, open_of-others}
use Rattle.history_spec.specs.Account as account
use Rattle.history_spec.specs.Account.{Account, Item, Turn, printed}
use Rattle.history_spec.specs.Fits.{Follows, MayFollow}
use Rattle.history_spec.specs.JournalState.{JournalState, OpenCall, after_done, after_turn, after_turns, first_journal, open_of, others_of}
use Rattle.legal_spec.proofs.PhaseLaws.{picked}
use Rattle.legal_spec.specs.Legal.{Legal, played}
use Rattle.legal_spec.specs.Promises.{CallsAreDone, done_in}
use Rattle.legal_spec.specs.Schedules.{Move, call_moves, calls_from, calls_of, done, lane_at, move_of, moves_of, taken, ticked}
use Rattle.mount_model.specs.Journal.{Entry}
use Rattle.mount_model.specs.declared.config.Config.{Config}
use Rattle.mount_model.specs.declared.gate.CallId.{CallId}
use Rattle.mount_model.specs.declared.journal.How.{How}
use Rattle.scenario.specs.Parts.{Call, Lane, ScenarioData, calls, clock, remote}

-- the call, where it is one of the lane
abbrev of_lane : ℕ → CallId → Option CallId
of_lane number call = if call.lane == number then Some call else None

abbrev taken_of : ℕ → Move → Option CallId
taken_of number (taken call) = of_lane number call
taken_of number (done call) = None
taken_of number (ticked seconds) = None

abbrev done_of : ℕ → Move → Option CallId
done_of number (taken call) = None
done_of number (done call) = of_lane number call
done_of number (ticked seconds) = None

-- ---- the moves of a lane
none_either : (its : Bool) (none : List CallId) → none ≡ [] → [] ≡ (if its then none else [])
none_either true none is = sym is
none_either false none is = refl

calls_taken : (number n index : ℕ) (cs : List Call) → filter_map (taken_of number) (call_moves n index cs) ≡ (if n == number then calls_from n index cs else [])
calls_taken number n index [] = none_either (n == number) [] refl
calls_taken number n index (c ∷ cs) = ap (cons_option (of_lane number (record { lane = n; index = index }))) (calls_taken number n (index + 1) cs) ∙ by (n == number)
  where
    by : (its : Bool) → cons_option (if its then Some (record { lane = n; index = index }) else None) (if its then calls_from n (index + 1) cs else [])
        ≡ (if its then record { lane = n; index = index } ∷ calls_from n (index + 1) cs else [])
    by true = refl
    by false = refl

calls_done : (number n index : ℕ) (cs : List Call) → filter_map (done_of number) (call_moves n index cs) ≡ (if n == number then calls_from n index cs else [])
calls_done number n index [] = none_either (n == number) [] refl
calls_done number n index (c ∷ cs) = ap (cons_option (of_lane number (record { lane = n; index = index }))) (calls_done number n (index + 1) cs) ∙ by (n == number)
  where
    by : (its : Bool) → cons_option (if its then Some (record { lane = n; index = index }) else None) (if its then calls_from n (index + 1) cs else [])
        ≡ (if its then record { lane = n; index = index } ∷ calls_from n (index + 1) cs else [])
    by true = refl
    by false = refl

no_steps : (h : Move → Option CallId) → ((seconds : ℕ) → h (ticked seconds) ≡ None) → (steps : List ℕ) → filter_map h (map ticked steps) ≡ []
no_steps h none [] = refl
no_steps h none (seconds ∷ steps) = ap (λ found. cons_option found (filter_map h (map ticked steps))) (none seconds) ∙ no_steps h none steps

-- at its own number a lane has its calls
at_number : (n number : ℕ) (lane : Lane) → (if n == number then calls_of n lane else []) ≡ (if n == number then calls_of number lane else [])
at_number n number lane = by (eqb_tells n number)
  where
    by : (((n == number) ≡ true) × (n ≡ number)) ⊎ (((n == number) ≡ false) × (n ≢ number))
        → (if n == number then calls_of n lane else []) ≡ (if n == number then calls_of number lane else [])
    by (inl its) = ap (λ k. if n == number then calls_of k lane else []) its.1
    by (inr far) = ap (λ t. cond t (calls_of n lane) []) far.0 ∙ sym (ap (λ t. cond t (calls_of number lane) []) far.0)

lane_taken : (number n : ℕ) (lane : Lane) → filter_map (taken_of number) (moves_of n lane) ≡ (if n == number then calls_of number lane else [])
lane_taken number n (calls cs) = calls_taken number n 1 cs ∙ at_number n number (calls cs)
lane_taken number n (remote ops) = none_either (n == number) [] refl
lane_taken number n (clock steps) = no_steps (taken_of number) (λ seconds. refl) steps ∙ none_either (n == number) [] refl

lane_done : (number n : ℕ) (lane : Lane) → filter_map (done_of number) (moves_of n lane) ≡ (if n == number then calls_of number lane else [])
lane_done number n (calls cs) = calls_done number n 1 cs ∙ at_number n number (calls cs)
lane_done number n (remote ops) = none_either (n == number) [] refl
lane_done number n (clock steps) = no_steps (done_of number) (λ seconds. refl) steps ∙ none_either (n == number) [] refl

-- ---- along an account
-- the call of a lane that is under way
abbrev open_in : List OpenCall → ℕ → List CallId
open_in opened number = option_map_or (λ (o : OpenCall). o.call ∷ []) (open_of opened number) []

-- the calls of a lane that were taken: those that are done, and the one under way
abbrev taken_in : JournalState → ℕ → List CallId
taken_in state number = done_in state.ended number ++ open_in state.opened number

abbrev moves_in : Account → List Move
moves_in turns = map move_of (map printed turns)

module _ (config : Config) (start : BucketState) (log : List LogEvent) (number : ℕ) where
  abbrev Its : ℕ → Type 0
  Its lane = (((lane == number) ≡ true) × (lane ≡ number)) ⊎ (((lane == number) ≡ false) × (lane ≢ number))

  -- a call that is done is one more
  done_more : (state : JournalState) (front : ℕ) (h : How) (items : List Item) (o : OpenCall)
      → done_in (after_done start log state front h items o).ended number ≡ done_in state.ended number ++ cons_option (of_lane number o.call) []
  done_more state front h items o = by (o.call.lane == number)
    where
      by : (its : Bool) → (if its then done_in state.ended number ++ o.call ∷ [] else done_in state.ended number)
          ≡ done_in state.ended number ++ cons_option (if its then Some o.call else None) []
      by true = refl
      by false = sym (append-nil (done_in state.ended number))

  -- and was taken before
  taken_same : (state : JournalState) (front : ℕ) (h : How) (items : List Item) (o : OpenCall) → open_of state.opened o.call.lane ≡ Some o
      → taken_in (after_done start log state front h items o) number ≡ taken_in state number
  taken_same state front h items o is = by (eqb_tells o.call.lane number)
    where
      by : Its o.call.lane → taken_in (after_done start log state front h items o) number ≡ taken_in state number
      by (inl its) =
          ap (λ t. cond t (done_in state.ended number ++ o.call ∷ []) (done_in state.ended number) ++ open_in (others_of state.opened o.call.lane) number) its.0
          ∙ ap (λ found. (done_in state.ended number ++ o.call ∷ []) ++ option_map_or (λ (x : OpenCall). x.call ∷ []) found [])
          (ap (λ n. open_of (others_of state.opened n) number) its.1 ∙ open_of-gone state.opened number)
          ∙ append-nil (done_in state.ended number ++ o.call ∷ [])
          ∙ ap (λ found. done_in state.ended number ++ option_map_or (λ (x : OpenCall). x.call ∷ []) found []) (sym is ∙ ap (open_of state.opened) its.1)
      by (inr far) =
          ap (λ t. cond t (done_in state.ended number ++ o.call ∷ []) (done_in state.ended number) ++ open_in (others_of state.opened o.call.lane) number) far.0
          ∙ ap (λ found. done_in state.ended number ++ option_map_or (λ (x : OpenCall). x.call ∷ []) found []) (open_of-others state.opened number o.call.lane (λ same. far.1 (sym same)))

  -- a call that is taken is one more
  taken_more : (state : JournalState) (o : OpenCall) → open_of state.opened o.call.lane ≡ None
      → done_in state.ended number ++ open_in (o ∷ state.opened) number ≡ taken_in state number ++ cons_option (of_lane number o.call) []
  taken_more state o free = by (eqb_tells o.call.lane number)
    where
      by : Its o.call.lane → done_in state.ended number ++ open_in (o ∷ state.opened) number ≡ taken_in state number ++ cons_option (of_lane number o.call) []
      by (inl its) =
          ap (λ found. done_in state.ended number ++ option_map_or (λ (x : OpenCall). x.call ∷ []) found []) (open_of-first o state.opened number its.1)
          ∙ ap (λ calls. calls ++ o.call ∷ []) (sym (append-nil (done_in state.ended number)))
          ∙ ap (λ found. (done_in state.ended number ++ option_map_or (λ (x : OpenCall). x.call ∷ []) found []) ++ o.call ∷ []) (sym free ∙ ap (open_of state.opened) its.1)
          ∙ ap (λ t. taken_in state number ++ cons_option (cond t (Some o.call) None) []) (sym its.0)
      by (inr far) =
          ap (λ found. done_in state.ended number ++ option_map_or (λ (x : OpenCall). x.call ∷ []) found []) (open_of-later o state.opened number far.1)
          ∙ sym (append-nil (taken_in state number))
          ∙ ap (λ t. taken_in state number ++ cons_option (cond t (Some o.call) None) []) (sym far.0)

  done_turn : (state : JournalState) (turn : Turn) → MayFollow start log state turn
      → done_in (after_turn config start log state turn).ended number ≡ done_in state.ended number ++ filter_map (done_of number) (moves_in (turn ∷ []))
  done_turn state (account.take call front request) may = sym (append-nil (done_in state.ended number))
  done_turn state (account.tick front seconds) may = sym (append-nil (done_in state.ended number))
  done_turn state (account.done call front h items fill) may =
      ap (λ found. done_in (option_map_or (after_done start log state front h items) found state).ended number) may.next.1
      ∙ done_more state front h items may.next.0
      ∙ ap (λ c. done_in state.ended number ++ cons_option (of_lane number c) []) may.next.2

  taken_turn : (state : JournalState) (turn : Turn) → MayFollow start log state turn
      → taken_in (after_turn config start log state turn) number ≡ taken_in state number ++ filter_map (taken_of number) (moves_in (turn ∷ []))
  taken_turn state (account.take call front request) may = taken_more state _ may.next.0
  taken_turn state (account.tick front seconds) may = sym (append-nil (taken_in state number))
  taken_turn state (account.done call front h items fill) may =
      ap (λ found. taken_in (option_map_or (after_done start log state front h items) found state) number) may.next.1
      ∙ taken_same state front h items may.next.0 (ap (λ (c : CallId). open_of state.opened c.lane) may.next.2 ∙ may.next.1)
      ∙ sym (append-nil (taken_in state number))

  -- a turn more, in front of others
  more_first : (h : Move → Option CallId) (before : List CallId) (turn : Turn) (turns : Account)
      → (before ++ filter_map h (moves_in (turn ∷ []))) ++ filter_map h (moves_in turns) ≡ before ++ filter_map h (moves_in (turn ∷ turns))
  more_first h before turn turns = append_assoc before (filter_map h (moves_in (turn ∷ []))) (filter_map h (moves_in turns)) ∙ ap (λ calls. before ++ calls) (by (h (move_of (printed turn))))
    where
      by : (found : Option CallId) → cons_option found [] ++ filter_map h (moves_in turns) ≡ cons_option found (filter_map h (moves_in turns))
      by None = refl
      by (Some c) = refl

  done_along : (state : JournalState) (turns : Account) → Follows config start log state turns
      → done_in (after_turns config start log state turns).ended number ≡ done_in state.ended number ++ filter_map (done_of number) (moves_in turns)
  done_along state [] follows = sym (append-nil (done_in state.ended number))
  done_along state (turn ∷ turns) follows =
      done_along (after_turn config start log state turn) turns follows.1
      ∙ ap (λ before. before ++ filter_map (done_of number) (moves_in turns)) (done_turn state turn follows.0)
      ∙ more_first (done_of number) (done_in state.ended number) turn turns

  taken_along : (state : JournalState) (turns : Account) → Follows config start log state turns
      → taken_in (after_turns config start log state turns) number ≡ taken_in state number ++ filter_map (taken_of number) (moves_in turns)
  taken_along state [] follows = sym (append-nil (taken_in state number))
  taken_along state (turn ∷ turns) follows =
      taken_along (after_turn config start log state turn) turns follows.1
      ∙ ap (λ before. before ++ filter_map (taken_of number) (moves_in turns)) (taken_turn state turn follows.0)
      ∙ more_first (taken_of number) (taken_in state number) turn turns

-- ---- legal histories
module _ (scenario : ScenarioData) (log : List LogEvent) (journal : List Entry) (legal : Legal scenario log journal) where
  abbrev state : JournalState
  state = played scenario log legal.fits.account

  abbrev scripted : ℕ → List CallId
  scripted number = option_map_or (calls_of number) (lane_at scenario.phases number) []

  told : map move_of journal ≡ moves_in legal.fits.account
  told = ap (map move_of) (sym legal.fits.told)

  lanes : (number : ℕ) → done_in state.ended number ≡ scripted number
  lanes number =
      done_along scenario.config scenario.start log number first_journal legal.fits.account legal.fits.is.follows
      ∙ ap (filter_map (done_of number)) (sym told) ∙ picked number (done_of number) (lane_done number) scenario.phases (map move_of journal) legal.moves

  all_taken : (number : ℕ) → taken_in state number ≡ scripted number
  all_taken number =
      taken_along scenario.config scenario.start log number first_journal legal.fits.account legal.fits.is.follows
      ∙ ap (filter_map (taken_of number)) (sym told) ∙ picked number (taken_of number) (lane_taken number) scenario.phases (map move_of journal) legal.moves

  -- so no lane has one more under way
  none_open : (number : ℕ) → length (open_in state.opened number) ≡ 0
  none_open number =
      let both : length (done_in state.ended number ++ open_in state.opened number) ≡ length (done_in state.ended number) = ap length (all_taken number ∙ sym (lanes number)) in
      let sum = length-append (done_in state.ended number) (open_in state.opened number) in
      omega (arith, both, sum)

  none : (opened : List OpenCall) → state.opened ≡ opened → opened ≡ []
  none [] is = refl
  none (o ∷ opened) is =
      let found : open_of state.opened o.call.lane ≡ Some o = ap (λ os. open_of os o.call.lane) is ∙ open_of-first o opened o.call.lane refl in
      let one : length (open_in state.opened o.call.lane) ≡ 1 = ap (λ f. length (option_map_or (λ (x : OpenCall). x.call ∷ []) f [])) found in
      let zero_ = none_open o.call.lane in
      absurd (omega (arith, one, zero_))

pub calls_are_done : CallsAreDone
calls_are_done scenario log journal legal = record {
  lanes = lanes scenario log journal legal;
  none = none scenario log journal legal (played scenario log legal.fits.account).opened refl;
}
