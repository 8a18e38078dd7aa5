-- A legal history with one lane of calls at a time agrees with the one-thread mount.
use Rattle.std.proofs.Common.{◌≡◌, ℕ, zero, suc, ◌+◌, false, List, [], ◌∷◌, ◌++◌, length, map, refl, sym, subst, ◌∙◌, inl, inr}
use Rattle.std.proofs.lemmas.Bool.{false≢true}
use Rattle.std.proofs.lemmas.List.Elements.{All-from_recursion}
use Rattle.std.specs.List.{AllByRecursion, Contains, flat_map}
use Rattle.std.specs.Prelude.{IfSome, slice_get}
use Rattle.bucket_api.specs.Log.{FollowsScript}
use Rattle.bucket_api.specs.LogEvent.{LogEvent}
use Rattle.bucket_api.specs.Scripts.{script_of}
use Rattle.bucket_api.specs.declared.events.Mode.TheVariants as modes
use Rattle.history_laws.proofs.AgreementLaws.{one_thread_agrees}
use Rattle.history_laws.specs.Agreements.{StandsStill}
use Rattle.history_laws.specs.Apart.{OneByOne}
use Rattle.history_spec.specs.Account as account
use Rattle.history_spec.specs.Account.{Account, printed}
use Rattle.history_spec.specs.JournalState.{EndedCall}
use Rattle.legal_spec.proofs.Merging.{merge_alone}
use Rattle.legal_spec.specs.Legal.{IsMade, played}
use Rattle.legal_spec.specs.Promises.{HasOneLane, OneLaneAgrees}
use Rattle.legal_spec.specs.Schedules.{InPhases, IsMerge, Move, brought, call_moves, done, is_remote, move_of, moves_of, numbered, taken, ticked}
use Rattle.scenario.specs.Parts.{Call, Lane, calls, clock, remote}

-- ---- moves that come in pairs
-- each call that is taken is done next, and the clock stands still
abbrev ArePairs : List Move → Type 0
ArePairs [] = Unit {0}
ArePairs (taken call ∷ done ended ∷ moves) = (ended ≡ call) × ArePairs moves
ArePairs moves = ⊥

pairs_then : (moves more : List Move) → ArePairs moves → ArePairs more → ArePairs (moves ++ more)
pairs_then [] more pairs later = later
pairs_then (taken call ∷ done ended ∷ moves) more pairs later = (pairs.0, pairs_then moves more pairs.1 later)
pairs_then (taken call ∷ []) more pairs later = absurd pairs
pairs_then (taken call ∷ taken other ∷ moves) more pairs later = absurd pairs
pairs_then (taken call ∷ ticked seconds ∷ moves) more pairs later = absurd pairs
pairs_then (done call ∷ moves) more pairs later = absurd pairs
pairs_then (ticked seconds ∷ moves) more pairs later = absurd pairs

pairs_of : (lane index : ℕ) (cs : List Call) → ArePairs (call_moves lane index cs)
pairs_of lane index [] = tt
pairs_of lane index (c ∷ cs) = (refl, pairs_of lane (index + 1) cs)

-- what a lane brings that is alone in its phase
pairs_in : (number : ℕ) (lanes : List Lane) (part : List Move) → HasOneLane lanes → IsMerge (brought moves_of number lanes) part → ArePairs part
pairs_in number [] part one merge = subst ArePairs (sym (merge_alone [] part [] merge refl)) tt
pairs_in number (calls cs ∷ []) part one merge =
    subst ArePairs (sym (merge_alone (call_moves number 1 cs ∷ []) part (call_moves number 1 cs) merge (inr (refl, tt)))) (pairs_of number 1 cs)
pairs_in number (calls cs ∷ lane ∷ lanes) part one merge = absurd one
pairs_in number (remote ops ∷ lanes) part one merge = absurd one
pairs_in number (clock steps ∷ lanes) part one merge = absurd one

pairs_along : (number : ℕ) (phases : List (List Lane)) (moves : List Move) → AllByRecursion HasOneLane phases → InPhases moves_of number phases moves → ArePairs moves
pairs_along number [] moves one none = subst ArePairs (sym none) tt
pairs_along number (lanes ∷ phases) moves one phased =
    subst ArePairs (sym phased.2) (pairs_then phased.0 phased.1 (pairs_in number lanes phased.0 one.0 phased.3) (pairs_along (number + length lanes) phases phased.1 one.1 phased.4))

-- ---- so the account is of calls one at a time, while the clock stands still
record ComeOneByOne (turns : Account) : Type 0 where
  pub one : OneByOne turns
  pub still : AllByRecursion StandsStill turns

one_by_one : (turns : Account) → ArePairs (map move_of (map printed turns)) → ComeOneByOne turns
one_by_one [] pairs = record { one = tt; still = tt }
one_by_one (account.take call front request ∷ account.done ended behind h items fill ∷ turns) pairs =
    let rest = one_by_one turns pairs.1 in record { one = (pairs.0, rest.one); still = (tt, (tt, rest.still)) }
one_by_one (account.take call front request ∷ []) pairs = absurd pairs
one_by_one (account.take call front request ∷ account.take c f r ∷ turns) pairs = absurd pairs
one_by_one (account.take call front request ∷ account.tick f s ∷ turns) pairs = absurd pairs
one_by_one (account.done call front h items fill ∷ turns) pairs = absurd pairs
one_by_one (account.tick front seconds ∷ turns) pairs = absurd pairs

-- ---- and nobody else made anything
abbrev MakesCalls : Lane → Type 0
MakesCalls (calls cs) = Unit {0}
MakesCalls lane = ⊥

all_calls : (phases : List (List Lane)) → AllByRecursion HasOneLane phases → AllByRecursion MakesCalls (flat_map (λ lanes. lanes) phases)
all_calls [] one = tt
all_calls ([] ∷ phases) one = all_calls phases one.1
all_calls ((calls cs ∷ []) ∷ phases) one = (tt, all_calls phases one.1)
all_calls ((calls cs ∷ lane ∷ lanes) ∷ phases) one = absurd one.0
all_calls ((remote ops ∷ lanes) ∷ phases) one = absurd one.0
all_calls ((clock steps ∷ lanes) ∷ phases) one = absurd one.0

no_remote : (lanes : List Lane) (position : ℕ) → AllByRecursion MakesCalls lanes → is_remote (slice_get lanes position) ≡ false
no_remote [] position all = refl
no_remote (calls cs ∷ lanes) zero all = refl
no_remote (remote ops ∷ lanes) zero all = absurd all.0
no_remote (clock steps ∷ lanes) zero all = absurd all.0
no_remote (lane ∷ lanes) (suc position) all = no_remote lanes position all.1

no_remote_at : (lanes : List Lane) (number : ℕ) → AllByRecursion MakesCalls lanes → is_remote (numbered lanes number) ≡ false
no_remote_at lanes zero all = refl
no_remote_at lanes (suc position) all = no_remote lanes position all

-- ---- where the script has no fault, each operation was done
all_done : (log : List LogEvent) → ((position : ℕ) → IfSome (slice_get log position) (λ e. e.mode ≡ modes.Done)) → AllByRecursion (λ (e : LogEvent). e.mode ≡ modes.Done) log
all_done [] each = tt
all_done (e ∷ log) each = (each zero, all_done log (λ position. each (suc position)))

pub one_lane_agrees : OneLaneAgrees
one_lane_agrees scenario log journal legal bucket allowed one stale_wants =
    one_thread_agrees scenario.config scenario.start log legal.fits.account (record {
      bucket = bucket;
      allowed = allowed;
      is = legal.fits.is;
      one = come.one;
      still = come.still;
      done = All-from_recursion (λ (e : LogEvent). e.mode ≡ modes.Done) log (all_done log (λ position. unscripted (suc position)));
      own = λ moment event there. by event (legal.made moment event there);
    }) stale_wants
  where
    come : ComeOneByOne legal.fits.account
    come = one_by_one legal.fits.account
        (subst (λ entries. ArePairs (map move_of entries)) (sym legal.fits.told) (pairs_along 1 scenario.phases (map move_of journal) one.phases legal.moves))

    unscripted : FollowsScript [] log
    unscripted = subst (λ script. FollowsScript (script_of script) log) one.script legal.script

    by : {moment : ℕ} (event : LogEvent) → IsMade scenario.phases (played scenario log legal.fits.account) moment event
        → (e : EndedCall) × Contains (played scenario log legal.fits.account).ended e × Contains e.own moment
    by event (inl from_remote) = absurd (false≢true (sym (no_remote_at (flat_map (λ lanes. lanes) scenario.phases) event.lane (all_calls scenario.phases one.phases)) ∙ from_remote))
    by event (inr own) = own
