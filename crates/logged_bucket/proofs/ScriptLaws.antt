-- How much of a script is to come, from one event to the next.
use Rattle.std.proofs.Common.{◌≡◌, ◌≢◌, ℕ, zero, suc, ◌+◌, ◌<◌, ◌≤◌, ◌==◌, true, false, cond, List, [], ◌∷◌, drop, Some, unwrap_or, refl, sym, ap, ◌∙◌, subst, arith}
use Rattle.std.specs.Prelude.{slice_get}
use Rattle.std.specs.Map.{lookup}
use Rattle.std.proofs.lemmas.Bool.Decides.{nat_tests}
use Rattle.bucket_api.specs.declared.events.Mode.{Mode}
use Rattle.bucket_api.specs.declared.events.Mode.TheVariants.{Done}
use Rattle.bucket_api.specs.declared.events.Scripted.{Scripted}
use Rattle.bucket_api.specs.Log.{scripted_mode}
use Rattle.bucket_api.specs.Scripts.{script_of, RisesAfter}
use Rattle.logged_bucket.specs.Logging.{IsToCome}

-- the mode that a script sets, where its first moment is another one
passed : (f : ℕ × Mode) (fs : List (ℕ × Mode)) (moment : ℕ) → f.0 ≢ moment → scripted_mode (f ∷ fs) moment ≡ scripted_mode fs moment
passed f fs moment other =
    let test : (f.0 == moment) ≡ false = grind (arith, nat_tests) in
    ap (λ b. unwrap_or (cond b (Some f.1) (lookup (λ m. m == moment) fs)) Done) test

-- and where it is this one
met : (f : ℕ × Mode) (fs : List (ℕ × Mode)) (moment : ℕ) → f.0 ≡ moment → scripted_mode (f ∷ fs) moment ≡ f.1
met f fs moment same =
    let test : (f.0 == moment) ≡ true = grind (arith, nat_tests) in
    ap (λ b. unwrap_or (cond b (Some f.1) (lookup (λ m. m == moment) fs)) Done) test

-- before all its moments a script sets no mode
too_early : (after moment : ℕ) (rest : List (ℕ × Mode)) → RisesAfter after rest → moment ≤ after → scripted_mode rest moment ≡ Done
too_early after moment [] rises early = refl
too_early after moment (f ∷ fs) rises early =
    let later : after < f.0 = rises.0 in
    passed f fs moment (λ e. omega arith) ∙ too_early f.0 moment fs rises.1 (omega arith)

-- what is to come begins with the fault at its place
front : (faults : List Scripted) (behind : ℕ) (f : Scripted) → slice_get faults behind ≡ Some f → drop behind (script_of faults) ≡ (f.moment, f.mode) ∷ drop (suc behind) (script_of faults)
front [] behind f e = absurd cc
front (g ∷ gs) zero f e = let same : g ≡ f = cc in ap (λ (h : Scripted). (h.moment, h.mode) ∷ script_of gs) same
front (g ∷ gs) (suc behind) f e = front gs behind f e

module _ (faults : List Scripted) (behind events : ℕ) (f : Scripted) (at : slice_get faults behind ≡ Some f) (to_come : IsToCome events (script_of faults) (drop behind (script_of faults))) where
  later : RisesAfter events ((f.moment, f.mode) ∷ drop (suc behind) (script_of faults))
  later = subst (RisesAfter events) (front faults behind f at) to_come.rises

  same : (moment : ℕ) → events < moment → scripted_mode (script_of faults) moment ≡ scripted_mode ((f.moment, f.mode) ∷ drop (suc behind) (script_of faults)) moment
  same moment is_later = to_come.same moment is_later ∙ ap (λ rest. scripted_mode rest moment) (front faults behind f at)

  -- where the next fault is later than the next event, that event is done
  module _ (other : f.moment ≢ events + 1) where
    still : RisesAfter (events + 1) (drop behind (script_of faults))
    still = let first : events < f.moment = later.0 in subst (RisesAfter (events + 1)) (sym (front faults behind f at)) (omega arith, later.1)

    pub done_next : Done ≡ scripted_mode (script_of faults) (events + 1)
    done_next = sym (to_come.same (events + 1) (omega arith) ∙ too_early (events + 1) (events + 1) (drop behind (script_of faults)) still (omega arith))

    pub still_to_come : IsToCome (events + 1) (script_of faults) (drop behind (script_of faults))
    still_to_come = record { rises = still; same = λ moment is_later. to_come.same moment (omega arith) }

  -- where it comes at the next event, that event has its mode
  module _ (now : f.moment ≡ events + 1) where
    pub faulty_next : f.mode ≡ scripted_mode (script_of faults) (events + 1)
    faulty_next = sym (same (events + 1) (omega arith) ∙ met (f.moment, f.mode) (drop (suc behind) (script_of faults)) (events + 1) now)

    pub next_to_come : IsToCome (events + 1) (script_of faults) (drop (behind + 1) (script_of faults))
    next_to_come = let next : suc behind ≡ behind + 1 = omega arith in
        subst (λ k. IsToCome (events + 1) (script_of faults) (drop k (script_of faults))) next record {
          rises = subst (λ m. RisesAfter m (drop (suc behind) (script_of faults))) now later.1;
          same = λ moment is_later. same moment (omega arith) ∙ passed (f.moment, f.mode) (drop (suc behind) (script_of faults)) moment (λ e. omega arith);
        }
