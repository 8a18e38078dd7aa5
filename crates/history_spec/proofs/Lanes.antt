-- The open call of a lane, among calls under way.
use Rattle.std.proofs.Common.{◌≡◌, ◌≢◌, ℕ, Bool, true, false, List, [], ◌∷◌, Some, None, refl, sym, ap, subst, ◌∙◌, inl, inr, cond}
use Rattle.std.specs.Prelude.{not, ◌==◌, ◌⊎◌}
use Rattle.std.specs.List.{AllByRecursion}
use Rattle.std.proofs.lemmas.Bool.Decides.{eqb_tells}
use Rattle.history_spec.specs.JournalState.{OpenCall, open_of, others_of}

pub same_lane : (m n : ℕ) → m ≡ n → (m == n) ≡ true
same_lane m n same = by (eqb_tells m n)
  where
    by : (((m == n) ≡ true) × (m ≡ n)) ⊎ (((m == n) ≡ false) × (m ≢ n)) → (m == n) ≡ true
    by (inl its) = its.0
    by (inr far) = absurd (far.1 same)

pub other_lane : (m n : ℕ) → m ≢ n → (m == n) ≡ false
other_lane m n differ = by (eqb_tells m n)
  where
    by : (((m == n) ≡ true) × (m ≡ n)) ⊎ (((m == n) ≡ false) × (m ≢ n)) → (m == n) ≡ false
    by (inl its) = absurd (differ its.1)
    by (inr far) = far.0

pub open_of-first : (o : OpenCall) (os : List OpenCall) (lane : ℕ) → o.call.lane ≡ lane → open_of (o ∷ os) lane ≡ Some o
open_of-first o os lane same = ap (λ t. cond t (Some o) (open_of os lane)) (same_lane o.call.lane lane same)

pub open_of-later : (o : OpenCall) (os : List OpenCall) (lane : ℕ) → o.call.lane ≢ lane → open_of (o ∷ os) lane ≡ open_of os lane
open_of-later o os lane differ = ap (λ t. cond t (Some o) (open_of os lane)) (other_lane o.call.lane lane differ)

-- the call of another lane is among the others
pub open_of-others : (os : List OpenCall) (lane other : ℕ) → lane ≢ other → open_of (others_of os other) lane ≡ open_of os lane
open_of-others [] lane other differ = refl
open_of-others (o ∷ os) lane other differ = by (eqb_tells o.call.lane other) (open_of-others os lane other differ)
  where
    by : (((o.call.lane == other) ≡ true) × (o.call.lane ≡ other)) ⊎ (((o.call.lane == other) ≡ false) × (o.call.lane ≢ other))
        → open_of (others_of os other) lane ≡ open_of os lane → open_of (others_of (o ∷ os) other) lane ≡ open_of (o ∷ os) lane
    by (inl its) later =
        ap (λ t. open_of (cond (not t) (o ∷ others_of os other) (others_of os other)) lane) its.0
        ∙ (later ∙ sym (open_of-later o os lane (λ same. differ (sym same ∙ its.1))))
    by (inr far) later =
        ap (λ t. open_of (cond (not t) (o ∷ others_of os other) (others_of os other)) lane) far.0
        ∙ ap (λ found. cond (o.call.lane == lane) (Some o) found) later

-- and that of the lane itself is not
pub open_of-gone : (os : List OpenCall) (lane : ℕ) → open_of (others_of os lane) lane ≡ None
open_of-gone [] lane = refl
open_of-gone (o ∷ os) lane = by (eqb_tells o.call.lane lane) (open_of-gone os lane)
  where
    by : (((o.call.lane == lane) ≡ true) × (o.call.lane ≡ lane)) ⊎ (((o.call.lane == lane) ≡ false) × (o.call.lane ≢ lane))
        → open_of (others_of os lane) lane ≡ None → open_of (others_of (o ∷ os) lane) lane ≡ None
    by (inl its) later = ap (λ t. open_of (cond (not t) (o ∷ others_of os lane) (others_of os lane)) lane) its.0 ∙ later
    by (inr far) later =
        ap (λ t. open_of (cond (not t) (o ∷ others_of os lane) (others_of os lane)) lane) far.0
        ∙ (open_of-later o (others_of os lane) lane far.1 ∙ later)

-- what holds of all open calls, and of each but that of a lane so, holds of the others
module _ (P Q : OpenCall → Type 0) (lane : ℕ) (so : (o : OpenCall) → o.call.lane ≢ lane → P o → Q o) where
  pub all_others : (os : List OpenCall) → AllByRecursion P os → AllByRecursion Q (others_of os lane)
  all_others [] all = tt
  all_others (o ∷ os) all = by (eqb_tells o.call.lane lane) (all_others os all.1)
    where
      by : (((o.call.lane == lane) ≡ true) × (o.call.lane ≡ lane)) ⊎ (((o.call.lane == lane) ≡ false) × (o.call.lane ≢ lane))
          → AllByRecursion Q (others_of os lane) → AllByRecursion Q (others_of (o ∷ os) lane)
      by (inl its) later = subst (λ t. AllByRecursion Q (cond (not t) (o ∷ others_of os lane) (others_of os lane))) (sym its.0) later
      by (inr far) later = subst (λ t. AllByRecursion Q (cond (not t) (o ∷ others_of os lane) (others_of os lane))) (sym far.0) (so o far.1 all.0, later)

-- what holds of all open calls holds of that of a lane
pub at_lane : (P : OpenCall → Type 0) (os : List OpenCall) (lane : ℕ) (o : OpenCall) → open_of os lane ≡ Some o → AllByRecursion P os → P o
at_lane P [] lane o is all = absurd (let never : None ≡ Some o = is in cc)
at_lane P (p ∷ os) lane o is all = by (p.call.lane == lane) is (λ later. at_lane P os lane o later all.1)
  where
    by : (its : Bool) → cond its (Some p) (open_of os lane) ≡ Some o → (open_of os lane ≡ Some o → P o) → P o
    by true is later = let same : p ≡ o = cc in subst P same all.0
    by false is later = later is

-- and is of that lane
pub lane_of_open : (os : List OpenCall) (lane : ℕ) (o : OpenCall) → open_of os lane ≡ Some o → o.call.lane ≡ lane
lane_of_open [] lane o is = absurd (let never : None ≡ Some o = is in cc)
lane_of_open (p ∷ os) lane o is = by (eqb_tells p.call.lane lane) (lane_of_open os lane o)
  where
    by : (((p.call.lane == lane) ≡ true) × (p.call.lane ≡ lane)) ⊎ (((p.call.lane == lane) ≡ false) × (p.call.lane ≢ lane))
        → (open_of os lane ≡ Some o → o.call.lane ≡ lane) → o.call.lane ≡ lane
    by (inl its) later =
        let same : Some p ≡ Some o = sym (ap (λ t. cond t (Some p) (open_of os lane)) its.0) ∙ is in
        let one : p ≡ o = cc in
        sym (ap (λ (x : OpenCall). x.call.lane) one) ∙ its.1
    by (inr far) later = later (sym (ap (λ t. cond t (Some p) (open_of os lane)) far.0) ∙ is)
