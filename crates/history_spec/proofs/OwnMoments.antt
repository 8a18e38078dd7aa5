-- The moments of a lane's events between two fronts.
use Rattle.std.proofs.Common.{◌≡◌, ℕ, ◌+◌, ◌<◌, ◌≤◌, Bool, true, false, List, [], ◌∷◌, ◌++◌, take, drop, length, refl, sym, ap, ◌∙◌, arith}
use Rattle.std.specs.Prelude.{◌==◌, if◌then◌else◌}
use Rattle.std.specs.List.{AllByRecursion}
use Rattle.std.proofs.Math.Seq.{drop-length, take-length}
use Rattle.std.proofs.lemmas.List.{drop-append-le, length-drop, length-take}
use Rattle.bucket_api.specs.LogEvent.{LogEvent}
use Rattle.history_spec.specs.Observing.{moments_of, own_moments}

pub all_weaker : {X : Type 0} (P Q : X → Type 0) → ((x : X) → P x → Q x) → (xs : List X) → AllByRecursion P xs → AllByRecursion Q xs
all_weaker P Q weaker [] all = tt
all_weaker P Q weaker (x ∷ xs) all = (weaker x all.0, all_weaker P Q weaker xs all.1)

record IsBetween (low bound moment : ℕ) : Type 0 where
  above : low ≤ moment
  below : moment < bound

moments_between : (lane low bound first : ℕ) (events : List LogEvent) → low ≤ first → first + length events ≤ bound → AllByRecursion (IsBetween low bound) (moments_of lane first events)
moments_between lane low bound first [] above below = tt
moments_between lane low bound first (event ∷ events) above below = by (event.lane == lane) (moments_between lane low bound (first + 1) events (omega arith) (omega arith))
  where
    by : (its : Bool) → AllByRecursion (IsBetween low bound) (moments_of lane (first + 1) events)
        → AllByRecursion (IsBetween low bound) (if its then first ∷ moments_of lane (first + 1) events else moments_of lane (first + 1) events)
    by true later = (record { above = above; below = omega arith }, later)
    by false later = later

-- each is behind the one front, and not past the other
pub own_between : (log : List LogEvent) (lane from upto : ℕ) → AllByRecursion (λ moment. (from < moment) × (moment ≤ upto)) (own_moments log lane from upto)
own_between log lane from upto =
    all_weaker (IsBetween (from + 1) (from + 1 + length (drop from (take upto log)))) (λ moment. (from < moment) × (moment ≤ upto))
    (λ moment is. (above moment is, below moment is)) (own_moments log lane from upto)
    (moments_between lane (from + 1) (from + 1 + length (drop from (take upto log))) (from + 1) (drop from (take upto log)) (omega arith) (omega arith))
  where
    above : (moment : ℕ) → IsBetween (from + 1) (from + 1 + length (drop from (take upto log))) moment → from < moment
    above moment is = let low : from + 1 ≤ moment = is.above in omega arith

    below : (moment : ℕ) → IsBetween (from + 1) (from + 1 + length (drop from (take upto log))) moment → moment ≤ upto
    below moment is =
        let low : from + 1 ≤ moment = is.above in
        let high : moment < from + 1 + length (drop from (take upto log)) = is.below in
        omega (arith, length-drop from (take upto log), length-take upto log)

-- behind the end of a log there is none
pub own_behind : (log : List LogEvent) (lane : ℕ) → own_moments log lane (length log) (length log) ≡ []
own_behind log lane = ap (λ events. moments_of lane (length log + 1) events) (ap (drop (length log)) (take-length log) ∙ drop-length log)

-- the moment of one more event, where the lane made it
abbrev pub new_own : ℕ → LogEvent → ℕ → List ℕ
new_own lane event moment = if event.lane == lane then moment ∷ [] else []

moments_of-pushed : (lane first : ℕ) (events : List LogEvent) (event : LogEvent)
    → moments_of lane first (events ++ event ∷ []) ≡ moments_of lane first events ++ new_own lane event (first + length events)
moments_of-pushed lane first [] event = by (event.lane == lane)
  where
    by : (its : Bool) → (if its then first ∷ [] else []) ≡ (if its then (first + 0) ∷ [] else [])
    by true = let same : first ≡ first + 0 = omega arith in ap (λ (m : ℕ). m ∷ []) same
    by false = refl
moments_of-pushed lane first (e ∷ events) event = by (e.lane == lane) (moments_of-pushed lane (first + 1) events event ∙ ap (λ m. moments_of lane (first + 1) events ++ new_own lane event m) next)
  where
    next : first + 1 + length events ≡ first + length (e ∷ events)
    next = omega arith

    by : (its : Bool) → moments_of lane (first + 1) (events ++ event ∷ []) ≡ moments_of lane (first + 1) events ++ new_own lane event (first + length (e ∷ events))
        → (if its then first ∷ moments_of lane (first + 1) (events ++ event ∷ []) else moments_of lane (first + 1) (events ++ event ∷ []))
        ≡ (if its then first ∷ moments_of lane (first + 1) events else moments_of lane (first + 1) events) ++ new_own lane event (first + length (e ∷ events))
    by true later = ap (λ ms. first ∷ ms) later
    by false later = later

-- one more event adds its moment, where the lane made it
pub own_pushed : (log : List LogEvent) (event : LogEvent) (lane from : ℕ) → from ≤ length log
    → own_moments (log ++ event ∷ []) lane from (length (log ++ event ∷ [])) ≡ own_moments log lane from (length log) ++ new_own lane event (length log + 1)
own_pushed log event lane from within =
    ap (λ events. moments_of lane (from + 1) (drop from events)) (take-length (log ++ event ∷ []))
    ∙ (ap (moments_of lane (from + 1)) (drop-append-le from log (event ∷ []) within)
    ∙ (moments_of-pushed lane (from + 1) (drop from log) event
    ∙ (ap (λ m. moments_of lane (from + 1) (drop from log) ++ new_own lane event m) next
    ∙ ap (λ events. moments_of lane (from + 1) (drop from events) ++ new_own lane event (length log + 1)) (sym (take-length log)))))
  where
    next : from + 1 + length (drop from log) ≡ length log + 1
    next = omega (arith, length-drop from log)
