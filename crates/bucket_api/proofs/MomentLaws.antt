-- Between moments and positions: each is the other's way back, and what stands at a moment stands at its position.
use Rattle.std.proofs.Common.{◌≡◌, ℕ, zero, suc, ◌+◌, ◌≤◌, List, [], ◌∷◌, length, Some, refl, ap, ◌∙◌, arith}
use Rattle.std.specs.Prelude.{slice_get, IsSome}
use Rattle.bucket_api.specs.Moments.{moment_at, position_of, at_moment}

pub position_of-moment_at : (position : ℕ) → position_of (moment_at position) ≡ position
position_of-moment_at position = omega arith

pub moment_at-position_of : (moment : ℕ) → 1 ≤ moment → moment_at (position_of moment) ≡ moment
moment_at-position_of moment from_one = omega arith

pub at_moment-position_of : {X : Type 0} (list : List X) (moment : ℕ) → 1 ≤ moment → at_moment list moment ≡ slice_get list (position_of moment)
at_moment-position_of list zero from_one = absurd (omega arith)
at_moment-position_of list (suc position) from_one = let same : position ≡ position_of (suc position) = omega arith in ap (slice_get list) same

pub at_moment-moment_at : {X : Type 0} (list : List X) (position : ℕ) → at_moment list (moment_at position) ≡ slice_get list position
at_moment-moment_at list position = let next : moment_at position ≡ suc position = omega arith in ap (at_moment list) next

-- from 1 to the list's length something stands at each moment
pub at_moment-some : {X : Type 0} (list : List X) (moment : ℕ) → 1 ≤ moment → moment ≤ length list → IsSome (at_moment list moment)
at_moment-some list zero from_one within = absurd (omega arith)
at_moment-some [] (suc position) from_one within = absurd (omega arith)
at_moment-some (x ∷ xs) (suc zero) from_one within = refl
at_moment-some (x ∷ xs) (suc (suc position)) from_one within = at_moment-some xs (suc position) (omega arith) (omega arith)
