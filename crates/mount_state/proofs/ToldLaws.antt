-- The answers and the moment of what was told.
use Rattle.std.proofs.Common.{◌≡◌, ℕ, List, [], ◌∷◌, ◌++◌, refl, sym, ap}
use Rattle.bucket_api.specs.declared.answers.Answer.{Answer}
use Rattle.mount_rules.specs.Plans.{answers_of, last_moment}
use Rattle.mount_state.specs.Telling.{IsTold, told_by}

pub answers_told : (answers : List Answer) (moment : ℕ) → answers_of (told_by answers moment) ≡ answers
answers_told [] moment = refl
answers_told (a ∷ answers) moment = ap (λ (more : List Answer). a ∷ more) (answers_told answers moment)

pub moment_told : (answers : List Answer) (moment : ℕ) → IsTold answers moment → last_moment (told_by answers moment) ≡ moment
moment_told [] moment is = sym (is refl)
moment_told (a ∷ []) moment is = refl
moment_told (a ∷ b ∷ answers) moment is = moment_told (b ∷ answers) moment (λ e. absurd cc)

-- with one more
pub never_empty : (answers : List Answer) (a : Answer) (moment : ℕ) → IsTold (answers ++ a ∷ []) moment
never_empty [] a moment e = absurd cc
never_empty (b ∷ answers) a moment e = absurd cc
