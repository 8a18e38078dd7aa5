-- What the answers along a plan tell of objects.
use Rattle.std.specs.Prelude.{ℕ, List, [], ◌∷◌, Option, Some, None}
use Rattle.bucket_api.specs.declared.answers.Answer.{Answer}
use Rattle.bucket_api.specs.declared.answers.Answer.TheVariants as answers
use Rattle.bucket_api.specs.Operation.{Operation, stat, insert}
use Rattle.mount_model.specs.Observing.{Observed}
use Rattle.mount_rules.specs.Plans.{Plan, asked_by, plan_after}

-- An answer with metadata tells that the generation is live under the name that was asked for, or was made, with content
-- of this size. Nothing is told where nothing was asked.
abbrev pub Tells : (List ℕ → ℕ → ℕ → Type 0) → Option Operation → Answer → Type 0
Tells Shown None answer = ⊥
Tells Shown (Some (stat name)) (answers.Meta meta) = Shown name meta.generation meta.size
Tells Shown (Some (insert name content pairs only stamp)) (answers.Meta meta) = Shown name meta.generation meta.size
Tells Shown (Some op) answer = Unit {0}

-- what each answer along a plan tells
abbrev pub TellsAlong : (List ℕ → ℕ → ℕ → Type 0) → Plan → List Observed → Type 0
TellsAlong Shown plan [] = Unit {0}
TellsAlong Shown plan (o ∷ more) = Tells Shown (asked_by (plan [])) o.answer × TellsAlong Shown (plan_after plan o.answer) more
