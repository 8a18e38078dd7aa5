-- What a request was told by its bucket.
use Rattle.std.specs.Prelude.{◌≡◌, ℕ, false, List, [], ◌∷◌, None}
use Rattle.bucket_api.specs.Operation.{list}
use Rattle.bucket_api.specs.declared.answers.Answer.{Answer}
use Rattle.mount_model.specs.Observing.{Observed}

-- What it was told, as observations, and for how many more there is room.
pub record ToldList : Type 0 where
  pub items : List Observed
  pub spare : ℕ

-- An answer at a moment. Which operation was answered so is no matter of a request's end, so one operation stands for all.
abbrev pub told_as : ℕ → Answer → Observed
told_as moment answer = record { op = list [] false 0 None; moment = moment; answer = answer }

-- the answers, in order, each at the moment of the last
abbrev pub told_by : List Answer → ℕ → List Observed
told_by [] moment = []
told_by (a ∷ answers) moment = told_as moment a ∷ told_by answers moment

-- before the first answer the moment is 0
abbrev pub IsTold : List Answer → ℕ → Type 0
IsTold answers moment = answers ≡ [] → moment ≡ 0
