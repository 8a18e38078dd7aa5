-- What a request asks of the bucket: its plan, the steps of a plan, and the walks along it.
use Rattle.std.specs.Prelude.{◌≡◌, ℕ, ◌+◌, ◌≤◌, List, [], ◌∷◌, map, Option, Some, None, ◌⊎◌}
use Rattle.bucket_api.specs.declared.answers.Answer.{Answer}
use Rattle.bucket_api.specs.Operation.{Operation, IsAllowed, read, insert, update, delete}
use Rattle.mount_model.specs.Observing.{NextStep, Observed, finish, insert_staged, make}
use Rattle.staging_spec.specs.Slices.{Covers, Holds}
use Rattle.staging_spec.specs.Wanted.{Range}

abbrev pub answers_of : List Observed → List Answer
answers_of seen = map (λ (o : Observed). o.answer) seen

-- the moment of the last operation, 0 where none was made
abbrev pub last_moment : List Observed → ℕ
last_moment [] = 0
last_moment (o ∷ []) = o.moment
last_moment (o ∷ p ∷ more) = last_moment (p ∷ more)

-- A generation of an object, as a file or symlink shows it: the source of its content, and the size of that.
pub record Source : Type 0 where
  pub name : List ℕ
  pub generation : ℕ
  pub size : ℕ

-- Bytes of a generation that a request wants.
pub record Wanted : Type 0 where
  pub name : List ℕ
  pub generation : ℕ
  pub range : Range

-- What each generation of a name holds, whether it is live or not.
abbrev pub Contents : Type 0
Contents = List ℕ → ℕ → List ℕ

-- a slice of so many bytes, from this place of the source on, reaches over what is wanted
abbrev pub CoversWanted : Option Wanted → ℕ → ℕ → Type 0
CoversWanted None first count = Unit {0}
CoversWanted (Some wanted) first count = Covers first count wanted.range

-- a slice, from this place on, has bytes of the generation of which some are wanted
abbrev pub HoldsWanted : Contents → Option Wanted → ℕ → List ℕ → Type 0
HoldsWanted contents None first bytes = Unit {0}
HoldsWanted contents (Some wanted) first bytes = Holds (contents wanted.name wanted.generation) first bytes

-- What a plan says next: that the request is done with the bucket; an operation to make; or that the source may be read,
-- any range of it and any number of times, before the step behind it.
pub data Step : Type 0 where
  done : Step
  ask : Operation → Step
  may_read : Source → Step → Step

-- A plan says what is next after these answers.
abbrev pub Plan : Type 0
Plan = List Answer → Step

-- what is next once the first answer is known
abbrev pub plan_after : Plan → Answer → Plan
plan_after plan answer = λ answers. plan (answer ∷ answers)

-- the operation is a read of the source, of a range that lies in it
abbrev pub IsReadOf : Source → Operation → Type 0
IsReadOf source (read name generation first count) = (name ≡ source.name) × (generation ≡ source.generation) × (first + count ≤ source.size)
IsReadOf source op = ⊥

-- the step allows the operation
abbrev pub Allows : Step → Operation → Type 0
Allows done op = ⊥
Allows (ask asked) op = op ≡ asked
Allows (may_read source next) op = IsReadOf source op ⊎ Allows next op

-- the plan may end at the step
abbrev pub MayEnd : Step → Type 0
MayEnd done = Unit {0}
MayEnd (ask op) = ⊥
MayEnd (may_read source next) = MayEnd next

-- the operation that the step asks, reads left out
abbrev pub asked_by : Step → Option Operation
asked_by done = None
asked_by (ask op) = Some op
asked_by (may_read source next) = asked_by next

-- the step, reads left out: the one-thread mount makes none
abbrev pub without_reads : Step → Step
without_reads done = done
without_reads (ask op) = ask op
without_reads (may_read source next) = without_reads next

-- what the step asks next, reads left out
abbrev pub next_of : Step → NextStep
next_of done = finish
next_of (ask op) = make op
next_of (may_read source next) = next_of next

-- what is to be made next may be asked of a bucket
abbrev pub MayMake : NextStep → Type 0
MayMake finish = Unit {0}
MayMake insert_staged = ⊥
MayMake (make op) = IsAllowed op

-- an operation that a call may have made before it stops short: any but an insert, an update or a delete
abbrev pub IsHarmless : Operation → Type 0
IsHarmless (insert name content pairs only stamp) = ⊥
IsHarmless (update name pairs only only_meta stamp) = ⊥
IsHarmless (delete name only) = ⊥
IsHarmless op = Unit {0}

-- A walk along a plan: what is observed is supplied at each step in turn, by whoever supplies: a bucket as it stands, or
-- what a history tells. `Supplies s step o` says that the observation is what is supplied at the step in state s, and
-- `next s o` is the state then.
module _ {S : Type 0} (Supplies : S → Step → Observed → Type 0) (next : S → Observed → S) where
  abbrev pub Walks : Plan → S → List Observed → Type 0
  Walks plan s [] = Unit {0}
  Walks plan s (o ∷ more) = Supplies s (plan []) o × Walks (plan_after plan o.answer) (next s o) more

-- the plan may end where these were observed
abbrev pub Completes : Plan → List Observed → Type 0
Completes plan seen = MayEnd (plan (answers_of seen))
