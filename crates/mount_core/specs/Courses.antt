-- A request on its way along its errand: what it asks of its bucket next, whoever its bucket is.
use Rattle.std.specs.Prelude.{◌≡◌, ◌≢◌, ◌≤◌, ◌-◌, ◌++◌, ℕ, Bool, List, [], ◌∷◌, Option, Some, None, IsSome, length, ◌⊎◌}
use Rattle.bucket_api.specs.Operation.{Operation, IsAllowed, operation}
use Rattle.bucket_api.specs.declared.answers.Answer.{Answer}
use Rattle.bucket_api.specs.declared.answers.Answer.TheVariants as answers
use Rattle.mount_core.specs.Bases.{HoldsBase}
use Rattle.mount_core.specs.Errands.{AsksOn, HasAsked, HoldsEntries, IsErrand, IsListing, plan_over, wanted_of}
use Rattle.mount_core.specs.declared.course.Ask.{Ask}
use Rattle.mount_core.specs.declared.course.Ask.TheVariants.{Make, Nothing, Read}
use Rattle.mount_core.specs.declared.course.Course.{Course}
use Rattle.mount_core.specs.declared.course.Stage.{Stage}
use Rattle.mount_core.specs.declared.course.Stage.TheVariants.{Asking, Between, Ended, Reading, Unread}
use Rattle.mount_core.specs.declared.errand.Errand.{Errand}
use Rattle.mount_core.specs.declared.errand.Errand.TheVariants as errands
use Rattle.mount_rules.specs.Laws.{IsAnswerTo}
use Rattle.mount_rules.specs.Plans.{Contents, CoversWanted, MayEnd, Plan, Wanted, answers_of, asked_by, done}
use Rattle.mount_state.specs.Telling.{ToldList, told_by}
use Rattle.mount_state.specs.declared.base.Base.{Base}
use Rattle.object_names.specs.declared.shown.DirItem.{DirItem}
use Rattle.plan_files.specs.Errands.{read_of}
use Rattle.plan_names.specs.Errands.{IsTold}

-- what is left of its plan, reads left out, where each generation holds this
abbrev pub rest : Course → Contents → Plan
rest course contents answers = plan_over course.errand contents course.second (answers_of course.told.items ++ answers)

-- what was read of its source is as it is in these contents; that is no matter once nothing of its errand is left
abbrev pub HoldsFor : Errand → Contents → Base → Type 0
HoldsFor errands.Nothing contents base = Unit {0}
HoldsFor errand contents base = HoldsBase contents (wanted_of errand) base

abbrev pub HoldsRead : Contents → Course → Type 0
HoldsRead contents course = HoldsFor course.errand contents course.base

-- ---- its stages
-- what it wants is read from this place on
pub record ReadsFrom (wanting : Option Wanted) (first : ℕ) : Type 0 where
  pub wanted : Wanted
  pub is : wanting ≡ Some wanted
  pub place : first ≡ wanted.range.first

abbrev pub CoversRead : Course → Type 0
CoversRead course = CoversWanted (wanted_of course.errand) course.base.first (length course.base.bytes)

abbrev pub IsAt : Stage → Course → Type 0
IsAt Unread course = (answers_of course.told.items ≡ []) × (course.base.bytes ≡ [])
IsAt (Reading first) course = (answers_of course.told.items ≡ []) × ReadsFrom (wanted_of course.errand) first
IsAt Between course = HasAsked course.errand course.second (answers_of course.told.items) × CoversRead course
IsAt Asking course = AsksOn course.errand course.second (answers_of course.told.items) × CoversRead course
IsAt Ended course = Unit {0}

pub record IsCourse (course : Course) : Type 0 where
  pub errand : IsErrand course.errand
  pub stage : IsAt course.stage course

-- it awaits no answer; or it awaits one, and has room for it
abbrev pub IsIdle : Stage → Type 0
IsIdle (Reading first) = ⊥
IsIdle Asking = ⊥
IsIdle stage = Unit {0}

abbrev pub IsAwaiting : Course → Stage → Type 0
IsAwaiting course (Reading first) = 1 ≤ course.told.spare
IsAwaiting course Asking = 1 ≤ course.told.spare
IsAwaiting course stage = ⊥

-- ---- what it asks next
-- the read of all that it wants
pub record AsksRead (before after : Course) (op : Operation) : Type 0 where
  pub wanted : Wanted
  pub wants_it : wanted_of before.errand ≡ Some wanted
  pub is : op ≡ read_of wanted
  pub first : before.stage ≡ Unread
  pub allowed : IsAllowed op
  pub left : after ≡ record before { stage = Reading wanted.range.first; told = record before.told { spare = after.told.spare } }

-- What its plan asks next, whatever each generation holds of which it has bytes. What it asks behind an answer that the
-- operation may be given is left as it was.
pub record AsksStep (before after : Course) (op : Operation) : Type 0 where
  pub asked : (contents : Contents) → HoldsRead contents before → asked_by (rest before contents []) ≡ Some op
  pub behind : (contents : Contents) → HoldsRead contents before → (answer : Answer) → IsAnswerTo op answer → (more : List Answer)
      → rest after contents (answer ∷ more) ≡ rest before contents (answer ∷ more)
  pub holds : (contents : Contents) → HoldsRead contents before → HoldsRead contents after
  pub read : before.stage ≡ Unread → wanted_of before.errand ≡ None
  pub on_way : before.stage ≢ Ended
  pub allowed : IsAllowed op
  pub entries : (implicit : Bool) (told : List Answer) (items : List DirItem) → HoldsEntries after.errand implicit told items → HoldsEntries before.errand implicit told items
  pub lists : IsListing after.errand → IsListing before.errand
  pub left : after ≡ record before { errand = after.errand; stage = Asking; told = record before.told { spare = after.told.spare } }

-- nothing: it was not given what it wants, or its plan may end
pub record AsksNothing (before after : Course) : Type 0 where
  pub ends : (before.stage ≡ Ended) ⊎ ((contents : Contents) → MayEnd (rest before contents []))
  pub read : before.stage ≡ Unread → wanted_of before.errand ≡ None
  pub left : after ≡ record before { stage = after.stage }
  pub stays : before.stage ≡ Ended → after.stage ≡ Ended

abbrev pub Asks : Course → Course → Ask → Type 0
Asks before after (Read op) = AsksRead before after (operation op)
Asks before after (Make op) = AsksStep before after (operation op)
Asks before after Nothing = AsksNothing before after

-- a step is no read
abbrev pub IsStep : Ask → Type 0
IsStep (Read op) = ⊥
IsStep ask = Unit {0}

-- what is asked awaits its answer
abbrev pub Awaits : Course → Ask → Type 0
Awaits course Nothing = IsIdle course.stage
Awaits course ask = IsAwaiting course course.stage

-- it asks something, for which memory was refused
abbrev pub AsksMore : Course → Type 0
AsksMore course = ((course.stage ≡ Unread) × IsSome (wanted_of course.errand)) ⊎ ((contents : Contents) → HoldsRead contents course → rest course contents [] ≢ done)

-- ---- an answer
abbrev pub told_more : ToldList → ℕ → Answer → ToldList
told_more told moment answer = record { items = told_by (answers_of told.items ++ answer ∷ []) moment; spare = told.spare - 1 }

-- the bytes of its source become its base, and another answer is told; a read that is given none ends it
abbrev pub after_answer : Stage → Course → ℕ → Answer → Course
after_answer (Reading first) course moment (answers.Bytes bytes) = record course { stage = Between; base = record { first = first; bytes = bytes } }
after_answer (Reading first) course moment answer = record course { stage = Ended; told = told_more course.told moment answer }
after_answer stage course moment answer = record course { stage = Between; told = told_more course.told moment answer }

-- a read is given all bytes that are wanted; an operation, what a bucket answers
abbrev pub FitsAnswer : Stage → Course → Answer → Type 0
FitsAnswer (Reading first) course (answers.Bytes bytes) = CoversWanted (wanted_of course.errand) first (length bytes)
FitsAnswer (Reading first) course answer = Unit {0}
FitsAnswer stage course answer = IsTold answer
