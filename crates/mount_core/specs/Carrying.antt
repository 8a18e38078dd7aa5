-- A request that is carried out on the bucket of a mount on one thread, step by step: what is said of its bucket is said of
-- every log that leaves it.
use Rattle.std.specs.Prelude.{◌≡◌, ◌≢◌, ◌<◌, ◌+◌, ◌++◌, ℕ, Bool, true, false, List, [], ◌∷◌, Some, None, ◌⊎◌}
use Rattle.bucket_api.specs.BucketStep.{answer_to}
use Rattle.bucket_api.specs.Operation.{Operation, IsAllowed}
use Rattle.bucket_api.specs.declared.answers.Answer.{Answer}
use Rattle.bucket_api.specs.declared.answers.Answer.TheVariants.{NotFound}
use Rattle.mount_core.specs.Bases.{HasBytes, HasRead, HoldsBase, IsGone, IsRead}
use Rattle.mount_core.specs.Courses.{AsksNothing, HoldsRead, rest}
use Rattle.mount_core.specs.Errands.{HoldsEntries, IsListing, plan_over, wanted_of}
use Rattle.mount_core.specs.Stores.{Counted, most}
use Rattle.mount_core.specs.Walks.{Walks, left_by}
use Rattle.mount_core.specs.declared.course.Course.{Course}
use Rattle.mount_core.specs.declared.course.Stage.{Stage}
use Rattle.mount_core.specs.declared.course.Stage.TheVariants.{Between, Ended, Unread}
use Rattle.mount_core.specs.declared.errand.Errand.{Errand}
use Rattle.mount_laws.specs.Observations.{TellSame}
use Rattle.mount_model.specs.Observing.{Observed}
use Rattle.mount_rules.specs.Plans.{Completes, Contents, Wanted, answers_of, asked_by, done, last_moment}
use Rattle.mount_state.specs.Telling.{ToldList}
use Rattle.mount_state.specs.declared.base.Base.{Base}
use Rattle.object_names.specs.declared.shown.DirItem.{DirItem}

-- ---- one step
-- where the source was not asked for yet, the bucket has what is wanted of it while it is live
abbrev pub CanRead : Course → Counted → Type 0
CanRead course store = course.stage ≡ Unread → HasBytes store.bucket (wanted_of course.errand)

-- what it wants was read
pub record WasRead (before after : Course) (store : Counted) (wanted : Wanted) : Type 0 where
  pub read : IsRead store.bucket wanted after.base
  pub stage : after.stage ≡ Between
  pub errand : after.errand ≡ before.errand
  pub second : after.second ≡ before.second
  pub told : after.told.items ≡ before.told.items

-- or the bucket has it no more
pub record WasGone (before after : Course) (store : Counted) (wanted : Wanted) : Type 0 where
  pub gone : IsGone store.bucket wanted
  pub ended : after.stage ≡ Ended
  pub errand : after.errand ≡ before.errand
  pub base : after.base ≡ before.base
  pub told : answers_of after.told.items ≡ answers_of before.told.items ++ NotFound ∷ []

-- what it wants of a source was asked for; the bucket is as it was
pub record StepsRead (before after : Course) (store left : Counted) : Type 0 where
  pub wanted : Wanted
  pub wants_it : wanted_of before.errand ≡ Some wanted
  pub was : before.stage ≡ Unread
  pub kept : left ≡ store
  pub came : WasRead before after store wanted ⊎ WasGone before after store wanted

-- an operation of its errand was made
pub record StepsOn (before after : Course) (store left : Counted) : Type 0 where
  pub op : Operation
  pub asked : (contents : Contents) → HoldsRead contents before → asked_by (rest before contents []) ≡ Some op
  pub allowed : IsAllowed op
  pub bounded : store.made < most
  pub made : left ≡ left_by store op
  pub behind : (contents : Contents) → HoldsRead contents before → (more : List Answer) → rest after contents more ≡ rest before contents (answer_to op store.bucket ∷ more)
  pub holds : (contents : Contents) → HoldsRead contents before → HoldsRead contents after
  pub read : before.stage ≡ Unread → wanted_of before.errand ≡ None
  pub on_way : before.stage ≢ Ended
  pub stage : after.stage ≡ Between
  pub base : after.base ≡ before.base
  pub answers : answers_of after.told.items ≡ answers_of before.told.items ++ answer_to op store.bucket ∷ []
  pub moment : last_moment after.told.items ≡ store.made + 1
  pub entries : (implicit : Bool) (told : List Answer) (items : List DirItem) → HoldsEntries after.errand implicit told items → HoldsEntries before.errand implicit told items
  pub lists : IsListing after.errand → IsListing before.errand

abbrev pub Steps : Bool → Course → Course → Counted → Counted → Type 0
Steps true before after store left = StepsRead before after store left ⊎ StepsOn before after store left
Steps false before after store left = AsksNothing before after × (left ≡ store)

-- ---- the way so far, of an errand at a second, from the bucket at its start
-- nothing was asked yet
pub record IsFresh (errand : Errand) (second : ℕ) (start : Counted) (course : Course) (store : Counted) : Type 0 where
  pub stage : course.stage ≡ Unread
  pub errand_is : course.errand ≡ errand
  pub second_is : course.second ≡ second
  pub told : course.told.items ≡ []
  pub base : course.base.bytes ≡ []
  pub kept : store ≡ start

-- what it wants was read, and its plan was walked by these observations, which told it all that it was told
pub record IsWalked (errand : Errand) (second : ℕ) (start : Counted) (course : Course) (store : Counted) : Type 0 where
  pub seen : List Observed
  pub read : HasRead start.bucket (wanted_of errand) course.base
  pub walked : (contents : Contents) → HoldsBase contents (wanted_of errand) course.base → Walks (plan_over errand contents second) start seen store
  pub left : (contents : Contents) → HoldsBase contents (wanted_of errand) course.base → (more : List Answer)
      → rest course contents more ≡ plan_over errand contents second (answers_of seen ++ more)
  pub holds : (contents : Contents) → HoldsBase contents (wanted_of errand) course.base → HoldsRead contents course
  pub tells : TellSame seen course.told.items
  pub entries : (implicit : Bool) (told : List Answer) (items : List DirItem) → HoldsEntries course.errand implicit told items → HoldsEntries errand implicit told items
  pub lists : IsListing course.errand → IsListing errand

-- what it wants of a source was not to be read, for that is live no more; nothing was made
pub record IsUnread (errand : Errand) (start : Counted) (told : ToldList) (base : Base) (store : Counted) : Type 0 where
  pub wanted : Wanted
  pub wants_it : wanted_of errand ≡ Some wanted
  pub gone : IsGone start.bucket wanted
  pub answers : answers_of told.items ≡ NotFound ∷ []
  pub empty : base.bytes ≡ []
  pub kept : store ≡ start

pub record IsAtEnd (errand : Errand) (start : Counted) (course : Course) (store : Counted) : Type 0 where
  pub unread : IsUnread errand start course.told course.base store
  pub errand_is : course.errand ≡ errand
  pub stage : course.stage ≡ Ended

abbrev pub Carries : Errand → ℕ → Counted → Course → Counted → Type 0
Carries errand second start course store =
    IsFresh errand second start course store ⊎ ((IsWalked errand second start course store × (course.stage ≡ Between)) ⊎ IsAtEnd errand start course store)

-- ---- its end
-- its plan was walked to its end, by these observations
pub record IsCarried (errand : Errand) (second : ℕ) (start : Counted) (told : ToldList) (base : Base) (store : Counted) : Type 0 where
  pub seen : List Observed
  pub read : HasRead start.bucket (wanted_of errand) base
  pub walked : (contents : Contents) → HoldsBase contents (wanted_of errand) base → Walks (plan_over errand contents second) start seen store
  pub completes : (contents : Contents) → HoldsBase contents (wanted_of errand) base → Completes (plan_over errand contents second) seen
  pub tells : TellSame seen told.items

abbrev pub CarriedOut : Errand → ℕ → Counted → ToldList → Base → Counted → Type 0
CarriedOut errand second start told base store = IsCarried errand second start told base store ⊎ IsUnread errand start told base store

-- Memory was refused on the way: its plan asks on, or it is a listing whose entries wanted memory; or what it wants of a
-- source was not read.
pub record StopsOnWay (errand : Errand) (second : ℕ) (start store : Counted) : Type 0 where
  pub base : Base
  pub seen : List Observed
  pub read : HasRead start.bucket (wanted_of errand) base
  pub walked : (contents : Contents) → HoldsBase contents (wanted_of errand) base → Walks (plan_over errand contents second) start seen store
  pub asks_on : ((contents : Contents) → HoldsBase contents (wanted_of errand) base → plan_over errand contents second (answers_of seen) ≢ done) ⊎ IsListing errand

pub record StopsUnread (errand : Errand) (start store : Counted) : Type 0 where
  pub wanted : Wanted
  pub wants_it : wanted_of errand ≡ Some wanted
  pub kept : store ≡ start

abbrev pub StopsShort : Errand → ℕ → Counted → Counted → Type 0
StopsShort errand second start store = StopsOnWay errand second start store ⊎ StopsUnread errand start store

-- the steps that may still be made
abbrev pub weight : Stage → ℕ
weight Unread = 1
weight stage = 0
