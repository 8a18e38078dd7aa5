-- A request that is carried out on a bucket with its log: what it asks, its read too, is made as an event of the call's lane,
-- which may fail by script. What is said of the call is said of whichever call it is, in that lane and taken then.
use Rattle.std.specs.Prelude.{◌≡◌, ◌≢◌, ◌++◌, ◌≤◌, ℕ, All, Bool, true, false, List, [], ◌∷◌, Option, Some, None, length, ◌⊎◌, if◌then◌else◌}
use Rattle.std.specs.List.{AllByRecursion, cons_option}
use Rattle.bucket_api.specs.BucketState.{BucketState, IsBucket}
use Rattle.bucket_api.specs.Log.{state_at}
use Rattle.bucket_api.specs.LogEvent.{LogEvent}
use Rattle.bucket_api.specs.Operation.{IsAllowed, Operation}
use Rattle.bucket_api.specs.declared.answers.Answer.{Answer}
use Rattle.history_spec.specs.Account.{Item, looked, made}
use Rattle.history_spec.specs.Fits.{HasWalked}
use Rattle.history_spec.specs.JournalState.{OpenCall}
use Rattle.history_spec.specs.Looks.{IsLook, MayRecall}
use Rattle.history_spec.specs.Observing.{observed_at, seen_by}
use Rattle.logged_bucket.specs.LoggedState.{LoggedState}
use Rattle.logged_bucket.specs.Logging.{MakesEvent}
use Rattle.mount_core.specs.Bases.{HasBytes, HoldsBase}
use Rattle.mount_core.specs.Courses.{AsksMore, AsksNothing, AsksRead, AsksStep, FitsAnswer, HoldsRead, after_answer, rest}
use Rattle.mount_core.specs.Errands.{AsksAs, HoldsEntries, IsListing, plan_over, wanted_of}
use Rattle.mount_core.specs.declared.course.Course.{Course}
use Rattle.mount_core.specs.declared.course.Stage.TheVariants.{Between, Ended, Unread}
use Rattle.mount_core.specs.declared.errand.Errand.{Errand}
use Rattle.mount_kept.specs.Items.{note_of}
use Rattle.mount_kept.specs.Recalls.{found_for, found_left}
use Rattle.mount_kept.specs.Takings.{AllGoBy, left_after}
use Rattle.mount_kept.specs.declared.notes.Note.{Note}
use Rattle.mount_kept.specs.declared.notes.Note.TheVariants.{Recalled}
use Rattle.mount_kept.specs.declared.recall.Found.{Found}
use Rattle.mount_kept.specs.declared.recall.Recall.{Recall}
use Rattle.mount_laws.specs.Observations.{EndSame, TellSame, errno_unread}
use Rattle.mount_model.specs.Observing.{Observed}
use Rattle.mount_rules.specs.Dispatch.{plan, wants}
use Rattle.mount_rules.specs.Laws.{Planned}
use Rattle.mount_rules.specs.Mount.{MountModel}
use Rattle.mount_rules.specs.OneThread.{contents_of}
use Rattle.mount_rules.specs.Plans.{Allows, Completes, Contents, CoversWanted, HoldsWanted, IsHarmless, Wanted, answers_of, done}
use Rattle.mount_state.specs.Serving.{Serves}
use Rattle.mount_state.specs.Telling.{ToldList}
use Rattle.mount_state.specs.declared.base.Base.{Base}
use Rattle.object_names.specs.declared.shown.DirItem.{DirItem}
use Rattle.thrift_spec.specs.Recalls.{StandsFor}
use Rattle.thrift_spec.specs.Records.{answer_of}

-- ---- the bucket
-- the bucket as it stands
abbrev pub bucket_now : LoggedState → BucketState
bucket_now logged = state_at logged.start logged.log (length logged.log)

-- it was one, and was asked what may be asked of one
pub record IsOfBucket (logged : LoggedState) : Type 0 where
  pub start : IsBucket logged.start
  pub allowed : All (λ e. IsAllowed e.op) logged.log

-- where the source was not asked for yet, the bucket has what is wanted of it while it is live
abbrev pub CanRead : Course → LoggedState → Type 0
CanRead course logged = course.stage ≡ Unread → HasBytes (bucket_now logged) (wanted_of course.errand)

-- ---- one step
-- what tells of an operation of its own: a look, of which no record is kept yet; or another operation
abbrev pub item_of : Bool → ℕ → Item
item_of looks moment = if looks then looked moment false else made moment

-- what is noted of it
abbrev pub noted_of : Item → Observed → List Note
noted_of item seen = cons_option (note_of item seen) []

-- whatever the bucket answers to it as the next event may be told
abbrev pub FitsNext : ℕ → Course → Operation → LoggedState → Type 0
FitsNext lane asking op logged = (left : LoggedState) (moment : ℕ) (answer : Answer) → MakesEvent lane op logged left moment answer → FitsAnswer asking.stage asking answer

-- What it asked was made as the next event of its lane, and noted; and it was told the answer.
pub record Makes (lane : ℕ) (op : Operation) (asking after : Course) (logged left : LoggedState) (notes noted : List Note) : Type 0 where
  pub moment : ℕ
  pub answer : Answer
  pub looks : Bool
  pub event : MakesEvent lane op logged left moment answer
  pub saw : after ≡ after_answer asking.stage asking moment answer
  pub look : looks ≡ true → IsLook op
  pub other : looks ≡ false → IsLook op → ⊥
  pub adds : noted ≡ notes ++ noted_of (item_of looks moment) (record { op = op; moment = moment; answer = answer })

-- Memory was refused: before it, and nothing was made; or to a look that was made, and is noted.
pub record MakesLook (lane : ℕ) (op : Operation) (logged left : LoggedState) (notes noted : List Note) : Type 0 where
  pub moment : ℕ
  pub answer : Answer
  pub event : MakesEvent lane op logged left moment answer
  pub look : IsLook op
  pub adds : noted ≡ notes ++ noted_of (looked moment false) (record { op = op; moment = moment; answer = answer })

abbrev pub StopsMade : ℕ → Operation → LoggedState → LoggedState → List Note → List Note → Type 0
StopsMade lane op logged left notes noted = ((left ≡ logged) × (noted ≡ notes)) ⊎ MakesLook lane op logged left notes noted

-- it asks so
abbrev pub AsksIt : Course → Course → Operation → Type 0
AsksIt before asking op = AsksRead before asking op ⊎ AsksStep before asking op

-- What it asks was made, and nothing was found of it.
pub record StepsOn (lane : ℕ) (before after : Course) (found rest : Found) (logged left : LoggedState) (notes noted : List Note) : Type 0 where
  pub op : Operation
  pub asking : Course
  pub asks : AsksIt before asking op
  pub none : found_for found op ≡ None
  pub rest_is : rest ≡ found_left found op
  pub makes : Makes lane op asking after logged left notes noted

-- What was found of what it asks was told, and noted; nothing was made.
pub record Recalls (before after : Course) (found rest : Found) (logged left : LoggedState) (notes noted : List Note) : Type 0 where
  pub op : Operation
  pub asking : Course
  pub asks : AsksIt before asking op
  pub recall : Recall
  pub is : found_for found op ≡ Some recall
  pub rest_is : rest ≡ found_left found op
  pub kept : left ≡ logged
  pub saw : after ≡ after_answer asking.stage asking recall.moment (answer_of recall.shown)
  pub adds : noted ≡ notes ++ Recalled recall.moment ∷ []

-- It asks nothing, and all is as it was.
pub record StepsNot (before after : Course) (logged left : LoggedState) (notes noted : List Note) : Type 0 where
  pub nothing : AsksNothing before after
  pub kept : left ≡ logged
  pub adds : noted ≡ notes

abbrev pub StepsBy : Bool → ℕ → Course → Course → Found → Found → LoggedState → LoggedState → List Note → List Note → Type 0
StepsBy true lane before after found rest logged left notes noted =
    StepsOn lane before after found rest logged left notes noted ⊎ Recalls before after found rest logged left notes noted
StepsBy false lane before after found rest logged left notes noted = StepsNot before after logged left notes noted

-- Memory was refused for what it asks: nothing was made; or a look that it asks was, of which nothing was found, and is noted.
pub record StopsLooking (lane : ℕ) (before : Course) (found : Found) (logged left : LoggedState) (notes noted : List Note) : Type 0 where
  pub op : Operation
  pub asking : Course
  pub asks : AsksIt before asking op
  pub none : found_for found op ≡ None
  pub made : MakesLook lane op logged left notes noted

abbrev pub StopsBy : ℕ → Course → Found → LoggedState → LoggedState → List Note → List Note → Type 0
StopsBy lane before found logged left notes noted =
    (AsksMore before × (left ≡ logged) × (noted ≡ notes)) ⊎ StopsLooking lane before found logged left notes noted

-- ---- whose way it is
-- The call is of the lane, taken at the end of the log; and the errand asks at this second what its plan asks, reads left out.
pub record IsErrandOf (errand : Errand) (second lane : ℕ) (mount : MountModel) (before : LoggedState) (o : OpenCall) : Type 0 where
  pub lane_is : o.call.lane ≡ lane
  pub front : o.front ≡ length before.log
  pub asks : AsksAs (plan_over errand o.taken.at.contents second) (plan o.taken.at mount o.taken.request)
  pub wanted : wanted_of errand ≡ wants o.taken.at.config mount o.taken.request
  pub contents : o.taken.at.contents ≡ contents_of (record { start = before.start; log = before.log })

-- A record that was found serves a look wherever the plan allows it, behind these answers: the log tells, at its moment, of that
-- look and its answer, which the record shows; or the look is the first, and what is asked and comes of it are the same.
pub record ServesLook (mount : MountModel) (before : LoggedState) (o : OpenCall) (told : List Answer) (op : Operation) (r : Recall) : Type 0 where
  pub observed : Observed
  pub is : observed_at before.start before.log r.moment ≡ Some observed
  pub op_is : observed.op ≡ op
  pub look : IsLook op
  pub may : MayRecall o op r.moment
  pub within : r.moment ≤ length before.log
  pub stands : (observed.answer ≡ answer_of r.shown)
      ⊎ ((told ≡ []) × StandsFor o.taken.at mount o.taken.request observed (record { op = op; moment = r.moment; answer = answer_of r.shown }))

abbrev pub IsServed : Found → MountModel → LoggedState → OpenCall → Type 0
IsServed found mount before o = (op : Operation) (r : Recall) → found_for found op ≡ Some r
    → (told : List Answer) → Allows (plan o.taken.at mount o.taken.request told) op → ServesLook mount before o told op r

-- what it made: events of its lane, of which its items tell, along its plan
pub record HasMade (mount : MountModel) (before after : LoggedState) (o : OpenCall) (items : List Item) : Type 0 where
  pub more : List LogEvent
  pub log : after ≡ record before { log = before.log ++ more }
  pub own : All (λ e. e.lane ≡ o.call.lane) more
  pub walk : HasWalked before.start after.log (plan o.taken.at mount o.taken.request) o (length after.log) items

-- what it saw so
abbrev pub seen_of : LoggedState → LoggedState → List Item → List Observed
seen_of before after items = seen_by before.start after.log items

-- ---- the way so far
-- what is noted of items that saw this
abbrev pub notes_seen : List Item → List Observed → List Note
notes_seen [] seen = []
notes_seen (item ∷ items) [] = []
notes_seen (item ∷ items) (s ∷ seen) = cons_option (note_of item s) (notes_seen items seen)

-- What the log tells of its observations counts as these, without reads of its source that were given bytes, and with a record's
-- answer in place of a probe's: what is asked next, and what it comes to, are as with them.
pub record CountsAs (mount : MountModel) (o : OpenCall) (seen counted : List Observed) : Type 0 where
  pub asks : (answers : List Answer) → plan o.taken.at mount o.taken.request (answers_of seen ++ answers) ≡ plan o.taken.at mount o.taken.request (answers_of counted ++ answers)
  pub ends : (later : List Observed) → EndSame o.taken.at mount o.taken.request (seen ++ later) (counted ++ later)
  pub harmless : AllByRecursion (λ (x : Observed). IsHarmless x.op) counted → AllByRecursion (λ (x : Observed). IsHarmless x.op) seen
  pub none : answers_of seen ≡ [] → counted ≡ []

-- the base has all bytes that are wanted, as they are in these contents
pub record IsBased (contents : Contents) (found : Option Wanted) (base : Base) : Type 0 where
  pub covers : CoversWanted found base.first (length base.bytes)
  pub holds : HoldsBase contents found base

-- what is left of its errand lists what the errand does
pub record ListsAs (errand : Errand) (course : Course) : Type 0 where
  pub entries : (implicit : Bool) (told : List Answer) (listed : List DirItem) → HoldsEntries course.errand implicit told listed → HoldsEntries errand implicit told listed
  pub lists : IsListing course.errand → IsListing errand

-- nothing was asked yet, and all is left that was found
pub record IsFresh (errand : Errand) (second : ℕ) (full found : Found) (before after : LoggedState) (course : Course) (notes : List Note) : Type 0 where
  pub stage : course.stage ≡ Unread
  pub errand_is : course.errand ≡ errand
  pub second_is : course.second ≡ second
  pub told : course.told.items ≡ []
  pub base : course.base.bytes ≡ []
  pub kept : after ≡ before
  pub none : notes ≡ []
  pub untaken : found ≡ full

-- What it wants was read, and its errand walked; by what it saw behind its read it was told all that it was told. It went by what
-- was found in full at its take, of which this is left.
pub record IsWalked (errand : Errand) (second : ℕ) (mount : MountModel) (full found : Found) (before after : LoggedState) (o : OpenCall) (course : Course) (notes : List Note) : Type 0 where
  pub items : List Item
  pub made : HasMade mount before after o items
  pub noted : notes ≡ notes_seen items (seen_of before after items)
  pub goes : AllGoBy full items (seen_of before after items)
  pub spent : found ≡ left_after full (seen_of before after items)
  pub seen : List Observed
  pub over : CountsAs mount o (seen_of before after items) seen
  pub based : IsBased o.taken.at.contents (wanted_of errand) course.base
  pub planned : Planned (plan_over errand o.taken.at.contents second) seen
  pub left : (more : List Answer) → rest course o.taken.at.contents more ≡ plan_over errand o.taken.at.contents second (answers_of seen ++ more)
  pub holds : HoldsRead o.taken.at.contents course
  pub tells : TellSame seen course.told.items

-- what it wants of a source was not given: that is live no more, or the bucket failed
pub record IsUnread (errand : Errand) (mount : MountModel) (found : Found) (before after : LoggedState) (o : OpenCall) (told : ToldList) (base : Base) (notes : List Note) : Type 0 where
  pub items : List Item
  pub made : HasMade mount before after o items
  pub noted : notes ≡ notes_seen items (seen_of before after items)
  pub goes : AllGoBy found items (seen_of before after items)
  pub wanted : Wanted
  pub wants_it : wanted_of errand ≡ Some wanted
  pub read : Observed
  pub saw : seen_of before after items ≡ read ∷ []
  pub harmless : IsHarmless read.op
  pub errno : ℕ
  pub refused : errno_unread read.answer ≡ Some errno
  pub tells : TellSame (read ∷ []) told.items
  pub empty : base.bytes ≡ []

pub record IsAtEnd (errand : Errand) (mount : MountModel) (found : Found) (before after : LoggedState) (o : OpenCall) (course : Course) (notes : List Note) : Type 0 where
  pub unread : IsUnread errand mount found before after o course.told course.base notes
  pub errand_is : course.errand ≡ errand
  pub stage : course.stage ≡ Ended

abbrev pub Carries : Errand → ℕ → MountModel → Found → Found → LoggedState → LoggedState → OpenCall → Course → List Note → Type 0
Carries errand second mount full found before after o course notes =
    IsFresh errand second full found before after course notes
    ⊎ ((IsWalked errand second mount full found before after o course notes × (course.stage ≡ Between)) ⊎ IsAtEnd errand mount full before after o course notes)

-- ---- its end
-- Its plan may end after what it saw, going by what was found at its take. By what it was told it comes to the same; and the base has what it wants, unless a read
-- was not given.
pub record IsCarried (mount : MountModel) (found : Found) (before after : LoggedState) (o : OpenCall) (told : ToldList) (base : Base) (notes : List Note) : Type 0 where
  pub items : List Item
  pub made : HasMade mount before after o items
  pub noted : notes ≡ notes_seen items (seen_of before after items)
  pub goes : AllGoBy found items (seen_of before after items)
  pub completes : Completes (plan o.taken.at mount o.taken.request) (seen_of before after items)
  pub same : EndSame o.taken.at mount o.taken.request (seen_of before after items) told.items
  pub serves : Serves o.taken.at.config mount o.taken.request (answers_of told.items) base
  pub holds : HoldsWanted o.taken.at.contents (wants o.taken.at.config mount o.taken.request) base.first base.bytes

-- Memory was refused on the way: its plan asks something; it made nothing but look-ups, reads, copies and lists, and went by what
-- was found at its take.
pub record StopsShort (mount : MountModel) (found : Found) (before after : LoggedState) (o : OpenCall) (notes : List Note) : Type 0 where
  pub items : List Item
  pub made : HasMade mount before after o items
  pub noted : notes ≡ notes_seen items (seen_of before after items)
  pub goes : AllGoBy found items (seen_of before after items)
  pub asks : plan o.taken.at mount o.taken.request [] ≢ done
  pub harmless : AllByRecursion (λ (x : Observed). IsHarmless x.op) (seen_of before after items)
