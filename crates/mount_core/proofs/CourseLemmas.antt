-- What a request on its way asks next, and what it makes of an answer.
use Rattle.std.proofs.Common.{◌≡◌, ◌≢◌, ◌≤◌, ℕ, length, List, [], ◌∷◌, ◌++◌, Option, Some, None, refl, sym, ap, subst, ◌∙◌, inr, option_map}
use Rattle.std.proofs.lemmas.List.{append-nil}
use Rattle.bucket_api.specs.Operation.{IsAllowed, Operation, insert, operation}
use Rattle.bucket_api.specs.declared.answers.Answer.{Answer}
use Rattle.bucket_api.specs.declared.answers.Answer.TheVariants as answers
use Rattle.bucket_api.specs.declared.operations.Op.{Op}
use Rattle.mount_core.proofs.InsertLemmas.{holds_frozen}
use Rattle.mount_core.proofs.WalkLemmas as walk
use Rattle.mount_core.proofs.WalkLemmas.{asked_more, asked_next, ends_next}
use Rattle.mount_core.specs.Courses.{AsksNothing, AsksStep, CoversRead, FitsAnswer, HoldsFor, IsAt, IsAwaiting, IsCourse, IsIdle, ReadsFrom, after_answer, rest, told_more}
use Rattle.mount_core.specs.Errands.{AsksOn, FlushesFrozen, HasAsked, HoldsEntries, IsErrand, IsFlushing, IsWalked, plan_of, plan_over, source_of, wanted_of}
use Rattle.mount_core.specs.declared.course.Course.{Course}
use Rattle.mount_core.specs.declared.course.Stage.{Stage}
use Rattle.mount_core.specs.declared.course.Stage.TheVariants.{Asking, Between, Ended, Reading, Unread}
use Rattle.mount_core.specs.declared.errand.Errand.{Errand}
use Rattle.mount_core.specs.declared.errand.Errand.TheVariants.{Files, Flush, Names, Nothing}
use Rattle.mount_model.specs.Observing.{finish, make}
use Rattle.mount_rules.specs.Laws.{IsAnswerTo}
use Rattle.mount_rules.specs.Plans.{Contents, CoversWanted, MayEnd, Wanted, answers_of, ask, asked_by, done}
use Rattle.mount_state.proofs.ToldLaws.{answers_told}
use Rattle.mount_state.specs.Telling.{ToldList}
use Rattle.plan_files.specs.Errands as files
use Rattle.plan_files.specs.Errands.{read_of}
use Rattle.plan_files.specs.declared.errand.FileErrand.{FileErrand}
use Rattle.plan_files.specs.declared.errand.FileErrand.TheVariants as file
use Rattle.plan_names.specs.Errands.{IsTold, next_of}
use Rattle.staged_file.specs.Frozen.{FrozenFile, frozen_content}
use Rattle.staging_spec.specs.Slices.{Holds}

-- ---- what is wanted
-- where nothing is read, nothing is wanted
pub none_wanted : (found : Option Wanted) → None ≡ option_map read_of found → found ≡ None
none_wanted None is = refl
none_wanted (Some wanted) is = absurd cc

pub none_read : (op : Option Op) (found : Option Wanted) → ((o : Op) → op ≡ Some o → ⊥) → option_map operation op ≡ option_map read_of found → found ≡ None
none_read None found none is = none_wanted found is
none_read (Some o) found none is = absurd (none o refl)

-- ---- an errand that is no flush
pub no_flush : (errand : Errand) → ((e : FileErrand) (frozen : FrozenFile) → errand ≡ Flush e frozen → ⊥) → IsFlushing errand → ⊥
no_flush (Flush e frozen) other is = other e frozen refl
no_flush _ other is = absurd is

walked_so : (errand : Errand) → IsErrand errand → (IsFlushing errand → ⊥) → IsWalked errand
walked_so Nothing is other = tt
walked_so (Names errand) is other = tt
walked_so (Files errand) is other = is.1
walked_so (Flush errand frozen) is other = absurd (other tt)

-- its plan is one, whatever generations hold
pub plan_walked : (errand : Errand) (contents : Contents) (second : ℕ) → IsWalked errand → (told : List Answer) → plan_over errand contents second told ≡ plan_of errand [] second told
plan_walked Nothing contents second walked told = refl
plan_walked (Names errand) contents second walked told = refl
plan_walked (Files errand) contents second walked told = refl
plan_walked (Flush errand frozen) contents second walked told = absurd walked

pub asks_on : (errand : Errand) (second : ℕ) (told : List Answer) → IsWalked errand → HasAsked errand second told → plan_of errand [] second told ≢ done → AsksOn errand second told
asks_on Nothing second told walked asked more = tt
asks_on (Names errand) second told walked asked more = (asked, more)
asks_on (Files errand) second told walked asked more = (asked, more)
asks_on (Flush errand frozen) second told walked asked more = absurd walked

-- ---- answers
pub has_asked_more : (errand : Errand) (second : ℕ) (told : List Answer) (a : Answer) → AsksOn errand second told → IsTold a → HasAsked errand second (told ++ a ∷ [])
has_asked_more Nothing second told a on is = tt
has_asked_more (Names errand) second told a on is = asked_more (plan_of (Names errand) [] second) told a on.0 on.1 is
has_asked_more (Files errand) second told a on is = asked_more (plan_of (Files errand) [] second) told a on.0 on.1 is
has_asked_more (Flush errand frozen) second told a on is = absurd on

pub has_asked_none : (errand : Errand) (second : ℕ) → HasAsked errand second []
has_asked_none Nothing second = tt
has_asked_none (Names errand) second = tt
has_asked_none (Files errand) second = tt
has_asked_none (Flush errand frozen) second = refl

-- ---- a flush
-- behind its insert nothing is asked
pub behind_insert : (errand : FileErrand) (frozen : FrozenFile) (content other : List ℕ) (second : ℕ) (op : Operation) → FlushesFrozen errand frozen → files.plan_of errand other second [] ≡ ask op
    → (a : Answer) → IsAnswerTo op a → (more : List Answer) → done ≡ files.plan_of errand content second (a ∷ more)
behind_insert (file.Flush name generation wanted pairs) frozen content other second op is asks a answers_it more = by a answers_it
  where
    same : insert name other pairs.items (Some generation) second ≡ op
    same = cc

    by : (a : Answer) → IsAnswerTo op a → done ≡ files.asks_behind (insert name content pairs.items (Some generation) second) (a ∷ more)
    by (answers.Bytes bytes) fits = absurd (subst (λ (o : Operation). IsAnswerTo o (answers.Bytes bytes)) (sym same) fits)
    by _ fits = refl
behind_insert (file.Attr name) frozen content other second op is asks a answers_it more = absurd is
behind_insert (file.Source name generation wanted) frozen content other second op is asks a answers_it more = absurd is
behind_insert (file.Touch name generation seconds nanos) frozen content other second op is asks a answers_it more = absurd is

-- ---- an answer
-- what awaits an answer and is no read is an operation
pub awaits_step : (course : Course) (stage : Stage) → IsAwaiting course stage → ((first : ℕ) → stage ≡ Reading first → ⊥) → stage ≡ Asking
awaits_step course (Reading first) awaits other = absurd (other first refl)
awaits_step course Asking awaits other = refl
awaits_step course Unread awaits other = absurd awaits
awaits_step course Between awaits other = absurd awaits
awaits_step course Ended awaits other = absurd awaits

pub record SawStep (course : Course) (moment : ℕ) (a : Answer) (told : ToldList) : Type 0 where
  pub after : record course { stage = Between; told = told } ≡ after_answer course.stage course moment a
  pub is : IsCourse (record course { stage = Between; told = told })
  pub idle : IsIdle Between

pub saw_step : (course : Course) (moment : ℕ) (a : Answer) (told : ToldList) → IsCourse course → course.stage ≡ Asking → FitsAnswer course.stage course a
    → told ≡ told_more course.told moment a → SawStep course moment a told
saw_step course moment a told is asking fits pushed = record {
  after = ap (λ (t : ToldList). record course { stage = Between; told = t }) pushed ∙ sym (ap (λ (s : Stage). after_answer s course moment a) asking);
  is = record {
    errand = is.errand;
    stage = (
      subst (λ (t : ToldList). HasAsked course.errand course.second (answers_of t.items)) (sym pushed)
          (subst (HasAsked course.errand course.second) (sym (answers_told (answers_of course.told.items ++ a ∷ []) moment))
          (has_asked_more course.errand course.second (answers_of course.told.items) a here.0 (subst (λ (s : Stage). FitsAnswer s course a) asking fits))),
      here.1,
    );
  };
  idle = tt;
}
  where
    here : AsksOn course.errand course.second (answers_of course.told.items) × CoversRead course
    here = subst (λ (s : Stage). IsAt s course) asking is.stage

pub saw_bytes : (course : Course) (first : ℕ) (bytes : List ℕ) → IsCourse course → course.stage ≡ Reading first → FitsAnswer course.stage course (answers.Bytes bytes)
    → IsCourse (record course { stage = Between; base = record { first = first; bytes = bytes } })
saw_bytes course first bytes is reading fits =
    let here : (answers_of course.told.items ≡ []) × ReadsFrom (wanted_of course.errand) first = subst (λ (s : Stage). IsAt s course) reading is.stage in
    record {
      errand = is.errand;
      stage = (subst (HasAsked course.errand course.second) (sym here.0) (has_asked_none course.errand course.second), subst (λ (s : Stage). FitsAnswer s course (answers.Bytes bytes)) reading fits);
    }

-- ---- an operation that is asked
abbrev pub asking_with : Course → Errand → ToldList → Course
asking_with course errand told = record course { errand = errand; stage = Asking; told = told }

pub record StepAsked (course after : Course) (op : Operation) : Type 0 where
  pub asks : AsksStep course after op
  pub is : IsCourse after
  pub room : 1 ≤ after.told.spare

between_unread : {P : Type 0} (course : Course) → course.stage ≡ Between → course.stage ≡ Unread → P
between_unread course one other = absurd (let never : Between ≡ Unread = sym one ∙ other in cc)

between_ended : {P : Type 0} (course : Course) → course.stage ≡ Between → course.stage ≡ Ended → P
between_ended course one other = absurd (let never : Between ≡ Ended = sym one ∙ other in cc)

is_between : (course : Course) → IsCourse course → course.stage ≡ Between → HasAsked course.errand course.second (answers_of course.told.items) × CoversRead course
is_between course is between = subst (λ (s : Stage). IsAt s course) between is.stage

-- of an errand that is no flush
module _ (course : Course) (is : IsCourse course) (between : course.stage ≡ Between) (other : IsFlushing course.errand → ⊥) where
  rest_is : (contents : Contents) → rest course contents [] ≡ plan_of course.errand [] course.second (answers_of course.told.items)
  rest_is contents =
      plan_walked course.errand contents course.second (walked_so course.errand is.errand other) (answers_of course.told.items ++ [])
      ∙ ap (plan_of course.errand [] course.second) (append-nil (answers_of course.told.items))

  pub step_asked : (after : ToldList) (op : Operation) → make op ≡ next_of (plan_of course.errand [] course.second (answers_of course.told.items)) → IsAllowed op
      → after ≡ record course.told { spare = after.spare } → 1 ≤ after.spare → StepAsked course (asking_with course course.errand after) op
  step_asked after op next may kept room = record {
    asks = record {
      asked = λ contents holds. ap asked_by (rest_is contents) ∙ asked;
      behind = λ contents holds a fits more. ap (λ (t : ToldList). plan_over course.errand contents course.second (answers_of t.items ++ a ∷ more)) kept;
      holds = λ contents holds. holds;
      read = λ e. between_unread course between e;
      on_way = λ e. between_ended course between e;
      allowed = may;
      entries = λ implicit answers items holds. holds;
      lists = λ lists. lists;
      left = ap (λ (t : ToldList). asking_with course course.errand t) kept;
    };
    is = record {
      errand = is.errand;
      stage = (
        subst (λ (t : ToldList). AsksOn course.errand course.second (answers_of t.items)) (sym kept)
            (asks_on course.errand course.second (answers_of course.told.items) (walked_so course.errand is.errand other) (is_between course is between).0
            (walk.asks_on (plan_of course.errand [] course.second (answers_of course.told.items)) op asked)),
        (is_between course is between).1,
      );
    };
    room = room;
  }
    where
      asked : asked_by (plan_of course.errand [] course.second (answers_of course.told.items)) ≡ Some op
      asked = asked_next (plan_of course.errand [] course.second (answers_of course.told.items)) op next

  pub step_ends : finish ≡ next_of (plan_of course.errand [] course.second (answers_of course.told.items)) → AsksNothing course course
  step_ends ends = record {
    ends = inr (λ contents. subst MayEnd (sym (rest_is contents)) (ends_next (plan_of course.errand [] course.second (answers_of course.told.items)) ends));
    read = λ e. between_unread course between e;
    left = refl;
    stays = λ e. e;
  }

-- of a flush
module _ (course : Course) (errand : FileErrand) (frozen : FrozenFile) (is : IsCourse course) (between : course.stage ≡ Between) (flushes : course.errand ≡ Flush errand frozen) where
  frozen_so : FlushesFrozen errand frozen
  frozen_so = subst IsErrand flushes is.errand

  none_told : answers_of course.told.items ≡ []
  none_told = subst (λ (e : Errand). HasAsked e course.second (answers_of course.told.items)) flushes (is_between course is between).0

  left_of : (contents : Contents) (more : List Answer) → rest course contents more ≡ files.plan_of errand (frozen_content frozen (source_of errand contents)) course.second more
  left_of contents more =
      ap (λ (e : Errand). plan_over e contents course.second (answers_of course.told.items ++ more)) flushes
      ∙ ap (λ answers. files.plan_of errand (frozen_content frozen (source_of errand contents)) course.second (answers ++ more)) none_told

  pub insert_asked : (after : ToldList) (op : Operation) (content : List ℕ) → files.plan_of errand content course.second [] ≡ ask op → IsAllowed op
      → ((source : List ℕ) → Holds source course.base.first course.base.bytes → content ≡ frozen_content frozen source)
      → after ≡ record course.told { spare = after.spare } → 1 ≤ after.spare → StepAsked course (asking_with course Nothing after) op
  insert_asked after op content asks may whole kept room = record {
    asks = record {
      asked = λ contents holds. ap asked_by (left_of contents [] ∙ ap (λ (c : List ℕ). files.plan_of errand c course.second []) (sym (whole (source_of errand contents)
          (holds_frozen errand frozen contents course.base frozen_so (subst (λ (e : Errand). HoldsFor e contents course.base) flushes holds)))) ∙ asks);
      behind = λ contents holds a fits more. behind_insert errand frozen (frozen_content frozen (source_of errand contents)) content course.second op frozen_so asks a fits more ∙ sym (left_of contents (a ∷ more));
      holds = λ contents holds. tt;
      read = λ e. between_unread course between e;
      on_way = λ e. between_ended course between e;
      allowed = may;
      entries = λ implicit answers items holds. subst (λ (e : Errand). HoldsEntries e implicit answers items) (sym flushes) tt;
      lists = λ lists. absurd lists;
      left = ap (λ (t : ToldList). asking_with course Nothing t) kept;
    };
    is = record { errand = tt; stage = (tt, tt) };
    room = room;
  }

-- a flush that was not asked yet asks its insert
pub flush_asks_on : (course : Course) → IsCourse course → course.stage ≡ Between → IsFlushing course.errand → (contents : Contents) → rest course contents [] ≢ done
flush_asks_on course is between flushing contents = by course.errand refl flushing
  where
    insert_on : (errand : FileErrand) (frozen : FrozenFile) (content : List ℕ) → FlushesFrozen errand frozen → files.plan_of errand content course.second [] ≢ done
    insert_on (file.Flush name generation wanted pairs) frozen content flushes e = cc
    insert_on (file.Attr name) frozen content flushes e = absurd flushes
    insert_on (file.Source name generation wanted) frozen content flushes e = absurd flushes
    insert_on (file.Touch name generation seconds nanos) frozen content flushes e = absurd flushes

    by : (errand : Errand) → course.errand ≡ errand → IsFlushing errand → rest course contents [] ≢ done
    by (Flush errand frozen) flushes it e = insert_on errand frozen (frozen_content frozen (source_of errand contents)) (frozen_so course errand frozen is between flushes) (sym (left_of course errand frozen is between flushes contents []) ∙ e)
    by _ flushes it e = absurd it

-- one that wants nothing needs no read
pub unread_between : (course : Course) → IsCourse course → course.stage ≡ Unread → wanted_of course.errand ≡ None → IsCourse (record course { stage = Between })
unread_between course is unread none =
    let here : (answers_of course.told.items ≡ []) × (course.base.bytes ≡ []) = subst (λ (s : Stage). IsAt s course) unread is.stage in
    record {
      errand = is.errand;
      stage = (
        subst (HasAsked course.errand course.second) (sym here.0) (has_asked_none course.errand course.second),
        subst (λ (found : Option Wanted). CoversWanted found course.base.first (length course.base.bytes)) (sym none) tt,
      );
    }
