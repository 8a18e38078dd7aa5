-- One event of a request on a bucket with its log: what it was answered, and what an item tells of it.
use Rattle.std.proofs.Common.{◌≡◌, ◌+◌, ℕ, Bool, true, false, List, [], ◌∷◌, ◌++◌, Option, Some, None, length, refl, sym, ap, subst, ◌∙◌, ◌⊎◌, inl, inr, arith, append_assoc, append-nil, length-append, take}
use Rattle.std.proofs.lemmas.List.{take-append-le}
use Rattle.std.proofs.lemmas.List.Elements.{All-append, All-cons, All-nil}
use Rattle.std.specs.List.{AllByRecursion, cons_option}
use Rattle.bucket_api.proofs.LogLaws.{IsBucket-state_at, answer_at-pushed}
use Rattle.bucket_api.specs.BucketState.{BucketState, IsBucket}
use Rattle.bucket_api.specs.Log.{answer_at, answer_by}
use Rattle.bucket_api.specs.LogEvent.{LogEvent}
use Rattle.bucket_api.specs.Moments.{moment_at}
use Rattle.bucket_api.specs.Operation.{IsAllowed, Operation, operation}
use Rattle.bucket_api.specs.declared.operations.Op.{Op}
use Rattle.bucket_api.specs.declared.answers.Answer.{Answer}
use Rattle.bucket_api.specs.declared.answers.Answer.TheVariants.{Fault}
use Rattle.bucket_api.specs.declared.events.Mode.{Mode}
use Rattle.bucket_api.specs.declared.events.Mode.TheVariants as modes
use Rattle.history_laws.proofs.Moments.{Told, told_at}
use Rattle.history_spec.proofs.WalkLaws.{walk_begins, walk_goes_on}
use Rattle.history_spec.proofs.Agreeing.{observed_same}
use Rattle.history_spec.specs.Account.{Item, moment_of, recalled}
use Rattle.history_spec.specs.Fits.{HasWalked, MayTell, Supplies, items_left}
use Rattle.history_spec.specs.JournalState.{OpenCall}
use Rattle.history_spec.specs.Laws.{IsOwnAt, WalkedOn, shown_by}
use Rattle.history_spec.specs.Looks.{IsLook, MayRecall}
use Rattle.history_spec.specs.Observing.{observed_at, seen_by}
use Rattle.logged_bucket.specs.LoggedState.{LoggedState}
use Rattle.logged_bucket.specs.Logging.{MakesEvent, next_event}
use Rattle.mount_core.proofs.HarmlessLemmas.{answer_fits}
use Rattle.mount_core.proofs.PageKeys.{answer_told}
use Rattle.mount_core.proofs.StepLemmas.{fits_read}
use Rattle.mount_core.specs.Courses.{Asks, AsksRead, AsksStep, FitsAnswer}
use Rattle.mount_core.specs.Logged.{CanRead, HasMade, IsOfBucket, ServesLook, bucket_now, item_of, seen_of}
use Rattle.mount_core.specs.declared.course.Ask.{Ask}
use Rattle.mount_core.specs.declared.course.Ask.TheVariants as ask
use Rattle.mount_core.specs.declared.course.Course.{Course}
use Rattle.mount_core.specs.declared.course.Stage.{Stage}
use Rattle.mount_core.specs.declared.course.Stage.TheVariants.{Reading}
use Rattle.mount_kept.specs.Recalls.{found_for}
use Rattle.mount_kept.specs.Takings.{GoesBy}
use Rattle.mount_kept.specs.declared.recall.Found.{Found}
use Rattle.mount_kept.specs.declared.recall.Recall.{Recall}
use Rattle.mount_laws.proofs.Keeping.{same_Some}
use Rattle.mount_model.specs.Observing.{Observed}
use Rattle.mount_rules.specs.Dispatch.{plan}
use Rattle.mount_rules.specs.Laws.{IsAnswerTo, Planned}
use Rattle.mount_rules.specs.Mount.{MountModel}
use Rattle.mount_rules.specs.Plans.{Allows, Plan, Walks, answers_of, plan_after}
use Rattle.plan_names.specs.Errands.{IsTold}
use Rattle.thrift_spec.proofs.RecalledWalks.{walk_recalls}
use Rattle.thrift_spec.specs.Recalls.{RecallsOn}

-- ---- what it was answered
pub event_answer : (lane : ℕ) (op : Operation) (logged left : LoggedState) (moment : ℕ) (answer : Answer) → MakesEvent lane op logged left moment answer
    → answer ≡ answer_by (next_event logged lane op).mode op (bucket_now logged)
event_answer lane op logged left moment answer m = same_Some (sym here ∙ answer_at-pushed logged.start logged.log event)
  where
    event : LogEvent
    event = next_event logged lane op

    here : answer_at logged.start (logged.log ++ next_event logged lane op ∷ []) (length (logged.log ++ next_event logged lane op ∷ [])) ≡ Some answer
    here =
        ap (answer_at logged.start (logged.log ++ event ∷ [])) (sym (m.place ∙ ap (λ (s : LoggedState). length s.log) m.log))
        ∙ ap (λ (s : LoggedState). answer_at s.start s.log moment) (sym m.log) ∙ m.answered

pub event_moment : (lane : ℕ) (op : Operation) (logged left : LoggedState) (moment : ℕ) (answer : Answer) → MakesEvent lane op logged left moment answer
    → moment ≡ moment_at (length logged.log)
event_moment lane op logged left moment answer m =
    m.place ∙ ap (λ (s : LoggedState). length s.log) m.log ∙ length-append logged.log (next_event logged lane op ∷ [])

-- a bucket's answer, or a fault, is one that may be told, and fits the operation
told_by_mode : (mode : Mode) (op : Operation) (b : BucketState) → IsBucket b → IsTold (answer_by mode op b)
told_by_mode modes.Done op b is = answer_told op b is
told_by_mode modes.Failed op b is = tt
told_by_mode modes.Lost op b is = tt

pub fits_by_mode : (mode : Mode) (op : Operation) (b : BucketState) → IsAnswerTo op (answer_by mode op b)
fits_by_mode modes.Done op b = answer_fits op b
fits_by_mode modes.Failed op b = tt
fits_by_mode modes.Lost op b = tt

-- so a request that asked may be told it
module _ (before asking : Course) (op : Operation) (logged left : LoggedState) (lane moment : ℕ) (answer : Answer) (is : IsOfBucket logged) (can : CanRead before logged)
    (event : MakesEvent lane op logged left moment answer) where
  answered : answer ≡ answer_by (next_event logged lane op).mode op (bucket_now logged)
  answered = event_answer lane op logged left moment answer event

  fits_step : AsksStep before asking op → FitsAnswer asking.stage asking answer
  fits_step asks =
      subst (λ (s : Stage). FitsAnswer s asking answer) (sym (ap (λ (c : Course). c.stage) asks.left))
      (subst IsTold (sym answered) (told_by_mode (next_event logged lane op).mode op (bucket_now logged) (IsBucket-state_at logged.start logged.log (length logged.log) is.start is.allowed)))

  fits_asked_read : AsksRead before asking op → FitsAnswer asking.stage asking answer
  fits_asked_read asks = by (next_event logged lane op).mode answered
    where
      fault : answer ≡ Fault → FitsAnswer asking.stage asking answer
      fault is_fault =
          subst (λ (s : Stage). FitsAnswer s asking answer) (sym (ap (λ (c : Course). c.stage) asks.left)) (subst (FitsAnswer (Reading asks.wanted.range.first) asking) (sym is_fault) tt)

      by : (mode : Mode) → answer ≡ answer_by mode op (bucket_now logged) → FitsAnswer asking.stage asking answer
      by modes.Done told = fits_read before asking op (bucket_now logged) asks answer told (can asks.first)
      by modes.Failed told = fault told
      by modes.Lost told = fault told

  pub fits_event : AsksRead before asking op ⊎ AsksStep before asking op → FitsAnswer asking.stage asking answer
  fits_event (inl asks) = fits_asked_read asks
  fits_event (inr asks) = fits_step asks

-- what it asks next may be asked
pub asked_one : (before asking : Course) (next : Ask) (op : Op) → Asks before asking next → (next ≡ ask.Read op) ⊎ (next ≡ ask.Make op)
    → AsksRead before asking (operation op) ⊎ AsksStep before asking (operation op)
asked_one before asking next op asks (inl is) = inl (subst (Asks before asking) is asks)
asked_one before asking next op asks (inr is) = inr (subst (Asks before asking) is asks)

pub may_ask : (before asking : Course) (op : Operation) → AsksRead before asking op ⊎ AsksStep before asking op → IsAllowed op
may_ask before asking op (inl asks) = asks.allowed
may_ask before asking op (inr asks) = asks.allowed

-- the bucket is one that was asked what may be asked, with one event more
pub of_bucket_on : (lane : ℕ) (op : Operation) (logged left : LoggedState) (moment : ℕ) (answer : Answer) → IsAllowed op → MakesEvent lane op logged left moment answer
    → IsOfBucket logged → IsOfBucket left
of_bucket_on lane op logged left moment answer may m is = subst IsOfBucket (sym m.log) (record {
  start = is.start;
  allowed = All-append (λ (e : LogEvent). IsAllowed e.op) logged.log (next_event logged lane op ∷ []) is.allowed
      (All-cons (λ (e : LogEvent). IsAllowed e.op) (next_event logged lane op) [] may (All-nil (λ (e : LogEvent). IsAllowed e.op)));
})

-- ---- what an item tells of it
pub item_tells : (o : OpenCall) (op : Operation) (looks : Bool) (moment : ℕ) → (looks ≡ true → IsLook op) → (looks ≡ false → IsLook op → ⊥) → MayTell o op (item_of looks moment)
item_tells o op true moment look other = look refl
item_tells o op false moment look other = other refl

item_own : (looks : Bool) (moment at : ℕ) → moment ≡ at → IsOwnAt at (item_of looks moment)
item_own true moment at is = ap Some is
item_own false moment at is = ap Some is

-- it goes by what is left, where nothing was found of the operation
pub goes_made : (found : Found) (looks : Bool) (moment : ℕ) (seen : Observed) → found_for found seen.op ≡ None → GoesBy found (item_of looks moment) seen
goes_made found true moment seen none = none
goes_made found false moment seen none = tt

-- ---- what was seen
-- what holds of whatever a log tells of a moment holds of all that is seen
pub each_seen : (start : BucketState) (log : List LogEvent) (P : Observed → Type 0) → ((moment : ℕ) (seen : Observed) → observed_at start log moment ≡ Some seen → P seen)
    → (items : List Item) → AllByRecursion P (seen_by start log items)
each_seen start log P each [] = tt
each_seen start log P each (item ∷ items) = by (observed_at start log (moment_of item)) refl (each_seen start log P each items)
  where
    by : (found : Option Observed) → observed_at start log (moment_of item) ≡ found → AllByRecursion P (seen_by start log items)
        → AllByRecursion P (cons_option found (seen_by start log items))
    by None is later = later
    by (Some seen) is later = (each (moment_of item) seen is, later)

pub seen_fits : (start : BucketState) (log : List LogEvent) (items : List Item) → AllByRecursion (λ (x : Observed). IsAnswerTo x.op x.answer) (seen_by start log items)
seen_fits start log items = each_seen start log (λ (x : Observed). IsAnswerTo x.op x.answer) (λ moment seen is. fits moment seen (told_at start log moment seen is)) items
  where
    fits : (moment : ℕ) (seen : Observed) → Told start log moment seen → IsAnswerTo seen.op seen.answer
    fits moment seen t = subst (λ op. IsAnswerTo op seen.answer) (sym t.op) (subst (IsAnswerTo t.event.op) (sym t.answer) (fits_by_mode t.event.mode t.event.op _))

-- a walk was planned
planned_walk : (start : BucketState) (log : List LogEvent) (o : OpenCall) (way : Plan) (items : List Item) (seen : List Observed)
    → Walks (Supplies start log o) items_left way items seen → Planned way seen
planned_walk start log o way items [] walk = tt
planned_walk start log o way [] (s ∷ seen) walk = absurd walk.0
planned_walk start log o way (item ∷ items) (s ∷ seen) walk = (walk.0.1, planned_walk start log o (plan_after way s.answer) items seen walk.1)

pub planned_by : (start : BucketState) (log : List LogEvent) (o : OpenCall) (way : Plan) (front : ℕ) (items : List Item) → HasWalked start log way o front items
    → Planned way (seen_by start log items)
planned_by start log o way front items walk = planned_walk start log o way items (seen_by start log items) walk.walked

-- ---- what it made
module _ (mount : MountModel) (before : LoggedState) (o : OpenCall) (front : o.front ≡ length before.log) where
  abbrev way : Plan
  way = plan o.taken.at mount o.taken.request

  pub made_none : HasMade mount before before o []
  made_none = record {
    more = [];
    log = ap (λ (events : List LogEvent). record before { log = events }) (sym nothing);
    own = All-nil (λ (e : LogEvent). e.lane ≡ o.call.lane);
    walk = walk_begins before.start before.log way o front;
  }
    where
      nothing : before.log ++ [] ≡ before.log
      nothing = append-nil before.log

  -- what it saw by one event more
  pub record MadeOn (mid left : LoggedState) (items : List Item) (item : Item) (shown : Observed) : Type 0 where
    pub made : HasMade mount before left o (items ++ item ∷ [])
    pub saw : seen_of before left (items ++ item ∷ []) ≡ seen_of before mid items ++ shown ∷ []

  module _ (lane : ℕ) (lane_is : o.call.lane ≡ lane) (mid left : LoggedState) (items : List Item) (h : HasMade mount before mid o items) (op : Operation) (moment : ℕ)
      (answer : Answer) (made_it : MakesEvent lane op mid left moment answer) where
    abbrev event : LogEvent
    event = next_event mid lane op

    start_same : mid.start ≡ before.start
    start_same = ap (λ (s : LoggedState). s.start) h.log

    shown_so : shown_by before.start mid.log event ≡ record { op = op; moment = moment; answer = answer }
    shown_so =
        ap (λ n. record { op = op; moment = n; answer = (shown_by before.start mid.log event).answer }) (sym (event_moment lane op mid left moment answer made_it))
        ∙ ap (λ (a : Answer). record { op = op; moment = moment; answer = a })
        (sym (event_answer lane op mid left moment answer made_it ∙ ap (λ start. answer_by event.mode op (bucket_now (record mid { start = start }))) start_same))

    left_is : left ≡ record before { log = before.log ++ (h.more ++ event ∷ []) }
    left_is =
        made_it.log ∙ ap (λ (s : LoggedState). record s { log = s.log ++ event ∷ [] }) h.log
        ∙ ap (λ (events : List LogEvent). record before { log = events }) (append_assoc before.log h.more (event ∷ []))

    log_is : left.log ≡ mid.log ++ event ∷ []
    log_is = ap (λ (s : LoggedState). s.log) made_it.log

    long : length mid.log ≡ length before.log + length h.more
    long = ap (λ (s : LoggedState). length s.log) h.log ∙ length-append before.log h.more

    pub made_on : (looks : Bool) → (looks ≡ true → IsLook op) → (looks ≡ false → IsLook op → ⊥) → Allows (way (answers_of (seen_of before mid items))) op
        → MadeOn mid left items (item_of looks moment) (record { op = op; moment = moment; answer = answer })
    made_on looks look other allowed = record {
      made = record {
        more = h.more ++ event ∷ [];
        log = left_is;
        own = All-append (λ (e : LogEvent). e.lane ≡ o.call.lane) h.more (event ∷ []) h.own
            (All-cons (λ (e : LogEvent). e.lane ≡ o.call.lane) event [] (sym lane_is) (All-nil (λ (e : LogEvent). e.lane ≡ o.call.lane)));
        walk = subst (λ (events : List LogEvent). HasWalked before.start events way o (length events) (items ++ item_of looks moment ∷ [])) (sym log_is) on.walk;
      };
      saw = ap (λ (events : List LogEvent). seen_by before.start events (items ++ item_of looks moment ∷ [])) log_is ∙ on.seen
          ∙ ap (λ (s : Observed). seen_by before.start mid.log items ++ s ∷ []) shown_so;
    }
      where
        on : WalkedOn before.start mid.log event way o items (item_of looks moment)
        on = walk_goes_on before.start mid.log event way o items (item_of looks moment) (omega (arith, front, long)) h.walk (sym lane_is) allowed
            (item_own looks moment (moment_at (length mid.log)) (event_moment lane op mid left moment answer made_it)) (item_tells o op looks moment look other)

  -- what it saw by a record that serves
  module _ (mid : LoggedState) (items : List Item) (h : HasMade mount before mid o items) (op : Operation) (r : Recall)
      (serves : ServesLook mount before o (answers_of (seen_of before mid items)) op r) (allowed : Allows (way (answers_of (seen_of before mid items))) op) where
    log_mid : mid.log ≡ before.log ++ h.more
    log_mid = ap (λ (s : LoggedState). s.log) h.log

    still : observed_at before.start mid.log r.moment ≡ Some serves.observed
    still =
        observed_same before.start mid.log before.log (length before.log)
        (ap (take (length before.log)) log_mid ∙ take-append-le (length before.log) before.log h.more (omega arith)) r.moment serves.within
        ∙ serves.is

    long_mid : length mid.log ≡ length before.log + length h.more
    long_mid = ap length log_mid ∙ length-append before.log h.more

    recalls_on : RecallsOn before.start mid.log way o (length mid.log) items r.moment serves.observed
    recalls_on = walk_recalls before.start mid.log way o (length mid.log) items r.moment serves.observed h.walk still (omega (arith, serves.within, long_mid))
        (subst (Allows (way (answers_of (seen_of before mid items)))) (sym serves.op_is) allowed) (subst IsLook (sym serves.op_is) serves.look)
        (subst (λ (x : Operation). MayRecall o x r.moment) (sym serves.op_is) serves.may)

    pub made_recalled : MadeOn mid mid items (recalled r.moment) serves.observed
    made_recalled = record {
      made = record { more = h.more; log = h.log; own = h.own; walk = recalls_on.walk };
      saw = recalls_on.saw;
    }

    pub observed_so : serves.observed ≡ record { op = op; moment = r.moment; answer = serves.observed.answer }
    observed_so =
        ap (λ n. record { op = serves.observed.op; moment = n; answer = serves.observed.answer }) (told_at before.start before.log r.moment serves.observed serves.is).at
        ∙ ap (λ (x : Operation). record { op = x; moment = r.moment; answer = serves.observed.answer }) serves.op_is
