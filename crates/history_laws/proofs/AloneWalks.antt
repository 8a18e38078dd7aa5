-- What a call observed of a log to which nobody else added meanwhile, and in which nothing failed: one operation behind the
-- other, and what lawful records show between them. Without its reads, the one-thread mount observes the same of its bucket.
use Rattle.std.proofs.Common.{◌≡◌, ◌≤◌, ◌<◌, ℕ, zero, suc, ◌+◌, ◌-◌, Bool, cond, List, [], ◌∷◌, ◌++◌, All, length, length-append, Some, refl, sym, ap, subst, ◌∙◌, ◌⊎◌, inl, inr, arith}
use Rattle.std.proofs.lemmas.List.Elements.{recursion_from_All}
use Rattle.std.specs.List.{AllByRecursion, cons_option}
use Rattle.std.specs.Prelude.{slice_get}
use Rattle.bucket_api.specs.BucketState.{BucketState}
use Rattle.bucket_api.specs.BucketStep.{answer_to}
use Rattle.bucket_api.specs.Log.{answer_by, state_at, state_by}
use Rattle.bucket_api.specs.LogEvent.{LogEvent}
use Rattle.bucket_api.specs.Operation.{Operation}
use Rattle.bucket_api.specs.declared.answers.Answer.{Answer}
use Rattle.bucket_api.specs.declared.events.Mode.TheVariants as modes
use Rattle.history_spec.proofs.PlanSteps.{AsksNoRead, is_read}
use Rattle.history_laws.proofs.BareEnds.{EndsBetween}
use Rattle.history_laws.proofs.LookPlans.{AsksLooks, NoLooks, asks_after, look_idle}
use Rattle.history_laws.proofs.Moments.{Told, position_step, told_at}
use Rattle.history_laws.proofs.SameStores.{SameStore, made_by, store_idle, store_made}
use Rattle.history_laws.proofs.Untouched.{LooksAt}
use Rattle.history_spec.proofs.Lanes.{same_lane}
use Rattle.history_spec.proofs.Walking.{Walked}
use Rattle.history_spec.specs.Account.{Item, looked, made, moment_of, own_moments_of, recalled}
use Rattle.history_spec.specs.JournalState.{OpenCall}
use Rattle.history_spec.specs.Looks.{IsLook, MayRecall}
use Rattle.history_spec.specs.Observing.{moments_of, observed_at, seen_by}
use Rattle.mount_laws.proofs.Keeping.{no_Some, same_Some}
use Rattle.mount_model.specs.Observing.{Observed}
use Rattle.mount_rules.specs.Laws.{IsRead}
use Rattle.mount_rules.specs.OneThread.{Observes, Store, after_operations}
use Rattle.mount_rules.specs.Plans.{Allows, IsHarmless, Plan, Step, answers_of, ask, asked_by, done, last_moment, may_read, plan_after}

-- ---- the moments of a lane that is alone
-- the first of a lane's moments, and the others
record StartsWith (lane first moment : ℕ) (own : List ℕ) (events : List LogEvent) : Type 0 where
  pub rest : List LogEvent
  pub count : length events ≡ suc (length rest)
  pub its : AllByRecursion (λ (e : LogEvent). e.lane ≡ lane) rest
  pub at : moment ≡ first
  pub own_rest : own ≡ moments_of lane (first + 1) rest

starts_with : (lane first moment : ℕ) (own : List ℕ) (events : List LogEvent) → AllByRecursion (λ (e : LogEvent). e.lane ≡ lane) events → moment ∷ own ≡ moments_of lane first events
    → StartsWith lane first moment own events
starts_with lane first moment own [] its is = absurd (let never : moment ∷ own ≡ [] = is in cc)
starts_with lane first moment own (e ∷ events) its is =
    let both : moment ∷ own ≡ first ∷ moments_of lane (first + 1) events =
    is ∙ ap (λ t. cond t (first ∷ moments_of lane (first + 1) events) (moments_of lane (first + 1) events)) (same_lane e.lane lane its.0) in
    record { rest = events; count = refl; its = its.1; at = cc; own_rest = cc }

no_moments : (lane first : ℕ) (events : List LogEvent) → AllByRecursion (λ (e : LogEvent). e.lane ≡ lane) events → [] ≡ moments_of lane first events → length events ≡ 0
no_moments lane first [] its is = refl
no_moments lane first (e ∷ events) its is =
    absurd (let never : [] ≡ first ∷ moments_of lane (first + 1) events =
    is ∙ ap (λ t. cond t (first ∷ moments_of lane (first + 1) events) (moments_of lane (first + 1) events)) (same_lane e.lane lane its.0) in cc)

-- ---- what is shown
get_all : {X : Type 0} (P : X → Type 0) (xs : List X) (k : ℕ) (x : X) → AllByRecursion P xs → slice_get xs k ≡ Some x → P x
get_all P [] k x all there = absurd (no_Some there)
get_all P (y ∷ ys) zero x all there = subst P (same_Some there) all.0
get_all P (y ∷ ys) (suc k) x all there = get_all P ys k x all.1 there

module _ (start : BucketState) (log : List LogEvent) where
  -- The event at a position was done, and shows this observation, which the step allows.
  pub record IsShown (k : ℕ) (step : Step) (o : Observed) : Type 0 where
    pub event : LogEvent
    pub there : slice_get log k ≡ Some event
    pub op : o.op ≡ event.op
    pub done : event.mode ≡ modes.Done
    pub moment : o.moment ≡ suc k
    pub answer : o.answer ≡ answer_to o.op (state_at start log k)
    pub allowed : Allows step o.op

  -- A record showed this observation of a look, which the step allows; and so would the bucket at the position.
  pub record IsShownAgain (k : ℕ) (step : Step) (o : Observed) : Type 0 where
    pub look : IsLook o.op
    pub answer : o.answer ≡ answer_to o.op (state_at start log k)
    pub allowed : Allows step o.op

  -- each event from one position up to another shows what was observed, in order, along the plan; records show the rest
  abbrev pub ShownFrom : ℕ → ℕ → Plan → List Observed → Type 0
  ShownFrom upto k plan [] = k ≡ upto
  ShownFrom upto k plan (o ∷ more) =
      (IsShown k (plan []) o × ShownFrom upto (suc k) (plan_after plan o.answer) more) ⊎ (IsShownAgain k (plan []) o × ShownFrom upto k (plan_after plan o.answer) more)

  module _ (complete : All (λ (e : LogEvent). e.mode ≡ modes.Done) log) where
    shown_at : (k moment : ℕ) (step : Step) (seen : Observed) → moment ≡ suc k → observed_at start log moment ≡ Some seen → Allows step seen.op → IsShown k step seen
    shown_at k moment step seen at is allowed = by (told_at start log (suc k) seen (subst (λ m. observed_at start log m ≡ Some seen) at is))
      where
        by : Told start log (suc k) seen → IsShown k step seen
        by told =
            let mode : told.event.mode ≡ modes.Done = get_all (λ (e : LogEvent). e.mode ≡ modes.Done) log k told.event
            (recursion_from_All (λ (e : LogEvent). e.mode ≡ modes.Done) log complete) told.there in
            let back : suc k - 1 ≡ k = omega arith in
            record {
              event = told.event;
              there = told.there;
              op = told.op;
              done = mode;
              moment = told.at;
              answer = told.answer ∙ ap (λ m. answer_by m told.event.op (state_at start log (suc k - 1))) mode
                  ∙ ap (λ n. answer_to told.event.op (state_at start log n)) back ∙ ap (λ op. answer_to op (state_at start log k)) (sym told.op);
              allowed = allowed;
            }

    -- what a record showed of a look, at a moment
    pub record IsOfRecord (moment : ℕ) (seen : Observed) : Type 0 where
      pub position : ℕ
      pub at : moment ≡ suc position
      pub shown : IsShown position (ask seen.op) seen

    pub of_record : (moment : ℕ) (seen : Observed) → observed_at start log moment ≡ Some seen → IsOfRecord moment seen
    of_record zero seen is = absurd (no_Some (told_at start log 0 seen is).there)
    of_record (suc k) seen is = record { position = k; at = refl; shown = shown_at k (suc k) (ask seen.op) seen refl is refl }

    -- a lane that alone added to the log meanwhile, where lawful records show what the bucket answers
    module _ (o : OpenCall) (implicit : Bool) (now : ℕ)
        (shows : (moment : ℕ) (seen : Observed) → observed_at start log moment ≡ Some seen → LooksAt implicit seen.op → IsLook seen.op → MayRecall o seen.op moment
        → seen.answer ≡ answer_to seen.op (state_at start log now)) where
      -- When records may serve the looks that are still to come: never; the bucket is still what it was; or there is none.
      pub data MayStillRecall (plan : Plan) (k : ℕ) : Type 0 where
        never : ((op : Operation) (moment : ℕ) → MayRecall o op moment → ⊥) → MayStillRecall plan k
        still : AsksLooks implicit plan → state_at start log k ≡ state_at start log now → MayStillRecall plan k
        no_more : NoLooks plan → MayStillRecall plan k

      shows_again : (plan : Plan) (k : ℕ) → MayStillRecall plan k → (moment : ℕ) (seen : Observed) → observed_at start log moment ≡ Some seen → Allows (plan []) seen.op → IsLook seen.op
          → MayRecall o seen.op moment → IsShownAgain k (plan []) seen
      shows_again plan k (never none) moment seen is allowed look may = absurd (none seen.op moment may)
      shows_again plan k (still asks same) moment seen is allowed look may = record {
        look = look;
        answer = shows moment seen is (asks.at [] seen.op allowed look) look may ∙ ap (answer_to seen.op) (sym same);
        allowed = allowed;
      }
      shows_again plan k (no_more none) moment seen is allowed look may = absurd (none [] seen.op allowed look)

      after_recalled : (plan : Plan) (k : ℕ) (answer : Answer) → MayStillRecall plan k → MayStillRecall (plan_after plan answer) k
      after_recalled plan k answer (never none) = never none
      after_recalled plan k answer (still asks same) = still (asks_after implicit plan answer asks) same
      after_recalled plan k answer (no_more none) = no_more (λ told. none (answer ∷ told))

      after_looked : (plan : Plan) (k : ℕ) (seen : Observed) → IsShown k (plan []) seen → IsLook seen.op → MayStillRecall plan k → MayStillRecall (plan_after plan seen.answer) (suc k)
      after_looked plan k seen shown look (never none) = never none
      after_looked plan k seen shown look (still asks same) = still (asks_after implicit plan seen.answer asks)
          (position_step start log k shown.event shown.there
          ∙ ap (λ mode. state_by mode shown.event.op (state_at start log k)) shown.done
          ∙ look_idle shown.event.op (state_at start log k) (subst IsLook shown.op look)
          ∙ same)
      after_looked plan k seen shown look (no_more none) = no_more (λ told. none (seen.answer ∷ told))

      after_made : (plan : Plan) (k : ℕ) (seen : Observed) → Allows (plan []) seen.op → (IsLook seen.op → ⊥) → MayStillRecall plan k → MayStillRecall (plan_after plan seen.answer) (suc k)
      after_made plan k seen allowed other (never none) = never none
      after_made plan k seen allowed other (still asks same) = no_more (asks.first [] seen.op allowed other seen.answer)
      after_made plan k seen allowed other (no_more none) = no_more (λ told. none (seen.answer ∷ told))

      module _ (lane upto : ℕ) where
        -- these items show from wherever they stand
        abbrev ShowLater : List Item → Type 0
        ShowLater items = (p : Plan) (j : ℕ) (es : List LogEvent) → AllByRecursion (λ (e : LogEvent). e.lane ≡ lane) es → j + length es ≡ upto
            → own_moments_of items ≡ moments_of lane (suc j) es → MayStillRecall p j → Walked start log o p items → ShownFrom upto j p (seen_by start log items)

        pub shown_from : (items : List Item) (plan : Plan) (k : ℕ) (events : List LogEvent) → AllByRecursion (λ (e : LogEvent). e.lane ≡ lane) events → k + length events ≡ upto
            → own_moments_of items ≡ moments_of lane (suc k) events → MayStillRecall plan k → Walked start log o plan items → ShownFrom upto k plan (seen_by start log items)
        shown_from [] plan k events its count own may walked = let none : length events ≡ 0 = no_moments lane (suc k) events its own in omega (arith, none, count)
        shown_from (item ∷ items) plan k events its count own may walked = by item walked own (λ p. shown_from items p)
          where
            one : (moment : ℕ) (seen : Observed) → observed_at start log moment ≡ Some seen → Allows (plan []) seen.op → StartsWith lane (suc k) moment (own_moments_of items) events
                → ShowLater items → (IsShown k (plan []) seen → MayStillRecall (plan_after plan seen.answer) (suc k)) → Walked start log o (plan_after plan seen.answer) items
                → ShownFrom upto k plan (cons_option (observed_at start log moment) (seen_by start log items))
            one moment seen is allowed starts later then_may rest =
                let next : suc k + length starts.rest ≡ upto = let more = starts.count in omega (arith, more, count) in
                let first : suc k + 1 ≡ suc (suc k) = omega arith in
                let shown : IsShown k (plan []) seen = shown_at k moment (plan []) seen starts.at is allowed in
                subst (λ found. ShownFrom upto k plan (cons_option found (seen_by start log items))) (sym is) (inl (
                  shown,
                  later (plan_after plan seen.answer) (suc k) starts.rest starts.its next (starts.own_rest ∙ ap (λ n. moments_of lane n starts.rest) first) (then_may shown) rest,
                ))

            again : (moment : ℕ) (seen : Observed) → observed_at start log moment ≡ Some seen → IsShownAgain k (plan []) seen → own_moments_of items ≡ moments_of lane (suc k) events
                → ShowLater items → Walked start log o (plan_after plan seen.answer) items
                → ShownFrom upto k plan (cons_option (observed_at start log moment) (seen_by start log items))
            again moment seen is shown own later rest =
                subst (λ found. ShownFrom upto k plan (cons_option found (seen_by start log items))) (sym is) (inr (
                  shown,
                  later (plan_after plan seen.answer) k events its count own (after_recalled plan k seen.answer may) rest,
                ))

            by : (i : Item) → Walked start log o plan (i ∷ items) → own_moments_of (i ∷ items) ≡ moments_of lane (suc k) events → ShowLater items
                → ShownFrom upto k plan (cons_option (observed_at start log (moment_of i)) (seen_by start log items))
            by (looked moment kept) walked own later = one moment walked.0 walked.1 walked.2 (starts_with lane (suc k) moment (own_moments_of items) events its own) later
                (λ shown. after_looked plan k walked.0 shown walked.3 may) walked.4
            by (recalled moment) walked own later = again moment walked.0 walked.1 (shows_again plan k may moment walked.0 walked.1 walked.2 walked.3.0 walked.3.1) own later walked.4
            by (made moment) walked own later = one moment walked.0 walked.1 walked.2 (starts_with lane (suc k) moment (own_moments_of items) events its own) later
                (λ shown. after_made plan k walked.0 walked.2 walked.3 may) walked.4

  -- ---- without reads
  abbrev pub store_by : List LogEvent → Store
  store_by past = record { start = start; log = past }

  -- The one-thread mount observes this along the plan, from where it had made these operations, and then has made the same
  -- as the log up to a position.
  pub record Unread (plan : Plan) (upto : ℕ) (past : List LogEvent) : Type 0 where
    pub told : List Observed
    pub log_then : List LogEvent
    pub observes : Observes plan (store_by past) told
    pub leaves : after_operations (store_by past) told ≡ store_by log_then
    pub same : SameStore start log upto log_then
    pub grows : length past ≤ length log_then
    pub late : EndsBetween (length past) (length log_then) (last_moment told) (answers_of told)

  pub late_first : (n l : ℕ) (o : Observed) (told : List Observed) → o.moment ≡ suc n → suc n ≤ l → EndsBetween (suc n) l (last_moment told) (answers_of told)
      → EndsBetween n l (last_moment (o ∷ told)) (answers_of (o ∷ told))
  late_first n l o [] at within late = (omega (arith, at), omega (arith, at, within))
  late_first n l o (p ∷ more) at within late = let above : suc n < last_moment (p ∷ more) = late.0 in (omega (arith, above), late.1)

  asked_of : (step : Step) (op : Operation) → (IsRead op → ⊥) → Allows step op → asked_by step ≡ Some op
  asked_of done op other allowed = absurd allowed
  asked_of (ask asked) op other allowed = ap Some (sym allowed)
  asked_of (may_read source next) op other (inl reads) = absurd (other (is_read source op reads))
  asked_of (may_read source next) op other (inr allowed) = asked_of next op other allowed

  -- nothing more is observed
  unfoldable pub unread_none : (plan : Plan) (upto : ℕ) (past : List LogEvent) → SameStore start log upto past → Unread plan upto past
  unread_none plan upto past so = record { told = []; log_then = past; observes = tt; leaves = refl; same = so; grows = omega arith; late = tt }

  -- one operation more is observed first, and the bucket that was made answers it
  unfoldable pub unread_first : (plan : Plan) (upto : ℕ) (past : List LogEvent) (op : Operation) (answer : Answer) → asked_by (plan []) ≡ Some op →
      answer ≡ answer_to op (state_at start past (length past))
      → Unread (plan_after plan answer) upto (past ++ made_by op ∷ []) → Unread plan upto past
  unread_first plan upto past op answer asked so rest =
      let long : length (past ++ made_by op ∷ []) ≡ suc (length past) = length-append past (made_by op ∷ []) ∙ (omega arith) in
      let next : length past + 1 ≡ suc (length past) = omega arith in
      let grows : length (past ++ made_by op ∷ []) ≤ length rest.log_then = rest.grows in
      let within : suc (length past) ≤ length rest.log_then = omega (arith, long, grows) in
      record {
        told = record { op = op; moment = length past + 1; answer = answer } ∷ rest.told;
        log_then = rest.log_then;
        observes = (record { asked = asked; moment = refl; answer = so }, rest.observes);
        leaves = rest.leaves;
        same = rest.same;
        grows = omega (arith, within);
        late = late_first (length past) (length rest.log_then) (record { op = op; moment = length past + 1; answer = answer }) rest.told next within
            (subst (λ n. EndsBetween n (length rest.log_then) (last_moment rest.told) (answers_of rest.told)) long rest.late);
      }

  -- ---- a plan that makes no read
  pub record UnreadAll (plan : Plan) (upto : ℕ) (past : List LogEvent) (seen : List Observed) : Type 0 where
    pub unread : Unread plan upto past
    pub answers : answers_of seen ≡ answers_of unread.told
    pub harmless : AllByRecursion (λ (o : Observed). IsHarmless o.op) seen → AllByRecursion (λ (o : Observed). IsHarmless o.op) unread.told

  -- one observation more, which the bucket answers at the position
  next_unread : (upto : ℕ) (o : Observed) (more : List Observed) (plan : Plan) (k : ℕ) (past : List LogEvent) → ((told : List Answer) → AsksNoRead (plan told)) → SameStore start log k past
      → Allows (plan []) o.op → o.answer ≡ answer_to o.op (state_at start log k) → UnreadAll (plan_after plan o.answer) upto (past ++ made_by o.op ∷ []) more → UnreadAll plan upto past (o ∷ more)
  unfolding unread_first
  next_unread upto o more plan k past none so allowed answered rest = record {
    unread = unread_first plan upto past o.op o.answer (asked_of (plan []) o.op (λ reads. none [] o.op reads allowed) allowed)
        (answered ∙ ap (answer_to o.op) (sym so.bucket)) rest.unread;
    answers = ap (λ told. o.answer ∷ told) rest.answers;
    harmless = λ all. (all.0, rest.harmless all.1);
  }

  -- the one-thread mount makes a look itself that a record served
  pub unread_all : (upto : ℕ) (seen : List Observed) (plan : Plan) (k : ℕ) (past : List LogEvent) → ((told : List Answer) → AsksNoRead (plan told)) → ShownFrom upto k plan seen
      → SameStore start log k past → UnreadAll plan upto past seen
  unfolding unread_none
  unread_all upto [] plan k past none shown so = record {
    unread = unread_none plan upto past (subst (λ n. SameStore start log n past) shown so);
    answers = refl;
    harmless = λ all. tt;
  }
  unread_all upto (o ∷ more) plan k past none (inl shown) so =
      next_unread upto o more plan k past none so shown.0.allowed shown.0.answer
      (unread_all upto more (plan_after plan o.answer) (suc k) (past ++ made_by o.op ∷ []) (λ told. none (o.answer ∷ told)) shown.1
      (subst (λ op. SameStore start log (suc k) (past ++ made_by op ∷ [])) (sym shown.0.op) (store_made start log k past so shown.0.event shown.0.there shown.0.done)))
  unread_all upto (o ∷ more) plan k past none (inr shown) so =
      next_unread upto o more plan k past none so shown.0.allowed shown.0.answer
      (unread_all upto more (plan_after plan o.answer) k (past ++ made_by o.op ∷ []) (λ told. none (o.answer ∷ told)) shown.1
      (store_idle start log k past so o.op (look_idle o.op (state_at start log k) shown.0.look)))
