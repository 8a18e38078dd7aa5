-- One step of a request on a bucket with its log: its source is read, or not given; or its plan goes on by what it was told, by
-- the bucket or by a record.
use Rattle.std.proofs.Common.{◌≡◌, ℕ, List, [], ◌∷◌, ◌++◌, Option, Some, None, length, refl, sym, ap, subst, ◌∙◌, ◌⊎◌, inl, inr, append_assoc, append-nil}
use Rattle.bucket_api.specs.Operation.{Operation}
use Rattle.bucket_api.specs.declared.answers.Answer.{Answer}
use Rattle.history_spec.specs.Account.{Item, recalled}
use Rattle.history_spec.specs.JournalState.{OpenCall}
use Rattle.logged_bucket.specs.LoggedState.{LoggedState}
use Rattle.logged_bucket.specs.Logging.{next_event}
use Rattle.mount_core.proofs.CarryLemmas.{holds_for, last_moment-append}
use Rattle.mount_core.proofs.LoggedReads.{carries_read}
use Rattle.mount_core.proofs.CountedLemmas.{counts_first, counts_more, counts_none, notes_more}
use Rattle.mount_core.proofs.LoggedEvents.{MadeOn, event_answer, fits_by_mode, goes_made, made_none, made_on, made_recalled, observed_so}
use Rattle.mount_core.proofs.WalkLemmas.{allows, answers_of-append, asked_without}
use Rattle.mount_core.specs.Bases.{HasBytes, HoldsBase}
use Rattle.mount_core.specs.Courses.{AsksRead, AsksStep, HoldsFor, HoldsRead, after_answer, rest}
use Rattle.mount_core.specs.Errands.{plan_over, wanted_of}
use Rattle.mount_core.specs.Logged.{AsksIt, Carries, CountsAs, HasMade, IsBased, IsErrandOf, IsFresh, IsOfBucket, IsServed, IsWalked, Makes, Recalls, ServesLook, StepsOn, bucket_now, item_of, noted_of, notes_seen, seen_of}
use Rattle.mount_core.specs.declared.course.Course.{Course}
use Rattle.mount_core.specs.declared.course.Stage.{Stage}
use Rattle.mount_core.specs.declared.course.Stage.TheVariants.{Asking, Between, Ended, Unread}
use Rattle.mount_core.specs.declared.errand.Errand.{Errand}
use Rattle.mount_kept.proofs.Takings.{goes_more, left_more}
use Rattle.mount_kept.specs.Recalls.{found_for, found_left}
use Rattle.mount_kept.specs.Takings.{AllGoBy, GoesBy, IsLeftOf, left_after}
use Rattle.mount_kept.specs.declared.notes.Note.{Note}
use Rattle.plan_files.specs.Errands.{read_of}
use Rattle.mount_kept.specs.declared.recall.Found.{Found}
use Rattle.mount_kept.specs.declared.recall.Recall.{Recall}
use Rattle.mount_model.specs.Observing.{Observed}
use Rattle.mount_rules.specs.Dispatch.{plan}
use Rattle.mount_rules.specs.Laws.{IsAnswerTo, Planned}
use Rattle.mount_rules.specs.Mount.{IsMount, MountModel}
use Rattle.mount_rules.specs.Plans.{Allows, Contents, CoversWanted, Plan, Wanted, answers_of, asked_by, last_moment, plan_after}
use Rattle.history_spec.specs.Looks.{IsLook}
use Rattle.history_spec.specs.Observing.{seen_by}
use Rattle.bucket_api.specs.Operation.{list, stat}
use Rattle.record_spec.specs.declared.records.Shown.{Shown}
use Rattle.record_spec.specs.declared.records.Shown.TheVariants as shows
use Rattle.thrift_spec.specs.Recalls.{StandsFor}
use Rattle.thrift_spec.specs.Records.{answer_of}
use Rattle.mount_rules.specs.Plans.{IsHarmless}
use Rattle.mount_state.proofs.ToldLaws.{answers_told, moment_told, never_empty}

-- one observation more, that the plan allows where it stands
pub planned_on : (way : Plan) (seen : List Observed) (o : Observed) → Planned way seen → Allows (way (answers_of seen)) o.op → Planned way (seen ++ o ∷ [])
planned_on way [] o planned allowed = (allowed, tt)
planned_on way (s ∷ seen) o planned allowed = (planned.0, planned_on (plan_after way s.answer) seen o planned.1 allowed)

-- a request that was not asked yet is not on its way, nor at its end
pub differ : {P : Type 0} (stage : Stage) → stage ≡ Unread → stage ≡ Between → P
differ stage one other = absurd (let never : Unread ≡ Between = sym one ∙ other in cc)

pub never_ended : {P : Type 0} (stage : Stage) → stage ≡ Unread → stage ≡ Ended → P
never_ended stage one other = absurd (let never : Unread ≡ Ended = sym one ∙ other in cc)

-- ---- what it was told
-- it asked for an operation of its errand, and was told the answer
module _ (course asking after : Course) (op : Operation) (moment : ℕ) (answer : Answer) (asks : AsksStep course asking op) (fits : IsAnswerTo op answer)
    (saw : after ≡ after_answer asking.stage asking moment answer) where
  shown : after ≡ after_answer Asking asking moment answer
  shown = saw ∙ ap (λ (s : Stage). after_answer s asking moment answer) (ap (λ (c : Course). c.stage) asks.left)

  errand_same : after.errand ≡ asking.errand
  errand_same = ap (λ (c : Course). c.errand) shown

  base_same : after.base ≡ asking.base
  base_same = ap (λ (c : Course). c.base) shown

  pub base_kept : after.base ≡ course.base
  base_kept = base_same ∙ ap (λ (c : Course). c.base) asks.left

  pub stage_between : after.stage ≡ Between
  stage_between = ap (λ (c : Course). c.stage) shown

  answers_asking : answers_of after.told.items ≡ answers_of asking.told.items ++ answer ∷ []
  answers_asking = ap (λ (c : Course). answers_of c.told.items) shown ∙ answers_told (answers_of asking.told.items ++ answer ∷ []) moment

  pub answers_more : answers_of after.told.items ≡ answers_of course.told.items ++ answer ∷ []
  answers_more = answers_asking ∙ ap (λ (c : Course). answers_of c.told.items ++ answer ∷ []) asks.left

  pub moment_last : last_moment after.told.items ≡ moment
  moment_last = ap (λ (c : Course). last_moment c.told.items) shown ∙ moment_told (answers_of asking.told.items ++ answer ∷ []) moment (never_empty (answers_of asking.told.items) answer moment)

  pub rest_behind : (contents : Contents) → HoldsRead contents course → (more : List Answer) → rest after contents more ≡ rest course contents (answer ∷ more)
  rest_behind contents holds more =
      ap (λ (e : Errand). plan_over e contents after.second (answers_of after.told.items ++ more)) errand_same
      ∙ ap (λ n. plan_over asking.errand contents n (answers_of after.told.items ++ more)) (ap (λ (c : Course). c.second) shown)
      ∙ ap (λ told. plan_over asking.errand contents asking.second (told ++ more)) answers_asking
      ∙ ap (plan_over asking.errand contents asking.second) (append_assoc (answers_of asking.told.items) (answer ∷ []) more)
      ∙ asks.behind contents holds answer fits more

  pub holds_behind : (contents : Contents) → HoldsRead contents course → HoldsRead contents after
  holds_behind contents holds =
      subst (λ (e : Errand). HoldsFor e contents after.base) (sym errand_same) (subst (HoldsFor asking.errand contents) (sym base_same) (asks.holds contents holds))

-- nothing is found of a read
read_never : (op : Operation) (found : Found) (r : Recall) (wanted : Wanted) → op ≡ read_of wanted → found_for found op ≡ Some r → ⊥
read_never op found r wanted is e = let never : None ≡ Some r = ap (found_for found) (sym is) ∙ e in cc

-- ---- whose way it is
module _ (errand : Errand) (second lane : ℕ) (mount : MountModel) (valid : IsMount mount) (before : LoggedState) (is : IsOfBucket before) (o : OpenCall)
    (its : IsErrandOf errand second lane mount before o) (full : Found) where
  abbrev pub way : Plan
  way = plan o.taken.at mount o.taken.request

  abbrev pub over : Plan
  over = plan_over errand o.taken.at.contents second

  -- ---- nothing was asked yet
  module _ (found : Found) (after : LoggedState) (course : Course) (notes : List Note) (f : IsFresh errand second full found before after course notes) where
    fresh_rest : (contents : Contents) (more : List Answer) → rest course contents more ≡ plan_over errand contents second more
    fresh_rest contents more =
        ap (λ (e : Errand). plan_over e contents course.second (answers_of course.told.items ++ more)) f.errand_is
        ∙ ap (λ n. plan_over errand contents n (answers_of course.told.items ++ more)) f.second_is
        ∙ ap (λ (items : List Observed). plan_over errand contents second (answers_of items ++ more)) f.told

    -- one that wants nothing has walked along nothing
    pub fresh_walked : wanted_of errand ≡ None → IsWalked errand second mount full found before after o course notes
    fresh_walked none = record {
      items = [];
      made = subst (λ (s : LoggedState). HasMade mount before s o []) (sym f.kept) (made_none mount before o its.front);
      noted = f.none;
      goes = tt;
      spent = f.untaken;
      seen = [];
      over = counts_none mount o;
      based = record {
        covers = subst (λ (found : Option Wanted). CoversWanted found course.base.first (length course.base.bytes)) (sym none) tt;
        holds = holds_none;
      };
      planned = tt;
      left = λ more. fresh_rest o.taken.at.contents more;
      holds = subst (λ (e : Errand). HoldsFor e o.taken.at.contents course.base) (sym f.errand_is) (holds_for errand o.taken.at.contents course.base holds_none);
      tells = record { answers = ap answers_of (sym f.told); moment = ap last_moment (sym f.told) };
    }
      where
        holds_none : HoldsBase o.taken.at.contents (wanted_of errand) course.base
        holds_none = subst (λ (found : Option Wanted). HoldsBase o.taken.at.contents found course.base) (sym none) f.base

  -- ---- an operation of its errand
  module _ (found : Found) (course asking after : Course) (logged : LoggedState) (notes : List Note) (w : IsWalked errand second mount full found before logged o course notes)
      (op : Operation) (asks : AsksStep course asking op) where
    here : rest course o.taken.at.contents [] ≡ plan_over errand o.taken.at.contents second (answers_of w.seen)
    here = w.left [] ∙ ap (plan_over errand o.taken.at.contents second) (append-nil (answers_of w.seen))

    asked_over : asked_by (plan_over errand o.taken.at.contents second (answers_of w.seen)) ≡ Some op
    asked_over = ap asked_by (sym here) ∙ asks.asked o.taken.at.contents w.holds

    asked : asked_by (plan o.taken.at mount o.taken.request (answers_of w.seen)) ≡ Some op
    asked = sym (asked_without (way (answers_of w.seen))) ∙ ap asked_by (sym (its.asks (answers_of w.seen))) ∙ asked_over

    pub way_seen : plan o.taken.at mount o.taken.request (answers_of (seen_of before logged w.items)) ≡ plan o.taken.at mount o.taken.request (answers_of w.seen)
    way_seen = ap way (sym (append-nil (answers_of (seen_of before logged w.items)))) ∙ w.over.asks [] ∙ ap way (append-nil (answers_of w.seen))

    pub asked_seen : asked_by (plan o.taken.at mount o.taken.request (answers_of (seen_of before logged w.items))) ≡ Some op
    asked_seen = ap asked_by way_seen ∙ asked

    pub allowed : Allows (plan o.taken.at mount o.taken.request (answers_of (seen_of before logged w.items))) op
    allowed = subst (λ step. Allows step op) (sym way_seen) (allows (way (answers_of w.seen)) op asked)

    -- one item more, by which the log tells of one observation, which counts so
    walked_more : (spare : Found) (left : LoggedState) (noted : List Note) (item : Item) (shown counted : Observed) → counted.op ≡ op → IsAnswerTo op counted.answer
        → after ≡ after_answer asking.stage asking counted.moment counted.answer
        → MadeOn mount before o its.front logged left w.items item shown → CountsAs mount o (seen_of before logged w.items ++ shown ∷ []) (w.seen ++ counted ∷ [])
        → noted ≡ notes ++ noted_of item shown → GoesBy found item shown → spare ≡ found_left found shown.op → IsWalked errand second mount full spare before left o after noted
    walked_more spare left noted item shown counted its_op fits saw on counts adds went spends = record {
      items = w.items ++ item ∷ [];
      made = on.made;
      noted = adds ∙ ap (λ (n : List Note). n ++ noted_of item shown) w.noted ∙ sym (notes_more w.items (seen_of before logged w.items) item shown w.made.walk.told)
          ∙ ap (notes_seen (w.items ++ item ∷ [])) (sym on.saw);
      goes = subst (AllGoBy full (w.items ++ item ∷ [])) (sym on.saw)
          (goes_more full w.items (seen_of before logged w.items) item shown w.made.walk.told w.goes (subst (λ (f : Found). GoesBy f item shown) w.spent went));
      spent = spends ∙ ap (λ (f : Found). found_left f shown.op) w.spent ∙ sym (left_more full (seen_of before logged w.items) shown) ∙ ap (left_after full) (sym on.saw);
      seen = w.seen ++ counted ∷ [];
      over = subst (λ (seen : List Observed). CountsAs mount o seen (w.seen ++ counted ∷ [])) (sym on.saw) counts;
      based = subst (IsBased o.taken.at.contents (wanted_of errand)) (sym same_base) w.based;
      planned = planned_on over w.seen counted w.planned (subst (Allows (over (answers_of w.seen))) (sym its_op) (allows (over (answers_of w.seen)) op asked_over));
      left = λ more.
          rest_behind course asking after op counted.moment counted.answer asks fits saw o.taken.at.contents w.holds more
          ∙ w.left (counted.answer ∷ more)
          ∙ ap over (sym (ap (λ told. told ++ more) (answers_of-append w.seen counted) ∙ append_assoc (answers_of w.seen) (counted.answer ∷ []) more));
      holds = holds_behind course asking after op counted.moment counted.answer asks fits saw o.taken.at.contents w.holds;
      tells = record {
        answers = answers_of-append w.seen counted ∙ ap (λ told. told ++ counted.answer ∷ []) w.tells.answers
            ∙ sym (answers_more course asking after op counted.moment counted.answer asks fits saw);
        moment = last_moment-append w.seen counted ∙ sym (moment_last course asking after op counted.moment counted.answer asks fits saw);
      };
    }
      where
        same_base : after.base ≡ course.base
        same_base = base_kept course asking after op counted.moment counted.answer asks fits saw

    -- it was made
    pub walked_on : (spare : Found) (left : LoggedState) (noted : List Note) (m : Makes lane op asking after logged left notes noted) → found_for found op ≡ None → spare ≡ found_left found op
        → IsWalked errand second mount full spare before left o after noted × (after.stage ≡ Between)
    walked_on spare left noted m none spends = (
      walked_more spare left noted (item_of m.looks m.moment) told_it told_it refl fits m.saw
          (made_on mount before o its.front lane its.lane_is logged left w.items w.made op m.moment m.answer m.event m.looks m.look m.other allowed)
          (counts_more mount o (seen_of before logged w.items) w.seen told_it w.over) m.adds (goes_made found m.looks m.moment told_it none) spends,
      stage_between course asking after op m.moment m.answer asks fits m.saw,
    )
      where
        told_it : Observed
        told_it = record { op = op; moment = m.moment; answer = m.answer }

        fits : IsAnswerTo op m.answer
        fits = subst (IsAnswerTo op) (sym (event_answer lane op logged left m.moment m.answer m.event)) (fits_by_mode (next_event logged lane op).mode op (bucket_now logged))

    -- a record told it
    pub walked_recalled : (spare : Found) (noted : List Note) (r : Recall) → found_for found op ≡ Some r → spare ≡ found_left found op → ServesLook mount before o (answers_of (seen_of before logged w.items)) op r
        → after ≡ after_answer asking.stage asking r.moment (answer_of r.shown) → noted ≡ notes ++ noted_of (recalled r.moment) (record { op = op; moment = r.moment; answer = answer_of r.shown })
        → IsWalked errand second mount full spare before logged o after noted × (after.stage ≡ Between)
    walked_recalled spare noted r is_found spends serves saw adds = (
      walked_more spare logged noted (recalled r.moment) serves.observed told_it refl (fits r.shown) saw
          (made_recalled mount before o its.front logged w.items w.made op r serves allowed) (counts serves.stands) adds
          (r, ap (found_for found) serves.op_is ∙ is_found, refl) (spends ∙ ap (found_left found) (sym serves.op_is)),
      stage_between course asking after op r.moment (answer_of r.shown) asks (fits r.shown) saw,
    )
      where
        told_it : Observed
        told_it = record { op = op; moment = r.moment; answer = answer_of r.shown }

        fits : (shown : Shown) → IsAnswerTo op (answer_of shown)
        fits (shows.Object meta) = tt
        fits shows.Present = tt
        fits shows.Absent = tt

        harmless : (looked : Operation) → IsLook looked → IsHarmless looked
        harmless (stat name) look = tt
        harmless (list prefix slash max after) look = tt
        harmless _ look = absurd look

        same : serves.observed.answer ≡ answer_of r.shown → serves.observed ≡ told_it
        same is = observed_so mount before o its.front logged w.items w.made op r serves allowed ∙ ap (λ (a : Answer). record { op = op; moment = r.moment; answer = a }) is

        counts : (serves.observed.answer ≡ answer_of r.shown) ⊎ ((answers_of (seen_of before logged w.items) ≡ []) × StandsFor o.taken.at mount o.taken.request serves.observed (record { op = op; moment = r.moment; answer = answer_of r.shown }))
            → CountsAs mount o (seen_of before logged w.items ++ serves.observed ∷ []) (w.seen ++ told_it ∷ [])
        counts (inl is) = subst (λ (x : Observed). CountsAs mount o (seen_of before logged w.items ++ x ∷ []) (w.seen ++ told_it ∷ [])) (sym (same is))
            (counts_more mount o (seen_of before logged w.items) w.seen told_it w.over)
        counts (inr first) = first_one (seen_of before logged w.items) w.seen first.0 (w.over.none first.0)
          where
            first_one : (seen counted : List Observed) → answers_of seen ≡ [] → counted ≡ [] → CountsAs mount o (seen ++ serves.observed ∷ []) (counted ++ told_it ∷ [])
            first_one [] counted none is = subst (λ (c : List Observed). CountsAs mount o (serves.observed ∷ []) (c ++ told_it ∷ [])) (sym is)
                (counts_first mount o serves.observed told_it first.1 (subst IsHarmless (sym serves.op_is) (harmless op serves.look)))
            first_one (x ∷ seen) counted none is = absurd (cc)

  -- ---- a step
  module _ (course after : Course) (found rest : Found) (logged left : LoggedState) (notes noted : List Note) (has : HasBytes (bucket_now before) (wanted_of errand)) where
    pub carries_on : Carries errand second mount full found before logged o course notes → StepsOn lane course after found rest logged left notes noted
        → Carries errand second mount full rest before left o after noted
    carries_on (inl f) s = by s.asks
      where
        by : AsksIt course s.asking s.op → Carries errand second mount full rest before left o after noted
        by (inl asks) = carries_read errand second lane mount valid before is o its full course after logged left found rest notes noted f s asks has
        by (inr asks) = inr (inl (walked_on found course s.asking after logged notes (fresh_walked found logged course notes f (ap wanted_of (sym f.errand_is) ∙ asks.read f.stage)) s.op asks
            rest left noted s.makes s.none s.rest_is))
    carries_on (inr (inl (w, stage))) s = by s.asks
      where
        by : AsksIt course s.asking s.op → Carries errand second mount full rest before left o after noted
        by (inl asks) = differ course.stage asks.first stage
        by (inr asks) = inr (inl (walked_on found course s.asking after logged notes w s.op asks rest left noted s.makes s.none s.rest_is))
    carries_on (inr (inr e)) s = by s.asks
      where
        by : AsksIt course s.asking s.op → Carries errand second mount full rest before left o after noted
        by (inl asks) = never_ended course.stage asks.first e.stage
        by (inr asks) = absurd (asks.on_way e.stage)

    -- no record is found of a read
    recalled_so : (w : IsWalked errand second mount full found before logged o course notes) → IsServed found mount before o → (s : Recalls course after found rest logged left notes noted)
        → AsksIt course s.asking s.op → (AsksRead course s.asking s.op → Carries errand second mount full rest before left o after noted)
        → Carries errand second mount full rest before left o after noted
    recalled_so w served s (inl asks) read = read asks
    recalled_so w served s (inr asks) read = subst (λ (l : LoggedState). Carries errand second mount full rest before l o after noted) (sym s.kept)
        (inr (inl (walked_recalled found course s.asking after logged notes w s.op asks rest noted s.recall s.is s.rest_is
        (served s.op s.recall s.is (answers_of (seen_of before logged w.items)) (allowed found course s.asking after logged notes w s.op asks)) s.saw s.adds)))

    pub carries_recalled : IsServed found mount before o → Carries errand second mount full found before logged o course notes → Recalls course after found rest logged left notes noted
        → Carries errand second mount full rest before left o after noted
    carries_recalled served (inl f) s = by s.asks
      where
        by : AsksIt course s.asking s.op → Carries errand second mount full rest before left o after noted
        by (inl asks) = absurd (read_never s.op found s.recall asks.wanted asks.is s.is)
        by (inr asks) = recalled_so (fresh_walked found logged course notes f (ap wanted_of (sym f.errand_is) ∙ asks.read f.stage)) served s (inr asks)
            (λ read. absurd (read_never s.op found s.recall read.wanted read.is s.is))
    carries_recalled served (inr (inl (w, stage))) s = recalled_so w served s s.asks (λ asks. differ course.stage asks.first stage)
    carries_recalled served (inr (inr e)) s = by s.asks
      where
        by : AsksIt course s.asking s.op → Carries errand second mount full rest before left o after noted
        by (inl asks) = never_ended course.stage asks.first e.stage
        by (inr asks) = absurd (asks.on_way e.stage)

    pub carries_by : IsLeftOf found full → IsServed full mount before o → Carries errand second mount full found before logged o course notes
        → StepsOn lane course after found rest logged left notes noted ⊎ Recalls course after found rest logged left notes noted → Carries errand second mount full rest before left o after noted
    carries_by part served carries (inl on) = carries_on carries on
    carries_by part served carries (inr recalls) = carries_recalled (λ op r is. served op r (part op r is)) carries recalls
