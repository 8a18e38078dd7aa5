-- The read of a source on a bucket with its log: it is given the bytes of the object that is live; or none, since that is live no
-- more, or the bucket failed.
use Rattle.std.proofs.Common.{◌≡◌, ◌≤◌, ◌+◌, ℕ, List, [], ◌∷◌, ◌++◌, Option, Some, None, length, take, drop, refl, sym, ap, subst, ◌∙◌, inl, inr, arith}
use Rattle.std.proofs.lemmas.List.{length-drop, length-take-le}
use Rattle.std.specs.Option.{option_map_or}
use Rattle.std.specs.Prelude.{unwrap_or}
use Rattle.bucket_api.proofs.ContentLaws.{content_of-live}
use Rattle.bucket_api.specs.BucketState.{object_of}
use Rattle.bucket_api.specs.Log.{answer_by}
use Rattle.bucket_api.specs.declared.answers.Answer.{Answer}
use Rattle.bucket_api.specs.declared.answers.Answer.TheVariants.{Bytes, Fault, NotFound}
use Rattle.bucket_api.specs.declared.events.Mode.{Mode}
use Rattle.bucket_api.specs.declared.events.Mode.TheVariants as modes
use Rattle.bucket_api.specs.declared.objects.Object.{Object}
use Rattle.history_spec.specs.JournalState.{OpenCall}
use Rattle.logged_bucket.specs.LoggedState.{LoggedState}
use Rattle.logged_bucket.specs.Logging.{next_event}
use Rattle.mount_core.proofs.CarryLemmas.{holds_for}
use Rattle.mount_core.proofs.CountedLemmas.{counts_passed}
use Rattle.mount_core.proofs.LoggedEvents.{MadeOn, event_answer, goes_made, made_none, made_on}
use Rattle.mount_core.specs.Bases.{HasBytes, HoldsBase}
use Rattle.mount_core.specs.Courses.{AsksRead, HoldsFor, after_answer}
use Rattle.mount_core.specs.Errands.{plan_over, wanted_of}
use Rattle.mount_core.specs.Logged.{Carries, CountsAs, HasMade, IsAtEnd, IsBased, IsErrandOf, IsFresh, IsOfBucket, IsWalked, Makes, StepsOn, bucket_now, item_of, noted_of, notes_seen, seen_of}
use Rattle.mount_core.specs.declared.course.Course.{Course}
use Rattle.mount_core.specs.declared.course.Stage.{Stage}
use Rattle.mount_core.specs.declared.course.Stage.TheVariants.{Between, Ended, Reading}
use Rattle.mount_core.specs.declared.errand.Errand.{Errand}
use Rattle.mount_kept.specs.Recalls.{found_for, found_left}
use Rattle.mount_kept.specs.Takings.{AllGoBy, left_after}
use Rattle.mount_kept.specs.declared.notes.Note.{Note}
use Rattle.mount_kept.specs.declared.recall.Found.{Found}
use Rattle.mount_laws.proofs.SourceReads.{reads_are_passed_over}
use Rattle.mount_laws.proofs.WantedReads.{wanted_may_be_read}
use Rattle.mount_laws.specs.Observations.{IsPassedOver, errno_unread}
use Rattle.mount_model.specs.Observing.{Observed}
use Rattle.mount_rules.specs.Dispatch.{plan, wants}
use Rattle.mount_rules.specs.Mount.{IsMount, MountModel}
use Rattle.mount_rules.specs.Plans.{Allows, Contents, IsHarmless, Plan, Wanted, answers_of, last_moment}
use Rattle.mount_state.proofs.ToldLaws.{answers_told, moment_told, never_empty}
use Rattle.mount_state.specs.declared.base.Base.{Base}
use Rattle.staging_spec.specs.Slices.{Covers}

module _ (errand : Errand) (second lane : ℕ) (mount : MountModel) (valid : IsMount mount) (before : LoggedState) (is : IsOfBucket before) (o : OpenCall)
    (its : IsErrandOf errand second lane mount before o) (full : Found) where
  abbrev way : Plan
  way = plan o.taken.at mount o.taken.request

  module _ (course after : Course) (logged left : LoggedState) (found rest : Found) (notes noted : List Note) (f : IsFresh errand second full found before logged course notes)
      (t : StepsOn lane course after found rest logged left notes noted) (asks : AsksRead course t.asking t.op) (has : HasBytes (bucket_now before) (wanted_of errand)) where
    abbrev s : Makes lane t.op t.asking after logged left notes noted
    s = t.makes

    abbrev wanted : Wanted
    wanted = asks.wanted

    abbrev read_it : Observed
    read_it = record { op = t.op; moment = s.moment; answer = s.answer }

    wants_it : wanted_of errand ≡ Some asks.wanted
    wants_it = ap wanted_of (sym f.errand_is) ∙ asks.wants_it

    wanting : wants o.taken.at.config mount o.taken.request ≡ Some asks.wanted
    wanting = sym its.wanted ∙ wants_it

    allowed_read : Allows (plan o.taken.at mount o.taken.request []) t.op
    allowed_read = subst (Allows (way [])) (sym asks.is) (wanted_may_be_read o.taken.at.config o.taken.at mount o.taken.request wanted valid wanting)

    made_before : HasMade mount before logged o []
    made_before = subst (λ (l : LoggedState). HasMade mount before l o []) (sym f.kept) (made_none mount before o its.front)

    on_read : MadeOn mount before o its.front logged left [] (item_of s.looks s.moment) read_it
    on_read = made_on mount before o its.front lane its.lane_is logged left [] made_before t.op s.moment s.answer s.event s.looks s.look s.other allowed_read

    notes_read : noted ≡ notes_seen (item_of s.looks s.moment ∷ []) (seen_of before left (item_of s.looks s.moment ∷ []))
    notes_read =
        s.adds ∙ ap (λ (n : List Note). n ++ noted_of (item_of s.looks s.moment) read_it) f.none
        ∙ ap (notes_seen (item_of s.looks s.moment ∷ [])) (sym on_read.saw)

    goes_read : AllGoBy full (item_of s.looks s.moment ∷ []) (seen_of before left (item_of s.looks s.moment ∷ []))
    goes_read = subst (AllGoBy full (item_of s.looks s.moment ∷ [])) (sym on_read.saw)
        (goes_made full s.looks s.moment read_it (ap (λ (x : Found). found_for x t.op) (sym f.untaken) ∙ t.none), tt)

    shown_read : after ≡ after_answer (Reading asks.wanted.range.first) t.asking s.moment s.answer
    shown_read = s.saw ∙ ap (λ (stage : Stage). after_answer stage t.asking s.moment s.answer) (ap (λ (c : Course). c.stage) asks.left)

    none_told : t.asking.told.items ≡ []
    none_told = ap (λ (c : Course). c.told.items) asks.left ∙ f.told

    -- it was given none
    unread : (errno : ℕ) (answer : Answer) → s.answer ≡ answer → errno_unread answer ≡ Some errno → after ≡ record t.asking { stage = Ended; told = after.told }
        → answers_of after.told.items ≡ answer ∷ [] → last_moment after.told.items ≡ s.moment → IsAtEnd errand mount full before left o after noted
    unread errno answer is refused shown told last = record {
      unread = record {
        items = item_of s.looks s.moment ∷ [];
        made = on_read.made;
        noted = notes_read;
        goes = goes_read;
        wanted = asks.wanted;
        wants_it = wants_it;
        read = read_it;
        saw = on_read.saw;
        harmless = subst IsHarmless (sym asks.is) tt;
        errno = errno;
        refused = ap errno_unread is ∙ refused;
        tells = record { answers = ap (λ (a : Answer). a ∷ []) is ∙ sym told; moment = sym last };
        empty = ap (λ (c : Course). c.base.bytes) shown ∙ ap (λ (c : Course). c.base.bytes) asks.left ∙ f.base;
      };
      errand_is = ap (λ (c : Course). c.errand) shown ∙ ap (λ (c : Course). c.errand) asks.left ∙ f.errand_is;
      stage = ap (λ (c : Course). c.stage) shown;
    }

    unread_fault : s.answer ≡ Fault → IsAtEnd errand mount full before left o after noted
    unread_fault is =
        let shown : after ≡ after_answer (Reading wanted.range.first) t.asking s.moment Fault = shown_read ∙ ap (after_answer (Reading wanted.range.first) t.asking s.moment) is in
        unread 5 Fault is refl (shown ∙ ap (λ told_it. record t.asking { stage = Ended; told = told_it }) (sym (ap (λ (c : Course). c.told) shown)))
        (ap (λ (c : Course). answers_of c.told.items) shown ∙ answers_told (answers_of t.asking.told.items ++ Fault ∷ []) s.moment ∙ ap (λ (items : List Observed). answers_of items ++ Fault ∷ []) none_told)
        (ap (λ (c : Course). last_moment c.told.items) shown ∙ moment_told (answers_of t.asking.told.items ++ Fault ∷ []) s.moment (never_empty (answers_of t.asking.told.items) Fault s.moment))

    unread_gone : s.answer ≡ NotFound → IsAtEnd errand mount full before left o after noted
    unread_gone is =
        let shown : after ≡ after_answer (Reading wanted.range.first) t.asking s.moment NotFound = shown_read ∙ ap (after_answer (Reading wanted.range.first) t.asking s.moment) is in
        unread 116 NotFound is refl (shown ∙ ap (λ told_it. record t.asking { stage = Ended; told = told_it }) (sym (ap (λ (c : Course). c.told) shown)))
        (ap (λ (c : Course). answers_of c.told.items) shown ∙ answers_told (answers_of t.asking.told.items ++ NotFound ∷ []) s.moment ∙ ap (λ (items : List Observed). answers_of items ++ NotFound ∷ []) none_told)
        (ap (λ (c : Course). last_moment c.told.items) shown ∙ moment_told (answers_of t.asking.told.items ++ NotFound ∷ []) s.moment (never_empty (answers_of t.asking.told.items) NotFound s.moment))

    -- it was given the bytes of the object that is live
    module _ (object : Object) (live : object_of (bucket_now before) asks.wanted.name asks.wanted.generation ≡ Some object) where
      inside : asks.wanted.range.first + asks.wanted.range.count ≤ length object.content
      inside = subst (λ (found : Option Wanted). HasBytes (bucket_now before) found) wants_it has object live

      long : length (take asks.wanted.range.count (drop asks.wanted.range.first object.content)) ≡ asks.wanted.range.count
      long = length-take-le asks.wanted.range.count (drop asks.wanted.range.first object.content) (let l = length-drop asks.wanted.range.first object.content in omega (arith, l, inside))

      known : o.taken.at.contents asks.wanted.name asks.wanted.generation ≡ object.content
      known = ap (λ (c : Contents). c asks.wanted.name asks.wanted.generation) its.contents
          ∙ ap (λ (found : Option (List ℕ)). unwrap_or found [])
          (content_of-live before.start before.log (length before.log) asks.wanted.name asks.wanted.generation object is.start is.allowed live)

      abbrev based : Base
      based = record { first = asks.wanted.range.first; bytes = take asks.wanted.range.count (drop asks.wanted.range.first object.content) }

      is_based : IsBased o.taken.at.contents (Some asks.wanted) based
      is_based = record {
        covers = subst (λ n. Covers asks.wanted.range.first n asks.wanted.range) (sym long) (λ some. (omega arith, omega arith));
        holds = ap (λ (c : List ℕ). take (length based.bytes) (drop asks.wanted.range.first c)) known
            ∙ ap (λ n. take n (drop asks.wanted.range.first object.content)) long;
      }

      given : s.answer ≡ Bytes based.bytes → IsWalked errand second mount full rest before left o after noted × (after.stage ≡ Between)
      given is_bytes = (
        record {
          items = item_of s.looks s.moment ∷ [];
          made = on_read.made;
          noted = notes_read;
          goes = goes_read;
          spent = t.rest_is ∙ ap (λ (x : Found). found_left x t.op) f.untaken ∙ ap (left_after full) (sym on_read.saw);
          seen = [];
          over = subst (λ (x : List Observed). CountsAs mount o x []) (sym on_read.saw) (counts_passed mount o read_it passing (subst IsHarmless (sym asks.is) tt));
          based = subst (λ (found : Option Wanted). IsBased o.taken.at.contents found after.base) (sym wants_it)
              (subst (IsBased o.taken.at.contents (Some asks.wanted)) (sym (ap (λ (c : Course). c.base) shown)) is_based);
          planned = tt;
          left = λ more.
              ap (λ (e : Errand). plan_over e o.taken.at.contents after.second (answers_of after.told.items ++ more)) errand_is
              ∙ ap (λ n. plan_over errand o.taken.at.contents n (answers_of after.told.items ++ more)) (ap (λ (c : Course). c.second) shown ∙ ap (λ (c : Course). c.second) asks.left ∙ f.second_is)
              ∙ ap (λ (items : List Observed). plan_over errand o.taken.at.contents second (answers_of items ++ more)) told;
          holds = subst (λ (e : Errand). HoldsFor e o.taken.at.contents after.base) (sym errand_is)
              (holds_for errand o.taken.at.contents after.base
              (subst (λ (found : Option Wanted). HoldsBase o.taken.at.contents found after.base) (sym wants_it)
              (subst (λ (b : Base). HoldsBase o.taken.at.contents (Some asks.wanted) b) (sym (ap (λ (c : Course). c.base) shown)) is_based.holds)));
          tells = record { answers = ap answers_of (sym told); moment = ap last_moment (sym told) };
        },
        ap (λ (c : Course). c.stage) shown,
      )
        where
          shown : after ≡ after_answer (Reading asks.wanted.range.first) t.asking s.moment (Bytes (take asks.wanted.range.count (drop asks.wanted.range.first object.content)))
          shown = shown_read ∙ ap (after_answer (Reading asks.wanted.range.first) t.asking s.moment) is_bytes

          errand_is : after.errand ≡ errand
          errand_is = ap (λ (c : Course). c.errand) shown ∙ ap (λ (c : Course). c.errand) asks.left ∙ f.errand_is

          told : after.told.items ≡ []
          told = ap (λ (c : Course). c.told.items) shown ∙ none_told

          passing : IsPassedOver o.taken.at mount o.taken.request (record { op = t.op; moment = s.moment; answer = s.answer })
          passing = reads_are_passed_over o.taken.at.config o.taken.at mount o.taken.request asks.wanted (record { op = t.op; moment = s.moment; answer = s.answer }) based.bytes wanting is_bytes

    pub carries_read : Carries errand second mount full rest before left o after noted
    carries_read = by (next_event logged lane t.op).mode (event_answer lane t.op logged left s.moment s.answer s.event)
      where
        at_done : s.answer ≡ answer_by modes.Done t.op (bucket_now logged)
            → s.answer ≡ option_map_or (λ (x : Object). Bytes (take asks.wanted.range.count (drop asks.wanted.range.first x.content)))
            (object_of (bucket_now before) asks.wanted.name asks.wanted.generation) NotFound
        at_done told = told ∙ ap (λ (l : LoggedState). answer_by modes.Done t.op (bucket_now l)) f.kept ∙ ap (λ op. answer_by modes.Done op (bucket_now before)) asks.is

        by_live : (found : Option Object) → object_of (bucket_now before) asks.wanted.name asks.wanted.generation ≡ found
            → s.answer ≡ option_map_or (λ (x : Object). Bytes (take asks.wanted.range.count (drop asks.wanted.range.first x.content))) found NotFound
            → Carries errand second mount full rest before left o after noted
        by_live (Some object) live told = inr (inl (given object live told))
        by_live None gone told = inr (inr (unread_gone told))

        by : (mode : Mode) → s.answer ≡ answer_by mode t.op (bucket_now logged) → Carries errand second mount full rest before left o after noted
        by modes.Done told = by_live (object_of (bucket_now before) asks.wanted.name asks.wanted.generation) refl (at_done told)
        by modes.Failed told = inr (inr (unread_fault told))
        by modes.Lost told = inr (inr (unread_fault told))
