-- The end of a request on a bucket with its log: its plan was walked to its end; or memory was refused on the way.
use Rattle.std.proofs.Common.{◌≡◌, ◌≢◌, ◌≤◌, true, false, true≢false, ◌<◌, ◌+◌, ◌-◌, ◌^◌, ℕ, List, [], ◌∷◌, ◌++◌, Option, Some, None, IsSome, length, refl, sym, ap, subst, ◌∙◌, ◌⊎◌, inl, inr, arith, append-nil, length-append}
use Rattle.std.specs.List.{AllByRecursion}
use Rattle.bucket_api.specs.declared.answers.Answer.{Answer}
use Rattle.bucket_api.specs.declared.answers.Answer.TheVariants as answers
use Rattle.fuse_requests.specs.declared.request.Request.{Request}
use Rattle.bucket_api.specs.Operation.{Operation, list, stat}
use Rattle.history_spec.specs.Account.{looked}
use Rattle.history_spec.specs.JournalState.{OpenCall}
use Rattle.history_spec.specs.Looks.{IsLook}
use Rattle.logged_bucket.specs.LoggedState.{LoggedState}
use Rattle.logged_bucket.specs.Logging.{next_event}
use Rattle.mount_core.proofs.HarmlessLemmas.{lists_alone}
use Rattle.mount_core.proofs.CountedLemmas.{harmless_then, notes_more, size_left, size_of, size_recalled}
use Rattle.mount_core.proofs.LoggedEvents.{MadeOn, made_none, made_on, planned_by, seen_fits}
use Rattle.mount_core.proofs.LoggedSteps.{allowed, asked_seen, differ, fresh_walked, never_ended}
use Rattle.mount_core.proofs.WalkLemmas.{asks_first, asks_on, asks_too, ends_without}
use Rattle.mount_core.specs.Bases.{HoldsBase}
use Rattle.mount_core.specs.Courses.{AsksMore, AsksNothing, AsksRead, AsksStep, HoldsRead, after_answer, rest}
use Rattle.mount_core.specs.Errands.{HoldsEntries, IsListing, plan_over, wanted_of}
use Rattle.mount_core.specs.Logged.{AsksIt, CanRead, Carries, CountsAs, HasMade, IsCarried, Recalls, MakesLook, StopsBy, StopsLooking, StopsMade, IsErrandOf, IsFresh, IsOfBucket, IsUnread, IsWalked, ListsAs, StepsNot, StepsOn, StopsShort, item_of, noted_of, notes_seen, seen_of}
use Rattle.mount_core.specs.declared.course.Course.{Course}
use Rattle.mount_core.specs.declared.course.Stage.{Stage}
use Rattle.mount_core.specs.declared.course.Stage.TheVariants.{Between, Ended, Reading, Unread}
use Rattle.mount_core.specs.declared.errand.Errand.{Errand}
use Rattle.mount_kept.proofs.Takings.{goes_more, left_of}
use Rattle.mount_kept.specs.Recalls.{found_for}
use Rattle.mount_kept.specs.Takings.{AllGoBy, IsLeftOf}
use Rattle.mount_kept.specs.declared.notes.Note.{Note}
use Rattle.mount_kept.specs.declared.recall.Found.{Found}
use Rattle.mount_laws.proofs.Answered.{answers_tell}
use Rattle.mount_laws.proofs.RequestLaws.{harmless_while_asking, may_read_wanted}
use Rattle.mount_laws.proofs.SourceReads.{unread_is_refused}
use Rattle.mount_laws.specs.Observations.{EndSame, IsRefusedAfter, errno_unread}
use Rattle.mount_model.specs.Observing.{Observed}
use Rattle.mount_rules.specs.Dispatch.{mount_after, plan, reply_to, wants}
use Rattle.mount_rules.specs.Laws.{Planned}
use Rattle.mount_rules.specs.Mount.{IsMount, MountModel}
use Rattle.mount_rules.specs.Plans.{Completes, Contents, CoversWanted, HoldsWanted, IsHarmless, MayEnd, Plan, Source, Step, Wanted, answers_of, done, may_read}
use Rattle.mount_rules.specs.Reading.{failed, given, gone, reads}
use Rattle.mount_rules.specs.Rules.{AtTake}
use Rattle.mount_state.specs.Telling.{ToldList}
use Rattle.plan_files.specs.Errands.{read_of}
use Rattle.thrift_spec.specs.Records.{answer_of}
use Rattle.mount_state.specs.declared.base.Base.{Base}

-- ---- what is told the same ends the same
end_same : (at : AtTake) (mount : MountModel) (request : Request) (seen counted told : List Observed) → EndSame at mount request (seen ++ []) (counted ++ [])
    → EndSame at mount request counted told → EndSame at mount request seen told
end_same at mount request seen counted told over same = record {
  reply = ap (reply_to at mount request) (sym (append-nil seen)) ∙ over.reply ∙ ap (reply_to at mount request) (append-nil counted) ∙ same.reply;
  after = ap (mount_after at mount request) (sym (append-nil seen)) ∙ over.after ∙ ap (mount_after at mount request) (append-nil counted) ∙ same.after;
}

pub counts_way : (mount : MountModel) (o : OpenCall) (seen counted : List Observed) → CountsAs mount o seen counted
    → plan o.taken.at mount o.taken.request (answers_of seen) ≡ plan o.taken.at mount o.taken.request (answers_of counted)
counts_way mount o seen counted over =
    ap (plan o.taken.at mount o.taken.request) (sym (append-nil (answers_of seen))) ∙ over.asks [] ∙ ap (plan o.taken.at mount o.taken.request) (append-nil (answers_of counted))

-- a read that was given none gives no bytes
not_given : (a : Answer) (errno : ℕ) → errno_unread a ≡ Some errno → reads (a ∷ []) ≡ given → ⊥
not_given answers.NotFound errno is all = let never : gone ≡ given = all in cc
not_given answers.Fault errno is all = let never : failed ≡ given = all in cc
not_given _ errno is all = let never : None ≡ Some errno = is in cc

-- where nothing was read, nothing is held
holds_nothing : (contents : Contents) (found : Option Wanted) (base : Base) → base.bytes ≡ [] → HoldsWanted contents found base.first base.bytes
holds_nothing contents None base empty = tt
holds_nothing contents (Some wanted) base empty = subst (λ (bytes : List ℕ). HoldsWanted contents (Some wanted) base.first bytes) (sym empty) refl

holds_wanted : (contents : Contents) (found : Option Wanted) (base : Base) → HoldsBase contents found base → HoldsWanted contents found base.first base.bytes
holds_wanted contents None base holds = tt
holds_wanted contents (Some wanted) base holds = holds

no_some : (found : Option Wanted) → found ≡ None → IsSome found → ⊥
no_some None is some = absurd cc
no_some (Some wanted) is some = absurd cc

module _ (errand : Errand) (second lane : ℕ) (mount : MountModel) (valid : IsMount mount) (before : LoggedState) (is : IsOfBucket before) (o : OpenCall)
    (its : IsErrandOf errand second lane mount before o) (full : Found) where
  abbrev way : Plan
  way = plan o.taken.at mount o.taken.request

  -- what it wants it asks for
  wants_asks : (wanted : Wanted) → wanted_of errand ≡ Some wanted → plan o.taken.at mount o.taken.request [] ≢ done
  wants_asks wanted wants_it =
      let asks = may_read_wanted o.taken.at.config o.taken.at mount o.taken.request wanted (sym its.wanted ∙ wants_it) in
      λ e. reads_on asks.0 asks.1 (sym asks.2 ∙ e)
    where
      reads_on : (source : Source) (next : Step) → may_read source next ≡ done → ⊥
      reads_on source next e = cc

  -- ---- its plan may end
  module _ (found : Found) (after : LoggedState) (notes : List Note) where
    carried_walk : (course : Course) → IsWalked errand second mount full found before after o course notes → MayEnd (rest course o.taken.at.contents [])
        → IsCarried mount full before after o course.told course.base notes
    carried_walk course w ends = record {
      items = w.items;
      made = w.made;
      noted = w.noted;
      goes = w.goes;
      completes = subst MayEnd (sym way_seen)
          (ends_without (way (answers_of w.seen)) (subst MayEnd (w.left [] ∙ ap (plan_over errand o.taken.at.contents second) (append-nil (answers_of w.seen)) ∙ its.asks (answers_of w.seen)) ends));
      same = end_same o.taken.at mount o.taken.request (seen_of before after w.items) w.seen course.told.items (w.over.ends [])
          (answers_tell o.taken.at mount o.taken.request w.seen course.told.items w.tells);
      serves = λ all. subst (λ (found : Option Wanted). CoversWanted found course.base.first (length course.base.bytes)) its.wanted w.based.covers;
      holds = holds_wanted o.taken.at.contents (wants o.taken.at.config mount o.taken.request) course.base
          (subst (λ (found : Option Wanted). HoldsBase o.taken.at.contents found course.base) its.wanted w.based.holds);
    }
      where
        way_seen : plan o.taken.at mount o.taken.request (answers_of (seen_of before after w.items)) ≡ plan o.taken.at mount o.taken.request (answers_of w.seen)
        way_seen = counts_way mount o (seen_of before after w.items) w.seen w.over

    carried_unread : (told : ToldList) (base : Base) → IsUnread errand mount full before after o told base notes → IsCarried mount full before after o told base notes
    carried_unread told base u = record {
      items = u.items;
      made = u.made;
      noted = u.noted;
      goes = u.goes;
      completes = subst (λ (seen : List Observed). Completes way seen) (sym u.saw) refused.ends;
      same = let told_so = answers_tell o.taken.at mount o.taken.request (u.read ∷ []) told.items u.tells in record {
        reply = ap (reply_to o.taken.at mount o.taken.request) u.saw ∙ told_so.reply;
        after = ap (mount_after o.taken.at mount o.taken.request) u.saw ∙ told_so.after;
      };
      serves = λ all. absurd (not_given u.read.answer u.errno u.refused (ap reads u.tells.answers ∙ all));
      holds = holds_nothing o.taken.at.contents (wants o.taken.at.config mount o.taken.request) base u.empty;
    }
      where
        refused : IsRefusedAfter o.taken.at mount o.taken.request u.read u.errno
        refused = unread_is_refused o.taken.at.config o.taken.at mount o.taken.request u.wanted u.read u.errno (sym its.wanted ∙ u.wants_it) u.refused

    carried_out : (course : Course) → Carries errand second mount full found before after o course notes → (course.stage ≡ Ended) ⊎ ((contents : Contents) → MayEnd (rest course contents []))
        → (course.stage ≡ Unread → wanted_of course.errand ≡ None) → IsCarried mount full before after o course.told course.base notes
    carried_out course (inl f) (inl ended) none = never_ended course.stage f.stage ended
    carried_out course (inl f) (inr ends) none =
        carried_walk course (fresh_walked errand second lane mount valid before is o its full found after course notes f (ap wanted_of (sym f.errand_is) ∙ none f.stage)) (ends o.taken.at.contents)
    carried_out course (inr (inl (w, stage))) (inl ended) none = absurd (let never : Between ≡ Ended = sym stage ∙ ended in cc)
    carried_out course (inr (inl (w, stage))) (inr ends) none = carried_walk course w (ends o.taken.at.contents)
    carried_out course (inr (inr e)) ends none = carried_unread course.told course.base e.unread

    -- ---- memory was refused
    -- for what it asks
    stops_walk : (course : Course) → IsWalked errand second mount full found before after o course notes
        → ((contents : Contents) → HoldsRead contents course → rest course contents [] ≢ done) → StopsShort mount full before after o notes
    stops_walk course w asks = record {
      items = w.items;
      made = w.made;
      noted = w.noted;
      goes = w.goes;
      asks = asks_first way (seen_of before after w.items) planned on;
      harmless = harmless_while_asking o.taken.at mount o.taken.request (seen_of before after w.items) planned (seen_fits before.start after.log w.items) on;
    }
      where
        planned : Planned (plan o.taken.at mount o.taken.request) (seen_of before after w.items)
        planned = planned_by before.start after.log o way (length after.log) w.items w.made.walk

        asks_over : plan_over errand o.taken.at.contents second (answers_of w.seen) ≢ done
        asks_over e = asks o.taken.at.contents w.holds (w.left [] ∙ ap (plan_over errand o.taken.at.contents second) (append-nil (answers_of w.seen)) ∙ e)

        on : plan o.taken.at mount o.taken.request (answers_of (seen_of before after w.items)) ≢ done
        on e = asks_too (plan_over errand o.taken.at.contents second) way its.asks (answers_of w.seen) asks_over
            (sym (counts_way mount o (seen_of before after w.items) w.seen w.over) ∙ e)

    stops_fresh : (course : Course) (wanted : Wanted) → IsFresh errand second full found before after course notes → wanted_of errand ≡ Some wanted → StopsShort mount full before after o notes
    stops_fresh course wanted f wants_it = record {
      items = [];
      made = subst (λ (s : LoggedState). HasMade mount before s o []) (sym f.kept) (made_none mount before o its.front);
      noted = f.none;
      goes = tt;
      asks = wants_asks wanted wants_it;
      harmless = tt;
    }

    stops_unread : (told : ToldList) (base : Base) → IsUnread errand mount full before after o told base notes → StopsShort mount full before after o notes
    stops_unread told base u = record {
      items = u.items;
      made = u.made;
      noted = u.noted;
      goes = u.goes;
      asks = wants_asks u.wanted u.wants_it;
      harmless = subst (AllByRecursion (λ (x : Observed). IsHarmless x.op)) (sym u.saw) (u.harmless, tt);
    }

    pub stops_so : (course : Course) → Carries errand second mount full found before after o course notes → AsksMore course → StopsShort mount full before after o notes
    stops_so course (inl f) asks = by (wanted_of errand) refl asks
      where
        by : (found : Option Wanted) → wanted_of errand ≡ found → AsksMore course → StopsShort mount full before after o notes
        by (Some wanted) wants_it more = stops_fresh course wanted f wants_it
        by None none (inl (unread, some)) = absurd (no_some (wanted_of course.errand) (ap wanted_of f.errand_is ∙ none) some)
        by None none (inr more) = stops_walk course (fresh_walked errand second lane mount valid before is o its full found after course notes f none) more
    stops_so course (inr (inl (w, stage))) (inl (unread, some)) = differ course.stage unread stage
    stops_so course (inr (inl (w, stage))) (inr asks) = stops_walk course w asks
    stops_so course (inr (inr e)) asks = stops_unread course.told course.base e.unread

    -- for the entries that it listed
    listed_walk : (course : Course) → IsWalked errand second mount full found before after o course notes → IsListing errand → StopsShort mount full before after o notes
    listed_walk course w lists =
        let alone = lists_alone errand o.taken.at.contents second w.seen lists w.planned in
        record {
          items = w.items;
          made = w.made;
          noted = w.noted;
          goes = w.goes;
          asks = asks_too (plan_over errand o.taken.at.contents second) way its.asks [] alone.asks;
          harmless = w.over.harmless alone.harmless;
        }

    stops_listed : (course : Course) → Carries errand second mount full found before after o course notes → IsListing errand
        → (course.stage ≡ Unread → wanted_of course.errand ≡ None) → StopsShort mount full before after o notes
    stops_listed course (inl f) lists none =
        listed_walk course (fresh_walked errand second lane mount valid before is o its full found after course notes f (ap wanted_of (sym f.errand_is) ∙ none f.stage)) lists
    stops_listed course (inr (inl (w, stage))) lists none = listed_walk course w lists
    stops_listed course (inr (inr e)) lists none = stops_unread course.told course.base e.unread

  -- it asked nothing more
  module _ (found : Found) (course ended : Course) (logged left : LoggedState) (notes noted : List Note) (carries : Carries errand second mount full found before logged o course notes)
      (s : StepsNot course ended logged left notes noted) where
    pub carried_end : (told : ToldList) (base : Base) → told ≡ ended.told → base ≡ ended.base → IsCarried mount full before left o told base noted
    carried_end told base told_is base_is =
        subst (λ (t : ToldList). IsCarried mount full before left o t base noted) (sym (told_is ∙ ap (λ (c : Course). c.told) s.nothing.left))
        (subst (λ (b : Base). IsCarried mount full before left o course.told b noted) (sym (base_is ∙ ap (λ (c : Course). c.base) s.nothing.left))
        (subst (λ (l : LoggedState). IsCarried mount full before l o course.told course.base noted) (sym s.kept)
        (subst (IsCarried mount full before logged o course.told course.base) (sym s.adds) (carried_out found logged notes course carries s.nothing.ends s.nothing.read))))

    pub stops_end : IsListing errand → StopsShort mount full before left o noted
    stops_end lists =
        subst (λ (l : LoggedState). StopsShort mount full before l o noted) (sym s.kept)
        (subst (StopsShort mount full before logged o) (sym s.adds) (stops_listed found logged notes course carries lists s.nothing.read))

  -- a look was made, and memory refused then
  module _ (found : Found) (logged left : LoggedState) (notes noted : List Note) where
    look_harmless : (op : Operation) → IsLook op → IsHarmless op
    look_harmless (stat name) look = tt
    look_harmless (list prefix slash max after) look = tt
    look_harmless _ look = absurd look

    looks_walk : (course asking : Course) (op : Operation) → IsWalked errand second mount full found before logged o course notes → AsksStep course asking op → found_for found op ≡ None → MakesLook lane op logged left notes noted
        → StopsShort mount full before left o noted
    looks_walk course asking op w asks nothing m = record {
      items = w.items ++ looked m.moment false ∷ [];
      made = on.made;
      noted = m.adds ∙ ap (λ (n : List Note). n ++ noted_of (looked m.moment false) told_it) w.noted
          ∙ sym (notes_more w.items (seen_of before logged w.items) (looked m.moment false) told_it w.made.walk.told)
          ∙ ap (notes_seen (w.items ++ looked m.moment false ∷ [])) (sym on.saw);
      goes = subst (AllGoBy full (w.items ++ looked m.moment false ∷ [])) (sym on.saw)
          (goes_more full w.items (seen_of before logged w.items) (looked m.moment false) told_it w.made.walk.told w.goes (ap (λ (x : Found). found_for x op) (sym w.spent) ∙ nothing));
      asks = asks_first way (seen_of before logged w.items) planned on_way;
      harmless = subst (AllByRecursion (λ (x : Observed). IsHarmless x.op)) (sym on.saw)
          (harmless_then (seen_of before logged w.items) told_it
          (harmless_while_asking o.taken.at mount o.taken.request (seen_of before logged w.items) planned (seen_fits before.start logged.log w.items) on_way)
          (look_harmless op m.look));
    }
      where
        told_it : Observed
        told_it = record { op = op; moment = m.moment; answer = m.answer }

        on : MadeOn mount before o its.front logged left w.items (item_of true m.moment) told_it
        on = made_on mount before o its.front lane its.lane_is logged left w.items w.made op m.moment m.answer m.event true (λ e. m.look) (λ e. absurd (true≢false e))
            (allowed errand second lane mount valid before is o its full found course asking course logged notes w op asks)

        planned : Planned (plan o.taken.at mount o.taken.request) (seen_of before logged w.items)
        planned = planned_by before.start logged.log o way (length logged.log) w.items w.made.walk

        on_way : plan o.taken.at mount o.taken.request (answers_of (seen_of before logged w.items)) ≢ done
        on_way = asks_on (plan o.taken.at mount o.taken.request (answers_of (seen_of before logged w.items))) op
            (asked_seen errand second lane mount valid before is o its full found course asking course logged notes w op asks)

    read_no_look : {P : Type 0} (op : Operation) (wanted : Wanted) → op ≡ read_of wanted → IsLook op → P
    read_no_look op wanted is look = absurd (subst IsLook is look)

    looks_so : (course asking : Course) (op : Operation) → Carries errand second mount full found before logged o course notes → AsksIt course asking op → found_for found op ≡ None → MakesLook lane op logged left notes noted
        → StopsShort mount full before left o noted
    looks_so course asking op carries (inl asks) nothing m = read_no_look op asks.wanted asks.is m.look
    looks_so course asking op (inl f) (inr asks) nothing m =
        looks_walk course asking op (fresh_walked errand second lane mount valid before is o its full found logged course notes f (ap wanted_of (sym f.errand_is) ∙ asks.read f.stage)) asks nothing m
    looks_so course asking op (inr (inl (w, stage))) (inr asks) nothing m = looks_walk course asking op w asks nothing m
    looks_so course asking op (inr (inr e)) (inr asks) nothing m = absurd (asks.on_way e.stage)

    pub stops_by : (course : Course) → Carries errand second mount full found before logged o course notes → StopsBy lane course found logged left notes noted → StopsShort mount full before left o noted
    stops_by course carries (inl none) =
        subst (λ (l : LoggedState). StopsShort mount full before l o noted) (sym none.1)
        (subst (StopsShort mount full before logged o) (sym none.2) (stops_so found logged notes course carries none.0))
    stops_by course carries (inr looking) = looks_so course looking.asking looking.op carries looking.asks looking.none looking.made

-- ---- before its first step, and from one to the next
-- it was told what it asked for
module _ (course asking after : Course) (op : Operation) (moment : ℕ) (answer : Answer) (asks : AsksIt course asking op) (saw : after ≡ after_answer asking.stage asking moment answer) where
  -- it has asked by then
  moved : after.stage ≡ Unread → ⊥
  moved unread = by asks
    where
      told : (a : Answer) (first : ℕ) → (after_answer (Reading first) asking moment a).stage ≡ Unread → ⊥
      told (answers.Bytes bytes) first e = let never : Between ≡ Unread = e in cc
      told _ first e = let never : Ended ≡ Unread = e in cc

      by : AsksRead course asking op ⊎ AsksStep course asking op → ⊥
      by (inl asks) = told answer asks.wanted.range.first
          (ap (λ (c : Course). c.stage) (sym (saw ∙ ap (λ (stage : Stage). after_answer stage asking moment answer) (ap (λ (c : Course). c.stage) asks.left))) ∙ unread)
      by (inr asks) =
          let between : after.stage ≡ Between =
          ap (λ (c : Course). c.stage) (saw ∙ ap (λ (stage : Stage). after_answer stage asking moment answer) (ap (λ (c : Course). c.stage) asks.left)) in
          let never : Unread ≡ Between = sym unread ∙ between in cc

  pub can_read_then : (left : LoggedState) → CanRead after left
  can_read_then left = λ unread. absurd (moved unread)

  -- what is left of its errand lists what that did
  pub lists_then : (errand : Errand) → ListsAs errand course → ListsAs errand after
  lists_then errand was = by asks
    where
      told : (stage : Stage) (a : Answer) → (after_answer stage asking moment a).errand ≡ asking.errand
      told (Reading first) (answers.Bytes bytes) = refl
      told (Reading first) _ = refl
      told _ a = refl

      errand_is : after.errand ≡ asking.errand
      errand_is = ap (λ (c : Course). c.errand) saw ∙ told asking.stage answer

      by : AsksRead course asking op ⊎ AsksStep course asking op → ListsAs errand after
      by (inl asks) =
          let same : after.errand ≡ course.errand = errand_is ∙ ap (λ (c : Course). c.errand) asks.left in
          record {
            entries = λ implicit told_it listed held. was.entries implicit told_it listed (subst (λ (e : Errand). HoldsEntries e implicit told_it listed) same held);
            lists = λ lists. was.lists (subst IsListing same lists);
          }
      by (inr asks) = record {
        entries = λ implicit told_it listed held.
            was.entries implicit told_it listed (asks.entries implicit told_it listed (subst (λ (e : Errand). HoldsEntries e implicit told_it listed) errand_is held));
        lists = λ lists. was.lists (asks.lists (subst IsListing errand_is lists));
      }

pub lists_end : (errand : Errand) (course ended : Course) → AsksNothing course ended → ListsAs errand course → ListsAs errand ended
lists_end errand course ended nothing was =
    let same : ended.errand ≡ course.errand = ap (λ (c : Course). c.errand) nothing.left in
    record {
      entries = λ implicit told listed held. was.entries implicit told listed (subst (λ (e : Errand). HoldsEntries e implicit told listed) same held);
      lists = λ lists. was.lists (subst IsListing same lists);
    }

-- ---- what a step does to the loop's invariant and measure
-- How much may still be done: events that may be made, and records that were found.
abbrev pub left_to_do : LoggedState → Found → ℕ
left_to_do logged found = (2 ^ 63 - length logged.log) + size_of found

pub less_to_do : (lane : ℕ) (course after : Course) (found rest : Found) (logged left : LoggedState) (notes noted : List Note)
    → StepsOn lane course after found rest logged left notes noted ⊎ Recalls course after found rest logged left notes noted → left_to_do left rest < left_to_do logged found
less_to_do lane course after found rest logged left notes noted (inl s) =
    let more : length left.log ≡ length logged.log + 1 =
    ap (λ (l : LoggedState). length l.log) s.makes.event.log ∙ length-append logged.log (next_event logged lane s.op ∷ []) in
    let short : length left.log < 2 ^ 63 = s.makes.event.short in
    let fewer : size_of rest ≤ size_of found = subst (λ (f : Found). size_of f ≤ size_of found) (sym s.rest_is) (size_left found s.op) in
    omega (arith, more, short, fewer)
less_to_do lane course after found rest logged left notes noted (inr s) =
    let same : length left.log ≡ length logged.log = ap (λ (l : LoggedState). length l.log) s.kept in
    let fewer : size_of rest < size_of found = subst (λ (f : Found). size_of f < size_of found) (sym s.rest_is) (size_recalled found s.op s.recall s.is) in
    omega (arith, same, fewer)

module _ (lane : ℕ) (course after : Course) (found rest : Found) (logged left : LoggedState) (notes noted : List Note) where
  pub can_read_by : StepsOn lane course after found rest logged left notes noted ⊎ Recalls course after found rest logged left notes noted → CanRead after left
  can_read_by (inl s) = can_read_then course s.asking after s.op s.makes.moment s.makes.answer s.asks s.makes.saw left
  can_read_by (inr s) = can_read_then course s.asking after s.op s.recall.moment (answer_of s.recall.shown) s.asks s.saw left

  pub lists_by : (errand : Errand) → StepsOn lane course after found rest logged left notes noted ⊎ Recalls course after found rest logged left notes noted
      → ListsAs errand course → ListsAs errand after
  lists_by errand (inl s) = lists_then course s.asking after s.op s.makes.moment s.makes.answer s.asks s.makes.saw errand
  lists_by errand (inr s) = lists_then course s.asking after s.op s.recall.moment (answer_of s.recall.shown) s.asks s.saw errand

  pub left_by : (full : Found) → StepsOn lane course after found rest logged left notes noted ⊎ Recalls course after found rest logged left notes noted
      → IsLeftOf found full → IsLeftOf rest full
  left_by full (inl s) part op r is = part op r (left_of found s.op op r (ap (λ (f : Found). found_for f op) (sym s.rest_is) ∙ is))
  left_by full (inr s) part op r is = part op r (left_of found s.op op r (ap (λ (f : Found). found_for f op) (sym s.rest_is) ∙ is))

-- ---- memory refused
pub asks_more_so : (before asking : Course) (op : Operation) → AsksIt before asking op → AsksMore before
asks_more_so before asking op (inl asks) = inl (asks.first, subst (λ (found : Option Wanted). IsSome found) (sym asks.wants_it) refl)
asks_more_so before asking op (inr asks) = inr (λ contents holds. asks_on (rest before contents []) op (asks.asked contents holds))

pub stops_step : (lane : ℕ) (before asking : Course) (op : Operation) (found : Found) (logged left : LoggedState) (notes noted : List Note) → AsksIt before asking op → found_for found op ≡ None
    → StopsMade lane op logged left notes noted → StopsBy lane before found logged left notes noted
stops_step lane before asking op found logged left notes noted asks nothing (inl none) = inl (asks_more_so before asking op asks, none.0, none.1)
stops_step lane before asking op found logged left notes noted asks nothing (inr made) = inr (record { op = op; asking = asking; asks = asks; none = nothing; made = made })
