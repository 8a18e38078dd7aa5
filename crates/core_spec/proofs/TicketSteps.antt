-- A ticket is under way from its take on, by what its pass sees, by each operation and to its end.
use Rattle.std.proofs.Common.{◌≡◌, ◌≢◌, ℕ, ◌+◌, ◌≤◌, true, false, All, List, [], ◌∷◌, ◌++◌, append_assoc, append-nil, length, take, Some, refl, sym, ap, subst, ◌∙◌, arith, length-append}
use Rattle.std.specs.Prelude.{IfSome}
use Rattle.std.proofs.lemmas.List.{take-append-le}
use Rattle.std.proofs.lemmas.List.Elements.{All-nil}
use lib.ListN.{get_or}
use Rattle.bucket_api.specs.LogEvent.{LogEvent}
use Rattle.bucket_api.specs.Moments.{moment_at}
use Rattle.bucket_api.specs.Passes.{PassState}
use Rattle.core_spec.proofs.Ending.{walk_along}
use Rattle.core_spec.proofs.Taking.{free}
use Rattle.core_spec.proofs.Thrifts.{thrifty_by_flags}
use Rattle.core_spec.proofs.TicketEnds.{other_than}
use Rattle.core_spec.specs.Cores.{kept_by}
use Rattle.core_spec.specs.TicketLaws.{HasGoneOn, TicketsBegin, TicketsMake, TicketsSee, TicketsStop, with_log}
use Rattle.core_spec.specs.Tickets.{IsUnderWay, TicketState, call_of, how_of, seen_so_far}
use Rattle.history_spec.proofs.Agreeing.{seen_same}
use Rattle.history_spec.proofs.WalkLaws.{observed_pushed, own_is_moment, walk_goes_on}
use Rattle.history_spec.specs.Account.{Item, moment_of}
use Rattle.history_spec.specs.Claims.{plan_taken}
use Rattle.history_spec.specs.Fits.{EndsBy, MayTell}
use Rattle.history_spec.specs.Laws.{IsOwnAt, WalkedOn, shown_by}
use Rattle.history_spec.specs.JournalState.{OpenCall}
use Rattle.history_spec.specs.Observing.{observed_at, seen_by}
use Rattle.lane_spec.specs.Numbers.{has}
use Rattle.mount_model.specs.Observing.{Observed}
use Rattle.mount_rules.specs.Plans.{Allows, answers_of}
use Rattle.thrift_spec.specs.Thrift.{AllThrifty, IsThrifty, ReadsAre}

pub tickets_begin : (I : Type 0) → TicketsBegin I
tickets_begin I core told call request items tells held next walk looks = record {
  way = record {
    pass = record { origin = refl; lane = refl; held = refl; more = []; seen = sym (append-nil core.pass.seen) };
    told = told;
    tells = tells;
    taken = record { free = free core told tells call request held next; next = next; so = refl };
    items = items;
    walk = walk;
    looks = looks;
    ends = λ over. absurd (let never : false ≡ true = over in cc);
    reads = λ over. absurd (let never : false ≡ true = over in cc);
  };
  told_is = refl;
  items_are = refl;
}

pub tickets_stop : (I : Type 0) → TicketsStop I
tickets_stop I t short way ends reads = record {
  way_on = record {
    pass = record { origin = way.pass.origin; lane = way.pass.lane; held = way.pass.held; more = way.pass.more; seen = way.pass.seen };
    told = way.told;
    tells = way.tells;
    taken = way.taken;
    items = way.items;
    walk = way.walk;
    looks = way.looks;
    ends = λ over. ends;
    reads = λ over. reads;
  };
  told = refl;
  items_are = refl;
  seen_is = refl;
}

-- ---- more of the log
module _ {I : Type 0} (t : TicketState (PassState I)) (way : IsUnderWay t) (more : List LogEvent) (none : All (λ (e : LogEvent). has t.pass.held e.lane ≡ false) more) where
  abbrev o : OpenCall
  o = call_of t way.told

  abbrev longer : List LogEvent
  longer = t.pass.seen ++ more

  same : take (length t.pass.seen) t.pass.seen ≡ take (length t.pass.seen) (t.pass.seen ++ more)
  same = sym (take-append-le (length t.pass.seen) t.pass.seen more (omega arith))

  pub front : o.front ≤ length t.pass.seen
  front =
      let long : length t.pass.seen ≡ length t.core.pass.seen + length way.pass.more = ap length way.pass.seen ∙ length-append t.core.pass.seen way.pass.more in
      omega (arith, long)

  differ : All (λ (e : LogEvent). e.lane ≢ t.call.lane) more
  differ k first within = other_than t.call.lane (get_or more k first).lane (subst (λ held. has held (get_or more k first).lane ≡ false) way.pass.held (none k first within))

  pub seen_stays : seen_by t.core.pass.origin.start t.pass.seen way.items ≡ seen_by t.core.pass.origin.start longer way.items
  seen_stays = seen_same t.core.pass.origin.start t.pass.seen longer (length t.pass.seen) same way.items way.walk.within

  see_way : (mine : List LogEvent) (faults : ℕ) → IsUnderWay (with_log I t longer mine faults)
  see_way mine faults = record {
    pass = record {
      origin = way.pass.origin;
      lane = way.pass.lane;
      held = way.pass.held;
      more = way.pass.more ++ more;
      seen = ap (λ log. log ++ more) way.pass.seen ∙ append_assoc t.core.pass.seen way.pass.more more;
    };
    told = way.told;
    tells = way.tells;
    taken = way.taken;
    items = way.items;
    walk = walk_along t.core.pass.origin.start t.pass.seen more (plan_taken o.taken) o way.items front differ way.walk;
    looks = thrifty_by_flags t.core.pass.origin.start t.pass.seen longer o (kept_by t.core way.told).records (length t.pass.seen) same way.items way.items refl way.walk.within way.looks;
    ends = λ over. subst (EndsBy (how_of t.short) (plan_taken o.taken)) seen_stays (way.ends over);
    reads = λ over. subst (ReadsAre (how_of t.short) _) seen_stays (way.reads over);
  }

  pub sees : (mine : List LogEvent) (faults : ℕ) → HasGoneOn I t (with_log I t longer mine faults) way way.items (seen_so_far t way.items)
  unfolding see_way
  sees mine faults = record { way_on = see_way mine faults; told = refl; items_are = refl; seen_is = sym seen_stays }

pub tickets_see : (I : Type 0) → TicketsSee I
tickets_see I t log mine faults way (more, is, none) =
    subst (λ events. HasGoneOn I t (with_log I t events mine faults) way way.items (seen_so_far t way.items)) (sym is) (sees t way more none mine faults)

-- ---- an operation
module _ {I : Type 0} (t : TicketState (PassState I)) (way : IsUnderWay t) (going : t.ended ≡ false) (event : LogEvent) (its : event.lane ≡ t.call.lane) (item : Item)
    (allows : Allows (plan_taken (call_of t way.told).taken (answers_of (seen_so_far t way.items))) event.op) (at : IsOwnAt (moment_at (length t.pass.seen)) item)
    (may : MayTell (call_of t way.told) event.op item)
    (thrifty : IsThrifty t.core.pass.origin.start (t.pass.seen ++ event ∷ []) (call_of t way.told) (kept_by t.core way.told).records item (shown_by t.core.pass.origin.start t.pass.seen event)) where
  abbrev log : List LogEvent
  log = t.pass.seen ++ event ∷ []

  abbrev its_call : OpenCall
  its_call = call_of t way.told

  walked : WalkedOn t.core.pass.origin.start t.pass.seen event (plan_taken its_call.taken) its_call way.items item
  walked = walk_goes_on t.core.pass.origin.start t.pass.seen event (plan_taken its_call.taken) its_call way.items item (front t way [] (All-nil (λ (e : LogEvent). has t.pass.held e.lane ≡ false)))
      way.walk its allows at may

  same_log : take (length t.pass.seen) t.pass.seen ≡ take (length t.pass.seen) (t.pass.seen ++ event ∷ [])
  same_log = sym (take-append-le (length t.pass.seen) t.pass.seen (event ∷ []) (omega arith))

  all_with : (items : List Item) → AllThrifty t.core.pass.origin.start log its_call (kept_by t.core way.told).records items
      → IfSome (observed_at t.core.pass.origin.start log (moment_of item)) (IsThrifty t.core.pass.origin.start log its_call (kept_by t.core way.told).records item)
      → AllThrifty t.core.pass.origin.start log its_call (kept_by t.core way.told).records (items ++ item ∷ [])
  all_with [] all last = (last, tt)
  all_with (first ∷ items) all last = (all.0, all_with items all.1 last)

  shows : observed_at t.core.pass.origin.start log (moment_of item) ≡ Some (shown_by t.core.pass.origin.start t.pass.seen event)
  shows = ap (observed_at t.core.pass.origin.start log) (own_is_moment item (moment_at (length t.pass.seen)) at) ∙ observed_pushed t.core.pass.origin.start t.pass.seen event

  make_way : (mine : List LogEvent) (faults : ℕ) → IsUnderWay (with_log I t (t.pass.seen ++ event ∷ []) mine faults)
  make_way mine faults = record {
    pass = record {
      origin = way.pass.origin;
      lane = way.pass.lane;
      held = way.pass.held;
      more = way.pass.more ++ event ∷ [];
      seen = ap (λ events. events ++ event ∷ []) way.pass.seen ∙ append_assoc t.core.pass.seen way.pass.more (event ∷ []);
    };
    told = way.told;
    tells = way.tells;
    taken = way.taken;
    items = way.items ++ item ∷ [];
    walk = walked.walk;
    looks = all_with way.items
        (thrifty_by_flags t.core.pass.origin.start t.pass.seen log its_call (kept_by t.core way.told).records (length t.pass.seen) same_log way.items way.items refl way.walk.within way.looks)
        (subst (λ found. IfSome found (IsThrifty t.core.pass.origin.start log its_call (kept_by t.core way.told).records item)) (sym shows) thrifty);
    ends = λ over. absurd (let never : false ≡ true = sym going ∙ over in cc);
    reads = λ over. absurd (let never : false ≡ true = sym going ∙ over in cc);
  }

  pub makes : (mine : List LogEvent) (faults : ℕ) → HasGoneOn I t (with_log I t (t.pass.seen ++ event ∷ []) mine faults) way (way.items ++ item ∷ [])
      (seen_so_far t way.items ++ shown_by t.core.pass.origin.start t.pass.seen event ∷ [])
  unfolding make_way
  makes mine faults = record { way_on = make_way mine faults; told = refl; items_are = refl; seen_is = walked.seen }

-- behind what others have made meanwhile
module _ {I : Type 0} (t : TicketState (PassState I)) (way : IsUnderWay t) (going : t.ended ≡ false) (more : List LogEvent)
    (none : All (λ (e : LogEvent). has t.pass.held e.lane ≡ false) more) (event : LogEvent) (its : event.lane ≡ t.call.lane) (item : Item)
    (allows : Allows (plan_taken (call_of t way.told).taken (answers_of (seen_so_far t way.items))) event.op) (at : IsOwnAt (moment_at (length (t.pass.seen ++ more))) item)
    (may : MayTell (call_of t way.told) event.op item)
    (thrifty : IsThrifty t.core.pass.origin.start ((t.pass.seen ++ more) ++ event ∷ []) (call_of t way.told) (kept_by t.core way.told).records item
    (shown_by t.core.pass.origin.start (t.pass.seen ++ more) event)) where
  abbrev later : TicketState (PassState I)
  later = with_log I t (t.pass.seen ++ more) t.pass.mine t.pass.faults

  pub makes_later : (mine : List LogEvent) (faults : ℕ) → HasGoneOn I t (with_log I t ((t.pass.seen ++ more) ++ event ∷ []) mine faults) way (way.items ++ item ∷ [])
      (seen_so_far t way.items ++ shown_by t.core.pass.origin.start (t.pass.seen ++ more) event ∷ [])
  unfolding see_way
  makes_later mine faults =
      let here = makes later (see_way t way more none t.pass.mine t.pass.faults) going event its item
      (subst (λ (seen : List Observed). Allows (plan_taken (call_of t way.told).taken (answers_of seen)) event.op) (seen_stays t way more none) allows) at may thrifty mine faults in
      record {
        way_on = here.way_on;
        told = here.told;
        items_are = here.items_are;
        seen_is = here.seen_is ∙ ap (λ (seen : List Observed). seen ++ shown_by t.core.pass.origin.start (t.pass.seen ++ more) event ∷ []) (sym (seen_stays t way more none));
      }

pub tickets_make : (I : Type 0) → TicketsMake I
tickets_make I t before mine event faults item way going (more, is, none) its allows at may thrifty =
    subst (λ events. HasGoneOn I t (with_log I t (events ++ event ∷ []) mine faults) way (way.items ++ item ∷ []) (seen_so_far t way.items ++ shown_by t.core.pass.origin.start events event ∷ [])) (sym is)
    (makes_later t way going more none event its item allows (subst (λ events. IsOwnAt (moment_at (length events)) item) is at) may
    (subst (λ events. IsThrifty t.core.pass.origin.start (events ++ event ∷ []) (call_of t way.told) (kept_by t.core way.told).records item (shown_by t.core.pass.origin.start events event)) is thrifty)
    mine faults)
