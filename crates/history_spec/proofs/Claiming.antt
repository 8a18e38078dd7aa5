-- Calls that stand apart along an account happen as the law of claims asks.
use Rattle.std.proofs.Common.{◌≡◌, ◌≢◌, ℕ, zero, suc, Bool, true, false, List, [], ◌∷◌, cond, map, Some, None, refl, sym, ap, subst, ◌∙◌, inl, inr}
use Rattle.std.specs.Prelude.{Option, not, slice_get, ◌==◌, ◌⊎◌, if◌then◌else◌}
use Rattle.std.specs.Option.{option_map_or}
use Rattle.std.proofs.lemmas.Bool.Decides.{eqb_tells}
use Rattle.bucket_api.specs.BucketState.{BucketState}
use Rattle.bucket_api.specs.LogEvent.{LogEvent}
use Rattle.fuse_requests.specs.declared.request.Request.{Request}
use Rattle.history_spec.specs.Account as account
use Rattle.history_spec.specs.Account.{Account, Item, Turn}
use Rattle.history_spec.specs.Claims.{EndsNext, StandApart, shared_of}
use Rattle.history_spec.specs.Fits.{Follows, MayBeDone, MayFollow, plan_of}
use Rattle.history_spec.specs.JournalState.{JournalState, OpenCall, after_done, after_turn, after_turns, at_front, first_journal, open_of, others_of, taken_by}
use Rattle.history_spec.specs.Laws.{AccountsHappen, Happens, PlansStay}
use Rattle.history_spec.specs.Observing.{seen_by}
use Rattle.history_spec.proofs.Lanes.{open_of-first, same_lane}
use Rattle.history_spec.proofs.Walking.{Walked, Walked-walks}
use Rattle.mount_model.specs.declared.config.Config.{Config}
use Rattle.mount_model.specs.declared.gate.CallId.{CallId}
use Rattle.mount_model.specs.declared.journal.How.{How}
use Rattle.mount_model.specs.declared.journal.How.TheVariants as how
use Rattle.mount_rules.specs.Dispatch.{claims, mount_after, plan, rules_of, view_in}
use Rattle.mount_rules.specs.Overlap as overlap
use Rattle.mount_rules.specs.Overlap.{others_than, opened_at}
use Rattle.mount_rules.specs.Plans.{Allows, Plan, done}
use Rattle.mount_rules.specs.View.{View}

-- ---- calls under way of different lanes
abbrev AreOfLanes : List OpenCall → Type 0
AreOfLanes [] = Unit {0}
AreOfLanes (o ∷ os) = (open_of os o.call.lane ≡ None) × AreOfLanes os

abbrev taken_of : OpenCall → overlap.OpenCall
taken_of o = o.taken

-- where a lane has none under way, the others are all
others_free : (os : List OpenCall) (lane : ℕ) → open_of os lane ≡ None → others_of os lane ≡ os
others_free [] lane free = refl
others_free (o ∷ os) lane free = by (o.call.lane == lane) free (others_free os lane)
  where
    by : (t : Bool) → cond t (Some o) (open_of os lane) ≡ None → (open_of os lane ≡ None → others_of os lane ≡ os)
        → cond (not t) (o ∷ others_of os lane) (others_of os lane) ≡ o ∷ os
    by true free later = absurd (cc)
    by false free later = ap (λ (more : List OpenCall). o ∷ more) (later free)

still_free : (os : List OpenCall) (lane other : ℕ) → open_of os lane ≡ None → open_of (others_of os other) lane ≡ None
still_free [] lane other free = refl
still_free (o ∷ os) lane other free = by (o.call.lane == lane) refl free (still_free os lane other)
  where
    keep : (kept : Bool) → open_of (others_of os other) lane ≡ None → (o.call.lane == lane) ≡ false
        → open_of (cond kept (o ∷ others_of os other) (others_of os other)) lane ≡ None
    keep true rest at = ap (λ b. cond b (Some o) (open_of (others_of os other) lane)) at ∙ rest
    keep false rest at = rest

    by : (t : Bool) → (o.call.lane == lane) ≡ t → cond t (Some o) (open_of os lane) ≡ None → (open_of os lane ≡ None → open_of (others_of os other) lane ≡ None)
        → open_of (others_of (o ∷ os) other) lane ≡ None
    by true at free later = absurd (cc)
    by false at free later = keep (not (o.call.lane == other)) (later free) at

AreOfLanes-others : (os : List OpenCall) (other : ℕ) → AreOfLanes os → AreOfLanes (others_of os other)
AreOfLanes-others [] other are = tt
AreOfLanes-others (o ∷ os) other are = by (not (o.call.lane == other)) (AreOfLanes-others os other are.1)
  where
    by : (t : Bool) → AreOfLanes (others_of os other) → AreOfLanes (cond t (o ∷ others_of os other) (others_of os other))
    by true later = (still_free os o.call.lane other are.0, later)
    by false later = later

-- the call of a lane stands at a place, and without it the others are left
record StandsAt (os : List OpenCall) (lane : ℕ) (o : OpenCall) : Type 0 where
  place : ℕ
  there : slice_get (map taken_of os) place ≡ Some o.taken
  others : others_than place (map taken_of os) ≡ map taken_of (others_of os lane)

stands_at : (os : List OpenCall) (lane : ℕ) (o : OpenCall) → AreOfLanes os → open_of os lane ≡ Some o → StandsAt os lane o
stands_at [] lane o are is = absurd (let never : None ≡ Some o = is in cc)
stands_at (p ∷ os) lane o are is = by (eqb_tells p.call.lane lane) (stands_at os lane o are.1)
  where
    by : (((p.call.lane == lane) ≡ true) × (p.call.lane ≡ lane)) ⊎ (((p.call.lane == lane) ≡ false) × (p.call.lane ≢ lane))
        → (open_of os lane ≡ Some o → StandsAt os lane o) → StandsAt (p ∷ os) lane o
    by (inl its) later = record {
      place = zero;
      there = let same : Some p ≡ Some o = sym (ap (λ t. cond t (Some p) (open_of os lane)) its.0) ∙ is in let one : p ≡ o = cc in ap (λ (x : OpenCall). Some x.taken) one;
      others = sym (ap (λ t. map taken_of (cond (not t) (p ∷ others_of os lane) (others_of os lane))) its.0
          ∙ ap (map taken_of) (others_free os lane (ap (open_of os) (sym its.1) ∙ are.0)));
    }
    by (inr far) later = behind (later (sym (ap (λ t. cond t (Some p) (open_of os lane)) far.0) ∙ is))
      where
        behind : StandsAt os lane o → StandsAt (p ∷ os) lane o
        behind at = record {
          place = suc at.place;
          there = at.there;
          others = ap (λ more. p.taken ∷ more) at.others ∙ sym (ap (λ t. map taken_of (cond (not t) (p ∷ others_of os lane) (others_of os lane))) far.0);
        }

-- ---- calls that ask nothing
module _ (start : BucketState) (log : List LogEvent) (state : JournalState) (o : OpenCall) (nothing : plan_of state o [] ≡ done) where
  -- it observes nothing
  no_items : (front : ℕ) (h : How) (items : List Item) → MayBeDone start log state o front h items → items ≡ []
  no_items front h [] may = refl
  no_items front h (item ∷ items) may = absurd (by (Walked-walks start log o (plan_of state o) (item ∷ items) may.walk.told may.walk.walked))
    where
      by : Walked start log o (plan_of state o) (item ∷ items) → ⊥
      by walked = subst (λ step. Allows step walked.0.op) nothing walked.2

  -- and is not short
  mount_left : (h : How) (front : ℕ) (items : List Item) → MayBeDone start log state o front h items
      → (after_done start log state front h items o).mount ≡ mount_after o.taken.at state.mount o.taken.request []
  mount_left how.Ok front items may = ap (λ its. mount_after o.taken.at state.mount o.taken.request (seen_by start log its)) (no_items front how.Ok items may)
  mount_left how.NoMemory front items may = absurd (may.ends.0 nothing)

-- ---- along an account
module _ (config : Config) (start : BucketState) (log : List LogEvent) where
  abbrev HappensFrom : JournalState → Account → Type 0
  HappensFrom state turns = Happens config start log state turns

  -- one turn more, before what happens then
  happens_first : (state after : JournalState) (turn : overlap.Turn) (turns whole : Account) → overlap.MayHappen (shared_of state) turn
      → overlap.after_turn (shared_of state) turn ≡ shared_of after → after_turns config start log state whole ≡ after_turns config start log after turns
      → HappensFrom after turns → HappensFrom state whole
  happens_first state after turn turns whole may leaves same later = record {
    turns = turn ∷ later.turns;
    happen = (may, subst (λ s. overlap.HappenFrom s later.turns) (sym leaves) later.happen);
    reaches = ap (λ s. overlap.after_turns s later.turns) leaves ∙ (later.reaches ∙ ap shared_of (sym same));
  }

  -- the end of a call under way
  happens_done : (state : JournalState) (front : ℕ) (h : How) (items : List Item) (o : OpenCall) (turns whole : Account) → AreOfLanes state.opened
      → open_of state.opened o.call.lane ≡ Some o → after_turns config start log state whole ≡ after_turns config start log (after_done start log state front h items o) turns
      → HappensFrom (after_done start log state front h items o) turns → HappensFrom state whole
  happens_done state front how.Ok items o turns whole are is same later = by (stands_at state.opened o.call.lane o are is)
    where
      by : StandsAt state.opened o.call.lane o → HappensFrom state whole
      by at = happens_first state (after_done start log state front how.Ok items o) (overlap.done at.place (seen_by start log items)) turns whole (o.taken, at.there)
          (ap (overlap.after_done (shared_of state) at.place (seen_by start log items)) at.there
          ∙ ap (λ open_calls. record { mount = mount_after o.taken.at state.mount o.taken.request (seen_by start log items); open_calls = open_calls }) at.others)
          same later
  happens_done state front how.NoMemory items o turns whole are is same later = by (stands_at state.opened o.call.lane o are is)
    where
      by : StandsAt state.opened o.call.lane o → HappensFrom state whole
      by at = happens_first state (after_done start log state front how.NoMemory items o) (overlap.short at.place) turns whole (o.taken, at.there)
          (ap (λ open_calls. record { mount = state.mount; open_calls = open_calls }) at.others) same later

  -- a call that asks nothing is taken and done
  happens_at_once : (state : JournalState) (call : CallId) (taken_front front : ℕ) (at : overlap.OpenCall) (h : How) (items : List Item) (turns whole : Account)
      → overlap.ApartFromAll (claims state.mount at.request) (shared_of state).open_calls → at ≡ opened_at at.at state.mount at.request → plan at.at state.mount at.request [] ≡ done
      → open_of state.opened call.lane ≡ None
      → (middle : JournalState) → middle ≡ record state { front = taken_front; opened = taken_by state call taken_front at ∷ state.opened }
      → MayBeDone start log middle (taken_by state call taken_front at) front h items
      → after_turns config start log state whole ≡ after_turns config start log (after_done start log middle front h items (taken_by state call taken_front at)) turns
      → HappensFrom (after_done start log middle front h items (taken_by state call taken_front at)) turns → HappensFrom state whole
  happens_at_once state call taken_front front at h items turns whole apart its nothing free middle is may same later =
      happens_first state (after_done start log middle front h items (taken_by state call taken_front at)) (overlap.at_once at.at at.request) turns whole apart
      (ap (λ mount. record { mount = mount; open_calls = map taken_of state.opened }) (sym left)
      ∙ ap (λ calls. record { mount = (after_done start log middle front h items (taken_by state call taken_front at)).mount; open_calls = calls }) (sym opened))
      same later
    where
      left : (after_done start log middle front h items (taken_by state call taken_front at)).mount ≡ mount_after at.at state.mount at.request []
      left = mount_left start log middle (taken_by state call taken_front at)
          (ap (λ (s : JournalState). plan at.at s.mount at.request []) is ∙ nothing) h front items may
          ∙ ap (λ (s : JournalState). mount_after at.at s.mount at.request []) is

      opened : map taken_of (others_of middle.opened call.lane) ≡ map taken_of state.opened
      opened = ap (λ (s : JournalState). map taken_of (others_of s.opened call.lane)) is
          ∙ (ap (λ t. map taken_of (cond (not t) (taken_by state call taken_front at ∷ others_of state.opened call.lane) (others_of state.opened call.lane))) (same_lane call.lane call.lane refl)
          ∙ ap (map taken_of) (others_free state.opened call.lane free))

  AreOfLanes-after : (state : JournalState) (turn : Turn) → MayFollow start log state turn → AreOfLanes state.opened → AreOfLanes (after_turn config start log state turn).opened
  AreOfLanes-after state (account.take call front request) may are = (may.next.0, are)
  AreOfLanes-after state (account.done call front h items fill) may are =
      subst (λ (found : Option OpenCall). AreOfLanes (option_map_or (after_done start log state front h items) found state).opened) (sym may.next.1)
      (AreOfLanes-others state.opened may.next.0.call.lane are)
  AreOfLanes-after state (account.tick front seconds) may are = are

  -- a call that asks nothing is done in the turn in which it is taken
  in_one_turn : (state : JournalState) (call : CallId) (front : ℕ) (request : Request) (turn : Turn) (turns : Account)
      → MayFollow start log state (account.take call front request) → overlap.ApartFromAll (claims state.mount request) (shared_of state).open_calls
      → plan (at_front config start log state.clock front) state.mount request [] ≡ done → EndsNext call (turn ∷ turns)
      → MayFollow start log (after_turn config start log state (account.take call front request)) turn
      → HappensFrom (after_turn config start log (after_turn config start log state (account.take call front request)) turn) turns
      → HappensFrom state (account.take call front request ∷ turn ∷ turns)
  in_one_turn state call front request (account.take c f r) turns may apart nothing ends follows later = absurd ends
  in_one_turn state call front request (account.tick f n) turns may apart nothing ends follows later = absurd ends
  in_one_turn state call front request (account.done c f h items fill) turns may apart nothing ends follows later =
      happens_at_once state call front f (opened_at (at_front config start log state.clock front) state.mount request) h items turns
      (account.take call front request ∷ account.done c f h items fill ∷ turns) apart refl nothing may.next.0
      (after_turn config start log state (account.take call front request)) refl
      (subst (λ (x : OpenCall). MayBeDone start log (after_turn config start log state (account.take call front request)) x f h items) its follows.next.3)
      (ap (λ (s : JournalState). after_turns config start log s turns) leaves) (subst (λ (s : JournalState). HappensFrom s turns) leaves later)
    where
      found : open_of (after_turn config start log state (account.take call front request)).opened c.lane
          ≡ Some (taken_by state call front (opened_at (at_front config start log state.clock front) state.mount request))
      found = open_of-first (taken_by state call front (opened_at (at_front config start log state.clock front) state.mount request)) state.opened c.lane
          (ap (λ (x : CallId). x.lane) (sym ends))

      its : follows.next.0 ≡ taken_by state call front (opened_at (at_front config start log state.clock front) state.mount request)
      its = let both : Some follows.next.0 ≡ Some (taken_by state call front (opened_at (at_front config start log state.clock front) state.mount request)) = sym follows.next.1 ∙ found in cc

      leaves : after_turn config start log (after_turn config start log state (account.take call front request)) (account.done c f h items fill)
          ≡ after_done start log (after_turn config start log state (account.take call front request)) f h items
          (taken_by state call front (opened_at (at_front config start log state.clock front) state.mount request))
      leaves = ap (λ (x : Option OpenCall). option_map_or (after_done start log (after_turn config start log state (account.take call front request)) f h items) x
          (after_turn config start log state (account.take call front request))) found

  happens_from : (state : JournalState) (turns : Account) → AreOfLanes state.opened → Follows config start log state turns → StandApart config start log state turns → HappensFrom state turns
  happens_from state [] are follows apart = record { turns = []; happen = tt; reaches = refl }
  happens_from state (account.tick front seconds ∷ turns) are follows apart =
      happens_first state (after_turn config start log state (account.tick front seconds)) (overlap.tick seconds) turns (account.tick front seconds ∷ turns) tt refl refl
      (happens_from (after_turn config start log state (account.tick front seconds)) turns are follows.1 apart)
  happens_from state (account.done call front h items fill ∷ turns) are follows apart =
      happens_done state front h items follows.0.next.0 turns (account.done call front h items fill ∷ turns) are
      (ap (λ (c : CallId). open_of state.opened c.lane) follows.0.next.2 ∙ follows.0.next.1)
      (ap (λ (s : JournalState). after_turns config start log s turns) leaves)
      (subst (λ (s : JournalState). HappensFrom s turns) leaves
      (happens_from (after_turn config start log state (account.done call front h items fill)) turns
      (AreOfLanes-after state (account.done call front h items fill) follows.0 are) follows.1 apart))
    where
      leaves : after_turn config start log state (account.done call front h items fill) ≡ after_done start log state front h items follows.0.next.0
      leaves = ap (λ (x : Option OpenCall). option_map_or (after_done start log state front h items) x state) follows.0.next.1
  happens_from state (account.take call front request ∷ []) are follows (apart, inl asks, more) =
      happens_first state (after_turn config start log state (account.take call front request)) (overlap.take (at_front config start log state.clock front) request) []
      (account.take call front request ∷ []) (asks, apart) refl refl (record { turns = []; happen = tt; reaches = refl })
  happens_from state (account.take call front request ∷ []) are follows (apart, inr next, more) = absurd next.1
  happens_from state (account.take call front request ∷ turn ∷ turns) are follows (apart, inl asks, more) =
      happens_first state (after_turn config start log state (account.take call front request)) (overlap.take (at_front config start log state.clock front) request) (turn ∷ turns)
      (account.take call front request ∷ turn ∷ turns) (asks, apart) refl refl
      (happens_from (after_turn config start log state (account.take call front request)) (turn ∷ turns) (follows.0.next.0, are) follows.1 more)
  happens_from state (account.take call front request ∷ turn ∷ turns) are follows (apart, inr next, more) =
      in_one_turn state call front request turn turns follows.0 apart next.0 next.1 follows.1.0
      (happens_from (after_turn config start log (after_turn config start log state (account.take call front request)) turn) turns
      (AreOfLanes-after (after_turn config start log state (account.take call front request)) turn follows.1.0 (follows.0.next.0, are)) follows.1.1
      (ends_apart call turn turns next.1 more))
    where
      ends_apart : (c : CallId) (t : Turn) (ts : Account) → EndsNext c (t ∷ ts) → StandApart config start log (after_turn config start log state (account.take call front request)) (t ∷ ts)
          → StandApart config start log (after_turn config start log (after_turn config start log state (account.take call front request)) t) ts
      ends_apart c (account.take d f r) ts ends later = absurd ends
      ends_apart c (account.tick f n) ts ends later = absurd ends
      ends_apart c (account.done d f h items fill) ts ends later = later

pub accounts_happen : AccountsHappen
accounts_happen config start log turns follows apart = happens_from config start log first_journal turns tt follows apart

abbrev plan_by : overlap.OpenCall → Bool → View → Plan
plan_by o on view = if on then (rules_of o.request).plan (record { at = o.at; view = view }) else (λ answers. done)

pub plans_stay : PlansStay
plans_stay mount o sees = ap (λ on. plan_by o on (view_in mount o.request)) sees.goes ∙ ap (plan_by o true) sees.view
