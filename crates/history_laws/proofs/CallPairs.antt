-- A call that is taken, and done in the turn after: what the two turns make of a state in which no call is under way; and
-- which moments are its own.
use Rattle.std.proofs.Common.{◌≡◌, ◌≤◌, ◌<◌, ◌+◌, ℕ, zero, suc, Bool, true, false, cond, List, [], ◌∷◌, length, Some, refl, sym, ap, subst, ◌∙◌, ◌⊎◌, inl, inr, arith}
use Rattle.std.proofs.lemmas.Bool.Decides.{eqb_tells}
use Rattle.std.proofs.lemmas.List.Elements.{All-contains, All-from_recursion}
use Rattle.std.specs.List.{AllByRecursion}
use Rattle.std.specs.Option.{option_map_or}
use Rattle.std.specs.Prelude.{Contains, not, slice_get, ◌==◌, ◌≢◌, if◌then◌else◌}
use Rattle.bucket_api.specs.BucketState.{BucketState}
use Rattle.bucket_api.specs.LogEvent.{LogEvent}
use Rattle.fuse_requests.specs.declared.request.Request.{Request}
use Rattle.history_laws.specs.Apart.{OneByOne}
use Rattle.history_spec.proofs.Lanes.{open_of-first, same_lane}
use Rattle.history_spec.proofs.OwnMoments.{own_between}
use Rattle.history_spec.proofs.Settling.{contains_either}
use Rattle.history_spec.specs.Account as account
use Rattle.history_spec.specs.Account.{Account, Item, own_moments_of}
use Rattle.history_spec.specs.Fits.{Follows, MayBeDone}
use Rattle.history_spec.specs.JournalState.{EndedCall, JournalState, OpenCall, after_done, after_turn, after_turns, at_front, ended_by, open_of, others_of, taken_by, with_taken}
use Rattle.history_spec.specs.Observing.{moments_of, own_moments}
use Rattle.mount_laws.proofs.Keeping.{same_Some}
use Rattle.mount_model.specs.declared.config.Config.{Config}
use Rattle.mount_model.specs.declared.gate.CallId.{CallId}
use Rattle.mount_model.specs.declared.journal.Fill.{Fill}
use Rattle.mount_model.specs.declared.journal.How.{How}
use Rattle.mount_rules.specs.Overlap.{opened_at}

-- ---- elements of lists
-- an element of a list is the first, or one of the others
pub contains_cons : {X : Type 0} (x : X) (xs : List X) (y : X) → Contains (x ∷ xs) y → (x ≡ y) ⊎ Contains xs y
contains_cons x xs y there = by (contains_either (x ∷ []) xs y there)
  where
    by : Contains (x ∷ []) y ⊎ Contains xs y → (x ≡ y) ⊎ Contains xs y
    by (inl (zero, within, is)) = inl is
    by (inl (suc k, within, is)) = absurd (omega (arith, within))
    by (inr later) = inr later

pub contains_where : {X : Type 0} (P : X → Type 0) (xs : List X) (x : X) → AllByRecursion P xs → Contains xs x → P x
contains_where P xs x all there = All-contains P xs x (All-from_recursion P xs all) there

-- what stands at a position of a list
pub get_some : {X : Type 0} (xs : List X) (k : ℕ) → k < length xs → (x : X) × (slice_get xs k ≡ Some x)
get_some [] k within = absurd (omega (arith, within))
get_some (x ∷ xs) zero within = (x, refl)
get_some (x ∷ xs) (suc k) within = get_some xs k (omega (arith, within))

-- ---- the two turns
module _ (config : Config) (start : BucketState) (log : List LogEvent) where
  -- the call that is taken
  abbrev pub call_taken : JournalState → CallId → ℕ → Request → OpenCall
  call_taken state call front request = taken_by state call front (opened_at (at_front config start log state.clock front) state.mount request)

  -- the state after it is done
  abbrev pub after_pair : JournalState → CallId → ℕ → Request → ℕ → How → List Item → JournalState
  after_pair state call front request behind h items =
      let o = call_taken state call front request in after_done start log (with_taken state o) behind h items o

  pub record IsPair (state : JournalState) (call : CallId) (front : ℕ) (request : Request) (ended : CallId) (behind : ℕ) (h : How) (items : List Item) (fill : Fill) (turns : Account) : Type 0 where
    pub onward : state.front ≤ front
    pub later : front ≤ behind
    pub may : MayBeDone start log (with_taken state (call_taken state call front request)) (call_taken state call front request) behind h items
    pub reaches : after_turn config start log (after_turn config start log state (account.take call front request)) (account.done ended behind h items fill)
        ≡ after_pair state call front request behind h items
    pub rest : Follows config start log (after_pair state call front request behind h items) turns
    pub none : (after_pair state call front request behind h items).opened ≡ []

  pub pair_of : (state : JournalState) (call : CallId) (front : ℕ) (request : Request) (ended : CallId) (behind : ℕ) (h : How) (items : List Item) (fill : Fill) (turns : Account) → state.opened ≡ []
      → Follows config start log state (account.take call front request ∷ account.done ended behind h items fill ∷ turns) → ended ≡ call
      → IsPair state call front request ended behind h items fill turns
  pair_of state call front request ended behind h items fill turns none follows same = record {
    onward = follows.0.onward;
    later = follows.1.0.onward;
    may = subst (λ (x : OpenCall). MayBeDone start log taken x behind h items) its follows.1.0.next.3;
    reaches = reaches;
    rest = subst (λ s. Follows config start log s turns) reaches follows.1.1;
    none = ap (λ os. others_of (o ∷ os) call.lane) none ∙ ap (λ t. cond (not t) (o ∷ []) []) (same_lane call.lane call.lane refl);
  }
    where
      o : OpenCall
      o = call_taken state call front request

      taken : JournalState
      taken = with_taken state o

      found : open_of taken.opened ended.lane ≡ Some o
      found = open_of-first o state.opened ended.lane (ap (λ (c : CallId). c.lane) (sym same))

      its : follows.1.0.next.0 ≡ o
      its = same_Some (sym follows.1.0.next.1 ∙ found)

      reaches : after_turn config start log taken (account.done ended behind h items fill) ≡ after_done start log taken behind h items o
      reaches = ap (λ x. option_map_or (after_done start log taken behind h items) x taken) found

  -- each own moment of a call that is done later is later than this state had seen
  pub later_own : (state : JournalState) (turns : Account) → state.opened ≡ [] → Follows config start log state turns → OneByOne turns → (e : EndedCall) (moment : ℕ)
      → Contains (after_turns config start log state turns).ended e → Contains e.own moment → Contains state.ended e ⊎ (state.front < moment)
  later_own state [] none follows one e moment there its = inl there
  later_own state (account.tick front seconds ∷ turns) none follows one e moment there its =
      by (later_own (after_turn config start log state (account.tick front seconds)) turns none follows.1 one e moment there its)
    where
      by : Contains state.ended e ⊎ (front < moment) → Contains state.ended e ⊎ (state.front < moment)
      by (inl before) = inl before
      by (inr after) = let onward : state.front ≤ front = follows.0.onward in inr (omega (arith, onward, after))
  later_own state (account.take call front request ∷ account.done ended behind h items fill ∷ turns) none follows one e moment there its =
      by (later_own (after_pair state call front request behind h items) turns pair.none pair.rest one.1 e moment
      (subst (λ s. Contains (after_turns config start log s turns).ended e) pair.reaches there) its)
    where
      pair : IsPair state call front request ended behind h items fill turns
      pair = pair_of state call front request ended behind h items fill turns none follows one.0

      own : Contains (own_moments_of items) moment → front < moment
      own among = (contains_where (λ m. (front < m) × (m ≤ behind)) (own_moments log call.lane front behind) moment (own_between log call.lane front behind)
          (subst (λ moments. Contains moments moment) pair.may.walk.own among)).0

      one_of : (call_by : EndedCall) → call_by.own ≡ own_moments_of items → (call_by ≡ e) ⊎ Contains state.ended e → Contains state.ended e ⊎ (state.front < moment)
      one_of call_by is (inl same) =
          let onward : state.front ≤ front = pair.onward in
          let after : front < moment = own (subst (λ moments. Contains moments moment) (ap (λ (x : EndedCall). x.own) (sym same) ∙ is) its) in
          inr (omega (arith, onward, after))
      one_of call_by is (inr before) = inl before

      by : Contains (after_pair state call front request behind h items).ended e ⊎ (behind < moment) → Contains state.ended e ⊎ (state.front < moment)
      by (inl among) = one_of (ended_by start log state.mount (call_taken state call front request) h items) refl
          (contains_cons (ended_by start log state.mount (call_taken state call front request) h items) state.ended e among)
      by (inr after) =
          let onward : state.front ≤ front = pair.onward in
          let later : front ≤ behind = pair.later in
          inr (omega (arith, onward, later, after))
  later_own state (account.take call front request ∷ []) none follows one e moment there its = absurd one
  later_own state (account.take call front request ∷ account.take c f r ∷ turns) none follows one e moment there its = absurd one
  later_own state (account.take call front request ∷ account.tick f s ∷ turns) none follows one e moment there its = absurd one
  later_own state (account.done call front h items fill ∷ turns) none follows one e moment there its = absurd one

-- ---- a lane whose moments are all there
moments_from : (lane first : ℕ) (events : List LogEvent) → AllByRecursion (λ m. first ≤ m) (moments_of lane first events)
moments_from lane first [] = tt
moments_from lane first (e ∷ events) = by (e.lane == lane) (weaker (moments_of lane (first + 1) events) (moments_from lane (first + 1) events))
  where
    weaker : (moments : List ℕ) → AllByRecursion (λ m. first + 1 ≤ m) moments → AllByRecursion (λ m. first ≤ m) moments
    weaker [] all = tt
    weaker (m ∷ moments) all = let low : first + 1 ≤ m = all.0 in (omega (arith, low), weaker moments all.1)

    by : (its : Bool) → AllByRecursion (λ m. first ≤ m) (moments_of lane (first + 1) events)
        → AllByRecursion (λ m. first ≤ m) (if its then first ∷ moments_of lane (first + 1) events else moments_of lane (first + 1) events)
    by true later = (omega arith, later)
    by false later = later

-- then the lane made each event
pub all_of_lane : (lane first : ℕ) (events : List LogEvent) → ((m : ℕ) → first ≤ m → m < first + length events → Contains (moments_of lane first events) m)
    → AllByRecursion (λ (e : LogEvent). e.lane ≡ lane) events
all_of_lane lane first [] all = tt
all_of_lane lane first (e ∷ events) all = by (eqb_tells e.lane lane) (all_of_lane lane (first + 1) events)
  where
    later : Contains (moments_of lane (first + 1) events) first → ⊥
    later there = let low : first + 1 ≤ first = contains_where (λ m. first + 1 ≤ m) (moments_of lane (first + 1) events) first (moments_from lane (first + 1) events) there in omega (arith, low)

    rest : (m : ℕ) → first + 1 ≤ m → (first ≡ m) ⊎ Contains (moments_of lane (first + 1) events) m → Contains (moments_of lane (first + 1) events) m
    rest m low (inl same) = absurd (omega (arith, low, same))
    rest m low (inr there) = there

    by : (((e.lane == lane) ≡ true) × (e.lane ≡ lane)) ⊎ (((e.lane == lane) ≡ false) × (e.lane ≢ lane))
        → (((m : ℕ) → first + 1 ≤ m → m < first + 1 + length events → Contains (moments_of lane (first + 1) events) m) → AllByRecursion (λ (x : LogEvent). x.lane ≡ lane) events)
        → AllByRecursion (λ (x : LogEvent). x.lane ≡ lane) (e ∷ events)
    by (inl its) others = (
      its.1,
      others (λ m low high. rest m low (contains_cons first (moments_of lane (first + 1) events) m
          (subst (λ t. Contains (if t then first ∷ moments_of lane (first + 1) events else moments_of lane (first + 1) events) m) its.0 (all m (omega (arith, low)) (omega (arith, high)))))),
    )
    by (inr far) others = absurd (later (subst (λ t. Contains (if t then first ∷ moments_of lane (first + 1) events else moments_of lane (first + 1) events) first)
        far.0 (all first (omega arith) (omega arith))))
