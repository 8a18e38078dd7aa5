-- Once no call is under way, what each call saw by a stat of its own is settled: each change that it shows is its own, or that of
-- a call that was done before its take.
use Rattle.std.proofs.Common.{◌≡◌, ◌≢◌, ℕ, zero, suc, ◌-◌, ◌<◌, ◌≤◌, true, false, List, [], ◌∷◌, ◌++◌, append-nil, length, take, Option, Some, refl, sym, ap, subst, ◌∙◌, arith, inl, inr}
use Rattle.std.specs.Prelude.{◌⊎◌, ◌==◌, Contains, IfSome, if◌then◌else◌}
use Rattle.std.specs.List.{AllByRecursion}
use Rattle.std.specs.Option.{option_map_or}
use Rattle.std.proofs.lemmas.Bool.Decides.{eqb_tells}
use Rattle.std.proofs.lemmas.List.{take-take}
use Rattle.bucket_api.specs.BucketState.{BucketState, object_at}
use Rattle.bucket_api.specs.Log.{event_at, state_at}
use Rattle.bucket_api.specs.LogEvent.{LogEvent}
use Rattle.bucket_api.specs.Operation.{stat}
use Rattle.history_spec.proofs.Agreeing.{event_same, state_same}
use Rattle.history_spec.proofs.Following.{Follows-first, Follows-rest, after_turns-append}
use Rattle.history_spec.proofs.LaneLaws.{InTurn, in_turn_after, lanes_are_in_turn}
use Rattle.history_spec.proofs.Lanes.{all_others, at_lane}
use Rattle.history_spec.proofs.OwnMoments.{all_weaker, own_between}
use Rattle.history_spec.proofs.Settling.{contains_all, contains_either, contains_later, own_contains}
use Rattle.history_spec.specs.Account as account
use Rattle.history_spec.specs.Account.{Account, Item, Turn, front_of, own_moments_of}
use Rattle.history_spec.specs.Fits.{Follows, MayBeDone, MayFollow}
use Rattle.history_spec.specs.JournalState.{EndedCall, JournalState, OpenCall, after_done, after_turn, after_turns, ended_by, first_journal, open_of, reached}
use Rattle.history_spec.specs.Lanes.{IsInTurn, ended_own, open_own}
use Rattle.history_spec.specs.Laws.{SettledAtLast, done_of}
use Rattle.history_spec.specs.Looks.{AreUnseen, Changes, IsKnownTo, IsUnseen, SeesNothingOf}
use Rattle.history_spec.specs.Observing.{own_moments}
use Rattle.mount_model.specs.declared.config.Config.{Config}
use Rattle.mount_model.specs.declared.gate.CallId.{CallId}
use Rattle.mount_model.specs.declared.journal.How.{How}

-- ---- whose a moment is
-- a moment among those that the done calls of a lane made is of one of them
record IsOfLane (ended : List EndedCall) (lane moment : ℕ) : Type 0 where
  call : EndedCall
  there : Contains ended call
  lane_is : call.call.lane ≡ lane
  its : Contains call.own moment

of_lane : (ended : List EndedCall) (lane moment : ℕ) → Contains (ended_own ended lane) moment → IsOfLane ended lane moment
of_lane [] lane moment (k, within, is) = absurd (omega arith)
of_lane (e ∷ ended) lane moment there = by (eqb_tells e.call.lane lane) (of_lane ended lane moment)
  where
    later : IsOfLane ended lane moment → IsOfLane (e ∷ ended) lane moment
    later is = record { call = is.call; there = contains_later e ended is.call is.there; lane_is = is.lane_is; its = is.its }

    by : (((e.call.lane == lane) ≡ true) × (e.call.lane ≡ lane)) ⊎ (((e.call.lane == lane) ≡ false) × (e.call.lane ≢ lane))
        → (Contains (ended_own ended lane) moment → IsOfLane ended lane moment) → IsOfLane (e ∷ ended) lane moment
    by (inr far) rest = later (rest (subst (λ t. Contains (if t then ended_own ended lane ++ e.own else ended_own ended lane) moment) far.0 there))
    by (inl its) rest = either_of (contains_either (ended_own ended lane) e.own moment
        (subst (λ t. Contains (if t then ended_own ended lane ++ e.own else ended_own ended lane) moment) its.0 there))
      where
        either_of : Contains (ended_own ended lane) moment ⊎ Contains e.own moment → IsOfLane (e ∷ ended) lane moment
        either_of (inl earlier) = later (rest earlier)
        either_of (inr mine) = record { call = e; there = (zero, omega arith, refl); lane_is = its.1; its = mine }

-- ---- moments and fronts
abbrev AreUpTo : ℕ → List ℕ → Type 0
AreUpTo front own = AllByRecursion (λ m. m ≤ front) own

abbrev AllUpTo : ℕ → List EndedCall → Type 0
AllUpTo front ended = AllByRecursion (λ (e : EndedCall). AreUpTo front e.own) ended

up_to_later : (front later : ℕ) (ended : List EndedCall) → front ≤ later → AllUpTo front ended → AllUpTo later ended
up_to_later front later ended onward all =
    all_weaker (λ (e : EndedCall). AreUpTo front e.own) (λ (e : EndedCall). AreUpTo later e.own)
    (λ e own. all_weaker (λ m. m ≤ front) (λ m. m ≤ later) (λ m is. omega (arith, is, onward)) e.own own) ended all

-- what calls made that are done, the mount had seen by now; and those before the take of a call under way, by its take
record IsSeen (state : JournalState) : Type 0 where
  ended : AllUpTo state.front state.ended
  before : AllByRecursion (λ (o : OpenCall). AllUpTo o.front o.before) state.opened

module _ (config : Config) (start : BucketState) (log : List LogEvent) where
  own_up_to : (o : OpenCall) (front : ℕ) (h : How) (items : List Item) (state : JournalState) → MayBeDone start log state o front h items
      → AllByRecursion (λ m. (o.front < m) × (m ≤ front)) (own_moments_of items)
  own_up_to o front h items state may = subst (AllByRecursion (λ m. (o.front < m) × (m ≤ front))) (sym may.walk.own) (own_between log o.call.lane o.front front)

  seen_turn : (state : JournalState) (turn : Turn) → MayFollow start log state turn → IsSeen state → IsSeen (after_turn config start log state turn)
  seen_turn state (account.take call front request) may seen = record {
    ended = up_to_later state.front front state.ended may.onward seen.ended;
    before = (up_to_later state.front front state.ended may.onward seen.ended, seen.before);
  }
  seen_turn state (account.done call front h items fill) may seen =
      subst (λ (found : Option OpenCall). IsSeen (option_map_or (after_done start log state front h items) found state)) (sym may.next.1) (record {
        ended = (
          all_weaker (λ m. (may.next.0.front < m) × (m ≤ front)) (λ m. m ≤ front) (λ m is. is.1) (own_moments_of items) (own_up_to may.next.0 front h items state may.next.3),
          up_to_later state.front front state.ended may.onward seen.ended,
        );
        before = all_others (λ (o : OpenCall). AllUpTo o.front o.before) (λ (o : OpenCall). AllUpTo o.front o.before) may.next.0.call.lane (λ o differ is. is) state.opened seen.before;
      })
  seen_turn state (account.tick front seconds) may seen = record { ended = up_to_later state.front front state.ended may.onward seen.ended; before = seen.before }

  seen_along : (state : JournalState) (turns : Account) → Follows config start log state turns → IsSeen state → IsSeen (after_turns config start log state turns)
  seen_along state [] follows seen = seen
  seen_along state (turn ∷ turns) follows seen = seen_along (after_turn config start log state turn) turns follows.1 (seen_turn state turn follows.0 seen)

  -- ---- a call that is done later
  -- It was under way by then, with all these calls done; which it had seen nothing of since its take, nor they of it.
  record IsDoneLater (base : List EndedCall) (e : EndedCall) : Type 0 where
    front : ℕ
    o : OpenCall
    since : List EndedCall
    unseen : AllByRecursion (λ (d : EndedCall). AreUnseen start (take front log) e.own d.own) since
    later : AllByRecursion (λ m. (o.front < m) × (m ≤ front)) e.own
    before : AllUpTo o.front o.before
    others : (d : EndedCall) → Contains base d → (Contains since d ⊎ Contains o.before d) × AreUpTo front d.own

  -- where it is among more calls
  later_of : (base more : List EndedCall) (e : EndedCall) → ((d : EndedCall) → Contains base d → Contains more d) → IsDoneLater more e → IsDoneLater base e
  later_of base more e grown late = record {
    front = late.front;
    o = late.o;
    since = late.since;
    unseen = late.unseen;
    later = late.later;
    before = late.before;
    others = λ d there. late.others d (grown d there);
  }

  done_now : (state : JournalState) (front : ℕ) (h : How) (items : List Item) (o : OpenCall) → state.front ≤ front → IsSeen state → IsInTurn state o → AllUpTo o.front o.before
      → MayBeDone start log state o front h items → IsDoneLater state.ended (ended_by start log state.mount o h items)
  done_now state front h items o onward seen turn before may = record {
    front = front;
    o = o;
    since = turn.since;
    unseen = may.settled turn.since turn.earlier;
    later = own_up_to o front h items state may;
    before = before;
    others = λ d there. (
      contains_either turn.since o.before d (subst (λ (calls : List EndedCall). Contains calls d) turn.earlier there),
      contains_all (λ (e : EndedCall). AreUpTo front e.own) state.ended d there (up_to_later state.front front state.ended onward seen.ended),
    );
  }

  -- a call that is done in the end was done by then, or is later
  then_or_later : (state : JournalState) (turns : Account) (e : EndedCall) → Follows config start log state turns → IsSeen state → InTurn state
      → Contains (after_turns config start log state turns).ended e → Contains state.ended e ⊎ IsDoneLater state.ended e
  then_or_later state [] e follows seen turn there = inl there
  then_or_later state (account.take call front request ∷ turns) e follows seen turn there =
      then_or_later (after_turn config start log state (account.take call front request)) turns e follows.1
      (seen_turn state (account.take call front request) follows.0 seen) (in_turn_after config start log state (account.take call front request) follows.0 turn) there
  then_or_later state (account.tick front seconds ∷ turns) e follows seen turn there =
      then_or_later (after_turn config start log state (account.tick front seconds)) turns e follows.1
      (seen_turn state (account.tick front seconds) follows.0 seen) (in_turn_after config start log state (account.tick front seconds) follows.0 turn) there
  then_or_later state (account.done call front h items fill ∷ turns) e follows seen turn there =
      by (then_or_later (after_turn config start log state (account.done call front h items fill)) turns e follows.1
      (seen_turn state (account.done call front h items fill) follows.0 seen) (in_turn_after config start log state (account.done call front h items fill) follows.0 turn) there)
    where
      its : OpenCall
      its = follows.0.next.0

      is_open : open_of state.opened its.call.lane ≡ Some its
      is_open = ap (λ (c : CallId). open_of state.opened c.lane) follows.0.next.2 ∙ follows.0.next.1

      ended_is : (after_turn config start log state (account.done call front h items fill)).ended ≡ ended_by start log state.mount its h items ∷ state.ended
      ended_is = ap (λ (found : Option OpenCall). (option_map_or (after_done start log state front h items) found state).ended) follows.0.next.1

      now : IsDoneLater state.ended (ended_by start log state.mount its h items)
      now = done_now state front h items its follows.0.onward seen
          (at_lane (IsInTurn state) state.opened its.call.lane its is_open turn)
          (at_lane (λ (o : OpenCall). AllUpTo o.front o.before) state.opened its.call.lane its is_open seen.before) follows.0.next.3

      first_or_rest : (d : EndedCall) → Contains (ended_by start log state.mount its h items ∷ state.ended) d → (ended_by start log state.mount its h items ≡ d) ⊎ Contains state.ended d
      first_or_rest d (zero, within, is) = inl is
      first_or_rest d (suc k, within, is) = inr (k, omega arith, is)

      by : Contains (after_turn config start log state (account.done call front h items fill)).ended e
          ⊎ IsDoneLater (after_turn config start log state (account.done call front h items fill)).ended e
          → Contains state.ended e ⊎ IsDoneLater state.ended e
      by (inr late) = inr (later_of state.ended (after_turn config start log state (account.done call front h items fill)).ended e
          (λ d there. subst (λ (calls : List EndedCall). Contains calls d) (sym ended_is) (contains_later _ state.ended d there)) late)
      by (inl found) = on (first_or_rest e (subst (λ (calls : List EndedCall). Contains calls e) ended_is found))
        where
          on : (ended_by start log state.mount its h items ≡ e) ⊎ Contains state.ended e → Contains state.ended e ⊎ IsDoneLater state.ended e
          on (inl same) = inr (subst (IsDoneLater state.ended) same now)
          on (inr earlier) = inl earlier

-- ---- what a stat shows
-- a change that is unseen by a log that is cut behind both is unseen
module _ (start : BucketState) (log : List LogEvent) (upto : ℕ) where
  cut_same : take upto (take upto log) ≡ take upto log
  cut_same = take-take upto upto log (omega arith)

  unseen_at : (moment changed : ℕ) (event : LogEvent) (name : List ℕ) → moment ≤ upto → changed < moment → event_at log moment ≡ Some event → event.op ≡ stat name
      → (changed < moment → IfSome (event_at (take upto log) moment) (λ (e : LogEvent). IsUnseen start (take upto log) changed e.op)) → Changes start log changed name → ⊥
  unseen_at moment changed event name within earlier there op unseen change =
      subst (IsUnseen start (take upto log) changed) op
      (subst (λ found. IfSome found (λ (e : LogEvent). IsUnseen start (take upto log) changed e.op)) (event_same start (take upto log) log upto cut_same moment within ∙ there) (unseen earlier))
      (λ is. change (now ∙ (is ∙ before)))
    where
      now : object_at (state_at start log changed) name ≡ object_at (state_at start (take upto log) changed) name
      now = sym (ap (λ b. object_at b name) (state_same start (take upto log) log upto cut_same changed (omega arith)))

      before : object_at (state_at start (take upto log) (changed - 1)) name ≡ object_at (state_at start log (changed - 1)) name
      before = ap (λ b. object_at b name) (state_same start (take upto log) log upto cut_same (changed - 1) (omega arith))

  nothing_seen : (own others : List ℕ) (moment changed : ℕ) (event : LogEvent) (name : List ℕ) → SeesNothingOf start (take upto log) own others → Contains own moment → Contains others changed
      → moment ≤ upto → changed < moment → event_at log moment ≡ Some event → event.op ≡ stat name → Changes start log changed name → ⊥
  nothing_seen own others moment changed event name sees mine theirs within earlier there op =
      unseen_at moment changed event name within earlier there op
      (contains_all (λ c. c < moment → IfSome (event_at (take upto log) moment) (λ (e : LogEvent). IsUnseen start (take upto log) c e.op)) others changed theirs
      (contains_all (λ m. AllByRecursion (λ c. c < m → IfSome (event_at (take upto log) m) (λ (e : LogEvent). IsUnseen start (take upto log) c e.op)) others) own moment mine sees))

-- ---- at last
module _ (config : Config) (start : BucketState) (log : List LogEvent) (state : JournalState) (o : OpenCall) (front : ℕ) (h : How) (items : List Item)
    (onward : state.front ≤ front) (seen : IsSeen state) (turn : IsInTurn state o) (may : MayBeDone start log state o front h items)
    (moment : ℕ) (event : LogEvent) (name : List ℕ) (own : Contains (own_moments_of items) moment) (there : event_at log moment ≡ Some event) (op : event.op ≡ stat name)
    (changed : ℕ) (change : LogEvent) (earlier : changed < moment) (change_is : Changes start log changed name) where
  abbrev mine : EndedCall
  mine = ended_by start log state.mount o h items

  own_is : (o.front < moment) × (moment ≤ front)
  own_is = contains_all (λ m. (o.front < m) × (m ≤ front)) (own_moments_of items) moment own (own_up_to config start log o front h items state may)

  -- by a call that was done by then
  of_then : (e : EndedCall) → Contains (mine ∷ state.ended) e → Contains e.own changed → e.call.lane ≡ change.lane → IsKnownTo o changed change
  of_then e (zero, within, is) its lane = inl (
    subst (λ (x : EndedCall). change.lane ≡ x.call.lane) (sym (let same : mine ≡ e = is in same)) (sym lane),
    (contains_all (λ m. (o.front < m) × (m ≤ front)) (own_moments_of items) changed (subst (λ (x : EndedCall). Contains x.own changed) (sym (let same : mine ≡ e = is in same)) its)
        (own_up_to config start log o front h items state may)).0,
  )
  of_then e (suc k, within, is) its lane = by (contains_either turn.since o.before e (subst (λ (calls : List EndedCall). Contains calls e) turn.earlier (k, omega arith, is)))
    where
      by : Contains turn.since e ⊎ Contains o.before e → IsKnownTo o changed change
      by (inr known) = inr (e, known, its)
      by (inl late) = absurd (nothing_seen start log front (own_moments_of items) e.own moment changed event name
          (contains_all (λ (d : EndedCall). AreUnseen start (take front log) (own_moments_of items) d.own) turn.since e late (may.settled turn.since turn.earlier)).mine
          own its own_is.1 earlier there op change_is)

  -- by none that is done later
  of_later : (e : EndedCall) → IsDoneLater config start log (mine ∷ state.ended) e → Contains e.own changed → ⊥
  of_later e late its = by (late.others mine (zero, omega arith, refl))
    where
      by : (Contains late.since mine ⊎ Contains late.o.before mine) × AreUpTo late.front mine.own → ⊥
      by (inl beside, within) = nothing_seen start log late.front mine.own e.own moment changed event name
          (contains_all (λ (d : EndedCall). AreUnseen start (take late.front log) e.own d.own) late.since mine beside late.unseen).theirs
          own its (contains_all (λ m. m ≤ late.front) mine.own moment own within) earlier there op change_is
      by (inr before, within) =
          let first : moment ≤ late.o.front = contains_all (λ m. m ≤ late.o.front) mine.own moment own (contains_all (λ (d : EndedCall). AreUpTo late.o.front d.own) late.o.before mine before late.before) in
          let after : late.o.front < changed = (contains_all (λ m. (late.o.front < m) × (m ≤ late.front)) e.own changed its late.later).0 in
          omega (arith, earlier)

pub settled_at_last : SettledAtLast
settled_at_last config start log turns more o front h items fill moment event name follows idle covers is_open own there op changed change earlier change_there among change_is =
    by (of_lane last.ended change.lane changed (subst (λ made. Contains made changed) covered (own_contains log changed change change_there)))
  where
    state : JournalState
    state = reached config start log turns

    turn : Turn
    turn = done_of o front h items fill

    last : JournalState
    last = reached config start log (turns ++ done_of o front h items fill ∷ more)

    first : Follows config start log first_journal turns
    first = Follows-first config start log first_journal turns (done_of o front h items fill ∷ more) follows

    rest : Follows config start log (reached config start log turns) (done_of o front h items fill ∷ more)
    rest = Follows-rest config start log first_journal turns (done_of o front h items fill ∷ more) follows

    its : rest.0.next.0 ≡ o
    its = let both : Some rest.0.next.0 ≡ Some o = sym rest.0.next.1 ∙ is_open in cc

    may : MayBeDone start log (reached config start log turns) o front h items
    may = subst (λ (x : OpenCall). MayBeDone start log (reached config start log turns) x front h items) its rest.0.next.3

    seen : IsSeen (reached config start log turns)
    seen = seen_along config start log first_journal turns first (record { ended = tt; before = tt })

    in_turn : InTurn (reached config start log turns)
    in_turn = lanes_are_in_turn config start log turns first

    after_is : after_turn config start log (reached config start log turns) (done_of o front h items fill) ≡ after_done start log (reached config start log turns) front h items o
    after_is = ap (λ (found : Option OpenCall). option_map_or (after_done start log (reached config start log turns) front h items) found (reached config start log turns)) is_open

    last_is : reached config start log (turns ++ done_of o front h items fill ∷ more) ≡ after_turns config start log (after_turn config start log (reached config start log turns) (done_of o front h items fill)) more
    last_is = after_turns-append config start log first_journal turns (done_of o front h items fill ∷ more)

    covered : own_moments log change.lane 0 (length log) ≡ ended_own (reached config start log (turns ++ done_of o front h items fill ∷ more)).ended change.lane
    covered = covers change.lane among
        ∙ (ap (λ opened. ended_own (reached config start log (turns ++ done_of o front h items fill ∷ more)).ended change.lane ++ open_own log opened change.lane) idle
        ∙ append-nil (ended_own (reached config start log (turns ++ done_of o front h items fill ∷ more)).ended change.lane))

    by : IsOfLane (reached config start log (turns ++ done_of o front h items fill ∷ more)).ended change.lane changed → IsKnownTo o changed change
    by whose = on (then_or_later config start log (after_turn config start log (reached config start log turns) (done_of o front h items fill)) more whose.call rest.1
        (seen_turn config start log (reached config start log turns) (done_of o front h items fill) rest.0 seen)
        (in_turn_after config start log (reached config start log turns) (done_of o front h items fill) rest.0 in_turn)
        (subst (λ (s : JournalState). Contains s.ended whose.call) last_is whose.there))
      where
        at_done : IsInTurn (reached config start log turns) o
        at_done = at_lane (IsInTurn (reached config start log turns)) (reached config start log turns).opened o.call.lane o is_open in_turn

        on : Contains (after_turn config start log (reached config start log turns) (done_of o front h items fill)).ended whose.call
            ⊎ IsDoneLater config start log (after_turn config start log (reached config start log turns) (done_of o front h items fill)).ended whose.call → IsKnownTo o changed change
        on (inl found) = of_then config start log (reached config start log turns) o front h items rest.0.onward seen at_done may moment event name own there op changed change earlier change_is whose.call
            (subst (λ (s : JournalState). Contains s.ended whose.call) after_is found) whose.its whose.lane_is
        on (inr late) = absurd (of_later config start log (reached config start log turns) o front h items rest.0.onward seen at_done may moment event name own there op changed change earlier change_is whose.call
            (subst (λ (s : JournalState). IsDoneLater config start log s.ended whose.call) after_is late) whose.its)
