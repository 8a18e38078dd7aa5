-- Accounts turn by turn: in parts, and over logs that are the same up to a front.
use Rattle.std.proofs.Common.{◌≡◌, ℕ, ◌≤◌, List, [], ◌∷◌, ◌++◌, take, refl, sym, ap, subst, ◌∙◌, arith}
use Rattle.std.specs.List.{AllByRecursion}
use Rattle.std.specs.Option.{option_map_or}
use Rattle.bucket_api.specs.BucketState.{BucketState}
use Rattle.bucket_api.specs.LogEvent.{LogEvent}
use Rattle.history_spec.specs.Account as account
use Rattle.history_spec.specs.Account.{Account, Item, Turn, front_of, moment_of, own_moments_of}
use Rattle.history_spec.specs.Fits.{EndsBy, Follows, HasWalked, IsNext, MayBeDone, MayFollow, plan_of}
use Rattle.history_spec.specs.JournalState.{EndedCall, JournalState, OpenCall, after_done, after_turn, after_turns, mount_by, others_of, reply_by, taken_by, with_taken}
use Rattle.history_spec.specs.Looks.{AreUnseen}
use Rattle.history_spec.specs.Pasts.{past_by}
use Rattle.history_spec.proofs.Agreeing.{at_same, own_same, past_same, seen_same, taken_same}
use Rattle.history_spec.proofs.OwnMoments.{all_weaker}
use Rattle.history_spec.proofs.Walking.{IsWalk, IsWalk-walked, Walked-walks, walked_same}
use Rattle.mount_model.specs.Observing.{Observed}
use Rattle.mount_model.specs.declared.config.Config.{Config}
use Rattle.mount_model.specs.declared.journal.How.{How}
use Rattle.mount_model.specs.declared.journal.How.TheVariants as how
use Rattle.mount_rules.specs.Dispatch.{mount_after, reply_to}
use Rattle.mount_rules.specs.Overlap.{opened_at}
use Rattle.mount_rules.specs.Plans.{Plan}
use Rattle.record_spec.specs.Past.{Past}

-- ---- what a turn leaves of fronts
module _ (config : Config) (start : BucketState) (log : List LogEvent) where
  pub front_after : (state : JournalState) (turn : Turn) → MayFollow start log state turn → (after_turn config start log state turn).front ≡ front_of turn
  front_after state (account.take call front request) may = refl
  front_after state (account.done call front h items fill) may =
      ap (λ found. (option_map_or (after_done start log state front h items) found state).front) may.next.1
  front_after state (account.tick front seconds) may = refl

  -- fronts never fall
  pub fronts_rise : (state : JournalState) (turns : Account) → Follows config start log state turns → state.front ≤ (after_turns config start log state turns).front
  fronts_rise state [] follows = omega arith
  fronts_rise state (turn ∷ turns) follows =
      let onward : state.front ≤ front_of turn = follows.0.onward in
      let is : (after_turn config start log state turn).front ≡ front_of turn = front_after state turn follows.0 in
      let later : (after_turn config start log state turn).front ≤ (after_turns config start log (after_turn config start log state turn) turns).front =
      fronts_rise (after_turn config start log state turn) turns follows.1 in
      omega arith

  -- ---- in parts
  pub after_turns-append : (state : JournalState) (turns more : Account)
      → after_turns config start log state (turns ++ more) ≡ after_turns config start log (after_turns config start log state turns) more
  after_turns-append state [] more = refl
  after_turns-append state (turn ∷ turns) more = after_turns-append (after_turn config start log state turn) turns more

  pub Follows-append : (state : JournalState) (turns more : Account) → Follows config start log state turns
      → Follows config start log (after_turns config start log state turns) more → Follows config start log state (turns ++ more)
  Follows-append state [] more follows later = later
  Follows-append state (turn ∷ turns) more follows later = (follows.0, Follows-append (after_turn config start log state turn) turns more follows.1 later)

  pub Follows-first : (state : JournalState) (turns more : Account) → Follows config start log state (turns ++ more) → Follows config start log state turns
  Follows-first state [] more follows = tt
  Follows-first state (turn ∷ turns) more follows = (follows.0, Follows-first (after_turn config start log state turn) turns more follows.1)

  pub Follows-rest : (state : JournalState) (turns more : Account) → Follows config start log state (turns ++ more)
      → Follows config start log (after_turns config start log state turns) more
  Follows-rest state [] more follows = follows
  Follows-rest state (turn ∷ turns) more follows = Follows-rest (after_turn config start log state turn) turns more follows.1

-- ---- over logs that are the same up to a front
module _ (start : BucketState) (one other : List LogEvent) (upto : ℕ) (same : take upto one ≡ take upto other) where
  -- the items of a call that has walked so far by then tell of moments up to there
  pub walk_within : (plan : Plan) (o : OpenCall) (front : ℕ) (items : List Item) → front ≤ upto → HasWalked start one plan o front items
      → AllByRecursion (λ item. moment_of item ≤ upto) items
  walk_within plan o front items within walk = all_weaker (λ item. moment_of item ≤ front) (λ item. moment_of item ≤ upto) (λ item is. omega (arith, is, within)) items walk.within

  pub walk_same : (plan : Plan) (o : OpenCall) (front : ℕ) (items : List Item) → front ≤ upto → HasWalked start one plan o front items
      → HasWalked start other plan o front items
  walk_same plan o front items within walk = record {
    told = over.told;
    within = walk.within;
    walked = over.walked;
    own = walk.own ∙ own_same start one other upto same o.call.lane o.front front within;
  }
    where
      over : IsWalk start other o plan items
      over = IsWalk-walked start other o plan items
          (walked_same start one other upto same o plan items (walk_within plan o front items within walk)
          (Walked-walks start one o plan items walk.told walk.walked))

module _ (config : Config) (start : BucketState) (one other : List LogEvent) (upto : ℕ) (same : take upto one ≡ take upto other) where
  done_same : (state : JournalState) (o : OpenCall) (front : ℕ) (h : How) (items : List Item) → front ≤ upto → MayBeDone start one state o front h items
      → MayBeDone start other state o front h items
  done_same state o front h items within may = record {
    walk = walk_same start one other upto same (plan_of state o) o front items within may.walk;
    settled = λ since earlier. subst (λ events. AllByRecursion (λ (e : EndedCall). AreUnseen start events (own_moments_of items) e.own) since)
        (taken_same start one other upto same front within) (may.settled since earlier);
    ends = subst (EndsBy h (plan_of state o)) (seen_same start one other upto same items (walk_within start one other upto same (plan_of state o) o front items within may.walk)) may.ends;
  }

  next_same : (state : JournalState) (turn : Turn) → front_of turn ≤ upto → IsNext start one state turn → IsNext start other state turn
  next_same state (account.take call front request) within next = next
  next_same state (account.done call front h items fill) within next = (next.0, next.1, next.2, done_same state next.0 front h items within next.3)
  next_same state (account.tick front seconds) within next = next

  after_done_same : (state : JournalState) (front : ℕ) (h : How) (items : List Item) (o : OpenCall) → AllByRecursion (λ item. moment_of item ≤ upto) items
      → after_done start one state front h items o ≡ after_done start other state front h items o
  after_done_same state front how.Ok items o within =
      ap (λ (s : List Observed). record state {
        mount = mount_after o.taken.at state.mount o.taken.request s;
        front = front;
        opened = others_of state.opened o.call.lane;
        ended = record { call = o.call; own = own_moments_of items; past = past_by start one o.clock items; reply = reply_to o.taken.at state.mount o.taken.request s } ∷ state.ended;
      }) (seen_same start one other upto same items within)
      ∙ ap (λ (past : Past). record state {
        mount = mount_by start other state.mount o how.Ok items;
        front = front;
        opened = others_of state.opened o.call.lane;
        ended = record { call = o.call; own = own_moments_of items; past = past; reply = reply_by start other state.mount o how.Ok items } ∷ state.ended;
      }) (past_same start one other upto same o.clock items within)
  after_done_same state front how.NoMemory items o within =
      ap (λ (past : Past). record state {
        front = front;
        opened = others_of state.opened o.call.lane;
        ended = record { call = o.call; own = own_moments_of items; past = past; reply = reply_by start other state.mount o how.NoMemory items } ∷ state.ended;
      }) (past_same start one other upto same o.clock items within)

  after_same : (state : JournalState) (turn : Turn) → front_of turn ≤ upto → IsNext start one state turn
      → after_turn config start one state turn ≡ after_turn config start other state turn
  after_same state (account.take call front request) within next =
      ap (λ at. with_taken state (taken_by state call front (opened_at at state.mount request)))
      (at_same start one other upto same config state.clock front within)
  after_same state (account.done call front h items fill) within next =
      ap (λ found. option_map_or (after_done start one state front h items) found state) next.1
      ∙ (after_done_same state front h items next.0 (walk_within start one other upto same (plan_of state next.0) next.0 front items within next.3.walk)
      ∙ sym (ap (λ found. option_map_or (after_done start other state front h items) found state) next.1))
  after_same state (account.tick front seconds) within next = refl

  pub record StaysSame (state : JournalState) (turns : Account) : Type 0 where
    pub follows : Follows config start other state turns
    pub reaches : after_turns config start other state turns ≡ after_turns config start one state turns

  pub stays_same : (state : JournalState) (turns : Account) → Follows config start one state turns → (after_turns config start one state turns).front ≤ upto
      → StaysSame state turns
  stays_same state [] follows within = record { follows = tt; reaches = refl }
  stays_same state (turn ∷ turns) follows within = with_first (stays_same (after_turn config start one state turn) turns follows.1 within)
    where
      here : front_of turn ≤ upto
      here =
          let is : (after_turn config start one state turn).front ≡ front_of turn = front_after config start one state turn follows.0 in
          let later : (after_turn config start one state turn).front ≤ (after_turns config start one (after_turn config start one state turn) turns).front =
          fronts_rise config start one (after_turn config start one state turn) turns follows.1 in
          omega arith

      with_first : StaysSame (after_turn config start one state turn) turns → StaysSame state (turn ∷ turns)
      with_first later = record {
        follows = (
          record { onward = follows.0.onward; next = next_same state turn here follows.0.next },
          subst (λ s. Follows config start other s turns) (after_same state turn here follows.0.next) later.follows,
        );
        reaches = ap (λ s. after_turns config start other s turns) (sym (after_same state turn here follows.0.next)) ∙ later.reaches;
      }
