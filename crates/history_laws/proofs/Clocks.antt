-- When the calls of an account were taken, and what lifetimes records have for them: a record of an object serves nobody where
-- records of objects serve for no time.
use Rattle.std.proofs.Common.{◌≡◌, ◌≢◌, ◌+◌, ◌<◌, ◌≤◌, ℕ, Bool, true, false, All, List, [], ◌∷◌, ◌++◌, length, Option, Some, None, refl, ap, ◌∙◌, arith}
use Rattle.std.proofs.lemmas.Bool.Decides.{Decides-eqb}
use Rattle.std.proofs.lemmas.List.Elements.{All-append, All-cons, All-contains, All-head, All-nil, All-tail, All-weaker}
use Rattle.std.specs.List.{AllByRecursion, cons_option}
use Rattle.std.specs.Option.{option_map_or}
use Rattle.std.specs.Prelude.{if◌then◌else◌, option_and_then, option_map, ◌==◌}
use Rattle.bucket_api.specs.BucketState.{BucketState}
use Rattle.bucket_api.specs.Listing.{ends_in_slash}
use Rattle.bucket_api.specs.LogEvent.{LogEvent}
use Rattle.bucket_api.specs.Operation.{Operation}
use Rattle.history_spec.proofs.Lanes.{all_others, at_lane}
use Rattle.history_spec.specs.Account as account
use Rattle.history_spec.specs.Account.{Account, Item, Turn, looked, made, moment_of, recalled}
use Rattle.history_spec.specs.JournalState.{JournalState, OpenCall, after_done, after_turn, after_turns, first_journal, open_of, past_of, reached}
use Rattle.history_spec.specs.Looks.{MayRecall}
use Rattle.history_spec.specs.Observing.{observed_at}
use Rattle.history_spec.specs.Pasts.{key_of, lifetime_of, saw, shown_of, told_by}
use Rattle.mount_model.specs.Observing.{Observed}
use Rattle.mount_model.specs.declared.config.Config.{Config}
use Rattle.object_names.specs.Paths.{IsPath}
use Rattle.record_spec.specs.Past.{Past}
use Rattle.record_spec.specs.RecordList.{Key}
use Rattle.record_spec.specs.declared.records.Record.{Record}
use Rattle.record_spec.specs.declared.records.Shown.{Shown}

-- ---- a path is no directory's key
ends_part : (part : List ℕ) → 1 ≤ length part → All (λ byte. byte ≢ 47) part → ends_in_slash part ≡ false
ends_part [] named none = absurd (omega (arith, named))
ends_part (b ∷ []) named none = by (b == 47) refl
  where
    by : (same : Bool) → (b == 47) ≡ same → (b == 47) ≡ false
    by true is = absurd (All-head (λ byte. byte ≢ 47) b [] none ((Decides-eqb b 47).0 is))
    by false is = is
ends_part (b ∷ c ∷ bs) named none = ends_part (c ∷ bs) (omega arith) (All-tail (λ byte. byte ≢ 47) b (c ∷ bs) none)

ends_more : (b : ℕ) (rest : List ℕ) → 1 ≤ length rest → ends_in_slash (b ∷ rest) ≡ ends_in_slash rest
ends_more b [] some = absurd (omega (arith, some))
ends_more b (c ∷ rest) some = refl

ends_child : (prefix part : List ℕ) → 1 ≤ length part → ends_in_slash (prefix ++ part) ≡ ends_in_slash part
ends_child [] part named = refl
ends_child (b ∷ prefix) part named = ends_more b (prefix ++ part) (some prefix) ∙ ends_child prefix part named
  where
    some : (xs : List ℕ) → 1 ≤ length (xs ++ part)
    some [] = named
    some (x ∷ xs) = omega arith

pub path_no_slash : (path : List ℕ) → IsPath path → ends_in_slash path ≡ false
path_no_slash path is = ap ends_in_slash is.is ∙ (ends_child is.prefix is.part is.child.named ∙ ends_part is.part is.child.named is.child.no_slash)

-- ---- along an account
-- what these calls saw, they saw by calls that were taken by then
abbrev pub IsBy : ℕ → Past → Type 0
IsBy clock past = All (λ (u : Key × Record). u.1.tick ≤ clock) past.seen

pub record IsTakenIn (config : Config) (clock : ℕ) (o : OpenCall) : Type 0 where
  pub settings : o.taken.at.config ≡ config
  pub taken : o.clock ≤ clock
  pub earlier : IsBy o.clock (past_of o.before)

pub record Clocks (config : Config) (state : JournalState) : Type 0 where
  pub ended : IsBy state.clock (past_of state.ended)
  pub opened : AllByRecursion (IsTakenIn config state.clock) state.opened

weaker_taken : (config : Config) (one other : ℕ) → one ≤ other → (os : List OpenCall) → AllByRecursion (IsTakenIn config one) os → AllByRecursion (IsTakenIn config other) os
weaker_taken config one other within [] all = tt
weaker_taken config one other within (o ∷ os) all =
    let taken : o.clock ≤ one = all.0.taken in
    (record { settings = all.0.settings; taken = omega (arith, taken, within); earlier = all.0.earlier }, weaker_taken config one other within os all.1)

module _ (start : BucketState) (log : List LogEvent) (clock : ℕ) where
  abbrev BySaw : Key × Record → Type 0
  BySaw u = u.1.tick ≤ clock

  saw_by : (items : List Item) → All BySaw (told_by start log (saw clock) items)
  saw_by [] = All-nil BySaw
  saw_by (item ∷ items) = by item (observed_at start log (moment_of item)) (saw_by items)
    where
      shows : (key : Key) (moment : ℕ) (shown : Option Shown) (more : List (Key × Record)) → All BySaw more
          → All BySaw (cons_option (option_map (λ s. (key, record { moment = moment; tick = clock; shown = s })) shown) more)
      shows key moment None more all = all
      shows key moment (Some s) more all = All-cons BySaw (key, record { moment = moment; tick = clock; shown = s }) more (omega arith) all

      by : (i : Item) (seen : Option Observed) → All BySaw (told_by start log (saw clock) items)
          → All BySaw (cons_option (option_and_then (saw clock i) seen) (told_by start log (saw clock) items))
      by i None all = all
      by (looked moment kept) (Some o) all = shows (key_of o.op) moment (shown_of o.answer) (told_by start log (saw clock) items) all
      by (recalled moment) (Some o) all = all
      by (made moment) (Some o) all = all

module _ (config : Config) (start : BucketState) (log : List LogEvent) where
  clocks_turn : (state : JournalState) (turn : Turn) → Clocks config state → Clocks config (after_turn config start log state turn)
  clocks_turn state (account.take call front request) clocks = record {
    ended = clocks.ended;
    opened = (record { settings = refl; taken = omega arith; earlier = clocks.ended }, clocks.opened);
  }
  clocks_turn state (account.done call front h items fill) clocks = by (open_of state.opened call.lane) refl
    where
      by : (found : Option OpenCall) → open_of state.opened call.lane ≡ found → Clocks config (option_map_or (after_done start log state front h items) found state)
      by None is = clocks
      by (Some o) is =
          let taken : o.clock ≤ state.clock = (at_lane (IsTakenIn config state.clock) state.opened call.lane o is clocks.opened).taken in
          record {
            ended = All-append (λ (u : Key × Record). u.1.tick ≤ state.clock) (told_by start log (saw o.clock) items) (past_of state.ended).seen
                (All-weaker (λ (u : Key × Record). u.1.tick ≤ o.clock) (λ (u : Key × Record). u.1.tick ≤ state.clock) (λ u by. omega (arith, by, taken))
                (told_by start log (saw o.clock) items) (saw_by start log o.clock items))
                clocks.ended;
            opened = all_others (IsTakenIn config state.clock) (IsTakenIn config state.clock) o.call.lane (λ x differ its. its) state.opened clocks.opened;
          }
  clocks_turn state (account.tick front seconds) clocks = record {
    ended = All-weaker (λ (u : Key × Record). u.1.tick ≤ state.clock) (λ (u : Key × Record). u.1.tick ≤ state.clock + seconds) (λ u by. omega (arith, by))
        (past_of state.ended).seen clocks.ended;
    opened = weaker_taken config state.clock (state.clock + seconds) (omega arith) state.opened clocks.opened;
  }

  clocks_from : (state : JournalState) (turns : Account) → Clocks config state → Clocks config (after_turns config start log state turns)
  clocks_from state [] clocks = clocks
  clocks_from state (turn ∷ turns) clocks = clocks_from (after_turn config start log state turn) turns (clocks_turn state turn clocks)

  pub clocks : (turns : Account) → Clocks config (reached config start log turns)
  clocks turns = clocks_from first_journal turns (record { ended = All-nil (λ (u : Key × Record). u.1.tick ≤ 0); opened = tt })

-- where records of objects serve for no time, none serves a look at an object
pub none_serves : (config : Config) (clock : ℕ) (o : OpenCall) (op : Operation) (moment : ℕ) → config.stat_lifetime ≡ 0 → IsTakenIn config clock o
    → ends_in_slash (key_of op) ≡ false → MayRecall o op moment → ⊥
none_serves config clock o op moment never taken object may =
    let earlier : may.r.tick ≤ o.clock =
    All-contains (λ (u : Key × Record). u.1.tick ≤ o.clock) (past_of o.before).seen (key_of op, may.r) taken.earlier may.lawful.shown in
    let lives : o.clock < may.r.tick + lifetime_of o.taken.at.config (key_of op) = may.lawful.live in
    let short : lifetime_of o.taken.at.config (key_of op) ≡ 0 =
    ap (λ (c : Config). lifetime_of c (key_of op)) taken.settings ∙ (ap (λ (b : Bool). if b then config.type_lifetime else config.stat_lifetime) object ∙ never) in
    omega (arith, earlier, lives, short)
