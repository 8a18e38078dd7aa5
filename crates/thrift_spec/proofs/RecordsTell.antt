-- What a record shows is what the log tells of its moment.
use Rattle.std.proofs.Common.{◌≡◌, ℕ, ◌≤◌, All, Bool, IfSome, List, [], ◌∷◌, Option, Some, None, refl, sym, subst, arith}
use Rattle.std.proofs.lemmas.List.Elements.{All-append, All-cons, All-contains, All-nil, All-weaker}
use Rattle.std.specs.List.{AllByRecursion, cons_option}
use Rattle.std.specs.Option.{option_map_or}
use Rattle.std.specs.Prelude.{option_and_then, option_map}
use Rattle.bucket_api.specs.BucketState.{BucketState}
use Rattle.bucket_api.specs.LogEvent.{LogEvent}
use Rattle.history_spec.proofs.Walking.{Walked, Walked-walks}
use Rattle.history_spec.specs.Account as account
use Rattle.history_spec.specs.Account.{Account, Item, Turn, front_of, looked, made, moment_of, recalled}
use Rattle.history_spec.specs.Fits.{Follows, IsAccount, MayBeDone, MayFollow, plan_of}
use Rattle.history_spec.specs.JournalState.{JournalState, OpenCall, after_done, after_turn, after_turns, first_journal, past_of, reached}
use Rattle.history_spec.specs.Looks.{IsLook}
use Rattle.history_spec.specs.Observing.{observed_at}
use Rattle.history_spec.specs.Pasts.{key_of, saw, shown_of, told_by}
use Rattle.mount_model.specs.Observing.{Observed}
use Rattle.mount_model.specs.declared.config.Config.{Config}
use Rattle.mount_model.specs.declared.journal.How.{How}
use Rattle.mount_rules.specs.Plans.{Plan, plan_after}
use Rattle.record_spec.proofs.KnownLaws.{live_record_is}
use Rattle.record_spec.specs.RecordList.{Key}
use Rattle.record_spec.specs.Steps.{live_record}
use Rattle.record_spec.specs.declared.records.Record.{Record}
use Rattle.record_spec.specs.declared.records.Shown.{Shown}
use Rattle.thrift_spec.proofs.OneCall.{keeps_up_at}
use Rattle.thrift_spec.specs.Records.{RecordsAreTold, records_at}
use Rattle.thrift_spec.specs.Recalls.{IsOfLog}

pub all_option : {X : Type 0} (P : X → Type 0) (found : Option X) (xs : List X) → IfSome found P → All P xs → All P (cons_option found xs)
all_option P None xs first rest = rest
all_option P (Some x) xs first rest = All-cons P x xs first rest

module _ (start : BucketState) (log : List LogEvent) where
  abbrev OfLog : ℕ → Key × Record → Type 0
  OfLog front u = IsOfLog start log front u.0 u.1

  later_front : (front later : ℕ) → front ≤ later → (seen : List (Key × Record)) → All (OfLog front) seen → All (OfLog later) seen
  later_front front later onward seen all = All-weaker (OfLog front) (OfLog later)
      (λ u is. record { observed = is.observed; is = is.is; look = is.look; key_is = is.key_is; shown = is.shown; within = let low : u.1.moment ≤ front = is.within in omega arith }) seen all

  -- ---- the end of a call
  module _ (o : OpenCall) (clock front : ℕ) where
    own_look : (moment : ℕ) (kept : Bool) (seen : Observed) → observed_at start log moment ≡ Some seen → IsLook seen.op → moment ≤ front
        → IfSome (saw clock (looked moment kept) seen) (OfLog front)
    own_look moment kept seen is look within = by (shown_of seen.answer) refl
      where
        by : (shown : Option Shown) → shown_of seen.answer ≡ shown
            → IfSome (option_map (λ s. (key_of seen.op, record { moment = moment; tick = clock; shown = s })) shown) (OfLog front)
        by None its = tt
        by (Some s) its = record { observed = seen; is = is; look = look; key_is = refl; shown = its; within = within }

    one_item : (plan : Plan) (item : Item) (items : List Item) (walked : Walked start log o plan (item ∷ items)) → moment_of item ≤ front → IfSome (saw clock item walked.0) (OfLog front)
    one_item plan (looked moment kept) items walked within = own_look moment kept walked.0 walked.1 walked.3 within
    one_item plan (recalled moment) items walked within = tt
    one_item plan (made moment) items walked within = tt

    items_show : (plan : Plan) (items : List Item) → Walked start log o plan items → AllByRecursion (λ item. moment_of item ≤ front) items
        → All (OfLog front) (told_by start log (saw clock) items)
    items_show plan [] walked within = All-nil (OfLog front)
    items_show plan (item ∷ items) walked within =
        all_option (OfLog front) (option_and_then (saw clock item) (observed_at start log (moment_of item))) (told_by start log (saw clock) items)
        (subst (λ seen. IfSome (option_and_then (saw clock item) seen) (OfLog front)) (sym walked.1) (one_item plan item items walked within.0))
        (items_show (plan_after plan walked.0.answer) items walked.4 within.1)

  -- ---- along an account
  abbrev TellsLog : JournalState → Type 0
  TellsLog state = All (OfLog state.front) (past_of state.ended).seen

  done_tells : (state : JournalState) (o : OpenCall) (front : ℕ) (h : How) (items : List Item) → state.front ≤ front → MayBeDone start log state o front h items → TellsLog state
      → TellsLog (after_done start log state front h items o)
  done_tells state o front h items onward may tells =
      All-append (OfLog front) (told_by start log (saw o.clock) items) (past_of state.ended).seen
      (items_show o o.clock front (plan_of state o) items (Walked-walks start log o (plan_of state o) items may.walk.told may.walk.walked) may.walk.within)
      (later_front state.front front onward (past_of state.ended).seen tells)

  module _ (config : Config) where
    turn_tells : (state : JournalState) (turn : Turn) → MayFollow start log state turn → TellsLog state → TellsLog (after_turn config start log state turn)
    turn_tells state (account.take call front request) may tells = later_front state.front front may.onward (past_of state.ended).seen tells
    turn_tells state (account.done call front h items fill) may tells =
        subst (λ found. TellsLog (option_map_or (after_done start log state front h items) found state)) (sym may.next.1)
        (done_tells state may.next.0 front h items may.onward may.next.3 tells)
    turn_tells state (account.tick front seconds) may tells = later_front state.front front may.onward (past_of state.ended).seen tells

    turns_tell : (state : JournalState) (turns : Account) → Follows config start log state turns → TellsLog state → TellsLog (after_turns config start log state turns)
    turns_tell state [] follows tells = tells
    turns_tell state (turn ∷ turns) follows tells = turns_tell (after_turn config start log state turn) turns follows.1 (turn_tells state turn follows.0 tells)

-- a record that lives in the list of an account
pub record_tells : (config : Config) (start : BucketState) (log : List LogEvent) (turns : Account) (key : Key) (now lifetime : ℕ) (r : Record)
    → IsAccount config start log turns → RecordsAreTold config start log turns → live_record (records_at config start log turns) key now lifetime ≡ Some r
    → IsOfLog start log (reached config start log turns).front key r
record_tells config start log turns key now lifetime r is told lives =
    All-contains (OfLog start log (reached config start log turns).front) (past_of (reached config start log turns).ended).seen (key, r)
    (turns_tell start log config first_journal turns is.follows (All-nil (OfLog start log 0)))
    ((keeps_up_at config start log turns told).shown key r (live_record_is (records_at config start log turns) key now lifetime r lives).0)
