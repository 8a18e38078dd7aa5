-- The account of a mount on one thread: there is one; and what a call, a write beside it and a tick add to it.
use Rattle.std.proofs.Common.{◌≡◌, ◌≤◌, ◌+◌, ℕ, zero, suc, Bool, true, false, All, List, [], ◌∷◌, ◌++◌, length, map, cond, Some, None, refl, sym, ap, subst, ◌∙◌, inl, inr, arith, append_assoc, append-nil, length-append, take}
use Rattle.std.proofs.lemmas.List.{append_cancel_right, map-append}
use Rattle.std.proofs.lemmas.List.Elements.{All-head, All-tail}
use Rattle.std.specs.List.{AllByRecursion}
use Rattle.std.specs.Option.{option_map_or}
use Rattle.std.specs.Prelude.{Contains, IsSome, is_some, not, ◌==◌}
use Rattle.bucket_api.specs.BucketState.{BucketState}
use Rattle.bucket_api.specs.LogEvent.{LogEvent}
use Rattle.bucket_api.specs.declared.events.Mode.{Mode}
use Rattle.fuse_replies.specs.declared.reply.Reply.{Reply}
use Rattle.history_laws.specs.Apart.{OneByOne}
use Rattle.history_spec.proofs.Calling.{call_is_added}
use Rattle.history_spec.proofs.JournalLaws.{entry_is_added, log_grows}
use Rattle.history_spec.proofs.LaneLaws.{event_keeps_covered, turn_keeps_covered}
use Rattle.history_spec.proofs.Lanes.{open_of-first, same_lane}
use Rattle.history_spec.proofs.OneAccount.{accounts_are_one}
use Rattle.history_spec.specs.Account as account
use Rattle.history_spec.specs.Account.{Account, Item, Turn, journal_of, own_moments_of, printed, uses_of}
use Rattle.history_spec.specs.Fits.{EndsBy, HasWalked, IsAccount, MayBeDone, MayFollow, plan_of}
use Rattle.history_spec.specs.JournalState.{EndedCall, JournalState, OpenCall, after_done, after_turn, at_front, ended_by, open_of, others_of, reached, reply_by, taken_by, with_taken}
use Rattle.history_spec.specs.Lanes.{IsCovered}
use Rattle.history_spec.specs.Laws.{GoesOn, IsAdded, IsTaken, StaysOver, done_of, take_of}
use Rattle.history_spec.specs.Looks.{AreUnseen, lanes_of}
use Rattle.history_spec.specs.Observing.{seen_by}
use Rattle.mount_core.specs.Lones.{Calls, LoneState, StillTells, Tells, TicksOn, come_to, first_lone, with_tick}
use Rattle.mount_model.specs.Journal as journal
use Rattle.mount_model.specs.Journal.{Entry}
use Rattle.mount_model.specs.declared.config.Config.{Config}
use Rattle.mount_model.specs.declared.journal.Fill.TheVariants as fill
use Rattle.mount_model.specs.declared.journal.How.{How}
use Rattle.mount_rules.specs.Overlap.{opened_at}
use Rattle.thrift_spec.specs.Records.{RecordsAreTold, records_at}
use Rattle.thrift_spec.specs.Thrift.{AllThrifty}

-- ---- one account
-- what tells all of it is one
pub account_is_one : (lone : LoneState) (one other : Account) → Tells lone one → Tells lone other → one ≡ other
account_is_one lone one other tells also =
    accounts_are_one lone.config lone.start lone.log one other tells.is.follows also.is.follows (tells.printed ∙ sym also.printed)

-- ---- one behind the other
one_by_one_on : (turns more : Account) → OneByOne turns → OneByOne more → OneByOne (turns ++ more)
one_by_one_on [] more one next = next
one_by_one_on (account.tick front seconds ∷ turns) more one next = one_by_one_on turns more one next
one_by_one_on (account.take call front request ∷ account.done ended behind h items fill ∷ turns) more one next = (one.0, one_by_one_on turns more one.1 next)
one_by_one_on (account.take call front request ∷ []) more one next = absurd one
one_by_one_on (account.take call front request ∷ account.take c f r ∷ turns) more one next = absurd one
one_by_one_on (account.take call front request ∷ account.tick f s ∷ turns) more one next = absurd one
one_by_one_on (account.done call front h items fill ∷ turns) more one next = absurd one

-- ---- elements
pub first_or_later : (x : ℕ) (xs : List ℕ) (P : ℕ → Type 0) (y : ℕ) → Contains (x ∷ xs) y → P x → (Contains xs y → P y) → P y
first_or_later x xs P y (zero, within, is) here later = subst P is here
first_or_later x xs P y (suc k, within, is) here later = later (k, omega arith, is)

-- ---- a lane is covered along its own events
covered_along : (config : Config) (start : BucketState) (log more : List LogEvent) (told : Account) (state : JournalState) (lane : ℕ)
    → IsAccount config start log told → reached config start log told ≡ state
    → All (λ (e : LogEvent). e.lane ≡ lane → IsSome (open_of state.opened lane)) more
    → IsCovered log state lane → IsCovered (log ++ more) state lane
covered_along config start log [] told state lane is reaches its covered = subst (λ events. IsCovered events state lane) (sym (append-nil log)) covered
covered_along config start log (e ∷ more) told state lane is reaches its covered =
    subst (λ events. IsCovered events state lane) (append_assoc log (e ∷ []) more)
    (covered_along config start (log ++ e ∷ []) more told state lane grown.is (grown.reaches ∙ reaches)
    (All-tail (λ (x : LogEvent). x.lane ≡ lane → IsSome (open_of state.opened lane)) e more its)
    (subst (λ s. IsCovered (log ++ e ∷ []) s lane) (grown.reaches ∙ reaches)
    (event_keeps_covered config start log told e lane is (subst (λ s. IsCovered log s lane) (sym reaches) covered)
    (λ same. subst (λ (s : JournalState). IsSome (open_of s.opened lane)) (sym reaches)
    (All-head (λ (x : LogEvent). x.lane ≡ lane → IsSome (open_of state.opened lane)) e more its same)))))
  where
    grown : StaysOver config start log (log ++ e ∷ []) told
    grown = log_grows config start log (e ∷ []) told is

-- ---- a call
module _ (lone : LoneState) (told : Account) (tells : Tells lone told) (o : OpenCall) (taken : IsTaken lone.config lone.start lone.log (come_to lone told) o)
    (mine : IsCovered lone.log (come_to lone told) o.call.lane) where
  abbrev before : JournalState
  before = come_to lone told

  -- once it is taken
  abbrev under_way : JournalState
  under_way = with_taken (come_to lone told) o

  front : o.front ≡ length lone.log
  front = ap (λ (x : OpenCall). x.front) taken.so

  may_take : MayFollow lone.start lone.log (come_to lone told) (take_of o)
  may_take = record {
    onward = let within : (come_to lone told).front ≤ length lone.log = tells.is.within in omega (arith, front);
    next = (taken.free, taken.next);
  }

  took : GoesOn lone.config lone.start lone.log told (take_of o)
  took = entry_is_added lone.config lone.start lone.log told (take_of o) tells.is may_take (omega (arith, front))

  taken_so : after_turn lone.config lone.start lone.log (come_to lone told) (take_of o) ≡ with_taken (come_to lone told) o
  taken_so = ap (with_taken (come_to lone told))
      (ap (λ n. taken_by before o.call n (opened_at (at_front lone.config lone.start lone.log before.clock n) before.mount o.taken.request)) front ∙ sym taken.so)

  found : open_of (with_taken (come_to lone told) o).opened o.call.lane ≡ Some o
  found = open_of-first o before.opened o.call.lane refl

  covered_at_take : (lane : ℕ) → Contains (lanes_of (with_taken (come_to lone told) o)) lane → IsCovered lone.log (with_taken (come_to lone told) o) lane
  covered_at_take lane among =
      subst (λ s. IsCovered lone.log s lane) taken_so
      (turn_keeps_covered lone.config lone.start lone.log before (take_of o) lane may_take front
      (first_or_later o.call.lane (lanes_of before) (IsCovered lone.log before) lane among mine (tells.covered lane)))

  module _ (more : List LogEvent) (own : All (λ (e : LogEvent). e.lane ≡ o.call.lane) more) where
    abbrev whole : List LogEvent
    whole = lone.log ++ more

    each_open : (lane : ℕ) (events : List LogEvent) → All (λ (e : LogEvent). e.lane ≡ o.call.lane) events
        → All (λ (e : LogEvent). e.lane ≡ lane → IsSome (open_of (with_taken (come_to lone told) o).opened lane)) events
    each_open lane events its k first within = λ same. ap is_some (open_of-first o before.opened lane (sym (its k first within) ∙ same))

    covered_so : (lane : ℕ) → Contains (lanes_of (with_taken (come_to lone told) o)) lane → IsCovered (lone.log ++ more) (with_taken (come_to lone told) o) lane
    covered_so lane among =
        covered_along lone.config lone.start lone.log more (told ++ take_of o ∷ []) under_way lane took.is (took.reaches ∙ taken_so) (each_open lane more own)
        (covered_at_take lane among)

    -- no call was done since its take
    none_since : (since : List EndedCall) → (with_taken (come_to lone told) o).ended ≡ since ++ o.before → since ≡ []
    none_since since earlier = sym (append_cancel_right [] since o.before (ap (λ (x : OpenCall). x.before) taken.so ∙ earlier))

    settled_so : (items : List Item) (since : List EndedCall) → (with_taken (come_to lone told) o).ended ≡ since ++ o.before
        → AllByRecursion (λ (e : EndedCall). AreUnseen lone.start (take (length (lone.log ++ more)) (lone.log ++ more)) (own_moments_of items) e.own) since
    settled_so items since earlier =
        subst (AllByRecursion (λ (e : EndedCall). AreUnseen lone.start (take (length (lone.log ++ more)) (lone.log ++ more)) (own_moments_of items) e.own)) (sym (none_since since earlier)) tt

    module _ (h : How) (items : List Item) (walk : HasWalked lone.start (lone.log ++ more) (plan_of (with_taken (come_to lone told) o) o) o (length (lone.log ++ more)) items)
        (ends : EndsBy h (plan_of (with_taken (come_to lone told) o) o) (seen_by lone.start (lone.log ++ more) items)) where
      abbrev end : Turn
      end = done_of o (length (lone.log ++ more)) h items fill.Nothing

      abbrev left : JournalState
      left = after_done lone.start (lone.log ++ more) (with_taken (come_to lone told) o) (length (lone.log ++ more)) h items o

      -- the mount that has made it
      abbrev after : LoneState
      after = record lone {
        log = lone.log ++ more;
        journal = lone.journal ++ journal.taken o.call (length lone.log) o.taken.request ∷ journal.done o.call (length (lone.log ++ more)) h (uses_of items) fill.Nothing ∷ [];
      }

      may : MayBeDone lone.start (lone.log ++ more) (with_taken (come_to lone told) o) o (length (lone.log ++ more)) h items
      may = record { walk = walk; settled = settled_so items; ends = ends }

      added : IsAdded lone.config lone.start lone.log more told o h items fill.Nothing
      added = call_is_added lone.config lone.start lone.log more told o h items fill.Nothing tells.is taken may

      printed_so : journal_of (told ++ take_of o ∷ end ∷ []) ≡ after.journal
      printed_so =
          map-append printed told (take_of o ∷ end ∷ [])
          ∙ ap (λ (es : List Entry). es ++ journal_of (take_of o ∷ end ∷ [])) tells.printed
          ∙ ap (λ n. lone.journal ++ journal.taken o.call n o.taken.request ∷ printed end ∷ []) front

      gone : others_of (o ∷ before.opened) o.call.lane ≡ []
      gone = ap (λ os. others_of (o ∷ os) o.call.lane) tells.idle ∙ ap (λ t. cond (not t) (o ∷ []) []) (same_lane o.call.lane o.call.lane refl)

      lanes_same : lanes_of left ≡ lanes_of under_way
      lanes_same =
          ap (λ (os : List OpenCall). map (λ (x : OpenCall). x.call.lane) os ++ map (λ (e : EndedCall). e.call.lane) left.ended) gone
          ∙ sym (ap (λ (os : List OpenCall). o.call.lane ∷ map (λ (x : OpenCall). x.call.lane) os ++ map (λ (e : EndedCall). e.call.lane) before.ended) tells.idle)

      covered_at_end : (lane : ℕ) → Contains (lanes_of left) lane → IsCovered whole left lane
      covered_at_end lane among =
          subst (λ s. IsCovered whole s lane) (ap (λ x. option_map_or (after_done lone.start whole under_way (length whole) h items) x under_way) found)
          (turn_keeps_covered lone.config lone.start whole under_way end lane
          (record { onward = omega (arith, front, length-append lone.log more); next = (o, found, refl, may) }) refl
          (covered_so lane (subst (λ lanes. Contains lanes lane) lanes_same among)))

      pub told_after : Tells after (told ++ take_of o ∷ end ∷ [])
      told_after = record {
        is = added.is;
        printed = printed_so;
        one_by_one = one_by_one_on told (take_of o ∷ end ∷ []) tells.one_by_one (refl, tt);
        idle = ap (λ (s : JournalState). s.opened) added.reaches ∙ gone;
        covered = subst (λ (s : JournalState). (lane : ℕ) → Contains (lanes_of s) lane → IsCovered whole s lane) (sym added.reaches) covered_at_end;
      }

      -- what its account came to
      pub reached_after : come_to after (told ++ take_of o ∷ end ∷ []) ≡ left
      reached_after = added.reaches

      pub calls_so : (answer : Reply) → answer ≡ reply_by lone.start (lone.log ++ more) before.mount o h items
          → AllThrifty lone.start (lone.log ++ more) o (records_at lone.config lone.start lone.log told) items
          → RecordsAreTold lone.config lone.start (lone.log ++ more) (told ++ take_of o ∷ done_of o (length (lone.log ++ more)) h items fill.Nothing ∷ [])
          → Calls lone told o.call o.taken.request answer after
      calls_so answer answered looks flags = record {
        more = more;
        how = h;
        uses = uses_of items;
        fill = fill.Nothing;
        own = own;
        unfilled = refl;
        left = refl;
        account = told ++ take_of o ∷ end ∷ [];
        tells = told_after;
        taken = o;
        items = items;
        is = refl;
        takes = taken;
        looks = looks;
        flags = flags;
        ended = ended_by lone.start (lone.log ++ more) before.mount o h items;
        is_call = refl;
        answered = sym answered;
        ends = ap (λ (s : JournalState). s.ended) added.reaches;
      }

-- ---- a writer beside it
-- it writes in a lane of no call
module _ (lone : LoneState) (told : Account) (tells : Tells lone told) (event : LogEvent) (beside : Contains (lanes_of (come_to lone told)) event.lane → ⊥) where
  abbrev longer : LoneState
  longer = record lone { log = lone.log ++ event ∷ [] }

  grown : StaysOver lone.config lone.start lone.log (lone.log ++ event ∷ []) told
  grown = log_grows lone.config lone.start lone.log (event ∷ []) told tells.is

  lanes_stay : (lane : ℕ) → Contains (lanes_of (come_to longer told)) lane → Contains (lanes_of (come_to lone told)) lane
  lanes_stay lane among = subst (λ s. Contains (lanes_of s) lane) grown.reaches among

  pub write_told : StillTells lone longer told
  write_told = record {
    tells = record {
      is = grown.is;
      printed = tells.printed;
      one_by_one = tells.one_by_one;
      idle = ap (λ (s : JournalState). s.opened) grown.reaches ∙ tells.idle;
      covered = λ lane among. event_keeps_covered lone.config lone.start lone.log told event lane tells.is (tells.covered lane (lanes_stay lane among))
          (λ its. absurd (beside (subst (Contains (lanes_of (come_to lone told))) (sym its) (lanes_stay lane among))));
    };
    same = grown.reaches;
  }

-- ---- the clock
module _ (lone : LoneState) (told : Account) (tells : Tells lone told) (seconds : ℕ) where
  abbrev turn : Turn
  turn = account.tick (length lone.log) seconds

  may_tick : MayFollow lone.start lone.log (come_to lone told) turn
  may_tick = record { onward = tells.is.within; next = tt }

  ticked : GoesOn lone.config lone.start lone.log told turn
  ticked = entry_is_added lone.config lone.start lone.log told turn tells.is may_tick (omega arith)

  -- what its account came to
  pub tick_reached : come_to (with_tick lone seconds) (told ++ turn ∷ []) ≡ record (come_to lone told) { clock = (come_to lone told).clock + seconds; front = length lone.log }
  tick_reached = ticked.reaches

  pub tick_told : TicksOn lone (with_tick lone seconds) told seconds
  tick_told = record {
    tells = record {
      is = ticked.is;
      printed = map-append printed told (turn ∷ []) ∙ ap (λ (es : List Entry). es ++ printed turn ∷ []) tells.printed;
      one_by_one = one_by_one_on told (turn ∷ []) tells.one_by_one tt;
      idle = ap (λ (s : JournalState). s.opened) ticked.reaches ∙ tells.idle;
      covered = subst (λ (s : JournalState). (lane : ℕ) → Contains (lanes_of s) lane → IsCovered lone.log s lane) (sym ticked.reaches)
          (λ lane among. turn_keeps_covered lone.config lone.start lone.log (come_to lone told) turn lane may_tick refl (tells.covered lane among));
    };
    same = ap (λ (s : JournalState). s.ended) ticked.reaches;
  }

-- ---- before its first call
pub first_told : (config : Config) (start : BucketState) (script : List (ℕ × Mode)) → Tells (first_lone config start script) []
first_told config start script = record {
  is = record { follows = tt; within = omega arith };
  printed = refl;
  one_by_one = tt;
  idle = refl;
  covered = λ lane among. absurd (omega (arith, among.1));
}
