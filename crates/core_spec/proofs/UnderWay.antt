-- The call of a ticket is the one under way in its lane, and has walked over what the mount's pass has seen as over what its own had.
use Rattle.std.proofs.Common.{◌≡◌, ◌≢◌, ℕ, true, false, All, List, [], ◌∷◌, ◌++◌, length, Option, Some, None, refl, sym, ap, subst, ◌∙◌, arith, inl, inr}
use Rattle.std.specs.Prelude.{◌==◌, ◌⊎◌, cond}
use Rattle.std.specs.Option.{option_map_or}
use Rattle.std.proofs.lemmas.Bool.Decides.{eqb_tells}
use Rattle.std.proofs.lemmas.List.{take-append-le}
use Rattle.std.proofs.lemmas.List.Elements.{All-head, All-tail}
use Rattle.bucket_api.specs.BucketState.{BucketState}
use Rattle.bucket_api.specs.LogEvent.{LogEvent}
use Rattle.bucket_api.specs.Operation.{Operation}
use Rattle.core_spec.specs.Tickets.{NotEnded}
use Rattle.fuse_requests.specs.declared.request.Request.{Request}
use Rattle.history_spec.proofs.Agreeing.{at_same}
use Rattle.history_spec.proofs.Following.{Follows-rest, after_turns-append}
use Rattle.history_spec.proofs.JournalLaws.{log_grows}
use Rattle.history_spec.proofs.Lanes.{open_of-first, open_of-later, open_of-others, other_lane, same_lane}
use Rattle.history_spec.specs.Account as account
use Rattle.history_spec.specs.Account.{Account, Turn, journal_of, printed}
use Rattle.history_spec.specs.Fits.{Follows, IsAccount, MayFollow}
use Rattle.history_spec.specs.JournalState.{JournalState, OpenCall, after_done, after_turn, after_turns, at_front, first_journal, open_of, reached, taken_by, with_taken}
use Rattle.history_spec.specs.Laws.{StaysOver}
use Rattle.mount_model.specs.Journal as journal
use Rattle.mount_model.specs.Journal.{Entry}
use Rattle.mount_model.specs.declared.config.Config.{Config}
use Rattle.mount_model.specs.declared.gate.CallId.{CallId}
use Rattle.mount_rules.specs.Dispatch.{wants}
use Rattle.mount_rules.specs.Overlap.{opened_at}
use Rattle.mount_rules.specs.Rules.{AtTake}
use Rattle.thrift_spec.proofs.InParts.{kept_at-append}
use Rattle.thrift_spec.proofs.SameUpTo.{kept_over_longer}
use Rattle.thrift_spec.specs.Laws.{call_at}
use Rattle.thrift_spec.specs.Thrift.{Kept, kept_after_turn, kept_after_turns, kept_at, reads_of}

-- ---- an account in parts
-- an account that is printed so has turns that are printed so
pub record SplitAt (told : Account) (entries : List Entry) (entry : Entry) (rest : List Entry) : Type 0 where
  pub before : Account
  pub turn : Turn
  pub after : Account
  pub whole : told ≡ before ++ turn ∷ after
  pub first : journal_of before ≡ entries
  pub here : printed turn ≡ entry
  pub last : journal_of after ≡ rest

pub split_at : (told : Account) (entries : List Entry) (entry : Entry) (rest : List Entry) → journal_of told ≡ entries ++ entry ∷ rest → SplitAt told entries entry rest
split_at [] [] entry rest is = absurd (let never : [] ≡ entry ∷ rest = is in cc)
split_at [] (e ∷ entries) entry rest is = absurd (let never : [] ≡ e ∷ entries ++ entry ∷ rest = is in cc)
split_at (turn ∷ told) [] entry rest is =
    let same : printed turn ≡ entry = cc in let others : journal_of told ≡ rest = cc in
    record { before = []; turn = turn; after = told; whole = refl; first = refl; here = same; last = others }
split_at (turn ∷ told) (e ∷ entries) entry rest is =
    let same : printed turn ≡ e = cc in let others : journal_of told ≡ entries ++ entry ∷ rest = cc in
    later same (split_at told entries entry rest others)
  where
    later : printed turn ≡ e → SplitAt told entries entry rest → SplitAt (turn ∷ told) (e ∷ entries) entry rest
    later same s = record {
      before = turn ∷ s.before;
      turn = s.turn;
      after = s.after;
      whole = ap (λ (ts : Account). turn ∷ ts) s.whole;
      first = ap (λ (es : List Entry). printed turn ∷ es) s.first ∙ ap (λ (x : Entry). x ∷ entries) same;
      here = s.here;
      last = s.last;
    }

pub take_printed : (turn : Turn) (call : CallId) (front : ℕ) (request : Request) → printed turn ≡ journal.taken call front request → turn ≡ account.take call front request
take_printed (account.take c f r) call front request is = cc
take_printed (account.done c f h items fill) call front request is = absurd cc
take_printed (account.tick f n) call front request is = absurd cc

-- ---- a call stays under way
module _ (config : Config) (start : BucketState) (log : List LogEvent) (lane : ℕ) (o : OpenCall) where
  -- while no call of its lane is done
  record Stays (state after : JournalState) (kept kept_after : Kept) : Type 0 where
    open_call : open_of after.opened lane ≡ Some o
    found : kept_after.found lane ≡ kept.found lane
    reads : kept_after.reads lane ≡ kept.reads lane

  stays_turn : (state : JournalState) (kept : Kept) (turn : Turn) → MayFollow start log state turn → NotEnded lane (printed turn) → open_of state.opened lane ≡ Some o
      → Stays state (after_turn config start log state turn) kept (kept_after_turn config start log state kept turn)
  stays_turn state kept (account.take call front request) may unended is = by (eqb_tells call.lane lane)
    where
      by : (((call.lane == lane) ≡ true) × (call.lane ≡ lane)) ⊎ (((call.lane == lane) ≡ false) × (call.lane ≢ lane))
          → Stays state (after_turn config start log state (account.take call front request)) kept (kept_after_turn config start log state kept (account.take call front request))
      by (inl its) = absurd (let both : None ≡ Some o = sym may.next.0 ∙ (ap (open_of state.opened) its.1 ∙ is) in cc)
      by (inr far) = record {
        open_call = open_of-later _ state.opened lane far.1 ∙ is;
        found = ap (λ t. cond t kept.records (kept.found lane)) (other_lane lane call.lane (λ same. far.1 (sym same)));
        reads = ap (λ t. cond t (reads_of config.cache_blocks kept.files (at_front config start log state.clock front).contents (wants config state.mount request)) (kept.reads lane))
            (other_lane lane call.lane (λ same. far.1 (sym same)));
      }
  stays_turn state kept (account.done call front h items fill) may unended is = record {
    open_call = subst (λ (found : Option OpenCall). open_of (option_map_or (after_done start log state front h items) found state).opened lane ≡ Some o) (sym may.next.1)
        (open_of-others state.opened lane may.next.0.call.lane (λ same. unended (sym (same ∙ ap (λ (c : CallId). c.lane) may.next.2))) ∙ is);
    found = refl;
    reads = refl;
  }
  stays_turn state kept (account.tick front seconds) may unended is = record { open_call = is; found = refl; reads = refl }

  stays_then : (state middle after : JournalState) (kept kept_middle kept_after : Kept) → Stays state middle kept kept_middle → Stays middle after kept_middle kept_after
      → Stays state after kept kept_after
  stays_then state middle after kept kept_middle kept_after here later =
      record { open_call = later.open_call; found = later.found ∙ here.found; reads = later.reads ∙ here.reads }

  stays_along : (state : JournalState) (kept : Kept) (turns : Account) → Follows config start log state turns → All (NotEnded lane) (journal_of turns) → open_of state.opened lane ≡ Some o
      → Stays state (after_turns config start log state turns) kept (kept_after_turns config start log state kept turns)
  stays_along state kept [] follows unended is = record { open_call = is; found = refl; reads = refl }
  stays_along state kept (turn ∷ turns) follows unended is =
      let here = stays_turn state kept turn follows.0 (All-head (NotEnded lane) (printed turn) (journal_of turns) unended) is in
      stays_then state (after_turn config start log state turn) (after_turns config start log state (turn ∷ turns)) kept (kept_after_turn config start log state kept turn)
      (kept_after_turns config start log state kept (turn ∷ turns)) here
      (stays_along (after_turn config start log state turn) (kept_after_turn config start log state kept turn) turns follows.1
      (All-tail (NotEnded lane) (printed turn) (journal_of turns) unended) here.open_call)

-- ---- the call of a ticket
-- An account over a longer log that goes on from another one by a take at the end of that one's log, and by no end of its lane:
-- the call is under way as it was taken, and what was found for it is what was kept then.
module _ (config : Config) (start : BucketState) (early more : List LogEvent) (first : Account) (is : IsAccount config start early first)
    (call : CallId) (request : Request) (rest : Account) (unended : All (NotEnded call.lane) (journal_of rest))
    (follows : Follows config start (early ++ more) first_journal (first ++ account.take call (length early) request ∷ rest)) where
  abbrev whole : List LogEvent
  whole = early ++ more

  abbrev its_take : Turn
  its_take = account.take call (length early) request

  abbrev o : OpenCall
  o = call_at config start early (reached config start early first) call (length early) request

  longer : StaysOver config start early (early ++ more) first
  longer = log_grows config start early more first is

  at_take : JournalState
  at_take = reached config start (early ++ more) first

  taken_so : after_turn config start whole (reached config start whole first) its_take ≡ with_taken (reached config start early first) o
  taken_so =
      ap (λ (s : JournalState). after_turn config start whole s its_take) longer.reaches
      ∙ ap (λ at. with_taken (reached config start early first) (taken_by (reached config start early first) call (length early) (opened_at at (reached config start early first).mount request)))
      (sym (at_same start early whole (length early) (sym (take-append-le (length early) early more (omega arith))) config (reached config start early first).clock (length early) (omega arith)))

  is_open : open_of (after_turn config start whole (reached config start whole first) its_take).opened call.lane ≡ Some o
  is_open = ap (λ (s : JournalState). open_of s.opened call.lane) taken_so ∙ open_of-first o (reached config start early first).opened call.lane refl

  follows_rest : Follows config start whole (after_turn config start whole (reached config start whole first) its_take) rest
  follows_rest = (Follows-rest config start whole first_journal first (its_take ∷ rest) follows).1

  abbrev kept_then : Kept
  kept_then = kept_at config start whole first

  stays : Stays config start whole call.lane o (after_turn config start whole (reached config start whole first) its_take)
      (after_turns config start whole (after_turn config start whole (reached config start whole first) its_take) rest)
      (kept_after_turn config start whole (reached config start whole first) kept_then its_take)
      (kept_after_turns config start whole (after_turn config start whole (reached config start whole first) its_take)
      (kept_after_turn config start whole (reached config start whole first) kept_then its_take) rest)
  stays = stays_along config start whole call.lane o (after_turn config start whole (reached config start whole first) its_take)
      (kept_after_turn config start whole (reached config start whole first) kept_then its_take) rest follows_rest unended is_open

  pub still_open : open_of (reached config start (early ++ more) (first ++ account.take call (length early) request ∷ rest)).opened call.lane ≡ Some o
  still_open = ap (λ (s : JournalState). open_of s.opened call.lane) (after_turns-append config start whole first_journal first (its_take ∷ rest)) ∙ stays.open_call

  kept_is : kept_at config start whole (first ++ its_take ∷ rest)
      ≡ kept_after_turns config start whole (after_turn config start whole (reached config start whole first) its_take)
      (kept_after_turn config start whole (reached config start whole first) kept_then its_take) rest
  kept_is = kept_at-append config start whole first (its_take ∷ rest)

  kept_same : kept_at config start (early ++ more) first ≡ kept_at config start early first
  kept_same = (kept_over_longer config start early more first is).keeps

  pub still_found : (kept_at config start (early ++ more) (first ++ account.take call (length early) request ∷ rest)).found call.lane ≡ (kept_at config start early first).records
  still_found = ap (λ (k : Kept). k.found call.lane) kept_is ∙ (stays.found
      ∙ (ap (λ t. cond t kept_then.records (kept_then.found call.lane)) (same_lane call.lane call.lane refl) ∙ ap (λ (k : Kept). k.records) kept_same))

  pub still_to_read : (kept_at config start (early ++ more) (first ++ account.take call (length early) request ∷ rest)).reads call.lane
      ≡ reads_of config.cache_blocks (kept_at config start early first).files o.taken.at.contents (wants config (reached config start early first).mount request)
  still_to_read = ap (λ (k : Kept). k.reads call.lane) kept_is ∙ (stays.reads
      ∙ (ap (λ t. cond t (reads_to (reached config start whole first) kept_then) (kept_then.reads call.lane)) (same_lane call.lane call.lane refl)
      ∙ (ap (λ (k : Kept). reads_to (reached config start whole first) k) kept_same
      ∙ (ap (λ (s : JournalState). reads_to s (kept_at config start early first)) longer.reaches
      ∙ ap (λ (at : AtTake). reads_of config.cache_blocks (kept_at config start early first).files at.contents (wants config (reached config start early first).mount request))
      (sym (at_same start early whole (length early) (sym (take-append-le (length early) early more (omega arith))) config (reached config start early first).clock (length early) (omega arith)))))))
    where
      reads_to : JournalState → Kept → List Operation
      reads_to state kept = reads_of config.cache_blocks kept.files (at_front config start (early ++ more) state.clock (length early)).contents (wants config state.mount request)
