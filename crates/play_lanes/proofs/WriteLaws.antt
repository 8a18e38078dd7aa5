-- One more operation of a remote writer, and one more step of a clock: each may be made, and what comes of it is what its
-- lane asks.
use Rattle.std.proofs.Common.{◌≡◌, ◌≢◌, ◌<◌, ◌≤◌, ℕ, ◌+◌, Bool, true, false, cond, List, [], ◌∷◌, ◌++◌, filter, length, map, refl, sym, ap, subst, ◌∙◌, ◌⊎◌, inl, inr, arith, append_assoc, append-nil}
use Rattle.std.proofs.lemmas.Bool.{false≢true}
use Rattle.std.proofs.lemmas.Bool.Decides.{eqb_tells}
use Rattle.std.proofs.lemmas.List.{map-append}
use Rattle.std.proofs.lemmas.List.Elements.{All-cons, All-contains, All-head, All-nil, All-tail}
use Rattle.std.specs.List.{All, AllByRecursion, Contains}
use Rattle.std.specs.Prelude.{◌==◌, Some, option_map}
use Rattle.bucket_api.specs.LogEvent.{LogEvent}
use Rattle.bucket_api.specs.Log.{scripted_mode}
use Rattle.bucket_api.specs.Moments.{moment_at}
use Rattle.bucket_api.specs.Operation.{IsAllowed, Operation}
use Rattle.history_spec.proofs.Lanes.{same_lane}
use Rattle.history_spec.specs.Account.{Account}
use Rattle.history_spec.specs.Account as account
use Rattle.history_spec.specs.Fits.{ended_in}
use Rattle.history_spec.specs.JournalState.{EndedCall, JournalState, OpenCall, replies_of}
use Rattle.history_spec.specs.Lanes.{IsCovered}
use Rattle.history_spec.specs.Looks.{lanes_of}
use Rattle.legal_spec.specs.Frames.{Replies, reply_of}
use Rattle.legal_spec.specs.Schedules.{call_at, is_remote, lane_at, move_of, remotely_made}
use Rattle.legal_spec.specs.Texts.{reply_frame}
use Rattle.mount_core.specs.Lones.{HasNoCall, LoneState, StillTells, Ticks, TicksOn, Writes, come_to, with_event, with_tick}
use Rattle.mount_model.specs.Journal as journal
use Rattle.mount_model.specs.declared.gate.CallId.{CallId}
use Rattle.play_lanes.proofs.BroughtLaws.{joined_assoc, of_step, of_write, step_next, write_next}
use Rattle.play_lanes.proofs.CallLaws.{lane_is, slice_get-between}
use Rattle.play_lanes.proofs.KeptLaws.{all_and, covered_by_tick, covered_by_write, made_by_write, mount_stays}
use Rattle.play_lanes.proofs.LawfulLaws.{StandsAt, stands_at}
use Rattle.play_lanes.specs.Playing.{Brought, IsAmid, IsAnswered, IsAskedBy, IsPlaying, IsScripted, PlayState, brought_by, joined, lanes_in, of_lane, of_lanes}
use Rattle.play_lanes.specs.Tables.{given_by, row_of}
use Rattle.scenario.specs.Parts.{Lane, ScenarioData, clock, remote}

-- the mount behind an operation or a step; the calls stay
abbrev pub with_lone : PlayState → LoneState → PlayState
with_lone p after = record p { lone = after }

-- where the same calls have ended, the same replies have come
same_replies : (state after : JournalState) → after.ended ≡ state.ended → replies_of after ≡ replies_of state
same_replies state after same = ap (λ es. replies_of (record state { ended = es })) same

-- what is scripted stays so, where the same calls have ended
scripted_stays : (phases : List (List Lane)) (p : PlayState) (lone : LoneState) (state after : JournalState) → after.ended ≡ state.ended
    → AllByRecursion (IsAskedBy phases (replies_of state)) lone.journal
    → ((lane : ℕ) → is_remote (lane_at phases lane) ≡ false → IsCovered lone.log after lane)
    → IsScripted phases p state → IsScripted phases (with_lone p lone) after
scripted_stays phases p lone state after same asked covered was = record {
  asked = subst (λ rs. AllByRecursion (IsAskedBy phases rs) lone.journal) (sym told) asked;
  covered = covered;
  counted = λ lane. ap (λ es. length (filter (λ (e : EndedCall). e.call.lane == lane) es)) same ∙ was.counted lane;
  given = λ call. was.given call ∙ ap (λ rs. option_map given_by (reply_of rs call)) (sym told);
  answered = subst (λ rs. AllByRecursion (IsAnswered phases rs) p.calls) (sym told) was.answered;
  framed = was.framed ∙ ap (λ rs. map (reply_frame phases rs) p.calls) (sym told);
  whole = was.whole;
}
  where
    told : replies_of after ≡ replies_of state
    told = same_replies state after same

-- ---- remote writers
All-behind : {X : Type 0} (P : X → Type 0) (xs ys : List X) → All P (xs ++ ys) → All P ys
All-behind P [] ys all = all
All-behind P (x ∷ xs) ys all = All-behind P xs ys (All-tail P x (xs ++ ys) all)

-- a lane of which no call has ended is none of the mount
no_such : (ended : List EndedCall) (lane : ℕ) → length (filter (λ (e : EndedCall). e.call.lane == lane) ended) ≡ 0 → All (λ n. n ≢ lane) (map (λ (e : EndedCall). e.call.lane) ended)
no_such [] lane none = All-nil (λ n. n ≢ lane)
no_such (e ∷ ended) lane none = by (eqb_tells e.call.lane lane) (no_such ended lane)
  where
    rest : List EndedCall
    rest = filter (λ (d : EndedCall). d.call.lane == lane) ended

    by : (((e.call.lane == lane) ≡ true) × (e.call.lane ≡ lane)) ⊎ (((e.call.lane == lane) ≡ false) × (e.call.lane ≢ lane))
        → (length (filter (λ (d : EndedCall). d.call.lane == lane) ended) ≡ 0 → All (λ n. n ≢ lane) (map (λ (d : EndedCall). d.call.lane) ended))
        → All (λ n. n ≢ lane) (map (λ (d : EndedCall). d.call.lane) (e ∷ ended))
    by (inl its) later = absurd (let never : length rest + 1 ≡ 0 = let size : length (e ∷ rest) ≡ length rest + 1 = omega arith in
        sym size ∙ sym (ap (λ t. length (cond t (e ∷ rest) rest)) its.0) ∙ none in omega (arith, never))
    by (inr far) later = All-cons (λ n. n ≢ lane) e.call.lane (map (λ (d : EndedCall). d.call.lane) ended) far.1
        (later (sym (ap (λ t. length (cond t (e ∷ rest) rest)) far.0) ∙ none))

no_call : (state : JournalState) (lane : ℕ) → state.opened ≡ [] → ended_in state lane ≡ 0 → Contains (lanes_of state) lane → ⊥
no_call state lane idle none there =
    All-contains (λ n. n ≢ lane) (map (λ (e : EndedCall). e.call.lane) state.ended) lane (no_such state.ended lane none)
    (subst (λ (os : List OpenCall). Contains (map (λ (o : OpenCall). o.call.lane) os ++ map (λ (e : EndedCall). e.call.lane) state.ended) lane) idle there) refl

module _ (scenario : ScenarioData) (p : PlayState) (op : Operation) (left : List Operation) (more : List Lane) (amid : IsAmid remote scenario p (op ∷ left) more) where
  abbrev writing : JournalState
  writing = come_to p.lone amid.playing.account

  writer : lane_at scenario.phases (length p.given) ≡ Some (remote (amid.done ++ op ∷ left))
  writer = lane_is remote scenario p (op ∷ left) more amid

  pub may : IsAllowed op
  may =
      let stands : StandsAt (lanes_in scenario.phases) (length p.given) (remote (amid.done ++ op ∷ left)) =
      stands_at scenario.phases amid.playing.lawful.phases (length p.given) (remote (amid.done ++ op ∷ left)) writer in
      All-head IsAllowed op left (All-behind IsAllowed amid.done (op ∷ left) stands.is)

  pub beside : HasNoCall p.lone (length p.given)
  beside = record {
    account = amid.playing.account;
    tells = amid.playing.tells;
    beside = no_call writing (length p.given) amid.playing.tells.idle (amid.playing.scripted.counted (length p.given) ∙ amid.answered);
  }

  module _ (after : LoneState) (is : after ≡ with_event p.lone (length p.given) op) (writes : Writes p.lone after) where
    abbrev event : LogEvent
    event = record { lane = length p.given; op = op; mode = scripted_mode p.lone.script (moment_at (length p.lone.log)) }

    still : StillTells p.lone after amid.playing.account
    still = writes amid.playing.account amid.playing.tells

    log_is : after.log ≡ p.lone.log ++ event ∷ []
    log_is = ap (λ (l : LoneState). l.log) is

    journal_is : after.journal ≡ p.lone.journal
    journal_is = ap (λ (l : LoneState). l.journal) is

    covered_after : (number : ℕ) → is_remote (lane_at scenario.phases number) ≡ false → IsCovered after.log (come_to after amid.playing.account) number
    covered_after number not_one =
        subst (λ log. IsCovered log (come_to after amid.playing.account) number) (sym log_is)
        (covered_by_write number p.lone.log event writing (come_to after amid.playing.account) still.same amid.playing.tells.idle
        (λ same. absurd (false≢true (sym not_one ∙ ap (λ n. is_remote (lane_at scenario.phases n)) (sym same) ∙ ap is_remote writer)))
        (amid.playing.scripted.covered number not_one))

    playing_after : IsPlaying scenario (with_lone p after)
    playing_after = record {
      lawful = amid.playing.lawful;
      mount = mount_stays scenario p.lone after amid.playing.mount (is ∙ ap (λ (l : LoneState). record p.lone { log = l.log; journal = l.journal }) (sym is));
      account = amid.playing.account;
      tells = still.tells;
      scripted = scripted_stays scenario.phases p after writing (come_to after amid.playing.account) (ap (λ (s : JournalState). s.ended) still.same)
          (subst (AllByRecursion (IsAskedBy scenario.phases (replies_of writing))) (sym journal_is) amid.playing.scripted.asked) covered_after amid.playing.scripted;
    }

    brought_more : brought_by scenario (with_lone p after) ≡ joined (brought_by scenario p) (of_write (length p.given) op)
    brought_more = λ i. record { moves = moves i; writes = made i; calls = same i }
      where
        moves : map move_of after.journal ≡ map move_of p.lone.journal ++ []
        moves = ap (map move_of) journal_is ∙ sym (append-nil (map move_of p.lone.journal))

        made : remotely_made scenario.phases after.log ≡ remotely_made scenario.phases p.lone.log ++ (length p.given, op) ∷ []
        made = ap (remotely_made scenario.phases) log_is ∙ made_by_write scenario.phases p.lone.log event (ap is_remote writer)

        same : p.calls ≡ p.calls ++ []
        same = sym (append-nil p.calls)

    pub write_done : IsAmid remote scenario (with_lone p after) left more
    write_done = record {
      playing = playing_after;
      before = amid.before;
      done = amid.done ++ op ∷ [];
      lanes = amid.lanes ∙ ap (λ ops. amid.before ++ remote ops ∷ more) (sym (append_assoc amid.done (op ∷ []) left));
      begun = amid.begun;
      answered = amid.answered;
      brought = brought_more ∙ ap (λ b. joined b (of_write (length p.given) op)) amid.brought
          ∙ joined_assoc (of_lanes 1 amid.before) (of_lane (length p.given) (remote amid.done)) (of_write (length p.given) op)
          ∙ ap (joined (of_lanes 1 amid.before)) (sym (write_next (length p.given) amid.done op));
    }

-- ---- clocks
module _ (scenario : ScenarioData) (p : PlayState) (seconds : ℕ) (left : List ℕ) (more : List Lane) (amid : IsAmid clock scenario p (seconds ∷ left) more)
    (after : LoneState) (is : after ≡ with_tick p.lone seconds) (ticks : Ticks p.lone after seconds) where
  abbrev ticking : JournalState
  ticking = come_to p.lone amid.playing.account

  abbrev account_after : Account
  account_after = amid.playing.account ++ account.tick (length p.lone.log) seconds ∷ []

  on : TicksOn p.lone after amid.playing.account seconds
  on = ticks amid.playing.account amid.playing.tells

  clock_log : after.log ≡ p.lone.log
  clock_log = ap (λ (l : LoneState). l.log) is

  clock_journal : after.journal ≡ p.lone.journal ++ journal.ticked (length p.lone.log) seconds ∷ []
  clock_journal = ap (λ (l : LoneState). l.journal) is

  clock_covered : (number : ℕ) → is_remote (lane_at scenario.phases number) ≡ false → IsCovered after.log (come_to after account_after) number
  clock_covered number not_one =
      subst (λ log. IsCovered log (come_to after account_after) number) (sym clock_log)
      (covered_by_tick number p.lone.log ticking (come_to after account_after) amid.playing.tells.idle on.tells.idle on.same (amid.playing.scripted.covered number not_one))

  clock_playing : IsPlaying scenario (with_lone p after)
  clock_playing = record {
    lawful = amid.playing.lawful;
    mount = mount_stays scenario p.lone after amid.playing.mount (is ∙ ap (λ (l : LoneState). record p.lone { log = l.log; journal = l.journal }) (sym is));
    account = account_after;
    tells = on.tells;
    scripted = scripted_stays scenario.phases p after ticking (come_to after account_after) on.same
        (subst (AllByRecursion (IsAskedBy scenario.phases (replies_of ticking))) (sym clock_journal)
        (all_and (IsAskedBy scenario.phases (replies_of ticking)) p.lone.journal (journal.ticked (length p.lone.log) seconds ∷ []) amid.playing.scripted.asked (tt, tt)))
        clock_covered amid.playing.scripted;
  }

  clock_brought : brought_by scenario (with_lone p after) ≡ joined (brought_by scenario p) (of_step seconds)
  clock_brought = λ i. record { moves = moves i; writes = made i; calls = same i }
    where
      moves : map move_of after.journal ≡ map move_of p.lone.journal ++ (of_step seconds).moves
      moves = ap (map move_of) clock_journal ∙ map-append move_of p.lone.journal (journal.ticked (length p.lone.log) seconds ∷ [])

      made : remotely_made scenario.phases after.log ≡ remotely_made scenario.phases p.lone.log ++ []
      made = ap (remotely_made scenario.phases) clock_log ∙ sym (append-nil (remotely_made scenario.phases p.lone.log))

      same : p.calls ≡ p.calls ++ []
      same = sym (append-nil p.calls)

  pub tick_done : IsAmid clock scenario (with_lone p after) left more
  tick_done = record {
    playing = clock_playing;
    before = amid.before;
    done = amid.done ++ seconds ∷ [];
    lanes = amid.lanes ∙ ap (λ steps. amid.before ++ clock steps ∷ more) (sym (append_assoc amid.done (seconds ∷ []) left));
    begun = amid.begun;
    answered = amid.answered;
    brought = clock_brought ∙ ap (λ b. joined b (of_step seconds)) amid.brought
        ∙ joined_assoc (of_lanes 1 amid.before) (of_lane (length p.given) (clock amid.done)) (of_step seconds)
        ∙ ap (joined (of_lanes 1 amid.before)) (sym (step_next (length p.given) amid.done seconds));
  }
