-- One more call of a lane: it may be made, and what comes of it is what the lane asks.
use Rattle.std.proofs.Common.{◌≡◌, ◌≢◌, ◌<◌, ◌≤◌, ℕ, zero, suc, ◌+◌, true, false, List, [], ◌∷◌, ◌++◌, length, map, slice_get, Option, Some, None, option_and_then, unwrap_or, refl, sym, ap, subst, ◌∙◌, ◌⊎◌, inl, inr, arith, append_assoc, append-nil, length-append}
use Rattle.std.proofs.lemmas.Bool.Decides.{eqb_tells}
use Rattle.std.proofs.lemmas.List.{map-append}
use Rattle.std.proofs.lemmas.List.Elements.{All-head, All-tail, All-weaker}
use Rattle.std.specs.List.{All, AllByRecursion}
use Rattle.std.specs.Prelude.{◌==◌, IsSome, is_some, option_map}
use Rattle.fuse_head.specs.Head.{IsWholeFrame, in_head}
use Rattle.fuse_replies.specs.Replies.{frame_of}
use Rattle.fuse_replies.specs.declared.reply.Reply.{Reply}
use Rattle.fuse_requests.specs.Grammar.{request_of}
use Rattle.fuse_requests.specs.declared.request.Request.{Request}
use Rattle.history_spec.specs.Fits.{ended_in}
use Rattle.history_spec.specs.JournalState.{JournalState, replies_of}
use Rattle.history_spec.specs.Lanes.{IsCovered}
use Rattle.legal_spec.proofs.PromiseLaws.{frames_stay}
use Rattle.legal_spec.specs.Frames.{Replies, frame_by, reply_of}
use Rattle.legal_spec.specs.Schedules.{call_at, calls_by, is_remote, lane_at, move_of, numbered, remotely_made}
use Rattle.legal_spec.specs.Texts.{reply_frame}
use Rattle.mount_core.specs.Lones.{Calls, CallsOne, HasNext, LoneState, come_to}
use Rattle.mount_model.specs.Journal.{Entry}
use Rattle.mount_model.specs.declared.gate.CallId.{CallId}
use Rattle.play_lanes.proofs.BroughtLaws.{call_next, joined_assoc, of_call}
use Rattle.play_lanes.proofs.FrameLaws.{IsPlace, frame_same, frame_whole}
use Rattle.play_lanes.proofs.KeptLaws.{IsOneMore, all_and, all_answered_stay, all_asked_stay, covered_by_call, ended_more, ended_other, fixed_stays, frames_same, lane_there, made_by_call, mount_stays, replies_more}
use Rattle.play_lanes.proofs.LawfulLaws.{StandsAt, each_at, named_is_done, stands_at}
use Rattle.play_lanes.proofs.TableLaws.{given_more, is_call-same, none_yet, reply_of-new, row_of-last, row_of-other, with_last-length, with_reply}
use Rattle.play_lanes.specs.Playing.{Brought, HasReplies, IsAmid, IsAnswered, IsAskedBy, IsPlaying, IsScripted, PlayState, brought_by, joined, lanes_in, of_lane, of_lanes}
use Rattle.play_lanes.specs.Tables.{frame_in, given_at, given_by, next_call, row_of, with_last}
use Rattle.play_lanes.specs.declared.given.Given.{Given}
use Rattle.scenario.specs.Checks.{Spot}
use Rattle.scenario.specs.Lawful.{IsCall, IsFix}
use Rattle.scenario.specs.Parts.{Call, Lane, ScenarioData, calls}
use Rattle.scenario.specs.declared.call.Fix.{Fix}

-- ---- by number
pub slice_get-between : {X : Type 0} (before : List X) (x : X) (more : List X) → slice_get (before ++ x ∷ more) (length before) ≡ Some x
slice_get-between [] x more = refl
slice_get-between (y ∷ before) x more = slice_get-between before x more

pub numbered-between : {X : Type 0} (before : List X) (x : X) (more : List X) (number : ℕ) → number ≡ length before + 1 → numbered (before ++ x ∷ more) number ≡ Some x
numbered-between before x more zero is = absurd (omega (arith, is))
numbered-between before x more (suc k) is =
    let same : k ≡ length before = omega (arith, is) in ap (slice_get (before ++ x ∷ more)) same ∙ slice_get-between before x more

some_given : (found : Option Reply) (g : Given) → option_map given_by found ≡ Some g → IsSome found
some_given None g is = absurd (let never : None ≡ Some g = is in cc)
some_given (Some reply) g is = refl

-- the lane that is being played
pub lane_is : {X : Type 0} (kind : List X → Lane) (scenario : ScenarioData) (p : PlayState) (left : List X) (more : List Lane) (amid : IsAmid kind scenario p left more)
    → lane_at scenario.phases (length p.given) ≡ Some (kind (amid.done ++ left))
lane_is kind scenario p left more amid =
    ap (λ (lanes : List Lane). numbered lanes (length p.given)) amid.lanes ∙ numbered-between amid.before (kind (amid.done ++ left)) more (length p.given) amid.begun

-- the mount, the calls and the table behind a call with this reply
abbrev pub after_call : PlayState → Call → LoneState → Reply → PlayState
after_call p scripted after reply = record {
  lone = after;
  calls = p.calls ++ next_call p.given ∷ [];
  frames = p.frames ++ frame_of (in_head (frame_in p.given scripted)).unique reply ∷ [];
  given = with_last p.given (given_by reply);
}

module _ (scenario : ScenarioData) (p : PlayState) (scripted : Call) (left : List Call) (more : List Lane) (amid : IsAmid calls scenario p (scripted ∷ left) more) where
  abbrev state : JournalState
  state = come_to p.lone amid.playing.account

  abbrev replies : Replies
  replies = replies_of state

  abbrev row : List Given
  row = row_of p.given (length p.given)

  begun : 1 ≤ length p.given
  begun = let is : length p.given ≡ length amid.before + 1 = amid.begun in omega (arith, is)

  lane : lane_at scenario.phases (length p.given) ≡ Some (calls (amid.done ++ scripted ∷ left))
  lane = lane_is calls scenario p (scripted ∷ left) more amid

  not_remote : is_remote (lane_at scenario.phases (length p.given)) ≡ false
  not_remote = ap is_remote lane

  call_is : call_at scenario.phases (next_call p.given) ≡ Some scripted
  call_is = ap (λ (found : Option Lane). numbered (calls_by found) (length row + 1)) lane ∙ numbered-between amid.done scripted left (length row + 1) (ap (λ n. n + 1) amid.answered)

  pub has_next : HasNext p.lone (next_call p.given)
  has_next = record {
    account = amid.playing.account;
    tells = amid.playing.tells;
    next = ap (λ n. n + 1) (sym (amid.playing.scripted.counted (length p.given)));
    covered = amid.playing.scripted.covered (length p.given) not_remote;
  }

  -- ---- its frame
  stands : StandsAt (lanes_in scenario.phases) (length p.given) (calls (amid.done ++ scripted ∷ left))
  stands = stands_at scenario.phases amid.playing.lawful.phases (length p.given) (calls (amid.done ++ scripted ∷ left)) lane

  lawful : IsCall stands.spot (length row + 1) scripted
  lawful =
      let found = each_at (λ before. IsCall stands.spot (length before + 1)) [] (amid.done ++ scripted ∷ left) stands.is (length amid.done) scripted (slice_get-between amid.done scripted left) in
      let count : length found.front ≡ 0 + length amid.done = found.counted in
      let answered : length row ≡ length amid.done = amid.answered in
      let same : length found.front + 1 ≡ length row + 1 = omega (arith, count, answered) in
      subst (λ n. IsCall stands.spot n scripted) same found.is

  places : All (IsPlace (length scripted.frame)) scripted.fixes
  places = All-weaker (IsFix stands.spot (length row + 1) (length scripted.frame)) (IsPlace (length scripted.frame))
      (λ fix (is : IsFix stands.spot (length row + 1) (length scripted.frame) fix). record { behind = is.place; room = is.room }) scripted.fixes lawful.fixes

  pub room : All (λ (fix : Fix). fix.at + 8 ≤ length scripted.frame) scripted.fixes
  room = All-weaker (IsPlace (length scripted.frame)) (λ (fix : Fix). fix.at + 8 ≤ length scripted.frame)
      (λ fix (is : IsPlace (length scripted.frame) fix). is.room) scripted.fixes places

  pub whole : IsWholeFrame (frame_in p.given scripted)
  whole = frame_whole p.given scripted lawful.frame places

  -- the call that a fixup names has its reply
  named : (fix : Fix) → IsFix stands.spot (length row + 1) (length scripted.frame) fix → IsSome (reply_of replies fix.call)
  named fix is =
      let there = named_is_done p.given scenario.phases stands.spot stands.front stands.rest (length row + 1) (length scripted.frame) fix stands.split
      (subst (λ n. length stands.front < n) (sym stands.numbered) stands.earlier) stands.counts
      (λ number before. amid.playing.scripted.whole number (subst (λ n. number < n) stands.numbered before))
      (ap (λ n. length (row_of p.given n) + 1) (sym stands.numbered)) is in
      some_given (reply_of replies fix.call) there.0 (sym (amid.playing.scripted.given fix.call) ∙ there.1)

  all_named : (fixes : List Fix) → All (IsFix stands.spot (length row + 1) (length scripted.frame)) fixes → AllByRecursion (λ (fix : Fix). IsSome (reply_of replies fix.call)) fixes
  all_named [] all = tt
  all_named (fix ∷ fixes) all = (
    named fix (All-head (IsFix stands.spot (length row + 1) (length scripted.frame)) fix fixes all),
    all_named fixes (All-tail (IsFix stands.spot (length row + 1) (length scripted.frame)) fix fixes all),
  )

  fixed : HasReplies replies scripted
  fixed = all_named scripted.fixes lawful.fixes

  -- ---- what comes of it
  module _ (request : Request) (reply : Reply) (after : LoneState) (made : CallsOne p.lone (next_call p.given) request reply after) (asked : request ≡ request_of (frame_in p.given scripted)) where
    c : Calls p.lone amid.playing.account (next_call p.given) request reply after
    c = made amid.playing.account amid.playing.tells

    one : IsOneMore state (come_to after c.account) (next_call p.given) reply
    one = record { ended = c.ended; is_call = c.is_call; answered = c.answered; ends = c.ends }

    told : replies_of (come_to after c.account) ≡ with_reply replies (next_call p.given) reply
    told = replies_more state (come_to after c.account) (next_call p.given) reply one

    log_is : after.log ≡ p.lone.log ++ c.more
    log_is = ap (λ (l : LoneState). l.log) c.left

    fixed_after : HasReplies (with_reply replies (next_call p.given) reply) scripted
    fixed_after = fixed_stays scenario.phases replies ((next_call p.given, reply) ∷ []) scripted fixed

    new_reply : reply_of (with_reply replies (next_call p.given) reply) (next_call p.given) ≡ Some reply
    new_reply = reply_of-new replies (next_call p.given) reply (next_call p.given) (is_call-same (next_call p.given) (next_call p.given) refl refl)
        (none_yet p.given replies amid.playing.scripted.given begun)

    frame_after : frame_by (with_reply replies (next_call p.given) reply) scripted ≡ frame_in p.given scripted
    frame_after = frames_stay replies ((next_call p.given, reply) ∷ []) scripted fixed ∙ sym (frame_same p.given replies amid.playing.scripted.given scripted)

    asked_after : AllByRecursion (IsAskedBy scenario.phases (replies_of (come_to after c.account))) after.journal
    asked_after =
        subst (λ rs. AllByRecursion (IsAskedBy scenario.phases rs) after.journal) (sym told)
        (subst (AllByRecursion (IsAskedBy scenario.phases (with_reply replies (next_call p.given) reply))) (sym (ap (λ (l : LoneState). l.journal) c.left))
        (all_and (IsAskedBy scenario.phases (with_reply replies (next_call p.given) reply)) p.lone.journal _
        (all_asked_stay scenario.phases replies ((next_call p.given, reply) ∷ []) p.lone.journal amid.playing.scripted.asked)
        ((scripted, call_is, asked ∙ ap request_of (sym frame_after), fixed_after), (tt, tt))))

    covered_after : (number : ℕ) → is_remote (lane_at scenario.phases number) ≡ false → IsCovered after.log (come_to after c.account) number
    covered_after number not_one = by (eqb_tells (length p.given) number)
      where
        by : (((length p.given == number) ≡ true) × (length p.given ≡ number)) ⊎ (((length p.given == number) ≡ false) × (length p.given ≢ number))
            → IsCovered after.log (come_to after c.account) number
        by (inl its) = subst (IsCovered after.log (come_to after c.account)) its.1
            (c.tells.covered (length p.given) (lane_there state (come_to after c.account) (next_call p.given) reply one))
        by (inr far) = subst (λ log. IsCovered log (come_to after c.account) number) (sym log_is)
            (covered_by_call number p.lone.log c.more state (come_to after c.account) (next_call p.given) reply one amid.playing.tells.idle c.tells.idle far.1 c.own
            (amid.playing.scripted.covered number not_one))

    counted_after : (number : ℕ) → ended_in (come_to after c.account) number ≡ length (row_of (with_last p.given (given_by reply)) number)
    counted_after number = by (eqb_tells (length p.given) number)
      where
        by : (((length p.given == number) ≡ true) × (length p.given ≡ number)) ⊎ (((length p.given == number) ≡ false) × (length p.given ≢ number))
            → ended_in (come_to after c.account) number ≡ length (row_of (with_last p.given (given_by reply)) number)
        by (inl its) =
            let some : 1 ≤ number = let is : length p.given ≡ number = its.1 in omega (arith, is, begun) in
            ended_more state (come_to after c.account) (next_call p.given) reply one number its.1
            ∙ ap (λ n. n + 1) (amid.playing.scripted.counted number)
            ∙ sym (length-append (row_of p.given number) (given_by reply ∷ []))
            ∙ sym (ap (λ (r : List Given). length r) (row_of-last p.given (given_by reply) number some (sym its.1)))
        by (inr far) =
            ended_other state (come_to after c.account) (next_call p.given) reply one number far.1
            ∙ amid.playing.scripted.counted number
            ∙ sym (ap (λ (r : List Given). length r) (row_of-other p.given (given_by reply) number (λ same. far.1 (sym same))))

    answered_after : AllByRecursion (IsAnswered scenario.phases (with_reply replies (next_call p.given) reply)) (p.calls ++ next_call p.given ∷ [])
    answered_after =
        all_and (IsAnswered scenario.phases (with_reply replies (next_call p.given) reply)) p.calls (next_call p.given ∷ [])
        (all_answered_stay scenario.phases replies ((next_call p.given, reply) ∷ []) p.calls amid.playing.scripted.answered)
        (record { scripted = scripted; there = call_is; fixed = fixed_after; told = ap is_some new_reply }, tt)

    new_frame : reply_frame scenario.phases (with_reply replies (next_call p.given) reply) (next_call p.given) ≡ frame_of (in_head (frame_in p.given scripted)).unique reply
    new_frame =
        ap (λ (found : Option Call). unwrap_or (option_and_then (λ s. option_map (frame_of (in_head (frame_by (with_reply replies (next_call p.given) reply) s)).unique)
        (reply_of (with_reply replies (next_call p.given) reply) (next_call p.given))) found) []) call_is
        ∙ ap (λ found. unwrap_or (option_map (frame_of (in_head (frame_by (with_reply replies (next_call p.given) reply) scripted)).unique) found) []) new_reply
        ∙ ap (λ frame. frame_of (in_head frame).unique reply) frame_after

    framed_after : (after_call p scripted after reply).frames ≡ map (reply_frame scenario.phases (with_reply replies (next_call p.given) reply)) (p.calls ++ next_call p.given ∷ [])
    framed_after =
        ap (λ frames. frames ++ frame_of (in_head (frame_in p.given scripted)).unique reply ∷ [])
        (amid.playing.scripted.framed ∙ sym (frames_same scenario.phases replies ((next_call p.given, reply) ∷ []) p.calls amid.playing.scripted.answered))
        ∙ ap (λ frame. map (reply_frame scenario.phases (with_reply replies (next_call p.given) reply)) p.calls ++ frame ∷ []) (sym new_frame)
        ∙ sym (map-append (reply_frame scenario.phases (with_reply replies (next_call p.given) reply)) p.calls (next_call p.given ∷ []))

    whole_after : (number : ℕ) → number < length (with_last p.given (given_by reply)) → length (row_of (with_last p.given (given_by reply)) number) ≡ length (calls_by (lane_at scenario.phases number))
    whole_after number before =
        let size : length (with_last p.given (given_by reply)) ≡ length p.given = with_last-length p.given (given_by reply) in
        ap (λ (r : List Given). length r) (row_of-other p.given (given_by reply) number (λ same. absurd (omega (arith, before, size, same))))
        ∙ amid.playing.scripted.whole number (omega (arith, before, size))

    scripted_after : IsScripted scenario.phases (after_call p scripted after reply) (come_to after c.account)
    scripted_after = record {
      asked = asked_after;
      covered = covered_after;
      counted = counted_after;
      given = λ call. given_more p.given replies amid.playing.scripted.given begun reply call ∙ ap (λ rs. option_map given_by (reply_of rs call)) (sym told);
      answered = subst (λ rs. AllByRecursion (IsAnswered scenario.phases rs) (p.calls ++ next_call p.given ∷ [])) (sym told) answered_after;
      framed = framed_after ∙ ap (λ rs. map (reply_frame scenario.phases rs) (p.calls ++ next_call p.given ∷ [])) (sym told);
      whole = whole_after;
    }

    playing_after : IsPlaying scenario (after_call p scripted after reply)
    playing_after = record {
      lawful = amid.playing.lawful;
      mount = mount_stays scenario p.lone after amid.playing.mount (c.left ∙ ap (λ (l : LoneState). record p.lone { log = l.log; journal = l.journal }) (sym c.left));
      account = c.account;
      tells = c.tells;
      scripted = scripted_after;
    }

    brought_more : brought_by scenario (after_call p scripted after reply) ≡ joined (brought_by scenario p) (of_call (next_call p.given))
    brought_more = λ i. record {
      moves = moves i;
      writes = writes i;
      calls = p.calls ++ next_call p.given ∷ [];
    }
      where
        moves : map move_of after.journal ≡ map move_of p.lone.journal ++ (of_call (next_call p.given)).moves
        moves = ap (λ (l : LoneState). map move_of l.journal) c.left ∙ map-append move_of p.lone.journal _

        writes : remotely_made scenario.phases after.log ≡ remotely_made scenario.phases p.lone.log ++ []
        writes = ap (remotely_made scenario.phases) log_is ∙ made_by_call scenario.phases p.lone.log c.more (length p.given) not_remote c.own

    pub call_done : IsAmid calls scenario (after_call p scripted after reply) left more
    call_done = record {
      playing = playing_after;
      before = amid.before;
      done = amid.done ++ scripted ∷ [];
      lanes = amid.lanes ∙ ap (λ cs. amid.before ++ calls cs ∷ more) (sym (append_assoc amid.done (scripted ∷ []) left));
      begun = with_last-length p.given (given_by reply) ∙ amid.begun;
      answered = ap (λ n. length (row_of (with_last p.given (given_by reply)) n)) (with_last-length p.given (given_by reply))
          ∙ ap (λ (r : List Given). length r) (row_of-last p.given (given_by reply) (length p.given) begun refl)
          ∙ length-append row (given_by reply ∷ []) ∙ ap (λ n. n + 1) amid.answered ∙ sym (length-append amid.done (scripted ∷ []));
      brought = brought_more ∙ ap (λ b. joined b (of_call (next_call p.given))) amid.brought
          ∙ joined_assoc (of_lanes 1 amid.before) (of_lane (length p.given) (calls amid.done)) (of_call (next_call p.given))
          ∙ ap (joined (of_lanes 1 amid.before)) (sym (call_next (length p.given) amid.done scripted (next_call p.given) at))
          ∙ ap (λ n. joined (of_lanes 1 amid.before) (of_lane n (calls (amid.done ++ scripted ∷ [])))) (sym (with_last-length p.given (given_by reply)));
    }
      where
        next : length row + 1 ≡ 1 + length amid.done
        next = let answered : length row ≡ length amid.done = amid.answered in omega (arith, answered)

        at : next_call p.given ≡ record { lane = length p.given; index = 1 + length amid.done }
        at = ap (λ n. record { lane = length p.given; index = n }) next
