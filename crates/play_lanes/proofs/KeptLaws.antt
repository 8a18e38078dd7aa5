-- What was done stays so when further replies come, and when a call, an operation of a writer, or a second is added.
use Rattle.std.proofs.Common.{◌≡◌, ◌≢◌, ◌≤◌, ℕ, ◌+◌, Bool, true, false, cond, List, [], ◌∷◌, ◌++◌, filter, length, map, reverse, Option, Some, None, option_and_then, unwrap_or, refl, sym, ap, subst, ◌∙◌, ◌⊎◌, inl, inr, arith, append_assoc, append-nil, length-append}
use Rattle.std.proofs.lemmas.Bool.Decides.{eqb_tells}
use Rattle.std.proofs.lemmas.List.{map-append, reverse-append}
use Rattle.std.proofs.lemmas.List.Elements.{All-cons, All-head, All-nil, All-tail, Contains-append_right, filter-append}
use Rattle.std.specs.List.{All, AllByRecursion, Contains}
use Rattle.std.specs.Prelude.{◌==◌, IsSome, option_map}
use Rattle.bucket_api.specs.LogEvent.{LogEvent}
use Rattle.bucket_api.specs.Operation.{Operation}
use Rattle.fuse_head.specs.Head.{in_head}
use Rattle.fuse_replies.specs.Replies.{frame_of}
use Rattle.fuse_replies.specs.declared.reply.Reply.{Reply}
use Rattle.fuse_requests.specs.Grammar.{request_of}
use Rattle.history_spec.proofs.Lanes.{other_lane, same_lane}
use Rattle.history_spec.proofs.OwnMoments.{all_weaker, new_own, own_pushed}
use Rattle.history_spec.specs.Fits.{ended_in}
use Rattle.history_spec.specs.JournalState.{EndedCall, JournalState, OpenCall, replies_of}
use Rattle.history_spec.specs.Lanes.{IsCovered, ended_own, open_own}
use Rattle.history_spec.specs.Looks.{lanes_of}
use Rattle.history_spec.specs.Observing.{own_moments}
use Rattle.legal_spec.proofs.PromiseLaws.{frames_stay, reply_stays}
use Rattle.legal_spec.specs.Frames.{Replies, frame_by, reply_of}
use Rattle.legal_spec.specs.Schedules.{call_at, is_remote, lane_at, remotely_made}
use Rattle.legal_spec.specs.Texts.{reply_frame}
use Rattle.mount_core.specs.Lones.{LoneState}
use Rattle.mount_model.specs.Journal as journal
use Rattle.mount_model.specs.Journal.{Entry}
use Rattle.mount_model.specs.declared.gate.CallId.{CallId}
use Rattle.play_lanes.proofs.TableLaws.{with_reply}
use Rattle.play_lanes.specs.Playing.{HasReplies, IsAnswered, IsAskedBy, lone_of}
use Rattle.scenario.specs.Parts.{Call, Lane, ScenarioData}
use Rattle.scenario.specs.declared.call.Fix.{Fix}

-- ---- lists
pub all_and : {X : Type 0} (P : X → Type 0) (xs ys : List X) → AllByRecursion P xs → AllByRecursion P ys → AllByRecursion P (xs ++ ys)
all_and P [] ys first last = last
all_and P (x ∷ xs) ys first last = (first.0, all_and P xs ys first.1 last)

-- ---- the mount
-- a mount that has the settings, the bucket and the script of one of the scenario is one of it
pub mount_stays : (scenario : ScenarioData) (before after : LoneState) → before ≡ lone_of scenario before.log before.journal
    → after ≡ record before { log = after.log; journal = after.journal } → after ≡ lone_of scenario after.log after.journal
mount_stays scenario before after is left = left ∙ ap (λ (l : LoneState). record l { log = after.log; journal = after.journal }) is

-- ---- further replies
module _ (phases : List (List Lane)) (replies more : Replies) where
  some_stays : (call : CallId) → IsSome (reply_of replies call) → IsSome (reply_of (replies ++ more) call)
  some_stays call some = subst IsSome (sym (reply_stays replies more call some)) some

  pub fixed_stays : (call : Call) → HasReplies replies call → HasReplies (replies ++ more) call
  fixed_stays call has = all_weaker (λ (fix : Fix). IsSome (reply_of replies fix.call)) (λ (fix : Fix). IsSome (reply_of (replies ++ more) fix.call)) (λ fix some. some_stays fix.call some) call.fixes has

  asked_stays : (entry : Entry) → IsAskedBy phases replies entry → IsAskedBy phases (replies ++ more) entry
  asked_stays (journal.taken call front request) (scripted, there, is, has) =
      (scripted, there, is ∙ ap request_of (sym (frames_stay replies more scripted has)), fixed_stays scripted has)
  asked_stays (journal.done call front how uses fill) asked = tt
  asked_stays (journal.ticked front seconds) asked = tt

  pub all_asked_stay : (entries : List Entry) → AllByRecursion (IsAskedBy phases replies) entries → AllByRecursion (IsAskedBy phases (replies ++ more)) entries
  all_asked_stay entries all = all_weaker (IsAskedBy phases replies) (IsAskedBy phases (replies ++ more)) asked_stays entries all

  answered_stays : (call : CallId) → IsAnswered phases replies call → IsAnswered phases (replies ++ more) call
  answered_stays call is = record { scripted = is.scripted; there = is.there; fixed = fixed_stays is.scripted is.fixed; told = some_stays call is.told }

  pub all_answered_stay : (calls : List CallId) → AllByRecursion (IsAnswered phases replies) calls → AllByRecursion (IsAnswered phases (replies ++ more)) calls
  all_answered_stay calls all = all_weaker (IsAnswered phases replies) (IsAnswered phases (replies ++ more)) answered_stays calls all

  frame_stays : (call : CallId) → IsAnswered phases replies call → reply_frame phases (replies ++ more) call ≡ reply_frame phases replies call
  frame_stays call is =
      ap (λ (found : Option Call). unwrap_or (option_and_then (λ s. option_map (frame_of (in_head (frame_by (replies ++ more) s)).unique) (reply_of (replies ++ more) call)) found) []) is.there
      ∙ ap (λ frame. unwrap_or (option_map (frame_of (in_head frame).unique) (reply_of (replies ++ more) call)) []) (frames_stay replies more is.scripted is.fixed)
      ∙ ap (λ found. unwrap_or (option_map (frame_of (in_head (frame_by replies is.scripted)).unique) found) []) (reply_stays replies more call is.told)
      ∙ sym (ap (λ (found : Option Call). unwrap_or (option_and_then (λ s. option_map (frame_of (in_head (frame_by replies s)).unique) (reply_of replies call)) found) []) is.there)

  pub frames_same : (calls : List CallId) → AllByRecursion (IsAnswered phases replies) calls → map (reply_frame phases (replies ++ more)) calls ≡ map (reply_frame phases replies) calls
  frames_same [] all = refl
  frames_same (call ∷ calls) all =
      ap (λ frame. frame ∷ map (reply_frame phases (replies ++ more)) calls) (frame_stays call all.0)
      ∙ ap (λ frames. reply_frame phases replies call ∷ frames) (frames_same calls all.1)

-- ---- one more call that ended
-- one call more has ended, with this reply
pub record IsOneMore (state after : JournalState) (call : CallId) (reply : Reply) : Type 0 where
  pub ended : EndedCall
  pub is_call : ended.call ≡ call
  pub answered : ended.reply ≡ reply
  pub ends : after.ended ≡ ended ∷ state.ended

module _ (state after : JournalState) (call : CallId) (reply : Reply) (one : IsOneMore state after call reply) where
  pub replies_more : replies_of after ≡ with_reply (replies_of state) call reply
  replies_more =
      ap (λ es. reverse (map (λ (e : EndedCall). (e.call, e.reply)) es)) one.ends
      ∙ reverse-append ((one.ended.call, one.ended.reply) ∷ []) (map (λ (e : EndedCall). (e.call, e.reply)) state.ended)
      ∙ ap (λ c. with_reply (replies_of state) c one.ended.reply) one.is_call
      ∙ ap (with_reply (replies_of state) call) one.answered

  pub ended_more : (lane : ℕ) → call.lane ≡ lane → ended_in after lane ≡ ended_in state lane + 1
  ended_more lane same =
      ap (λ es. length (filter (λ (e : EndedCall). e.call.lane == lane) es)) one.ends
      ∙ ap (λ t. length (cond t (one.ended ∷ filter (λ (e : EndedCall). e.call.lane == lane) state.ended) (filter (λ (e : EndedCall). e.call.lane == lane) state.ended)))
      (same_lane one.ended.call.lane lane (ap (λ (c : CallId). c.lane) one.is_call ∙ same))
      ∙ omega arith

  pub ended_other : (lane : ℕ) → call.lane ≢ lane → ended_in after lane ≡ ended_in state lane
  ended_other lane differ =
      ap (λ es. length (filter (λ (e : EndedCall). e.call.lane == lane) es)) one.ends
      ∙ ap (λ t. length (cond t (one.ended ∷ filter (λ (e : EndedCall). e.call.lane == lane) state.ended) (filter (λ (e : EndedCall). e.call.lane == lane) state.ended)))
      (other_lane one.ended.call.lane lane (λ same. differ (sym (ap (λ (c : CallId). c.lane) one.is_call) ∙ same)))

  own_other : (lane : ℕ) → call.lane ≢ lane → ended_own after.ended lane ≡ ended_own state.ended lane
  own_other lane differ =
      ap (λ es. ended_own es lane) one.ends
      ∙ ap (λ t. cond t (ended_own state.ended lane ++ one.ended.own) (ended_own state.ended lane)) (other_lane one.ended.call.lane lane (λ same. differ (sym (ap (λ (c : CallId). c.lane) one.is_call) ∙ same)))

  pub lane_there : Contains (lanes_of after) call.lane
  lane_there =
      subst (λ lanes. Contains lanes call.lane) (ap (λ es. map (λ (o : OpenCall). o.call.lane) after.opened ++ map (λ (e : EndedCall). e.call.lane) es) (sym one.ends))
      (Contains-append_right (map (λ (o : OpenCall). o.call.lane) after.opened) (one.ended.call.lane ∷ map (λ (e : EndedCall). e.call.lane) state.ended) call.lane
      (0, omega arith, ap (λ (c : CallId). c.lane) one.is_call))

-- ---- events of one lane
module _ (lane : ℕ) where
  own_others : (log more : List LogEvent) (its : ℕ) → its ≢ lane → All (λ (e : LogEvent). e.lane ≡ its) more
      → own_moments (log ++ more) lane 0 (length (log ++ more)) ≡ own_moments log lane 0 (length log)
  own_others log [] its differ all = ap (λ events. own_moments events lane 0 (length events)) (append-nil log)
  own_others log (event ∷ more) its differ all =
      let later : own_moments ((log ++ event ∷ []) ++ more) lane 0 (length ((log ++ event ∷ []) ++ more)) ≡ own_moments (log ++ event ∷ []) lane 0 (length (log ++ event ∷ [])) =
      own_others (log ++ event ∷ []) more its differ (All-tail (λ (e : LogEvent). e.lane ≡ its) event more all) in
      let its_lane : event.lane ≡ its = All-head (λ (e : LogEvent). e.lane ≡ its) event more all in
      ap (λ events. own_moments events lane 0 (length events)) (sym (append_assoc log (event ∷ []) more))
      ∙ later ∙ own_pushed log event lane 0 (omega arith)
      ∙ ap (λ t. own_moments log lane 0 (length log) ++ cond t ((length log + 1) ∷ []) []) (other_lane event.lane lane (λ same. differ (sym its_lane ∙ same)))
      ∙ append-nil (own_moments log lane 0 (length log))

  -- where no call is under way, what a lane made is covered as it was, if what it made and its calls that ended are the same
  covered_same : (log other : List LogEvent) (state after : JournalState) → state.opened ≡ [] → after.opened ≡ []
      → own_moments other lane 0 (length other) ≡ own_moments log lane 0 (length log) → ended_own after.ended lane ≡ ended_own state.ended lane
      → IsCovered log state lane → IsCovered other after lane
  covered_same log other state after idle still own ended covered =
      own ∙ covered ∙ ap (λ os. ended_own state.ended lane ++ open_own log os lane) idle
      ∙ ap (λ moments. moments ++ []) (sym ended) ∙ sym (ap (λ os. ended_own after.ended lane ++ open_own other os lane) still)

  -- by a call of another lane
  pub covered_by_call : (log more : List LogEvent) (state after : JournalState) (call : CallId) (reply : Reply) → IsOneMore state after call reply
      → state.opened ≡ [] → after.opened ≡ [] → call.lane ≢ lane → All (λ (e : LogEvent). e.lane ≡ call.lane) more
      → IsCovered log state lane → IsCovered (log ++ more) after lane
  covered_by_call log more state after call reply one idle still differ own covered =
      covered_same log (log ++ more) state after idle still (own_others log more call.lane differ own) (own_other state after call reply one lane differ) covered

  -- by an operation of another lane
  pub covered_by_write : (log : List LogEvent) (event : LogEvent) (state after : JournalState) → after ≡ state → state.opened ≡ [] → event.lane ≢ lane
      → IsCovered log state lane → IsCovered (log ++ event ∷ []) after lane
  covered_by_write log event state after same idle differ covered =
      covered_same log (log ++ event ∷ []) state after idle (ap (λ (s : JournalState). s.opened) same ∙ idle)
      (own_others log (event ∷ []) event.lane differ (All-cons (λ (e : LogEvent). e.lane ≡ event.lane) event [] refl (All-nil (λ (e : LogEvent). e.lane ≡ event.lane))))
      (ap (λ (s : JournalState). ended_own s.ended lane) same) covered

  -- by nothing, where the same calls have ended
  pub covered_by_tick : (log : List LogEvent) (state after : JournalState) → state.opened ≡ [] → after.opened ≡ [] → after.ended ≡ state.ended
      → IsCovered log state lane → IsCovered log after lane
  covered_by_tick log state after idle still same covered = covered_same log log state after idle still refl (ap (λ es. ended_own es lane) same) covered

-- ---- remote writers
module _ (phases : List (List Lane)) where
  none_remote : (lane : ℕ) → is_remote (lane_at phases lane) ≡ false → (more : List LogEvent) → All (λ (e : LogEvent). e.lane ≡ lane) more
      → filter (λ (e : LogEvent). is_remote (lane_at phases e.lane)) more ≡ []
  none_remote lane not_one [] all = refl
  none_remote lane not_one (event ∷ more) all =
      ap (λ t. cond t (event ∷ filter (λ (e : LogEvent). is_remote (lane_at phases e.lane)) more) (filter (λ (e : LogEvent). is_remote (lane_at phases e.lane)) more))
      (ap (λ n. is_remote (lane_at phases n)) (All-head (λ (e : LogEvent). e.lane ≡ lane) event more all) ∙ not_one)
      ∙ none_remote lane not_one more (All-tail (λ (e : LogEvent). e.lane ≡ lane) event more all)

  -- a call brings no operation of a remote writer
  pub made_by_call : (log more : List LogEvent) (lane : ℕ) → is_remote (lane_at phases lane) ≡ false → All (λ (e : LogEvent). e.lane ≡ lane) more
      → remotely_made phases (log ++ more) ≡ remotely_made phases log ++ []
  made_by_call log more lane not_one all =
      ap (map (λ (e : LogEvent). (e.lane, e.op))) (filter-append (λ (e : LogEvent). is_remote (lane_at phases e.lane)) log more
      ∙ ap (λ events. filter (λ (e : LogEvent). is_remote (lane_at phases e.lane)) log ++ events) (none_remote lane not_one more all))
      ∙ map-append (λ (e : LogEvent). (e.lane, e.op)) (filter (λ (e : LogEvent). is_remote (lane_at phases e.lane)) log) []

  -- and a writer's own brings that one
  pub made_by_write : (log : List LogEvent) (event : LogEvent) → is_remote (lane_at phases event.lane) ≡ true
      → remotely_made phases (log ++ event ∷ []) ≡ remotely_made phases log ++ (event.lane, event.op) ∷ []
  made_by_write log event one =
      ap (map (λ (e : LogEvent). (e.lane, e.op))) (filter-append (λ (e : LogEvent). is_remote (lane_at phases e.lane)) log (event ∷ [])
      ∙ ap (λ t. filter (λ (e : LogEvent). is_remote (lane_at phases e.lane)) log ++ cond t (event ∷ []) []) one)
      ∙ map-append (λ (e : LogEvent). (e.lane, e.op)) (filter (λ (e : LogEvent). is_remote (lane_at phases e.lane)) log) (event ∷ [])
