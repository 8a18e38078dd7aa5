-- The next call of a lane: from the first one on, call by call, beside another writer and the clock.
use Rattle.std.proofs.Common.{◌≡◌, ◌≢◌, ◌+◌, ℕ, zero, Bool, List, [], ◌∷◌, ◌++◌, length, map, filter, cond, refl, sym, ap, subst, ◌∙◌, arith}
use Rattle.std.specs.Prelude.{Contains, ◌==◌}
use Rattle.bucket_api.specs.BucketState.{BucketState}
use Rattle.bucket_api.specs.LogEvent.{LogEvent}
use Rattle.bucket_api.specs.declared.events.Mode.{Mode}
use Rattle.fuse_replies.specs.declared.reply.Reply.{Reply}
use Rattle.fuse_requests.specs.declared.request.Request.{Request}
use Rattle.history_spec.proofs.LaneLaws.{event_keeps_covered}
use Rattle.history_spec.proofs.Lanes.{same_lane}
use Rattle.history_spec.specs.Account.{Account}
use Rattle.history_spec.specs.Fits.{ended_in}
use Rattle.history_spec.specs.JournalState.{EndedCall, JournalState, OpenCall}
use Rattle.history_spec.specs.Lanes.{IsCovered}
use Rattle.history_spec.specs.Looks.{lanes_of}
use Rattle.mount_core.proofs.LoneAccounts.{account_is_one, first_or_later, first_told, tick_reached, tick_told, write_told}
use Rattle.mount_core.specs.Lones.{Calls, CallsOne, HasNext, HasNoCall, LoneState, StillTells, Tells, come_to, first_lone, with_tick}
use Rattle.mount_model.specs.declared.config.Config.{Config}
use Rattle.mount_model.specs.declared.gate.CallId.{CallId}

-- ---- before its first call
pub next_first : (config : Config) (start : BucketState) (script : List (ℕ × Mode)) (lane : ℕ) → HasNext (first_lone config start script) (record { lane = lane; index = 1 })
next_first config start script lane = record { account = []; tells = first_told config start script; next = refl; covered = refl }

pub no_call_first : (config : Config) (start : BucketState) (script : List (ℕ × Mode)) (lane : ℕ) → HasNoCall (first_lone config start script) lane
no_call_first config start script lane = record { account = []; tells = first_told config start script; beside = λ among. absurd (omega (arith, among.1)) }

-- ---- a call more
module _ (before after : LoneState) (call : CallId) (request : Request) (answer : Reply) (calls : CallsOne before call request answer after) where
  module _ (told : Account) (tells : Tells before told) where
    abbrev k : Calls before told call request answer after
    k = calls told tells

    ended_lane : (calls told tells).ended.call.lane ≡ call.lane
    ended_lane = ap (λ (c : CallId). c.lane) (calls told tells).is_call

    lanes_after : lanes_of (come_to after (calls told tells).account) ≡ (calls told tells).ended.call.lane ∷ map (λ (e : EndedCall). e.call.lane) (come_to before told).ended
    lanes_after =
        ap (λ (os : List OpenCall). map (λ (o : OpenCall). o.call.lane) os ++ map (λ (e : EndedCall). e.call.lane) (come_to after k.account).ended) k.tells.idle
        ∙ ap (λ (es : List EndedCall). map (λ (e : EndedCall). e.call.lane) es) k.ends

  pub next_called : HasNext before call → HasNext after (record { lane = call.lane; index = call.index + 1 })
  next_called next = record {
    account = (calls next.account next.tells).account;
    tells = (calls next.account next.tells).tells;
    next = ap (λ n. n + 1) (next.next ∙ sym one_more);
    covered = (calls next.account next.tells).tells.covered call.lane
        (subst (λ lanes. Contains lanes call.lane) (sym (lanes_after next.account next.tells)) (zero, omega arith, ended_lane next.account next.tells));
  }
    where
      one_more : ended_in (come_to after (calls next.account next.tells).account) call.lane ≡ ended_in (come_to before next.account) call.lane + 1
      one_more =
          ap (λ (es : List EndedCall). length (filter (λ (e : EndedCall). e.call.lane == call.lane) es)) (calls next.account next.tells).ends
          ∙ ap (λ (t : Bool). length (cond t ((calls next.account next.tells).ended ∷ filter (λ (e : EndedCall). e.call.lane == call.lane) (come_to before next.account).ended)
          (filter (λ (e : EndedCall). e.call.lane == call.lane) (come_to before next.account).ended)))
          (same_lane (calls next.account next.tells).ended.call.lane call.lane (ended_lane next.account next.tells))
          ∙ (omega arith)

  pub no_call_called : (lane : ℕ) → lane ≢ call.lane → HasNoCall before lane → HasNoCall after lane
  no_call_called lane differ none = record {
    account = (calls none.account none.tells).account;
    tells = (calls none.account none.tells).tells;
    beside = λ among. first_or_later (calls none.account none.tells).ended.call.lane (map (λ (e : EndedCall). e.call.lane) (come_to before none.account).ended) (λ l. l ≡ lane → ⊥) lane
        (subst (λ lanes. Contains lanes lane) (lanes_after none.account none.tells) among)
        (λ same. differ (sym same ∙ ended_lane none.account none.tells))
        (λ later same. none.beside (subst (λ lanes. Contains lanes lane)
        (sym (ap (λ (os : List OpenCall). map (λ (o : OpenCall). o.call.lane) os ++ map (λ (e : EndedCall). e.call.lane) (come_to before none.account).ended) none.tells.idle)) later)) refl;
  }

-- ---- a writer beside it
module _ (lone after : LoneState) (lane : ℕ) (event : LogEvent) (its : event.lane ≡ lane) (log : after ≡ record lone { log = lone.log ++ event ∷ [] }) (none : HasNoCall lone lane) where
  still : (told : Account) → Tells lone told → StillTells lone after told
  still told tells = subst (λ (l : LoneState). StillTells lone l told) (sym log) (write_told lone told tells event
      (λ among. none.beside (subst (λ (t : Account). Contains (lanes_of (come_to lone t)) lane) (account_is_one lone told none.account tells none.tells)
      (subst (Contains (lanes_of (come_to lone told))) its among))))

  pub next_written : (call : CallId) → lane ≢ call.lane → HasNext lone call → HasNext after call
  next_written call differ next = record {
    account = next.account;
    tells = (still next.account next.tells).tells;
    next = next.next ∙ ap (λ (s : JournalState). ended_in s call.lane + 1) (sym (still next.account next.tells).same);
    covered = subst (λ (l : LoneState). IsCovered l.log (come_to l next.account) call.lane) (sym log)
        (event_keeps_covered lone.config lone.start lone.log next.account event call.lane next.tells.is next.covered (λ same. absurd (differ (sym its ∙ same))));
  }

  pub no_call_written : HasNoCall after lane
  no_call_written = record {
    account = none.account;
    tells = (still none.account none.tells).tells;
    beside = λ among. none.beside (subst (λ (s : JournalState). Contains (lanes_of s) lane) (still none.account none.tells).same among);
  }

-- ---- the clock
module _ (lone : LoneState) (seconds : ℕ) where
  pub no_call_ticked : (lane : ℕ) → HasNoCall lone lane → HasNoCall (with_tick lone seconds) lane
  no_call_ticked lane none = record {
    account = none.account ++ _;
    tells = (tick_told lone none.account none.tells seconds).tells;
    beside = λ among. none.beside (subst (λ (s : JournalState). Contains (lanes_of s) lane) (tick_reached lone none.account none.tells seconds) among);
  }
