-- What is played of all lanes is a legal history of the scenario.
use Rattle.std.proofs.Common.{◌≡◌, ℕ, Bool, true, false, List, [], ◌∷◌, ◌++◌, length, map, refl, sym, ap, subst, ◌∙◌, ◌⊎◌, inl, inr, append-nil}
use Rattle.std.specs.List.{AllByRecursion, flat_map}
use Rattle.std.specs.Prelude.{IsTrue}
use Rattle.bucket_api.specs.Log.{state_at}
use Rattle.bucket_api.specs.LogEvent.{LogEvent}
use Rattle.history_laws.proofs.OneByOneLaws.{one_by_one_is_apart}
use Rattle.history_spec.specs.Account.{Account, journal_of}
use Rattle.history_spec.specs.Fits.{Fits}
use Rattle.history_spec.specs.JournalState.{JournalState, replies_of}
use Rattle.history_spec.specs.Lanes.{IsCovered}
use Rattle.history_text.specs.HistoryText.{History, IsPlayed}
use Rattle.legal_spec.proofs.MadeLaws.{covered_is_made}
use Rattle.legal_spec.proofs.TextLaws.{histories_are_played}
use Rattle.legal_spec.specs.Frames.{Replies}
use Rattle.legal_spec.specs.Legal.{IsAsked, Legal, played}
use Rattle.legal_spec.specs.Promises.{Orderly}
use Rattle.legal_spec.specs.Schedules.{is_remote, lane_at, moves_of, operations_of}
use Rattle.legal_spec.specs.Texts.{all_calls, history_of, reply_frame}
use Rattle.mount_core.specs.Lones.{IsLone, LoneState, Tells, come_to}
use Rattle.mount_model.specs.Journal as journal
use Rattle.mount_model.specs.Journal.{Entry}
use Rattle.mount_model.specs.declared.gate.CallId.{CallId}
use Rattle.play_lanes.proofs.BroughtLaws.{calls_in_order, in_phases, moves_in_order, writes_in_order}
use Rattle.play_lanes.specs.Histories.{IsHistory}
use Rattle.play_lanes.specs.Playing.{Brought, IsAskedBy, IsBetween, IsPlaying, IsScripted, PlayState, brought_by, lanes_in, lone_of, of_lanes}
use Rattle.scenario.specs.Parts.{Lane, ScenarioData}

asked_is : (phases : List (List Lane)) (replies : Replies) (entries : List Entry) → AllByRecursion (IsAskedBy phases replies) entries → AllByRecursion (IsAsked phases replies) entries
asked_is phases replies [] all = tt
asked_is phases replies (journal.taken call front request ∷ entries) all = ((all.0.0, all.0.1, all.0.2), asked_is phases replies entries all.1)
asked_is phases replies (journal.done call front how uses fill ∷ entries) all = (tt, asked_is phases replies entries all.1)
asked_is phases replies (journal.ticked front seconds ∷ entries) all = (tt, asked_is phases replies entries all.1)

-- the mount is one of the scenario: its parts as variables
module _ (scenario : ScenarioData) (log : List LogEvent) (entries : List Entry) (calls : List CallId) (frames : List (List ℕ)) (account : Account)
    (tells : Tells (lone_of scenario log entries) account) (lone : IsLone (lone_of scenario log entries)) where
  abbrev last : JournalState
  last = played scenario log account

  abbrev fits : Fits scenario.config scenario.start log entries
  fits = record { account = account; told = tells.printed; is = tells.is }

  module _ (p : PlayState) (is : p ≡ record { lone = lone_of scenario log entries; calls = calls; frames = frames; given = p.given })
      (scripted : IsScripted scenario.phases p last) (brought : brought_by scenario p ≡ of_lanes 1 (lanes_in scenario.phases)) where
    log_is : p.lone.log ≡ log
    log_is = ap (λ (q : PlayState). q.lone.log) is

    entries_are : p.lone.journal ≡ entries
    entries_are = ap (λ (q : PlayState). q.lone.journal) is

    its : (q : PlayState) → p ≡ q → brought_by scenario q ≡ of_lanes 1 (lanes_in scenario.phases)
    its q same = subst (λ (r : PlayState). brought_by scenario r ≡ of_lanes 1 (lanes_in scenario.phases)) same brought

    either : (lane : ℕ) (one : Bool) → is_remote (lane_at scenario.phases lane) ≡ one → IsTrue (is_remote (lane_at scenario.phases lane)) ⊎ IsCovered log last lane
    either lane true same = inl same
    either lane false same = inr (subst (λ events. IsCovered events last lane) log_is (scripted.covered lane same))

    abbrev legal : Legal scenario log entries
    legal = record {
      fits = fits;
      script = lone.follows;
      moves = in_phases moves_of scenario.phases _ (ap (λ (b : Brought). b.moves) (its _ is) ∙ moves_in_order 1 (lanes_in scenario.phases));
      remote = in_phases operations_of scenario.phases _ (ap (λ (b : Brought). b.writes) (its _ is) ∙ writes_in_order 1 (lanes_in scenario.phases));
      asked = asked_is scenario.phases (replies_of last) entries (subst (AllByRecursion (IsAskedBy scenario.phases (replies_of last))) entries_are scripted.asked);
      made = covered_is_made scenario.phases log last tells.idle (λ moment event there. either event.lane (is_remote (lane_at scenario.phases event.lane)) refl);
    }

    abbrev orderly : Orderly scenario log entries
    orderly = record {
      legal = legal;
      bucket = lone.bucket;
      allowed = lone.allowed;
      apart = one_by_one_is_apart scenario.config scenario.start log account tells.is.follows tells.one_by_one;
    }

    calls_are : calls ≡ all_calls scenario.phases
    calls_are = ap (λ (b : Brought). b.calls) (its _ is) ∙ calls_in_order 1 (lanes_in scenario.phases)

    frames_are : frames ≡ map (reply_frame scenario.phases (replies_of last)) (all_calls scenario.phases)
    frames_are = sym (ap (λ (q : PlayState). q.frames) is) ∙ scripted.framed ∙ ap (map (reply_frame scenario.phases (replies_of last))) (ap (λ (q : PlayState). q.calls) is ∙ calls_are)

    pub history_is : IsHistory scenario (record { replies = frames; calls = calls; bucket = state_at scenario.start log (length log); log = log; journal = entries })
    history_is = record {
      log = log;
      journal = entries;
      orderly = orderly;
      printed = λ i. record { replies = frames_are i; calls = calls_are i; bucket = state_at scenario.start log (length log); log = log; journal = sym_told i };
    }
      where
        sym_told : entries ≡ journal_of account
        sym_told = sym tells.printed

-- what a player gives behind the last lane
pub finished : (scenario : ScenarioData) (p : PlayState) (between : IsBetween scenario p []) → IsLone p.lone
    → IsHistory scenario (record { replies = p.frames; calls = p.calls; bucket = state_at p.lone.start p.lone.log (length p.lone.log); log = p.lone.log; journal = p.lone.journal })
finished scenario p between lone =
    subst (λ (l : LoneState). IsHistory scenario (record { replies = p.frames; calls = p.calls; bucket = state_at l.start p.lone.log (length p.lone.log); log = p.lone.log; journal = p.lone.journal })) (sym mount)
    (history_is scenario p.lone.log p.lone.journal p.calls p.frames between.playing.account (subst (λ (l : LoneState). Tells l between.playing.account) mount between.playing.tells)
    (subst IsLone mount lone) p (ap (λ (l : LoneState). record p { lone = l }) mount)
    (subst (λ (l : LoneState). IsScripted scenario.phases p (come_to l between.playing.account)) mount between.playing.scripted)
    (between.brought ∙ ap (of_lanes 1) (sym (between.lanes ∙ append-nil between.done))))
  where
    mount : p.lone ≡ lone_of scenario p.lone.log p.lone.journal
    mount = between.playing.mount

-- each call of it has its reply, and the calls rise
pub history_played : (scenario : ScenarioData) (history : History) → IsHistory scenario history → IsPlayed history
history_played scenario history is = subst IsPlayed (sym is.printed) (histories_are_played scenario is.log is.orderly.legal.fits.account)
