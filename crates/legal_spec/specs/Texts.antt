-- The history of a scenario that was played, as it is printed.
use Rattle.std.specs.Prelude.{ℕ, List, [], length, map, option_and_then, option_map, unwrap_or}
use Rattle.std.specs.List.{flat_map}
use Rattle.bucket_api.specs.Log.{state_at}
use Rattle.bucket_api.specs.LogEvent.{LogEvent}
use Rattle.fuse_head.specs.Head.{in_head}
use Rattle.fuse_replies.specs.Replies.{frame_of}
use Rattle.history_spec.specs.Account.{Account, journal_of}
use Rattle.history_spec.specs.JournalState.{replies_of}
use Rattle.history_text.specs.HistoryText.{History, history_text}
use Rattle.legal_spec.specs.Frames.{Replies, frame_by, reply_of}
use Rattle.legal_spec.specs.Legal.{played}
use Rattle.legal_spec.specs.Schedules.{brought, call_at, calls_of}
use Rattle.mount_model.specs.declared.gate.CallId.{CallId}
use Rattle.scenario.specs.Parts.{Lane, ScenarioData}

-- all calls, by lane and then by index
abbrev pub all_calls : List (List Lane) → List CallId
all_calls phases = flat_map (λ lane. lane) (brought calls_of 1 (flat_map (λ lanes. lanes) phases))

-- the reply frame of a call, by the unique number of its frame; no bytes where it got no reply
abbrev pub reply_frame : List (List Lane) → Replies → CallId → List ℕ
reply_frame phases replies call =
    unwrap_or
    (option_and_then (λ scripted. option_map (frame_of (in_head (frame_by replies scripted)).unique) (reply_of replies call)) (call_at phases call))
    []

-- what is printed of it: the reply frames, the calls, the bucket that the log leaves, the log and the journal
abbrev pub history_of : ScenarioData → List LogEvent → Account → History
history_of scenario log account =
    let calls = all_calls scenario.phases in
    record {
      replies = map (reply_frame scenario.phases (replies_of (played scenario log account))) calls;
      calls = calls;
      bucket = state_at scenario.start log (length log);
      log = log;
      journal = journal_of account;
    }

abbrev pub text : ScenarioData → List LogEvent → Account → List ℕ
text scenario log account = history_text (history_of scenario log account)
