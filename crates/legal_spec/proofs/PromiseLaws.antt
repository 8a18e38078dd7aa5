-- What holds along accounts holds of legal histories.
use Rattle.std.proofs.Common.{◌≡◌, ◌≤◌, ℕ, List, [], ◌∷◌, ◌++◌, Option, Some, None, refl, sym, ap, subst, ◌∙◌, arith, append_assoc, fold, find}
use Rattle.std.proofs.lemmas.Bool.{false≢true}
use Rattle.std.proofs.lemmas.List.Folds.{find-append}
use Rattle.std.specs.List.{AllByRecursion}
use Rattle.std.specs.Prelude.{if◌then◌else◌}
use Rattle.std.specs.Option.{IsSome, option_map, option_map_or, option_or}
use Rattle.bucket_api.specs.LogEvent.{LogEvent}
use Rattle.fuse_replies.specs.declared.reply.Reply.{Reply}
use Rattle.history_laws.proofs.ApartLaws.{ends_see_as_taken}
use Rattle.history_laws.proofs.FlushLaws.{flushes_are_guarded}
use Rattle.history_laws.proofs.NodeLaws.{counts_decide}
use Rattle.history_laws.proofs.OpenLaws.{opens_are_fresh}
use Rattle.history_laws.proofs.ReadLaws.{reads_are_of_content}
use Rattle.history_laws.specs.Ends.{CallEnd, IsLast, SeesAsTaken, turn_of}
use Rattle.history_spec.proofs.Following.{Follows-first, Follows-rest, after_turns-append, fronts_rise}
use Rattle.history_spec.specs.Account.{Account}
use Rattle.history_spec.specs.Claims.{StandApart}
use Rattle.history_spec.specs.Fits.{Follows, IsAccount}
use Rattle.history_spec.specs.JournalState.{JournalState, after_turns, first_journal, reached}
use Rattle.legal_spec.specs.Frames.{Replies, handle_given, is_call, node_given, number_taken, reply_of, written_at}
use Rattle.legal_spec.specs.Promises.{ContentOfReads, EndsIn, FramesStay, FreshOpen, GuardedFlush, LiveNodes, Orderly, mount_then}
use Rattle.mount_model.specs.Journal.{Entry}
use Rattle.mount_model.specs.declared.gate.CallId.{CallId}
use Rattle.scenario.specs.Parts.{ScenarioData}
use Rattle.scenario.specs.declared.call.Fix.{Fix}

-- ---- frames
pub reply_stays : (replies more : Replies) (call : CallId) → IsSome (reply_of replies call) → reply_of (replies ++ more) call ≡ reply_of replies call
reply_stays replies more call some =
    ap (option_map (λ (r : CallId × Reply). r.1)) (find-append (λ (r : CallId × Reply). is_call r.0 call) replies more) ∙ by (find (λ (r : CallId × Reply). is_call r.0 call) replies) some
  where
    by : (found : Option (CallId × Reply)) → IsSome (option_map (λ (r : CallId × Reply). r.1) found)
        → option_map (λ (r : CallId × Reply). r.1) (option_or found (find (λ (r : CallId × Reply). is_call r.0 call) more)) ≡ option_map (λ (r : CallId × Reply). r.1) found
    by None none = absurd (false≢true none)
    by (Some r) some = refl

written_stays : (replies more : Replies) (fixes : List Fix) (frame : List ℕ) → AllByRecursion (λ (fix : Fix). IsSome (reply_of replies fix.call)) fixes
    → fold (λ text (fix : Fix). written_at text fix.at (number_taken (replies ++ more) fix)) frame fixes ≡ fold (λ text (fix : Fix). written_at text fix.at (number_taken replies fix)) frame fixes
written_stays replies more [] frame all = refl
written_stays replies more (fix ∷ fixes) frame all =
    ap (λ found. fold (λ text (f : Fix). written_at text f.at (number_taken (replies ++ more) f)) (written_at frame fix.at (option_map_or (taken fix) found 0)) fixes) (reply_stays replies more fix.call all.0)
    ∙ written_stays replies more fixes (written_at frame fix.at (number_taken replies fix)) all.1
  where
    taken : Fix → Reply → ℕ
    taken f = if f.handle then handle_given else node_given

pub frames_stay : FramesStay
frames_stay replies more call all = written_stays replies more call.fixes call.frame all

-- ---- histories
first_account : (scenario : ScenarioData) (log : List LogEvent) (whole turns more : Account) → IsAccount scenario.config scenario.start log whole → whole ≡ turns ++ more
    → IsAccount scenario.config scenario.start log turns
first_account scenario log whole turns more is cut = record {
  follows = Follows-first scenario.config scenario.start log first_journal turns more all.follows;
  within =
      let rise : (reached scenario.config scenario.start log turns).front ≤ (after_turns scenario.config scenario.start log (reached scenario.config scenario.start log turns) more).front =
      fronts_rise scenario.config scenario.start log (reached scenario.config scenario.start log turns) more (Follows-rest scenario.config scenario.start log first_journal turns more all.follows) in
      let same : (reached scenario.config scenario.start log (turns ++ more)).front ≡ (after_turns scenario.config scenario.start log (reached scenario.config scenario.start log turns) more).front =
      ap (λ (s : JournalState). s.front) (after_turns-append scenario.config scenario.start log first_journal turns more) in
      let within = all.within in
      omega (arith, rise, same, within);
}
  where
    all : IsAccount scenario.config scenario.start log (turns ++ more)
    all = subst (IsAccount scenario.config scenario.start log) cut is

module _ (scenario : ScenarioData) (log : List LogEvent) (journal : List Entry) (history : Orderly scenario log journal) (turns : Account) (e : CallEnd)
    (ends : EndsIn scenario log history.legal.fits.account turns e) where
  last : IsLast scenario.config scenario.start log turns e
  last = record {
    bucket = history.bucket;
    allowed = history.allowed;
    is = first_account scenario log history.legal.fits.account (turns ++ turn_of e ∷ []) ends.more history.legal.fits.is (ends.whole ∙ sym (append_assoc turns (turn_of e ∷ []) ends.more));
    under_way = ends.under_way;
  }

  sees : SeesAsTaken (mount_then scenario log turns) e
  sees = ends_see_as_taken scenario.config scenario.start log turns ends.more e
      (subst (Follows scenario.config scenario.start log first_journal) ends.whole history.legal.fits.is.follows)
      (subst (StandApart scenario.config scenario.start log first_journal) ends.whole history.apart) ends.under_way

pub live_nodes : LiveNodes
live_nodes scenario log journal legal turns more number other cut =
    counts_decide scenario.config scenario.start log turns number other (first_account scenario log legal.fits.account turns more legal.fits.is cut)

pub content_of_reads : ContentOfReads
content_of_reads scenario log journal history turns e node fh first size bytes ends is_read told =
    reads_are_of_content scenario.config scenario.start log turns e node fh first size bytes (last scenario log journal history turns e ends) (sees scenario log journal history turns e ends) is_read told

pub guarded_flush : GuardedFlush
guarded_flush scenario log journal history turns e node file staged ends is_flush seen found free ok well =
    flushes_are_guarded scenario.config scenario.start log turns e node file staged (last scenario log journal history turns e ends) (sees scenario log journal history turns e ends) is_flush seen found free ok well

pub fresh_open : FreshOpen
fresh_open scenario log journal history turns e node flags fh file lifetime ends is_open seen unstaged told =
    opens_are_fresh scenario.config scenario.start log turns e node flags fh file lifetime (last scenario log journal history turns e ends) is_open seen unstaged told
