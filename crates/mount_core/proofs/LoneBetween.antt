-- What holds of a mount that keeps its log and journal between two calls: it stays so by a call, by a writer beside it and by
-- seconds that pass.
use Rattle.std.proofs.Common.{◌≡◌, ◌≤◌, ◌+◌, ℕ, zero, suc, All, true, false, List, [], ◌∷◌, ◌++◌, Some, length, slice_get, refl, sym, ap, subst, ◌∙◌, arith}
use Rattle.std.proofs.Math.Nat.{min-le_right}
use Rattle.std.proofs.Math.Seq.{take-length}
use Rattle.std.proofs.lemmas.List.{map-append}
use Rattle.std.proofs.lemmas.List.Elements.{All-cons, All-head, All-nil, All-tail}
use Rattle.std.specs.List.{AllByRecursion, cons_option}
use Rattle.std.specs.Prelude.{Contains, IsSome, Option, is_some, option_and_then}
use Rattle.bucket_api.proofs.LogLaws.{IsBucket-state_at}
use Rattle.bucket_api.specs.BucketState.{BucketState, IsBucket}
use Rattle.bucket_api.specs.Log.{FollowsScript, answer_by, event_at}
use Rattle.bucket_api.specs.LogEvent.{LogEvent}
use Rattle.bucket_api.specs.Operation.{IsAllowed, Operation}
use Rattle.bucket_api.specs.declared.events.Mode.{Mode}
use Rattle.bucket_api.specs.declared.events.Mode.TheVariants as modes
use Rattle.file_metadata.specs.FileMetadata.{last_second}
use Rattle.fuse_replies.specs.declared.reply.Reply.{Reply}
use Rattle.fuse_requests.specs.declared.request.Request.{Request}
use Rattle.history_laws.proofs.Along.{files_whole, stands}
use Rattle.history_laws.proofs.Moments.{Told, told_at}
use Rattle.history_laws.proofs.NodeLaws.{IsMount-turn}
use Rattle.history_laws.specs.Ends.{over}
use Rattle.history_spec.specs.Account as account
use Rattle.history_spec.specs.Account.{Account, Item, moment_of, uses_of}
use Rattle.history_spec.specs.Fits.{EndsBy, HasWalked, IsAccount, ended_in}
use Rattle.history_spec.specs.JournalState.{JournalState, OpenCall, after_done, at_front, first_journal, mount_by, open_of, reply_by, taken_by, with_taken}
use Rattle.history_spec.specs.Lanes.{IsCovered}
use Rattle.history_spec.specs.Laws.{IsTaken, done_of, take_of}
use Rattle.history_spec.specs.Looks.{lanes_of}
use Rattle.history_spec.proofs.Walking.{Walked, Walked-walks}
use Rattle.history_spec.specs.Observing.{observed_at, seen_by}
use Rattle.logged_bucket.specs.LoggedState.{LoggedState}
use Rattle.mount_core.proofs.FirstLemmas.{came_first}
use Rattle.mount_core.proofs.LoggedEvents.{each_seen}
use Rattle.mount_core.proofs.LoneAccounts.{account_is_one, calls_so, first_told, reached_after, tick_reached, tick_told, told_after, write_told}
use Rattle.mount_core.proofs.MetadataLemmas.{gives_after}
use Rattle.mount_core.proofs.PairsInOrder.{TellInOrder, TellsInOrder}
use Rattle.mount_core.proofs.ToldLemmas.{in_order}
use Rattle.mount_core.proofs.ThriftServes.{is_served}
use Rattle.mount_core.specs.Logged.{IsOfBucket, IsServed, notes_seen}
use Rattle.mount_core.specs.LoneCalls.{AllServed, IsBetween, IsDone, IsTakenNow, Performs, SomeTaken, found_taken, lone_of}
use Rattle.mount_core.specs.Lones.{Calls, CallsOne, HasNext, HasNoCall, IsLone, LoneState, StillTells, Tells, Ticks, Writes, come_to, with_tick}
use Rattle.mount_core.specs.Metadatas.{GivesMetadata}
use Rattle.mount_laws.proofs.Keeping.{no_Some, same_Some}
use Rattle.mount_laws.proofs.Lengths.{files_are_short}
use Rattle.mount_model.specs.Configs.{IsConfig}
use Rattle.mount_model.specs.Journal as journal
use Rattle.mount_model.specs.Journal.{Entry}
use Rattle.mount_model.specs.Observing.{Observed}
use Rattle.mount_model.specs.declared.config.Config.{Config}
use Rattle.mount_model.specs.declared.gate.CallId.{CallId}
use Rattle.mount_model.specs.declared.journal.Fill.TheVariants as fill
use Rattle.mount_model.specs.declared.journal.How.{How}
use Rattle.mount_model.specs.declared.journal.How.TheVariants as how
use Rattle.mount_model.specs.declared.journal.JournalEntry.{JournalEntry}
use Rattle.mount_model.specs.declared.journal.Use.{Use}
use Rattle.mount_rules.specs.Dispatch.{mount_after, plan, reply_to, rules_of, view_in}
use Rattle.mount_rules.specs.Files.{FilesAreShort}
use Rattle.mount_rules.specs.Laws.{FilesHaveContent}
use Rattle.mount_rules.specs.Mount.{IsMount, MountModel, first_mount, second_at}
use Rattle.mount_rules.specs.OneThread.{contents_of}
use Rattle.mount_rules.specs.Overlap.{opened_at}
use Rattle.mount_rules.specs.Plans.{Plan, plan_after}
use Rattle.mount_kept.proofs.Flagged.{seen_flagged, walk_flagged}
use Rattle.mount_kept.proofs.Telling.{notes_tell_items}
use Rattle.mount_kept.proofs.ThriftItems.{goes_thrifty, thrifty_flagged}
use Rattle.mount_kept.specs.Items.{AreToldAs, note_of, notes_of}
use Rattle.mount_kept.specs.Notes as noting
use Rattle.mount_kept.specs.Serves.{found_of}
use Rattle.mount_kept.specs.Takings.{AllGoBy}
use Rattle.mount_kept.specs.declared.notes.Note.{Note}
use Rattle.mount_state.specs.Mounts.{MountState}
use Rattle.record_spec.specs.RecordList.{RecordList, empty_list}
use Rattle.thrift_spec.proofs.InParts.{AllTold-append, list_after_turns-append, records_of_kept}
use Rattle.thrift_spec.proofs.OneCall.{keeps_up_at, lists_call, walk_known}
use Rattle.thrift_spec.proofs.SameUpTo.{kept_over_longer}
use Rattle.thrift_spec.specs.OneCall.{ListsCall, OwnAreTold, records_taken}
use Rattle.thrift_spec.specs.Records.{RecordsAreTold, found_in, list_after_items, records_at}
use Rattle.thrift_spec.specs.Thrift.{AllThrifty, Kept}

-- ---- what its answers tell
allowed_at : (log : List LogEvent) (k : ℕ) (e : LogEvent) → slice_get log k ≡ Some e → All (λ (x : LogEvent). IsAllowed x.op) log → IsAllowed e.op
allowed_at [] k e there all = absurd (no_Some there)
allowed_at (x ∷ log) zero e there all = subst (λ (y : LogEvent). IsAllowed y.op) (same_Some there) (All-head (λ (y : LogEvent). IsAllowed y.op) x log all)
allowed_at (x ∷ log) (suc k) e there all = allowed_at log k e there (All-tail (λ (y : LogEvent). IsAllowed y.op) x log all)

allowed_moment : (log : List LogEvent) (moment : ℕ) (e : LogEvent) → event_at log moment ≡ Some e → All (λ (x : LogEvent). IsAllowed x.op) log → IsAllowed e.op
allowed_moment log zero e there all = absurd (no_Some there)
allowed_moment log (suc k) e there all = allowed_at log k e there all

in_order_by : (mode : Mode) (op : Operation) (b : BucketState) → IsAllowed op → IsBucket b → TellsInOrder (answer_by mode op b)
in_order_by modes.Done op b may is = in_order op b may is
in_order_by modes.Failed op b may is = tt
in_order_by modes.Lost op b may is = tt

seen_in_order : (start : BucketState) (log : List LogEvent) (items : List Item) → IsBucket start → All (λ (x : LogEvent). IsAllowed x.op) log → TellInOrder (seen_by start log items)
seen_in_order start log items is all = each_seen start log (λ (x : Observed). TellsInOrder x.answer) (λ moment seen told. each moment seen (told_at start log moment seen told)) items
  where
    each : (moment : ℕ) (seen : Observed) → Told start log moment seen → TellsInOrder seen.answer
    each moment seen t = subst TellsInOrder (sym t.answer) (in_order_by t.event.mode t.event.op _ (allowed_moment log moment t.event t.there all) (IsBucket-state_at start log _ is all))

-- so what it leaves gives metadata that may be given
gives_by : (start : BucketState) (log : List LogEvent) (mount : MountModel) (o : OpenCall) (items : List Item) (h : How) → IsMount mount → IsBucket start
    → All (λ (x : LogEvent). IsAllowed x.op) log → o.taken.at.second ≤ last_second → GivesMetadata mount → GivesMetadata (mount_by start log mount o h items)
gives_by start log mount o items how.Ok valid is all early_enough gives =
    gives_after o.taken.at mount o.taken.request (seen_by start log items) valid early_enough (seen_in_order start log items is all) gives
gives_by start log mount o items how.NoMemory valid is all early_enough gives = gives

-- ---- the second
pub second_early : (config : Config) (clock : ℕ) → second_at config clock ≤ last_second
second_early config clock = min-le_right (config.start + clock) last_second

-- ---- entries
-- one entry more
pub entries_on : (items : List JournalEntry) (item : JournalEntry) → journal.entries (items ++ item ∷ []) ≡ journal.entries items ++ journal.entry item ∷ []
entries_on items item = map-append journal.entry items (item ∷ [])

-- ---- its items
-- how it ends goes by what it saw alone
reply_seen : (start : BucketState) (log : List LogEvent) (mount : MountModel) (o : OpenCall) (h : How) (items others : List Item) → seen_by start log items ≡ seen_by start log others
    → reply_by start log mount o h items ≡ reply_by start log mount o h others
reply_seen start log mount o how.Ok items others same = ap (reply_to o.taken.at mount o.taken.request) same
reply_seen start log mount o how.NoMemory items others same = refl

mount_seen : (start : BucketState) (log : List LogEvent) (mount : MountModel) (o : OpenCall) (h : How) (items others : List Item) → seen_by start log items ≡ seen_by start log others
    → mount_by start log mount o h items ≡ mount_by start log mount o h others
mount_seen start log mount o how.Ok items others same = ap (mount_after o.taken.at mount o.taken.request) same
mount_seen start log mount o how.NoMemory items others same = refl

-- along a walk each item saw something, of which the notes tell
all_observed : (start : BucketState) (log : List LogEvent) (o : OpenCall) (way : Plan) (items : List Item) → Walked start log o way items → AllByRecursion (λ item. IsSome (observed_at start log (moment_of item))) items
all_observed start log o way [] walked = tt
all_observed start log o way (item ∷ items) walked = (ap is_some walked.1, all_observed start log o (plan_after way walked.0.answer) items walked.4)

notes_all : (start : BucketState) (log : List LogEvent) (o : OpenCall) (way : Plan) (items : List Item) → Walked start log o way items → notes_seen items (seen_by start log items) ≡ notes_of start log items
notes_all start log o way [] walked = refl
notes_all start log o way (item ∷ items) walked =
    ap (λ (f : Option Observed). notes_seen (item ∷ items) (cons_option f (seen_by start log items))) walked.1
    ∙ (ap (cons_option (note_of item walked.0)) (notes_all start log o (plan_after way walked.0.answer) items walked.4)
    ∙ sym (ap (λ (f : Option Observed). cons_option (option_and_then (note_of item) f) (notes_of start log items)) walked.1))

-- a longer log leaves the record list as it was
records_over : (config : Config) (start : BucketState) (log more : List LogEvent) (turns : Account) → IsAccount config start log turns
    → records_at config start (log ++ more) turns ≡ records_at config start log turns
records_over config start log more turns is =
    sym (records_of_kept config start (log ++ more) turns) ∙ (ap (λ (k : Kept). k.records) (kept_over_longer config start log more turns is).keeps ∙ records_of_kept config start log turns)

-- ---- between two calls
module _ (config : Config) (mount : MountState) (list : RecordList) (logged : LoggedState) (entries : List Entry) (clock : ℕ) (between : IsBetween config mount list logged entries clock) where
  abbrev pub before : LoneState
  before = lone_of config logged entries

  abbrev pub state : JournalState
  state = come_to (lone_of config logged entries) between.account

  pub files_so : FilesHaveContent (over logged.start logged.log mount.mount)
  files_so = subst (λ (m : MountModel). FilesHaveContent (over logged.start logged.log m)) (sym between.mount_is)
      (files_whole logged.start logged.log state
      (stands config logged.start logged.log between.bucket.start between.bucket.allowed between.account between.tells.is.follows))

  pub short_so : FilesAreShort mount.mount
  short_so = files_are_short (over logged.start logged.log mount.mount) between.bucket.start between.bucket.allowed files_so

  -- ---- a call
  module _ (call : CallId) (request : Request) (next : HasNext (lone_of config logged entries) call) where
    abbrev o : OpenCall
    o = taken_by state call (length logged.log) (opened_at (at_front config logged.start logged.log state.clock (length logged.log)) state.mount request)

    one_account : next.account ≡ between.account
    one_account = account_is_one before next.account between.account next.tells between.tells

    taken : IsTaken config logged.start logged.log state o
    taken = record {
      free = ap (λ os. open_of os call.lane) between.tells.idle;
      next = subst (λ (told : Account). call.index ≡ ended_in (come_to before told) call.lane + 1) one_account next.next;
      so = refl;
    }

    now : IsTakenNow config (second_at config clock) call.lane logged request o
    now = record {
      lane_is = refl;
      front = refl;
      request_is = refl;
      settings = refl;
      second_is = ap (second_at config) (sym between.clock_is);
      contents = ap (λ (log : List LogEvent). contents_of (record { start = logged.start; log = log })) (take-length logged.log);
    }

    -- what it finds serves it
    serve : AllServed config clock mount.mount list logged request o
    serve asks = subst (λ (m : MountModel). IsServed (found_of config clock asks list ((rules_of request).keys (view_in m request))) m logged o) (sym between.mount_is)
        (subst (λ (l : RecordList). IsServed (found_of config clock asks l ((rules_of request).keys (view_in state.mount request))) state.mount logged o) (sym between.listed)
        (subst (λ now. IsServed (found_of config now asks (records_at config logged.start logged.log between.account) ((rules_of request).keys (view_in state.mount request))) state.mount logged o)
        (sym between.clock_is)
        (is_served config logged between.account o between.tells.is between.told taken asks)))

    pub some_taken : SomeTaken config clock call.lane mount.mount list logged request
    some_taken = record { o = o; now = now; served = serve }

    module _ (answer : Reply) (h : How) (notes : List Note) (uses : List Use) (left : MountState) (list_taken list_after : RecordList) (after : LoggedState) (journal_after : List Entry)
        (valid : IsMount mount.mount) (sound : IsOfBucket after)
        (performed : Performs config clock call.lane mount.mount list logged request answer h notes left.mount list_taken after)
        (tells_it : noting.EndsBy config.implicit_dirs clock list_taken notes uses list_after)
        (kept : left ≡ record mount { mount = left.mount })
        (pushed : journal_after ≡ entries ++ journal.taken call (length logged.log) request ∷ journal.done call (length after.log) h uses fill.Nothing ∷ []) where
      d : IsDone mount.mount (found_taken config clock o.taken.at mount.mount list request) logged after o answer h notes left.mount
      d = performed.done o now serve

      log_is : after.log ≡ logged.log ++ d.made.more
      log_is = ap (λ (s : LoggedState). s.log) d.made.log

      abbrev whole : List LogEvent
      whole = logged.log ++ d.made.more

      abbrev way : Plan
      way = plan o.taken.at state.mount request

      walk_made : HasWalked logged.start (logged.log ++ d.made.more) (plan o.taken.at state.mount request) o (length (logged.log ++ d.made.more)) d.items
      walk_made = subst (λ (m : MountModel). HasWalked logged.start whole (plan o.taken.at m request) o (length whole) d.items) between.mount_is
          (subst (λ (log : List LogEvent). HasWalked logged.start log (plan o.taken.at mount.mount request) o (length log) d.items) log_is d.made.walk)

      walked : Walked logged.start (logged.log ++ d.made.more) o (plan o.taken.at state.mount request) d.items
      walked = Walked-walks logged.start whole o way d.items walk_made.told walk_made.walked

      noted : notes ≡ notes_of logged.start (logged.log ++ d.made.more) d.items
      noted = d.noted ∙ ap (λ (log : List LogEvent). notes_seen d.items (seen_by logged.start log d.items)) log_is ∙ notes_all logged.start whole o way d.items walked

      -- its items with their flags
      flagged : AreToldAs config.implicit_dirs logged.start (logged.log ++ d.made.more) clock list_taken d.items uses list_after
      flagged = notes_tell_items config.implicit_dirs logged.start whole clock list_taken d.items uses list_after (all_observed logged.start whole o way d.items walked)
          (subst (λ (ns : List Note). noting.EndsBy config.implicit_dirs clock list_taken ns uses list_after) noted tells_it)

      abbrev items : List Item
      items = flagged.told

      saw_same : seen_by logged.start (logged.log ++ d.made.more) flagged.told ≡ seen_by logged.start (logged.log ++ d.made.more) d.items
      saw_same = seen_flagged logged.start whole d.items flagged.told flagged.same

      walk : HasWalked logged.start (logged.log ++ d.made.more) (plan o.taken.at state.mount request) o (length (logged.log ++ d.made.more)) flagged.told
      walk = walk_flagged logged.start whole o way (length whole) d.items flagged.told flagged.same walk_made

      after_is : lone_of config after journal_after
          ≡ record before {
            log = logged.log ++ d.made.more;
            journal = entries ++ journal.taken call (length logged.log) request ∷ journal.done call (length (logged.log ++ d.made.more)) h (uses_of flagged.told) fill.Nothing ∷ [];
          }
      after_is =
          ap (λ (s : LoggedState). lone_of config s journal_after) d.made.log
          ∙ ap (λ (es : List Entry). record before { log = whole; journal = es })
          (pushed
          ∙ ap (λ (log : List LogEvent). entries ++ journal.taken call (length logged.log) request ∷ journal.done call (length log) h uses fill.Nothing ∷ []) log_is
          ∙ ap (λ (u : List Use). entries ++ journal.taken call (length logged.log) request ∷ journal.done call (length whole) h u fill.Nothing ∷ []) (sym flagged.printed))

      mine : IsCovered logged.log state call.lane
      mine = subst (λ (told : Account). IsCovered logged.log (come_to before told) call.lane) one_account next.covered

      ends : EndsBy h (plan o.taken.at state.mount request) (seen_by logged.start (logged.log ++ d.made.more) flagged.told)
      ends = subst (EndsBy h way) (sym saw_same)
          (subst (λ (m : MountModel). EndsBy h (plan o.taken.at m request) (seen_by logged.start whole d.items)) between.mount_is
          (subst (λ (log : List LogEvent). EndsBy h (plan o.taken.at mount.mount request) (seen_by logged.start log d.items)) log_is d.ends))

      answered : answer ≡ reply_by logged.start (logged.log ++ d.made.more) state.mount o h flagged.told
      answered = d.answered ∙ ap (λ (log : List LogEvent). reply_by logged.start log mount.mount o h d.items) log_is
          ∙ ap (λ (m : MountModel). reply_by logged.start whole m o h d.items) between.mount_is
          ∙ reply_seen logged.start whole state.mount o h d.items flagged.told (sym saw_same)

      -- it went by what was found in the records that its account came to, so its looks are thrifty
      went : AllGoBy (found_taken config state.clock o.taken.at state.mount (records_at config logged.start logged.log between.account) request) d.items (seen_by logged.start (logged.log ++ d.made.more) d.items)
      went =
          subst (λ (l : RecordList). AllGoBy (found_taken config state.clock o.taken.at state.mount l request) d.items (seen_by logged.start whole d.items)) between.listed
          (subst (λ now. AllGoBy (found_taken config now o.taken.at state.mount list request) d.items (seen_by logged.start whole d.items)) between.clock_is
          (subst (λ (m : MountModel). AllGoBy (found_taken config clock o.taken.at m list request) d.items (seen_by logged.start whole d.items)) between.mount_is
          (subst (λ (log : List LogEvent). AllGoBy (found_taken config clock o.taken.at mount.mount list request) d.items (seen_by logged.start log d.items)) log_is d.goes)))

      looks : AllThrifty logged.start (logged.log ++ d.made.more) o (records_at config logged.start logged.log between.account) flagged.told
      looks = thrifty_flagged logged.start whole o (records_at config logged.start logged.log between.account) d.items flagged.told flagged.same
          (goes_thrifty config logged.start logged.log d.made.more between.account o (IsMount-turn config logged.start logged.log) between.tells.is between.told taken (length whole) d.items walk_made went)

      lists : ListsCall config logged.start logged.log d.made.more between.account o h flagged.told fill.Nothing
      lists = lists_call config logged.start logged.log d.made.more between.account o h flagged.told fill.Nothing between.tells.is taken

      -- its list as the take leaves it
      taken_so : list_taken ≡ records_taken config state (records_at config logged.start logged.log between.account) o
      taken_so = performed.finds o.taken.at refl (ap (second_at config) (sym between.clock_is))
          ∙ (ap (λ (m : MountModel). found_in config clock (plan o.taken.at m request) ((rules_of request).keys (view_in m request)) list) between.mount_is
          ∙ (ap (λ now. found_in config now (plan o.taken.at state.mount request) ((rules_of request).keys (view_in state.mount request)) list) between.clock_is
          ∙ ap (found_in config state.clock (plan o.taken.at state.mount request) ((rules_of request).keys (view_in state.mount request))) between.listed))

      -- flags tell all
      flags_told : RecordsAreTold config logged.start (logged.log ++ d.made.more) (between.account ++ take_of o ∷ done_of o (length (logged.log ++ d.made.more)) h flagged.told fill.Nothing ∷ [])
      flags_told =
          lists.told between.told (walk_known logged.start whole o config.implicit_dirs (records_at config logged.start logged.log between.account) way flagged.told
          (keeps_up_at config logged.start logged.log between.account between.told) (Walked-walks logged.start whole o way flagged.told walk.told walk.walked))
          (subst (λ (l : RecordList). OwnAreTold config.implicit_dirs logged.start whole state.clock l flagged.told) taken_so
          (subst (λ now. OwnAreTold config.implicit_dirs logged.start whole now list_taken flagged.told) between.clock_is flagged.flags))

      added : Calls before between.account call request answer (lone_of config after journal_after)
      added = subst (Calls before between.account call request answer) (sym after_is)
          (calls_so before between.account between.tells o taken mine d.made.more d.made.own h flagged.told walk ends answer answered looks flags_told)

      -- it is added to the account
      pub calls_one : CallsOne (lone_of config logged entries) call request answer (lone_of config after journal_after)
      calls_one told tells =
          subst (λ (t : Account). Calls before t call request answer (lone_of config after journal_after)) (account_is_one before between.account told between.tells tells) added

      abbrev account_after : Account
      account_after = between.account ++ take_of o ∷ done_of o (length (logged.log ++ d.made.more)) h flagged.told fill.Nothing ∷ []

      state_after : come_to (lone_of config after journal_after) account_after ≡ after_done logged.start (logged.log ++ d.made.more) (with_taken state o) (length (logged.log ++ d.made.more)) h flagged.told o
      state_after = ap (λ (l : LoneState). come_to l account_after) after_is
          ∙ reached_after before between.account between.tells o taken mine d.made.more d.made.own h flagged.told walk ends

      leaves : left.mount ≡ mount_by logged.start (logged.log ++ d.made.more) state.mount o h flagged.told
      leaves = d.leaves ∙ ap (λ (log : List LogEvent). mount_by logged.start log mount.mount o h d.items) log_is
          ∙ ap (λ (m : MountModel). mount_by logged.start whole m o h d.items) between.mount_is
          ∙ mount_seen logged.start whole state.mount o h d.items flagged.told (sym saw_same)

      start_is : logged.start ≡ after.start
      start_is = sym (ap (λ (s : LoggedState). s.start) d.made.log)

      -- and the mount is between two calls again
      pub between_after : IsBetween config left list_after after journal_after clock
      between_after = record {
        settings = between.settings;
        same = ap (λ (m : MountState). m.config) kept ∙ between.same;
        idle = ap (λ (m : MountState). m.promised) kept ∙ between.idle;
        bucket = sound;
        account = account_after;
        tells = subst (λ (l : LoneState). Tells l account_after) (sym after_is)
            (told_after before between.account between.tells o taken mine d.made.more d.made.own h flagged.told walk ends);
        mount_is = leaves ∙ sym (ap (λ (s : JournalState). s.mount) state_after);
        clock_is = between.clock_is ∙ sym (ap (λ (s : JournalState). s.clock) state_after);
        metadata = subst GivesMetadata (sym d.leaves)
            (gives_by logged.start after.log mount.mount o d.items h valid between.bucket.start sound.allowed (second_early config state.clock) between.metadata);
        listed = sym flagged.leaves
            ∙ (ap (λ now. list_after_items config.implicit_dirs logged.start whole now list_taken flagged.told) between.clock_is
            ∙ (ap (λ (l : RecordList). list_after_items config.implicit_dirs logged.start whole state.clock l flagged.told) taken_so
            ∙ (sym lists.lists ∙ ap (λ (log : List LogEvent). records_at config logged.start log account_after) (sym log_is) ∙ ap (λ (s : BucketState). records_at config s after.log account_after) start_is)));
        told = subst (λ (s : BucketState). RecordsAreTold config s after.log account_after) start_is
            (subst (λ (log : List LogEvent). RecordsAreTold config logged.start log account_after) (sym log_is)
            flags_told);
      }

  -- ---- a writer beside it
  module _ (lane : ℕ) (op : Operation) (after : LoggedState) (event : LogEvent) (its : event.lane ≡ lane) (log : after ≡ record logged { log = logged.log ++ event ∷ [] })
      (sound : IsOfBucket after) (beside : HasNoCall (lone_of config logged entries) lane) where
    written : lone_of config after entries ≡ record before { log = logged.log ++ event ∷ [] }
    written = ap (λ (s : LoggedState). lone_of config s entries) log

    alone : (told : Account) → Tells before told → Contains (lanes_of (come_to before told)) event.lane → ⊥
    alone told tells among =
        beside.beside (subst (λ (t : Account). Contains (lanes_of (come_to before t)) lane) (account_is_one before told beside.account tells beside.tells)
        (subst (Contains (lanes_of (come_to before told))) its among))

    pub writes_so : Writes (lone_of config logged entries) (lone_of config after entries)
    writes_so told tells = subst (λ (l : LoneState). StillTells before l told) (sym written) (write_told before told tells event (alone told tells))

    pub between_written : IsBetween config mount list after entries clock
    between_written =
        let still = writes_so between.account between.tells in
        record {
          settings = between.settings;
          same = between.same;
          idle = between.idle;
          bucket = sound;
          account = between.account;
          tells = still.tells;
          mount_is = between.mount_is ∙ sym (ap (λ (s : JournalState). s.mount) still.same);
          clock_is = between.clock_is ∙ sym (ap (λ (s : JournalState). s.clock) still.same);
          metadata = between.metadata;
          listed = between.listed ∙ sym (records_over config logged.start logged.log (event ∷ []) between.account between.tells.is)
              ∙ ap (λ (s : LoggedState). records_at config s.start s.log between.account) (sym log);
          told = subst (λ (s : LoggedState). RecordsAreTold config s.start s.log between.account) (sym log)
              ((kept_over_longer config logged.start logged.log (event ∷ []) between.account between.tells.is).told between.told);
        }

  -- ---- the clock
  module _ (seconds clock_after : ℕ) (counted : clock_after ≡ clock + seconds) where
    pub ticks_so : Ticks (lone_of config logged entries) (with_tick (lone_of config logged entries) seconds) seconds
    ticks_so told tells = tick_told before told tells seconds

    pub between_ticked : IsBetween config mount list logged (entries ++ journal.ticked (length logged.log) seconds ∷ []) clock_after
    between_ticked =
        let on = ticks_so between.account between.tells in
        let reached = tick_reached before between.account between.tells seconds in
        record {
          settings = between.settings;
          same = between.same;
          idle = between.idle;
          bucket = between.bucket;
          account = between.account ++ account.tick (length logged.log) seconds ∷ [];
          tells = on.tells;
          mount_is = between.mount_is ∙ sym (ap (λ (s : JournalState). s.mount) reached);
          clock_is = counted ∙ ap (λ n. n + seconds) between.clock_is ∙ sym (ap (λ (s : JournalState). s.clock) reached);
          metadata = between.metadata;
          listed = between.listed
              ∙ sym (list_after_turns-append config logged.start logged.log first_journal (empty_list config.record_capacity) between.account (account.tick (length logged.log) seconds ∷ []));
          told = AllTold-append config logged.start logged.log first_journal (empty_list config.record_capacity) between.account (account.tick (length logged.log) seconds ∷ []) between.told (tt, tt);
        }

  -- what it is by then
  pub lone_so : FollowsScript logged.script logged.log → IsLone (lone_of config logged entries)
  lone_so follows = record {
    settings = between.settings;
    bucket = between.bucket.start;
    allowed = between.bucket.allowed;
    follows = follows;
    account = between.account;
    tells = between.tells;
  }

-- ---- before its first call
pub between_first : (config : Config) (start : BucketState) (script : List (ℕ × Mode)) → IsConfig config → IsBucket start
    → IsBetween config (record { mount = first_mount; config = config; promised = 0 }) (empty_list config.record_capacity) (record { start = start; script = script; log = [] }) [] 0
between_first config start script settings is = record {
  settings = settings;
  same = refl;
  idle = refl;
  bucket = record { start = is; allowed = All-nil (λ (e : LogEvent). IsAllowed e.op) };
  account = [];
  tells = first_told config start script;
  mount_is = refl;
  clock_is = refl;
  listed = refl;
  told = tt;
  metadata = (came_first config start is).metadata;
}
