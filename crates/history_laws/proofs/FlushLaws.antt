-- Each flush of staged content is guarded, along any account.
use Rattle.std.proofs.Common.{◌≡◌, ◌≢◌, ◌≤◌, ℕ, false, List, [], Option, Some, None, refl, sym, ap, subst, ◌∙◌}
use Rattle.std.specs.FinMap as fin
use Rattle.std.specs.List.{AllByRecursion}
use Rattle.std.specs.Option.{option_map_or}
use Rattle.std.specs.Prelude.{if◌then◌else◌, is_some, not}
use Rattle.bucket_api.specs.BucketState.{BucketState}
use Rattle.bucket_api.specs.LogEvent.{LogEvent}
use Rattle.bucket_api.specs.declared.answers.Answer.TheVariants as answers
use Rattle.fuse_replies.specs.declared.reply.Reply.TheVariants.{Error}
use Rattle.fuse_requests.specs.declared.request.Request.{Request}
use Rattle.fuse_requests.specs.declared.request.Request.TheVariants.{Flush, Fsync}
use Rattle.history_laws.proofs.Along.{Stands, contents_same, source_numbered}
use Rattle.history_laws.proofs.FlushWalks.{walked}
use Rattle.history_laws.proofs.LastCalls.{done_last}
use Rattle.history_laws.proofs.ReadLaws.{content_by, seen_at_take, stands_last}
use Rattle.history_laws.specs.Ends.{CallEnd, IsLast, SeesAsTaken, mount_at, over, seen_at}
use Rattle.history_laws.specs.Flushes.{FlushesAreGuarded, IsGuarded}
use Rattle.history_spec.proofs.Walking.{Walked, Walked-walks}
use Rattle.history_spec.specs.Account.{Account, own_moments_of}
use Rattle.history_spec.specs.Fits.{MayBeDone, plan_of}
use Rattle.history_spec.specs.JournalState.{reached, reply_by}
use Rattle.mount_laws.proofs.Guarding.{on_open_file-none}
use Rattle.mount_laws.proofs.Keeping.{same_Some}
use Rattle.mount_laws.proofs.RequestLaws.{unrefused}
use Rattle.mount_model.specs.Observing.{Observed}
use Rattle.mount_model.specs.declared.config.Config.{Config}
use Rattle.mount_model.specs.declared.journal.How.TheVariants as how
use Rattle.mount_rules.specs.Dispatch.{early, plan, reply_to, view_in}
use Rattle.mount_rules.specs.Files.{content_in}
use Rattle.mount_rules.specs.Guards.{is_directory}
use Rattle.mount_rules.specs.Laws.{IsFlushOf, content_at}
use Rattle.mount_rules.specs.Mount.{MountModel}
use Rattle.mount_rules.specs.OneThread.{contents_of}
use Rattle.mount_rules.specs.Plans.{MayEnd, Plan, answers_of, done}
use Rattle.mount_rules.specs.Reading.{source_of}
use Rattle.mount_rules.specs.Requests.Flush as flush
use Rattle.mount_rules.specs.Rules.{AtTake, Taken}
use Rattle.mount_rules.specs.View.{Sight, sight_at, view_of}
use Rattle.staging_spec.specs.StagedFiles.{StagedContent}

-- ---- what goes as a FLUSH
abbrev taken_for : AtTake → MountModel → ℕ → ℕ → Taken
taken_for at mount node fh = record { at = at; view = view_of mount (flush.looks node fh) }

-- a request that nothing refuses goes by the rules of a FLUSH, of a file that is there
record GoesAsFlush (at : AtTake) (mount : MountModel) (node : ℕ) (request : Request) : Type 0 where
  fh : ℕ
  plan_so : plan at mount request ≡ flush.plan (taken_for at mount node fh)
  reply_so : (seen : List Observed) → reply_to at mount request seen ≡ flush.reply_by (fin.get mount.staged node) (flush.came_of (answers_of seen))
  node_so : (view_in mount request).node ≡ sight_at mount.table node
  file : Sight
  there : sight_at mount.table node ≡ Some file
  is_file : is_directory file.kind ≡ false

module _ (at : AtTake) (mount : MountModel) (node : ℕ) where
  goes_as_flush : (request : Request) → IsFlushOf node request → early mount request ≡ None → GoesAsFlush at mount node request
  goes_as_flush (Flush number fh) same = subst (λ n. early mount (Flush n fh) ≡ None → GoesAsFlush at mount node (Flush n fh)) (sym same) λ free.
      let s = on_open_file-none node (view_in mount (Flush node fh)) (λ file. None) (unrefused mount (Flush node fh) (ap (λ (e : Option ℕ). not (is_some e)) free)) in record {
        fh = fh;
        plan_so = ap (λ (e : Option ℕ). if◌then◌else◌ {A = Plan} (not (is_some e)) (flush.plan (taken_for at mount node fh)) (λ told. done)) free;
        reply_so = λ seen. ap (λ e. option_map_or Error e (flush.reply_by (fin.get mount.staged node) (flush.came_of (answers_of seen)))) free;
        node_so = refl;
        file = s.sight;
        there = s.seen;
        is_file = s.file;
      }
  goes_as_flush (Fsync number fh) same = subst (λ n. early mount (Fsync n fh) ≡ None → GoesAsFlush at mount node (Fsync n fh)) (sym same) λ free.
      let s = on_open_file-none node (view_in mount (Fsync node fh)) (λ file. None) (unrefused mount (Fsync node fh) (ap (λ (e : Option ℕ). not (is_some e)) free)) in record {
        fh = fh;
        plan_so = ap (λ (e : Option ℕ). if◌then◌else◌ {A = Plan} (not (is_some e)) (flush.plan (taken_for at mount node fh)) (λ told. done)) free;
        reply_so = λ seen. ap (λ e. option_map_or Error e (flush.reply_by (fin.get mount.staged node) (flush.came_of (answers_of seen)))) free;
        node_so = refl;
        file = s.sight;
        there = s.seen;
        is_file = s.file;
      }
  goes_as_flush request same = absurd same

-- ---- in any account
module _ (config : Config) (start : BucketState) (log : List LogEvent) (account : Account) (e : CallEnd) (last : IsLast config start log account e)
    (sees : SeesAsTaken (mount_at config start log account) e) (node : ℕ) (file : Sight) (staged : StagedContent)
    (seen_file : sight_at (mount_at config start log account).table node ≡ Some file) (found : fin.get (mount_at config start log account).staged node ≡ Some staged) where
  abbrev mount : MountModel
  mount = mount_at config start log account

  abbrev at : AtTake
  at = e.call.taken.at

  standing : Stands start log (reached config start log account)
  standing = stands_last config start log account e last

  -- the generation that the file shows was given
  numbered : is_directory file.kind ≡ false → 1 ≤ file.source
  numbered = source_numbered start log (reached config start log account) standing last.bucket last.allowed node file seen_file

  of_flush : GoesAsFlush at mount node e.call.taken.request → MayBeDone start log (reached config start log account) e.call e.front how.Ok e.items
      → AllByRecursion (λ (o : Observed). o.answer ≢ answers.Fault) (seen_at start log e)
      → IsGuarded start log file (content_at (over start log mount) node) (own_moments_of e.items) (reply_to at mount e.call.taken.request (seen_at start log e))
  of_flush goes may well =
      subst (λ content. IsGuarded start log file content (own_moments_of e.items) (reply_to at mount e.call.taken.request (seen_at start log e))) (sym content_is)
      (subst (IsGuarded start log file (content_in at.contents (Some staged) file) (own_moments_of e.items)) (sym (goes.reply_so (seen_at start log e) ∙ reply_is))
      (walked start log e.call file (numbered is_file) (content_in at.contents (Some staged) file) (flush.pairs_of taken.view.kept staged) at.second e.items
      (subst (λ (p : Plan). Walked start log e.call p e.items) plan_is (Walked-walks start log e.call (plan_of (reached config start log account) e.call) e.items may.walk.told may.walk.walked))
      (subst (λ (p : Plan). MayEnd (p (answers_of (seen_at start log e)))) plan_is may.ends) well))
    where
      taken : Taken
      taken = taken_for at mount node goes.fh

      one : goes.file ≡ file
      one = same_Some (sym goes.there ∙ seen_file)

      is_file : is_directory file.kind ≡ false
      is_file = subst (λ (f : Sight). is_directory f.kind ≡ false) one goes.is_file

      content_is : content_at (over start log mount) node ≡ content_in at.contents (Some staged) file
      content_is =
          let same = contents_same start log (reached config start log account) standing e.call file last.under_way
          (seen_at_take config start log account e last e.call.taken.request file sees refl (goes.node_so ∙ seen_file)) is_file in
          ap (λ s. option_map_or (λ f. content_in (contents_of (record { start = start; log = log })) (fin.get mount.staged node) f) s []) seen_file
          ∙ ap (λ s. content_in (contents_of (record { start = start; log = log })) s file) found
          ∙ sym (content_by at.contents (contents_of (record { start = start; log = log })) file same (Some staged))

      reply_is : flush.reply_by (fin.get mount.staged node) (flush.came_of (answers_of (seen_at start log e))) ≡ flush.reply_to (flush.came_of (answers_of (seen_at start log e)))
      reply_is = ap (λ held. flush.reply_by held (flush.came_of (answers_of (seen_at start log e)))) found

      plan_is : plan_of (reached config start log account) e.call
          ≡ flush.after_reads (source_of file) (flush.insert_of at.contents at.second taken.view.kept staged file)
      plan_is =
          goes.plan_so ∙ ap (λ held. flush.plan (record taken { view = record taken.view { staged = held } })) found
          ∙ ap (λ seen. flush.plan (record taken { view = record taken.view { staged = Some staged; node = seen } })) seen_file

pub flushes_are_guarded : FlushesAreGuarded
flushes_are_guarded config start log account e node file staged last sees is_flush seen_file found free ok well =
    subst (IsGuarded start log file (content_at (over start log (mount_at config start log account)) node) (own_moments_of e.items))
    (ap (λ h. reply_by start log (mount_at config start log account) e.call h e.items) (sym ok))
    (of_flush config start log account e last sees node file staged seen_file found
    (goes_as_flush e.call.taken.at (mount_at config start log account) node e.call.taken.request is_flush free)
    (subst (λ h. MayBeDone start log (reached config start log account) e.call e.front h e.items) ok (done_last config start log account e last)) well)
