-- The rules of FLUSH are sound.
use Rattle.std.proofs.Common.{◌≡◌, ◌≢◌, ℕ, true, false, List, [], ◌∷◌, Option, Some, None, refl, sym, ap, subst, ◌∙◌, arith, inl, inr}
use Rattle.std.specs.FinMap as fin
use Rattle.std.specs.List.{AllByRecursion}
use Rattle.std.specs.Option.{option_map_or}
use Rattle.bucket_api.specs.Metadata.{Metadata}
use Rattle.bucket_api.specs.Operation.{Operation, read}
use Rattle.bucket_api.specs.declared.answers.Answer.{Answer}
use Rattle.bucket_api.specs.declared.answers.Answer.TheVariants as told
use Rattle.claim_spec.specs.Conflicts.{IsOwned}
use Rattle.claim_spec.specs.declared.claim.Claim.{Claim}
use Rattle.claim_spec.specs.declared.claim.ClaimKey.TheVariants as key
use Rattle.fuse_replies.specs.Errno.{eio, enomem, estale}
use Rattle.fuse_replies.specs.declared.reply.Reply.TheVariants.{Error}
use Rattle.inode_spec.specs.Inodes.{lookups_of}
use Rattle.mount_model.specs.Observing.{Observed}
use Rattle.mount_rules.specs.Files.{without_staged}
use Rattle.mount_rules.specs.Guards.{is_directory}
use Rattle.mount_rules.specs.Laws.{GivesLater, IsAnswerTo, IsCovered, IsOfFile, Keeps, Planned, given}
use Rattle.mount_rules.specs.Mount.{IsMount, MountModel}
use Rattle.mount_rules.specs.Plans.{Allows, IsHarmless, Source, Step, Wanted, answers_of, done, last_moment, may_read}
use Rattle.mount_rules.specs.Reading.{source_of}
use Rattle.mount_rules.specs.Requests.Flush as flush
use Rattle.mount_rules.specs.Requests.Flush.{Came, made, stale, fault, made_current_if_live, table_with}
use Rattle.mount_rules.specs.Rules.{AtTake, Taken}
use Rattle.mount_rules.specs.View.{Sight, View, sight_at, view_of}
use Rattle.staging_spec.proofs.WantedLaws.{flush_within}
use Rattle.staging_spec.specs.StagedFiles.{StagedContent, touched_by}
use Rattle.staging_spec.specs.Wanted.{wanted_by_flush}
use Rattle.mount_laws.proofs.Children.{IsSeen, IsSeen-at}
use Rattle.mount_laws.proofs.Guarding.{SeesOpenFile, on_open_file-memory, on_open_file-none}
use Rattle.mount_laws.proofs.Keeping.{claimed_by_owner, no_Some, same_Some}
use Rattle.mount_laws.proofs.Leaving.{Keeps-same, Keeps-unstaged}
use Rattle.mount_laws.proofs.Memory.{empty_is_none, no_error}
use Rattle.mount_laws.proofs.Mounts.{GivesLater-same, GivesLater-unstaged, IsNodeTable-of}
use Rattle.mount_laws.proofs.NewGenerations.{generation_counts, generation_keeps, generation_later, generation_nodes, generation_others}
use Rattle.mount_laws.proofs.Requests.Read.{on_read}
use Rattle.mount_laws.proofs.Sights.{LooksClaimed, LooksClaimed-open_file}
use Rattle.mount_laws.proofs.Sound.{IsSound}
use Rattle.mount_laws.proofs.Sources.{NodesFrom, NodesFrom-same}
use Rattle.mount_laws.proofs.Standing.{name_seen, name_there}
use Rattle.mount_laws.proofs.Telling.{Tells, TellsAlong}
use Rattle.mount_laws.proofs.Wanting.{IsOfFile-within}

-- ---- what is asked
module _ (source : Source) (op : Operation) where
  -- what holds of each read and of the one operation behind them holds of what is asked
  on_asked : (P : Operation → Type 0) → ((name : List ℕ) (generation first count : ℕ) → P (read name generation first count)) → P op
      → (answers : List Answer) (asked : Operation) → Allows (flush.after_reads source op answers) asked → P asked
  on_asked P each own [] asked (inl is_read) = on_read P each source asked is_read
  on_asked P each own [] asked (inr is) = subst P (sym is) own
  on_asked P each own (told.Bytes bytes ∷ more) asked allows = on_asked P each own more asked allows
  on_asked P each own (told.Meta meta ∷ more) asked allows = absurd allows
  on_asked P each own (told.Page page ∷ more) asked allows = absurd allows
  on_asked P each own (told.Done ∷ more) asked allows = absurd allows
  on_asked P each own (told.NotFound ∷ more) asked allows = absurd allows
  on_asked P each own (told.Precondition generation metageneration ∷ more) asked allows = absurd allows
  on_asked P each own (told.Fault ∷ more) asked allows = absurd allows

  -- while it asks on it was given bytes, and so has only read
  harmless : (seen : List Observed) → Planned (flush.after_reads source op) seen → AllByRecursion (λ (o : Observed). IsAnswerTo o.op o.answer) seen
      → flush.after_reads source op (answers_of seen) ≢ done → AllByRecursion (λ (o : Observed). IsHarmless o.op) seen
  harmless [] planned fits asks = tt
  harmless (o ∷ more) planned fits asks = by (λ planned asks. harmless more planned fits.1 asks) o.answer planned.1 fits.0 asks
    where
      is_harmless : (asked : Operation) (bytes : List ℕ) → IsAnswerTo asked (told.Bytes bytes) → IsHarmless asked
      is_harmless (read name generation first count) bytes fit = tt
      is_harmless asked bytes never = absurd never

      by : (Planned (flush.after_reads source op) more → flush.after_reads source op (answers_of more) ≢ done → AllByRecursion (λ (p : Observed). IsHarmless p.op) more)
          → (answer : Answer) → Planned (λ answers. flush.after_reads source op (answer ∷ answers)) more → IsAnswerTo o.op answer
          → flush.after_reads source op (answer ∷ answers_of more) ≢ done → IsHarmless o.op × AllByRecursion (λ (p : Observed). IsHarmless p.op) more
      by rest (told.Bytes bytes) planned fit asks = (is_harmless o.op bytes fit, rest planned asks)
      by rest (told.Meta meta) planned fit asks = absurd (asks refl)
      by rest (told.Page page) planned fit asks = absurd (asks refl)
      by rest told.Done planned fit asks = absurd (asks refl)
      by rest told.NotFound planned fit asks = absurd (asks refl)
      by rest (told.Precondition generation metageneration) planned fit asks = absurd (asks refl)
      by rest told.Fault planned fit asks = absurd (asks refl)

  -- a generation that was made is what the bucket tells of it
  makes_shown : (Shown : List ℕ → ℕ → ℕ → Type 0) (Is : Metadata → Type 0) → ((meta : Metadata) → Tells Shown (Some op) (told.Meta meta) → Is meta)
      → (seen : List Observed) (meta : Metadata) → TellsAlong Shown (flush.after_reads source op) seen → flush.came_of (answers_of seen) ≡ made meta → Is meta
  makes_shown Shown Is tells [] meta along e = absurd (let never : fault ≡ made meta = e in cc)
  makes_shown Shown Is tells (o ∷ more) meta along e = by (makes_shown Shown Is tells more meta) o.answer along.0 along.1 e
    where
      by : (TellsAlong Shown (flush.after_reads source op) more → flush.came_of (answers_of more) ≡ made meta → Is meta)
          → (answer : Answer) → Tells Shown (Some op) answer → TellsAlong Shown (λ answers. flush.after_reads source op (answer ∷ answers)) more
          → flush.came_of (answer ∷ answers_of more) ≡ made meta → Is meta
      by rest (told.Bytes bytes) shown along e = rest along e
      by rest (told.Meta m) shown along e = let same : m ≡ meta = cc in subst Is same (tells m shown)
      by rest (told.Page page) shown along e = absurd (let never : fault ≡ made meta = e in cc)
      by rest told.Done shown along e = absurd (let never : fault ≡ made meta = e in cc)
      by rest told.NotFound shown along e = absurd (let never : stale ≡ made meta = e in cc)
      by rest (told.Precondition generation metageneration) shown along e = absurd (let never : stale ≡ made meta = e in cc)
      by rest told.Fault shown along e = absurd (let never : fault ≡ made meta = e in cc)

-- what holds of a plan that is done, and of one over what is staged of the file that is seen
on_plan : (taken : Taken) (P : (List Answer → Step) → Type 0) → P (λ answers. done)
    → ((staged : StagedContent) (file : Sight) → taken.view.staged ≡ Some staged → taken.view.node ≡ Some file
    → P (flush.after_reads (source_of file) (flush.insert_of taken.at.contents taken.at.second taken.view.kept staged file)))
    → P (flush.plan taken)
on_plan taken P none some = by taken.view.staged taken.view.node refl refl
  where
    by : (staged : Option StagedContent) (seen : Option Sight) → taken.view.staged ≡ staged → taken.view.node ≡ seen
        → P (λ answers. option_map_or (λ s. option_map_or (λ file.
        flush.after_reads (source_of file) (flush.insert_of taken.at.contents taken.at.second taken.view.kept s file) answers) seen done) staged done)
    by None seen is sees = none
    by (Some s) None is sees = none
    by (Some s) (Some file) is sees = some s file is sees

covers : (node : ℕ) (taken : Taken) (answers : List Answer) (op : Operation) → Allows (flush.plan taken answers) op → IsCovered (flush.claims node taken.view) op
covers node taken = on_plan taken (λ plan. (answers : List Answer) (op : Operation) → Allows (plan answers) op → IsCovered (flush.claims node taken.view) op)
    (λ answers op allows. absurd allows)
    (λ staged file is sees. on_asked (source_of file) (flush.insert_of taken.at.contents taken.at.second taken.view.kept staged file) (IsCovered (flush.claims node taken.view))
    (λ name generation first count. tt) (inr (inl (ap (λ seen. key.Name (name_seen seen)) sees, refl))))

harmless_asking : (taken : Taken) (seen : List Observed) → Planned (flush.plan taken) seen → AllByRecursion (λ (o : Observed). IsAnswerTo o.op o.answer) seen
    → flush.plan taken (answers_of seen) ≢ done → AllByRecursion (λ (o : Observed). IsHarmless o.op) seen
harmless_asking taken = on_plan taken
    (λ plan. (seen : List Observed) → Planned plan seen → AllByRecursion (λ (o : Observed). IsAnswerTo o.op o.answer) seen → plan (answers_of seen) ≢ done
    → AllByRecursion (λ (o : Observed). IsHarmless o.op) seen)
    (λ seen planned fits asks. absurd (asks refl))
    (λ staged file is sees. harmless (source_of file) (flush.insert_of taken.at.contents taken.at.second taken.view.kept staged file))

-- it asks something only where something is staged of a file that is seen
reads_first : (taken : Taken) (wanted : Wanted) → flush.wanted taken.view ≡ Some wanted → (source : Source) × (next : Step) × (flush.plan taken [] ≡ may_read source next)
reads_first taken wanted = by taken.view.staged taken.view.node
  where
    by : (staged : Option StagedContent) (seen : Option Sight) → flush.wanted (record taken.view { staged = staged; node = seen }) ≡ Some wanted
        → (source : Source) × (next : Step)
        × (option_map_or (λ s. option_map_or (λ file. flush.after_reads (source_of file) (flush.insert_of taken.at.contents taken.at.second taken.view.kept s file) []) seen done) staged done
        ≡ may_read source next)
    by None seen e = absurd (no_Some e)
    by (Some s) None e = absurd (no_Some e)
    by (Some s) (Some file) e = (source_of file, _, refl)

-- ---- what it wants
of_file : (node fh : ℕ) (mount : MountModel) → IsMount mount → (wanted : Wanted) → flush.wanted (view_of mount (flush.looks node fh)) ≡ Some wanted → IsOfFile mount wanted
of_file node fh mount is wanted = by (fin.get mount.staged node) (sight_at mount.table node) refl refl
  where
    view : View
    view = view_of mount (flush.looks node fh)

    by : (staged : Option StagedContent) (seen : Option Sight) → fin.get mount.staged node ≡ staged → sight_at mount.table node ≡ seen
        → flush.wanted (record view { staged = staged; node = seen }) ≡ Some wanted → IsOfFile mount wanted
    by None seen found there e = absurd (no_Some e)
    by (Some s) None found there e = absurd (no_Some e)
    by (Some s) (Some file) found there e = IsOfFile-within mount node file there is (Some s) found
        (wanted_by_flush (touched_by s.overlay) s.overlay.limit) (λ some. flush_within (touched_by s.overlay) s.overlay.limit) wanted e

-- ---- what it leaves
-- what holds of the mount as it was, and of it with a new generation shown, holds of it afterwards
on_flushed : (P : MountModel → Type 0) (staged : Option StagedContent) (mount : MountModel) (node moment : ℕ) (came : Came) → P mount
    → ((meta : Metadata) → came ≡ made meta → P (record (without_staged mount node) { table = table_with mount.table node meta moment }))
    → P (flush.mount_by staged mount node moment came)
on_flushed P None mount node moment came same shown = same
on_flushed P (Some s) mount node moment (made meta) same shown = shown meta refl
on_flushed P (Some s) mount node moment stale same shown = same
on_flushed P (Some s) mount node moment fault same shown = same

keeps_staged : (staged : Option StagedContent) (mount : MountModel) (node moment errno : ℕ) (came : Came) → flush.reply_by staged came ≡ Error errno
    → (flush.mount_by staged mount node moment came).staged ≡ mount.staged
keeps_staged None mount node moment errno came e = refl
keeps_staged (Some s) mount node moment errno (made meta) e = absurd (empty_is_none errno e)
keeps_staged (Some s) mount node moment errno stale e = refl
keeps_staged (Some s) mount node moment errno fault e = refl

answers : (staged : Option StagedContent) (came : Came) → flush.reply_by staged came ≡ Error enomem → ⊥
answers None came e = empty_is_none enomem e
answers (Some s) (made meta) e = empty_is_none enomem e
answers (Some s) stale e = let same : estale ≡ enomem = cc in absurd (omega (arith, same))
answers (Some s) fault e = let same : eio ≡ enomem = cc in absurd (omega (arith, same))

gives : (staged : Option StagedContent) (came : Came) (number : ℕ) → given (flush.reply_by staged came) number ≡ 0
gives None came number = refl
gives (Some s) (made meta) number = refl
gives (Some s) stale number = refl
gives (Some s) fault number = refl

-- ---- an open file
-- what it looks at is there, and claimed where its node and its name are owned
pub LooksClaimed-flush : (mount : MountModel) (node fh : ℕ) → flush.refusal node (view_of mount (flush.looks node fh)) ≡ None
    → (claimed : List Claim) (sight : Sight) → sight_at mount.table node ≡ Some sight → IsOwned claimed (key.Node node) → IsOwned claimed (key.Name sight.name)
    → LooksClaimed claimed mount (flush.looks node fh)
LooksClaimed-flush mount node fh free claimed sight seen owned named =
    let opened = on_open_file-none node (view_of mount (flush.looks node fh)) (λ file. None) free in
    let looks = LooksClaimed-open_file claimed mount node fh sight seen opened.handle opened.is opened.node_is (claimed_by_owner claimed (key.Node node) owned) in
    record {
      node = looks.node;
      directory = looks.directory;
      handle = looks.handle;
      kept = λ n is. let same : node ≡ n = same_Some is in
          (sight, ap (sight_at mount.table) (sym same) ∙ seen, subst (λ k. IsOwned claimed (key.Node k)) same owned, named);
      staged = looks.staged;
      old = λ part directory is. absurd (no_Some is);
      listed = refl;
    }

module _ (at : AtTake) (mount : MountModel) (node fh : ℕ) (free : flush.refusal node (view_of mount (flush.looks node fh)) ≡ None) where
  abbrev view : View
  view = view_of mount (flush.looks node fh)

  abbrev taken : Taken
  taken = record { at = at; view = view }

  opened : SeesOpenFile node view (λ file. None)
  opened = on_open_file-none node view (λ file. None) free

  seen_node : IsSeen mount.table node opened.sight
  seen_node = IsSeen-at mount.table node opened.sight opened.seen

  is_file : is_directory seen_node.node.kind ≡ false
  is_file = ap (λ (x : Sight). is_directory x.kind) seen_node.is ∙ opened.file

  later : IsMount mount → (moment : ℕ) (came : Came) → GivesLater mount (flush.mount_by view.staged mount node moment came)
  later is moment came = on_flushed (GivesLater mount) view.staged mount node moment came (GivesLater-same mount is)
      (λ meta e. GivesLater-unstaged mount is node _
      (generation_later mount.table node meta moment seen_node.node seen_node.there (IsNodeTable-of mount is) is_file)
      (generation_others mount.table node meta moment seen_node.node seen_node.there))

  leaves : (moment : ℕ) (came : Came) → Keeps (flush.claims node view) mount (flush.mount_by view.staged mount node moment came)
  leaves moment came = on_flushed (Keeps (flush.claims node view) mount) view.staged mount node moment came (Keeps-same _ mount)
      (λ meta e. Keeps-unstaged (flush.claims node view) mount node (inl (refl, refl)) _
      (generation_keeps mount.table node meta moment seen_node.node seen_node.there (flush.claims node view) (inl (refl, refl))
      (inr (inl (ap key.Name (name_there mount node seen_node.node seen_node.there))))))

  counts : (moment k : ℕ) (came : Came) → lookups_of (flush.mount_by view.staged mount node moment came).table k ≡ lookups_of mount.table k
  counts moment k came = on_flushed (λ (m : MountModel). lookups_of m.table k ≡ lookups_of mount.table k) view.staged mount node moment came refl
      (λ meta e. generation_counts mount.table node meta moment seen_node.node seen_node.there k)

  nodes : (Shown : List ℕ → ℕ → ℕ → Type 0) (moment : ℕ) (seen : List Observed) → TellsAlong Shown (flush.plan taken) seen
      → NodesFrom Shown mount.table (flush.mount_by view.staged mount node moment (flush.came_of (answers_of seen))).table
  nodes Shown moment seen = on_plan taken
      (λ plan. TellsAlong Shown plan seen → NodesFrom Shown mount.table (flush.mount_by view.staged mount node moment (flush.came_of (answers_of seen))).table)
      (λ along. none seen along) some
    where
      none : (all : List Observed) → TellsAlong Shown (λ answers. done) all → NodesFrom Shown mount.table (flush.mount_by view.staged mount node moment (flush.came_of (answers_of all))).table
      none [] along = on_flushed (λ (m : MountModel). NodesFrom Shown mount.table m.table) view.staged mount node moment fault (NodesFrom-same Shown mount.table)
          (λ meta e. absurd (let never : fault ≡ made meta = e in cc))
      none (o ∷ more) along = absurd along.0

      some : (staged : StagedContent) (file : Sight) → view.staged ≡ Some staged → view.node ≡ Some file
          → TellsAlong Shown (flush.after_reads (source_of file) (flush.insert_of at.contents at.second view.kept staged file)) seen
          → NodesFrom Shown mount.table (flush.mount_by view.staged mount node moment (flush.came_of (answers_of seen))).table
      some staged file is sees_it along = on_flushed (λ (m : MountModel). NodesFrom Shown mount.table m.table) view.staged mount node moment _ (NodesFrom-same Shown mount.table)
          (λ meta e. generation_nodes mount.table node meta moment seen_node.node seen_node.there Shown
          (subst (λ name. Shown name meta.generation meta.size) named
          (makes_shown (source_of file) (flush.insert_of at.contents at.second view.kept staged file) Shown (λ m. Shown file.name m.generation m.size) (λ m shown. shown) seen meta along e)))
        where
          named : file.name ≡ seen_node.node.name
          named = ap (λ (x : Sight). x.name) (same_Some (sym sees_it ∙ opened.seen) ∙ sym seen_node.is)

pub flush_sound : (node fh : ℕ) → IsSound (flush.rules node fh) (λ number. 0) None
flush_sound node fh = record {
  later = λ at mount seen goes. later at mount node fh goes.free goes.is (last_moment seen) (flush.came_of (answers_of seen));
  leaves = λ at mount seen goes. leaves at mount node fh goes.free (last_moment seen) (flush.came_of (answers_of seen));
  sees = λ at mount goes asks.
      let s = on_open_file-none node (view_of mount (flush.looks node fh)) (λ file. None) goes.free in
      LooksClaimed-flush mount node fh goes.free _ s.sight s.seen (inl (refl, refl)) (inr (inl (ap (λ seen. key.Name (name_seen seen)) s.seen, refl)));
  covers = covers node;
  harmless = harmless_asking;
  bounded = λ taken seen n is planned. absurd (no_Some is);
  reads = reads_first;
  of_files = λ mount wanted is wants_it. of_file node fh mount is wanted wants_it;
  agrees = λ taken mount seen agreed. on_flushed (λ (m : MountModel). m.negotiated ≡ true) taken.view.staged mount node (last_moment seen) (flush.came_of (answers_of seen)) agreed
      (λ meta e. agreed);
  refuses = λ view. on_open_file-memory node view _ (λ file. no_error);
  keeps_staged = λ at mount seen errno free error. keeps_staged (fin.get mount.staged node) mount node (last_moment seen) errno (flush.came_of (answers_of seen)) error;
  answers = λ taken mount seen. answers taken.view.staged (flush.came_of (answers_of seen));
  counts = λ at mount seen number other goes.
      let same = counts at mount node fh goes.free (last_moment seen) number (flush.came_of (answers_of seen)) in
      let none = gives (fin.get mount.staged node) (flush.came_of (answers_of seen)) number in
      omega (arith, same, none);
  nodes = λ Shown at mount seen goes tells. nodes at mount node fh goes.free Shown (last_moment seen) seen tells;
}
