-- An OPEN that is answered well has an own stat, behind its take, that shows the generation of its file.
use Rattle.std.proofs.Common.{◌≡◌, ◌<◌, ◌≤◌, ℕ, Bool, true, false, List, [], ◌∷◌, Option, Some, None, refl, sym, ap, subst, ◌∙◌, arith}
use Rattle.std.proofs.lemmas.Bool.Decides.{Decides-eqb}
use Rattle.std.specs.FinMap as fin
use Rattle.std.specs.List.{AllByRecursion, Contains, cons_option}
use Rattle.std.specs.Option.{option_and_then, option_map_or}
use Rattle.std.specs.Prelude.{if◌then◌else◌, is_some, not, ◌==◌}
use Rattle.bucket_api.specs.BucketState.{BucketState, object_at}
use Rattle.bucket_api.specs.Log.{answer_by, state_at, state_by}
use Rattle.bucket_api.specs.LogEvent.{LogEvent}
use Rattle.bucket_api.specs.Metadata.{Metadata}
use Rattle.bucket_api.specs.Operation.{Operation, stat}
use Rattle.bucket_api.specs.declared.answers.Answer.{Answer}
use Rattle.bucket_api.specs.declared.answers.Answer.TheVariants as answers
use Rattle.bucket_api.specs.declared.events.Mode.{Mode}
use Rattle.bucket_api.specs.declared.events.Mode.TheVariants as modes
use Rattle.bucket_api.specs.declared.objects.Object.{Object}
use Rattle.fuse_replies.specs.Errno.{eio, enomem, estale}
use Rattle.fuse_replies.specs.declared.reply.Reply.TheVariants.{Error, Opened}
use Rattle.fuse_requests.specs.declared.request.Request.{Request}
use Rattle.fuse_requests.specs.declared.request.Request.TheVariants.{Opening}
use Rattle.bucket_api.specs.Listing.{ends_in_slash}
use Rattle.history_laws.proofs.Along.{Stands, stands}
use Rattle.history_laws.proofs.Clocks.{IsTakenIn, clocks, none_serves, path_no_slash}
use Rattle.history_laws.proofs.Generations.{no_older}
use Rattle.history_laws.proofs.LastCalls.{done_last, no_items, own_looked}
use Rattle.history_laws.proofs.Moments.{Told, moment_step, told_at}
use Rattle.history_laws.specs.Ends.{CallEnd, IsLast, mount_at, turn_of}
use Rattle.history_laws.specs.Flushes.{before_moment}
use Rattle.history_laws.specs.Opens.{IsFresh, OpensAreFresh}
use Rattle.history_spec.proofs.Following.{Follows-first}
use Rattle.history_spec.proofs.Lanes.{at_lane}
use Rattle.history_spec.proofs.OwnMoments.{own_between}
use Rattle.history_spec.proofs.Walking.{Walked, Walked-walks}
use Rattle.history_spec.specs.Account.{Account, Item, moment_of, own_moments_of}
use Rattle.history_spec.specs.Fits.{MayBeDone, plan_of}
use Rattle.history_spec.specs.JournalState.{first_journal, reached, reply_by}
use Rattle.history_spec.specs.Looks.{IsLook, MayRecall}
use Rattle.history_spec.specs.Observing.{observed_at, own_moments, seen_by}
use Rattle.mount_laws.proofs.Guarding.{in_file-none}
use Rattle.mount_laws.proofs.Keeping.{same_Some}
use Rattle.mount_laws.proofs.RequestLaws.{unrefused}
use Rattle.mount_laws.proofs.StagedContents.{SeesFileAt-seen}
use Rattle.mount_model.specs.Observing.{Observed}
use Rattle.mount_model.specs.declared.config.Config.{Config}
use Rattle.mount_model.specs.declared.journal.How.{How}
use Rattle.mount_model.specs.declared.journal.How.TheVariants as how
use Rattle.mount_rules.specs.Dispatch.{early, plan, reply_to, view_in}
use Rattle.mount_rules.specs.Guards.{is_directory}
use Rattle.mount_rules.specs.Mount.{File, IsKeptOf, IsNameOf, MountModel}
use Rattle.mount_rules.specs.Plans.{MayEnd, Plan, answers_of, done}
use Rattle.mount_rules.specs.Requests.Open as opening
use Rattle.mount_rules.specs.Standing as standing
use Rattle.mount_rules.specs.Standing.{Standing}
use Rattle.mount_rules.specs.View.{Sight, sight_at}
use Rattle.object_names.specs.Paths.{IsPath}
use Rattle.object_names.specs.declared.shown.NodeKind.{NodeKind}
use Rattle.object_names.specs.declared.shown.NodeKind.TheVariants as kinds

-- ---- what its answer shows
-- an answer of metadata to a stat is that of the live object, which the stat leaves
shown_object : (mode : Mode) (b : BucketState) (name : List ℕ) (meta : Metadata) → answer_by mode (stat name) b ≡ answers.Meta meta
    → (o : Object) × (object_at (state_by mode (stat name) b) name ≡ Some o) × (o.meta ≡ meta)
shown_object modes.Failed b name meta told = absurd (let never : answers.Fault ≡ answers.Meta meta = told in cc)
shown_object modes.Lost b name meta told = absurd (let never : answers.Fault ≡ answers.Meta meta = told in cc)
shown_object modes.Done b name meta told = by (object_at b name) refl told
  where
    by : (found : Option Object) → object_at b name ≡ found → option_map_or (λ (o : Object). answers.Meta o.meta) found answers.NotFound ≡ answers.Meta meta
        → (o : Object) × (object_at b name ≡ Some o) × (o.meta ≡ meta)
    by None there e = absurd (let never : answers.NotFound ≡ answers.Meta meta = e in cc)
    by (Some o) there e = (o, there, let same : o.meta ≡ meta = cc in same)

-- the answer by which an OPEN is answered well shows the generation
well_by : (mount : MountModel) (generation fh : ℕ) (answer : Answer) → opening.reply_to mount (standing.standing_by generation answer) ≡ Opened fh
    → (meta : Metadata) × (answer ≡ answers.Meta meta) × (meta.generation ≡ generation)
well_by mount generation fh (answers.Meta meta) told = by (meta.generation == generation) refl told
  where
    by : (same : Bool) → (meta.generation == generation) ≡ same → opening.reply_to mount (if same then standing.live meta else standing.gone) ≡ Opened fh
        → (m : Metadata) × (answers.Meta meta ≡ answers.Meta m) × (m.generation ≡ generation)
    by true is e = (meta, refl, (Decides-eqb meta.generation generation).0 is)
    by false is e = absurd (let never : Error estale ≡ Opened fh = e in cc)
well_by mount generation fh answers.NotFound told = absurd (let never : Error estale ≡ Opened fh = told in cc)
well_by mount generation fh (answers.Bytes bytes) told = absurd (let never : Error eio ≡ Opened fh = told in cc)
well_by mount generation fh (answers.Page page) told = absurd (let never : Error eio ≡ Opened fh = told in cc)
well_by mount generation fh answers.Done told = absurd (let never : Error eio ≡ Opened fh = told in cc)
well_by mount generation fh (answers.Precondition g m) told = absurd (let never : Error eio ≡ Opened fh = told in cc)
well_by mount generation fh answers.Fault told = absurd (let never : Error eio ≡ Opened fh = told in cc)

-- a node of which parts of a file are kept has a path
is_path : (kind : NodeKind) (name : List ℕ) (file : File) → IsKeptOf kind (Some file) → IsNameOf kind name → IsPath name
is_path kinds.Dir name file kept named = absurd (let never : Some file ≡ None = kept in cc)
is_path _ name file kept named = named

-- ---- its walk
module _ (config : Config) (start : BucketState) (log : List LogEvent) (account : Account) (e : CallEnd) (last : IsLast config start log account e)
    (node flags fh : ℕ) (file : Sight) (seen_file : sight_at (mount_at config start log account).table node ≡ Some file)
    (unstaged : fin.get (mount_at config start log account).staged node ≡ None) where
  abbrev mount : MountModel
  mount = mount_at config start log account

  abbrev asks : Plan
  asks = standing.plan (Some file.name)

  -- what it saw by the one stat
  of_stat : (item : Item) (seen : Observed) → observed_at start log (moment_of item) ≡ Some seen → seen.op ≡ stat file.name
      → own_moments_of e.items ≡ moment_of item ∷ [] → own_moments_of e.items ≡ own_moments log e.call.call.lane e.call.front e.front
      → opening.reply_to mount (standing.standing_by file.source seen.answer) ≡ Opened fh → IsFresh start log file e.call.front (own_moments_of e.items)
  of_stat item seen is asked own mine told = by (well_by mount file.source fh seen.answer told)
    where
      t : Told start log (moment_of item) seen
      t = told_at start log (moment_of item) seen is

      op : t.event.op ≡ stat file.name
      op = sym t.op ∙ asked

      after : state_at start log (moment_of item) ≡ state_by t.event.mode (stat file.name) (before_moment start log (moment_of item))
      after = moment_step start log (moment_of item) t.event t.there ∙ ap (λ (x : Operation). state_by t.event.mode x (before_moment start log (moment_of item))) op

      since : e.call.front < moment_of item
      since = (subst (λ (moments : List ℕ). AllByRecursion (λ m. (e.call.front < m) × (m ≤ e.front)) moments) (sym mine ∙ own)
          (own_between log e.call.call.lane e.call.front e.front)).0.0

      fresh : (meta : Metadata) → meta.generation ≡ file.source →
          (o : Object) × (object_at (state_by t.event.mode (stat file.name) (before_moment start log (moment_of item))) file.name ≡ Some o) × (o.meta ≡ meta)
          → IsFresh start log file e.call.front (own_moments_of e.items)
      fresh meta shows (o, live, is_meta) =
          let there : object_at (state_at start log (moment_of item)) file.name ≡ Some o = ap (λ b. object_at b file.name) after ∙ live in
          let same : o.meta.generation ≡ file.source = ap (λ (m : Metadata). m.generation) is_meta ∙ shows in
          record {
            moment = moment_of item;
            among = subst (λ (moments : List ℕ). Contains moments (moment_of item)) (sym own) (0, omega arith, refl);
            since = since;
            event = t.event;
            there = t.there;
            asks = op;
            object = o;
            shows = there;
            same = same;
            newest = λ earlier other within was. subst (λ n. other.meta.generation ≤ n) same
                (no_older start log file.name earlier (moment_of item) other o last.bucket last.allowed within was there);
          }

      by : (meta : Metadata) × (seen.answer ≡ answers.Meta meta) × (meta.generation ≡ file.source) → IsFresh start log file e.call.front (own_moments_of e.items)
      by (meta, is_meta, shows) =
          fresh meta shows (shown_object t.event.mode (before_moment start log (moment_of item)) file.name meta
          (ap (λ (x : Operation). answer_by t.event.mode x (before_moment start log (moment_of item))) (sym op) ∙ sym t.answer ∙ is_meta))

  of_walk : ((moment : ℕ) → MayRecall e.call (stat file.name) moment → ⊥) → (items : List Item) → e.items ≡ items → Walked start log e.call asks items → MayEnd (asks (answers_of (seen_by start log items)))
      → own_moments_of e.items ≡ own_moments log e.call.call.lane e.call.front e.front
      → opening.reply_to mount (standing.standing file.source (answers_of (seen_by start log items))) ≡ Opened fh
      → IsFresh start log file e.call.front (own_moments_of e.items)
  of_walk none_may [] are walked ends mine told = absurd ends
  of_walk none_may (item ∷ items) are walked ends mine told =
      let none : items ≡ [] = no_items start log e.call (λ answers. asks (walked.0.answer ∷ answers)) refl items walked.4 in
      of_stat item walked.0 walked.1 walked.2
      (ap own_moments_of are ∙ own_looked start log e.call walked.0.op item walked.3 (λ m may. none_may m (subst (λ (op : Operation). MayRecall e.call op m) walked.2 may)) (subst IsLook (sym walked.2) tt) items ∙ ap (λ its. moment_of item ∷ own_moments_of its) none) mine
      (sym (ap (λ seen. opening.reply_to mount (standing.standing file.source (answers_of (cons_option seen (seen_by start log items))))) walked.1) ∙ told)

  -- ---- it goes on
  abbrev request : Request
  request = Opening node flags

  module _ (is_open : e.call.taken.request ≡ request) where
    answered : (h : How) → e.how ≡ h → reply_by start log mount e.call h e.items ≡ Opened fh
        → (reply_to e.call.taken.at mount request (seen_by start log e.items) ≡ Opened fh) × (e.how ≡ how.Ok)
    answered how.Ok is told = (ap (λ (r : Request). reply_to e.call.taken.at mount r (seen_by start log e.items)) (sym is_open) ∙ told, is)
    answered how.NoMemory is told = absurd (let never : Error enomem ≡ Opened fh = told in cc)

    unrefused_so : (error : Option ℕ) → early mount request ≡ error
        → option_map_or Error error (opening.reply_to mount (standing.standing (standing.generation_seen (sight_at mount.table node)) (answers_of (seen_by start log e.items)))) ≡ Opened fh
        → early mount request ≡ None
    unrefused_so None is told = is
    unrefused_so (Some errno) is told = absurd (let never : Error errno ≡ Opened fh = told in cc)

    -- the file is one, so its name is asked for
    is_file : early mount request ≡ None → is_directory file.kind ≡ false
    is_file free =
        let s = in_file-none (sight_at mount.table node) (λ sight. None) (unrefused mount request (ap (λ (x : Option ℕ). not (is_some x)) free)) in
        ap (λ (sight : Sight). is_directory sight.kind) (same_Some (sym seen_file ∙ s.is)) ∙ ap is_directory s.file

    plan_so : early mount request ≡ None → plan e.call.taken.at mount request ≡ asks
    plan_so free =
        ap (λ (x : Option ℕ). if◌then◌else◌ {A = Plan} (not (is_some x)) (standing.plan (standing.asked_name (view_in mount request))) (λ told. done)) free
        ∙ ap (λ held. standing.plan (option_and_then (standing.name_of held) (sight_at mount.table node))) unstaged
        ∙ ap (λ seen. standing.plan (option_and_then (standing.name_of None) seen)) seen_file
        ∙ ap (λ directory. standing.plan (if directory then None else Some file.name)) (is_file free)

    -- no record serves it where records of objects serve for no time
    no_record : config.stat_lifetime ≡ 0 → early mount request ≡ None → (moment : ℕ) → MayRecall e.call (stat file.name) moment → ⊥
    no_record lifetime free moment =
        let s = SeesFileAt-seen mount node file stood.is seen_file (is_file free) in
        none_serves config (reached config start log account).clock e.call (stat file.name) moment lifetime
        (at_lane (IsTakenIn config (reached config start log account).clock) (reached config start log account).opened e.call.call.lane e.call last.under_way (clocks config start log account).opened)
        (ap ends_in_slash s.name ∙ path_no_slash s.node.name (is_path s.node.kind s.node.name s.file (subst (IsKeptOf s.node.kind) s.is (stood.is.files node s.node s.there)) (stood.is.names node s.node s.there)))
      where
        stood : Stands start log (reached config start log account)
        stood = stands config start log last.bucket last.allowed account (Follows-first config start log first_journal account (turn_of e ∷ []) last.is.follows)

    of_done : config.stat_lifetime ≡ 0 → MayBeDone start log (reached config start log account) e.call e.front how.Ok e.items → early mount request ≡ None
        → reply_to e.call.taken.at mount request (seen_by start log e.items) ≡ Opened fh → IsFresh start log file e.call.front (own_moments_of e.items)
    of_done lifetime may free told =
        let is : plan_of (reached config start log account) e.call ≡ asks = ap (λ (r : Request). plan e.call.taken.at mount r) is_open ∙ plan_so free in
        of_walk (no_record lifetime free) e.items refl
        (subst (λ (p : Plan). Walked start log e.call p e.items) is
        (Walked-walks start log e.call (plan_of (reached config start log account) e.call) e.items may.walk.told may.walk.walked))
        (subst (λ (p : Plan). MayEnd (p (answers_of (seen_by start log e.items)))) is may.ends) may.walk.own
        (sym (ap (λ (x : Option ℕ). option_map_or Error x (opening.reply_to mount (standing.standing (standing.generation_seen (sight_at mount.table node)) (answers_of (seen_by start log e.items)))))
        free
        ∙ ap (λ seen. opening.reply_to mount (standing.standing (standing.generation_seen seen) (answers_of (seen_by start log e.items)))) seen_file) ∙ told)

pub opens_are_fresh : OpensAreFresh
opens_are_fresh config start log account e node flags fh file lifetime last is_open seen_file unstaged told =
    let well = answered config start log account e last node flags fh file seen_file unstaged is_open e.how refl told in
    of_done config start log account e last node flags fh file seen_file unstaged is_open lifetime
    (subst (λ h. MayBeDone start log (reached config start log account) e.call e.front h e.items) well.1 (done_last config start log account e last))
    (unrefused_so config start log account e last node flags fh file seen_file unstaged is_open (early (mount_at config start log account) (Opening node flags)) refl well.0)
    well.0
