-- What the answers along a call's walk tell of generations; so each node that it leaves was there, or shows one that was live.
use Rattle.std.proofs.Common.{◌≡◌, ◌≤◌, ◌-◌, ℕ, Bool, true, false, List, [], ◌∷◌, All, take, drop, Option, Some, None, refl, sym, subst, ◌∙◌, ◌⊎◌, inl, inr, arith}
use Rattle.std.proofs.lemmas.List.Elements.{All-take}
use Rattle.std.specs.List.{AllByRecursion, cons_option}
use Rattle.std.specs.Option.{option_map_or}
use Rattle.std.specs.Prelude.{if◌then◌else◌}
use Rattle.bucket_api.specs.BucketState.{BucketState, IsBucket, object_of}
use Rattle.bucket_api.specs.Log.{answer_by, state_at, state_by}
use Rattle.bucket_api.specs.LogEvent.{LogEvent}
use Rattle.bucket_api.specs.Operation.{IsAllowed, Operation, stat, read, insert, update, delete, copy, list}
use Rattle.bucket_api.specs.declared.answers.Answer.{Answer}
use Rattle.bucket_api.specs.declared.answers.Answer.TheVariants as answers
use Rattle.bucket_api.specs.declared.events.Mode.{Mode}
use Rattle.bucket_api.specs.declared.events.Mode.TheVariants as modes
use Rattle.bucket_api.specs.declared.objects.Object.{Object}
use Rattle.fuse_requests.specs.declared.request.Request.{Request}
use Rattle.fuse_requests.specs.declared.request.Request.TheVariants.{Read, Write}
use Rattle.history_laws.proofs.Asking.{AsksAll, IsAsked, plan_asks}
use Rattle.history_laws.proofs.Moments.{Told, moment_step, state_cut, told_at}
use Rattle.history_laws.specs.Agreements.{IsReadOrWrite}
use Rattle.history_laws.specs.Flushes.{before_moment}
use Rattle.history_spec.proofs.Following.{walk_within}
use Rattle.history_spec.proofs.Walking.{Walked, Walked-walks}
use Rattle.history_spec.specs.Account.{Item, moment_of}
use Rattle.history_spec.specs.Fits.{MayBeDone, plan_of}
use Rattle.history_spec.specs.JournalState.{JournalState, OpenCall, mount_by}
use Rattle.history_spec.specs.Observing.{observed_at, seen_by}
use Rattle.mount_laws.proofs.RequestLaws.{nodes_from}
use Rattle.mount_laws.proofs.Sources.{NodesFrom, NodesFrom-same}
use Rattle.mount_laws.proofs.Stores.{HasContent, told}
use Rattle.mount_laws.proofs.Telling.{Tells, TellsAlong}
use Rattle.mount_model.specs.Observing.{Observed}
use Rattle.mount_model.specs.declared.journal.How.{How}
use Rattle.mount_model.specs.declared.journal.How.TheVariants as how
use Rattle.mount_rules.specs.Dispatch.{goes_on, mount_after, taken_at}
use Rattle.mount_rules.specs.Laws.{IsRead}
use Rattle.mount_rules.specs.Mount.{IsMount, MountModel}
use Rattle.mount_rules.specs.Plans.{Plan, Step, asked_by, plan_after}
use Rattle.mount_rules.specs.Requests.Write as write
use Rattle.mount_rules.specs.Rules.{AtTake, Taken}
use Rattle.mount_rules.specs.View.{Sight}

-- ---- requests that read a source last leave the nodes as they are
reads_last : (request : Request) → IsReadOrWrite request ⊎ (IsReadOrWrite request → ⊥)
reads_last (Read node fh first size) = inl tt
reads_last (Write node fh first content) = inl tt
reads_last _ = inr (λ e. e)

written_table : (taken : Taken) (mount : MountModel) (node first : ℕ) (bytes : List ℕ) (came : write.Came) → (write.mount_after taken mount node first bytes came).table ≡ mount.table
written_table taken mount node first [] write.whole = refl
written_table taken mount node first (byte ∷ bytes) write.whole = by taken.view.node
  where
    by : (found : Option Sight) → (write.written_in (record taken { view = record taken.view { node = found } }) mount node first (byte ∷ bytes)).table ≡ mount.table
    by None = refl
    by (Some file) = refl
written_table taken mount node first bytes write.full = refl
written_table taken mount node first bytes write.stale = refl
written_table taken mount node first bytes write.fault = refl

last_table : (at : AtTake) (mount : MountModel) (seen : List Observed) (request : Request) → IsReadOrWrite request → (mount_after at mount request seen).table ≡ mount.table
last_table at mount seen (Read node fh first size) last = by (goes_on mount (Read node fh first size))
  where
    by : (on : Bool) → (if on then mount else mount).table ≡ mount.table
    by true = refl
    by false = refl
last_table at mount seen (Write node fh first content) last = by (goes_on mount (Write node fh first content))
  where
    by : (on : Bool)
        → (if on then (write.rules node fh first content).after (taken_at at mount (Write node fh first content)) mount seen else mount).table ≡ mount.table
    by true = written_table (taken_at at mount (Write node fh first content)) mount node first content _
    by false = refl
last_table at mount seen _ last = absurd last

-- ---- what a walk tells
abbrev pub IsNoMeta : Answer → Type 0
IsNoMeta (answers.Meta meta) = ⊥
IsNoMeta answer = Unit {0}

-- a read tells of no metadata
pub read_tells : (mode : Mode) (op : Operation) (b : BucketState) → IsRead op → IsNoMeta (answer_by mode op b)
read_tells modes.Failed op b is = tt
read_tells modes.Lost op b is = tt
read_tells modes.Done (read name generation first count) b is = by (object_of b name generation)
  where
    by : (found : Option Object) → IsNoMeta (option_map_or (λ (o : Object). answers.Bytes (take count (drop first o.content))) found answers.NotFound)
    by None = tt
    by (Some o) = tt
read_tells modes.Done (stat name) b is = absurd is
read_tells modes.Done (insert name content pairs only stamp) b is = absurd is
read_tells modes.Done (update name pairs only only_meta stamp) b is = absurd is
read_tells modes.Done (delete name only) b is = absurd is
read_tells modes.Done (copy from generation to stamp) b is = absurd is
read_tells modes.Done (list prefix slash max after) b is = absurd is

module _ (Shown : List ℕ → ℕ → ℕ → Type 0) where
  tells_none : (asked : Operation) (answer : Answer) → IsNoMeta answer → Tells Shown (Some asked) answer
  tells_none (stat name) (answers.Meta meta) none = absurd none
  tells_none (insert name content pairs only stamp) (answers.Meta meta) none = absurd none
  tells_none _ answer none = tt

module _ (start : BucketState) (log : List LogEvent) (bucket : IsBucket start) (allowed : All (λ e. IsAllowed e.op) log) (front : ℕ) where
  abbrev pub HasBy : List ℕ → ℕ → ℕ → Type 0
  HasBy = HasContent start (take front log)

  -- an event by a front tells of generations that were live by then
  event_tells : (moment : ℕ) (e : LogEvent) → moment ≤ front → (mode : Mode) → state_at start log moment ≡ state_by mode e.op (before_moment start log moment)
      → Tells HasBy (Some e.op) (answer_by mode e.op (before_moment start log moment))
  event_tells moment e within modes.Failed step = tells_none HasBy e.op answers.Fault tt
  event_tells moment e within modes.Lost step = tells_none HasBy e.op answers.Fault tt
  event_tells moment e within modes.Done step =
      told start (take front log) bucket (All-take (λ x. IsAllowed x.op) front log allowed) e.op (before_moment start log moment) (moment - 1) moment
      (state_cut start log front (moment - 1) (omega arith)) (state_cut start log front moment within ∙ step)

  -- what an item tells that the plan allows
  item_tells : (moment : ℕ) (seen : Observed) (step : Step) → moment ≤ front → observed_at start log moment ≡ Some seen → IsAsked step seen.op
      → Tells HasBy (asked_by step) seen.answer
  item_tells moment seen step within is asked = subst (λ (a : Option Operation). Tells HasBy a seen.answer) (sym asked.is) (subst (Tells HasBy (Some asked.asked)) (sym t.answer) (by asked.so))
    where
      t : Told start log moment seen
      t = told_at start log moment seen is

      by : (seen.op ≡ asked.asked) ⊎ IsRead seen.op → Tells HasBy (Some asked.asked) (answer_by t.event.mode t.event.op (before_moment start log moment))
      by (inl same) =
          subst (λ (op : Operation). Tells HasBy (Some op) (answer_by t.event.mode t.event.op (before_moment start log moment))) (sym t.op ∙ same)
          (event_tells moment t.event within t.event.mode (moment_step start log moment t.event t.there))
      by (inr reads) = tells_none HasBy asked.asked _ (read_tells t.event.mode t.event.op (before_moment start log moment) (subst IsRead t.op reads))

  walk_tells : (o : OpenCall) (plan : Plan) (items : List Item) → ((answers : List Answer) → AsksAll (plan answers)) → AllByRecursion (λ item. moment_of item ≤ front) items
      → Walked start log o plan items → TellsAlong HasBy plan (seen_by start log items)
  walk_tells o plan [] asks within walked = tt
  walk_tells o plan (item ∷ items) asks within walked =
      subst (λ seen. TellsAlong HasBy plan (cons_option seen (seen_by start log items))) (sym walked.1) (
        item_tells (moment_of item) walked.0 (plan []) within.0 walked.1 (asks [] walked.0.op walked.2),
        walk_tells o (plan_after plan walked.0.answer) items (λ answers. asks (walked.0.answer ∷ answers)) within.1 walked.4,
      )

  -- so each node that a call leaves was there, or shows a generation that was live by the call's end
  pub nodes_done : (state : JournalState) (o : OpenCall) (h : How) (items : List Item) → IsMount state.mount → MayBeDone start log state o front h items
      → NodesFrom HasBy state.mount.table (mount_by start log state.mount o h items).table
  nodes_done state o how.NoMemory items is may = NodesFrom-same HasBy state.mount.table
  nodes_done state o how.Ok items is may = by (reads_last o.taken.request)
    where
      by : IsReadOrWrite o.taken.request ⊎ (IsReadOrWrite o.taken.request → ⊥)
          → NodesFrom HasBy state.mount.table (mount_after o.taken.at state.mount o.taken.request (seen_by start log items)).table
      by (inl last) = subst (NodesFrom HasBy state.mount.table) (sym (last_table o.taken.at state.mount (seen_by start log items) o.taken.request last))
          (NodesFrom-same HasBy state.mount.table)
      by (inr other) = nodes_from HasBy o.taken.at state.mount o.taken.request (seen_by start log items) is
          (walk_tells o (plan_of state o) items (plan_asks o.taken.at state.mount o.taken.request other)
          (walk_within start log log front refl (plan_of state o) o front items (omega arith) may.walk)
          (Walked-walks start log o (plan_of state o) items may.walk.told may.walk.walked))
