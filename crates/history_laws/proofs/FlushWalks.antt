-- A walk along reads of a source to the insert of a flush: its last event decides.
use Rattle.std.proofs.Common.{◌≡◌, ◌≢◌, ◌≤◌, ℕ, Bool, true, false, List, [], ◌∷◌, take, drop, Option, Some, None, refl, sym, ap, subst, ◌∙◌, ◌⊎◌, inl, inr}
use Rattle.std.proofs.lemmas.Bool.{false≢true}
use Rattle.std.specs.List.{AllByRecursion, cons_option}
use Rattle.std.specs.Option.{option_map_or}
use Rattle.std.specs.Prelude.{IsSome, if◌then◌else◌}
use Rattle.bucket_api.specs.BucketState.{BucketState, generation_at, object_of}
use Rattle.bucket_api.specs.BucketStep.{answer_to, is_met, new_object, refused, state_after, with_new}
use Rattle.bucket_api.specs.Log.{answer_by, state_at, state_by}
use Rattle.bucket_api.specs.LogEvent.{LogEvent}
use Rattle.bucket_api.specs.Operation.{Operation, stat, read, insert, update, delete, copy, list}
use Rattle.bucket_api.specs.declared.answers.Answer.{Answer}
use Rattle.bucket_api.specs.declared.answers.Answer.TheVariants as answers
use Rattle.bucket_api.specs.declared.events.Mode.TheVariants as modes
use Rattle.bucket_api.specs.declared.objects.Object.{Object}
use Rattle.bucket_api.specs.declared.objects.Pair.{Pair}
use Rattle.fuse_replies.specs.declared.reply.Reply.{Reply}
use Rattle.history_laws.proofs.LastCalls.{no_items, own_made}
use Rattle.history_laws.proofs.Moments.{Told, done_by, moment_step, told_at}
use Rattle.history_laws.specs.Flushes.{IsGuarded, LeavesBucket, before_moment}
use Rattle.history_spec.proofs.Walking.{Walked}
use Rattle.history_spec.specs.Account.{Item, moment_of, own_moments_of}
use Rattle.history_spec.specs.JournalState.{OpenCall}
use Rattle.history_spec.specs.Looks.{IsLook}
use Rattle.history_spec.specs.Observing.{seen_by}
use Rattle.mount_laws.proofs.Guarded.{met_gone, met_live}
use Rattle.mount_model.specs.Observing.{Observed}
use Rattle.mount_rules.specs.Plans.{IsReadOf, MayEnd, Plan, answers_of, done}
use Rattle.mount_rules.specs.Reading.{source_of}
use Rattle.mount_rules.specs.Requests.Flush as flush
use Rattle.mount_rules.specs.View.{Sight}

-- ---- a read of the source
-- it leaves the bucket as it was, and its answer tells whether the source is live
pub record ReadsSource (start : BucketState) (log : List LogEvent) (moment : ℕ) (file : Sight) (answer : Answer) : Type 0 where
  pub leaves : LeavesBucket start log moment
  pub told : ((bytes : List ℕ) × (answer ≡ answers.Bytes bytes)) ⊎ ((answer ≡ answers.NotFound) × (object_of (before_moment start log moment) file.name file.source ≡ None))

no_look : (file : Sight) (op : Operation) → IsReadOf (source_of file) op → IsLook op → ⊥
no_look file (read name generation first count) is look = look
no_look file (stat name) is look = is
no_look file (insert name content pairs only stamp) is look = is
no_look file (update name pairs only only_meta stamp) is look = is
no_look file (delete name only) is look = is
no_look file (copy from generation to stamp) is look = is
no_look file (list prefix slash max after) is look = is

module _ (start : BucketState) (log : List LogEvent) (moment : ℕ) (file : Sight) (answer : Answer) where
  reads_source : (op : Operation) → IsReadOf (source_of file) op → answer ≡ answer_to op (before_moment start log moment)
      → state_at start log moment ≡ state_by modes.Done op (before_moment start log moment) → ReadsSource start log moment file answer
  reads_source (read name generation first count) is told step = record { leaves = step; told = by (object_of b name generation) refl }
    where
      b : BucketState
      b = before_moment start log moment

      by : (found : Option Object) → object_of (before_moment start log moment) name generation ≡ found
          → ((bytes : List ℕ) × (answer ≡ answers.Bytes bytes)) ⊎ ((answer ≡ answers.NotFound) × (object_of (before_moment start log moment) file.name file.source ≡ None))
      by None there = inr (
        told ∙ ap (λ found. option_map_or (λ (o : Object). answers.Bytes (take count (drop first o.content))) found answers.NotFound) there,
        ap (λ n. object_of (before_moment start log moment) n file.source) (sym is.0) ∙ ap (object_of (before_moment start log moment) name) (sym is.1) ∙ there,
      )
      by (Some o) there = inl (
        take count (drop first o.content),
        told ∙ ap (λ found. option_map_or (λ (x : Object). answers.Bytes (take count (drop first x.content))) found answers.NotFound) there,
      )
  reads_source (stat name) is told step = absurd is
  reads_source (insert name content pairs only stamp) is told step = absurd is
  reads_source (update name pairs only only_meta stamp) is told step = absurd is
  reads_source (delete name only) is told step = absurd is
  reads_source (copy from generation to stamp) is told step = absurd is
  reads_source (list prefix slash max after) is told step = absurd is

-- ---- a walk along reads to an insert
module _ (start : BucketState) (log : List LogEvent) (o : OpenCall) (file : Sight) (numbered : 1 ≤ file.source) (content : List ℕ) (pairs : List Pair) (second : ℕ) where
  abbrev pub op : Operation
  op = insert file.name content pairs (Some file.source) second

  abbrev pub asks : Plan
  asks = flush.after_reads (source_of file) op

  abbrev pub Guarded : List ℕ → List Answer → Type 0
  Guarded own told = IsGuarded start log file content own (flush.reply_to (flush.came_of told))

  abbrev before : ℕ → BucketState
  before moment = before_moment start log moment

  -- the insert decides
  inserted : (moment : ℕ) (answer : Answer) → answer ≡ answer_to op (before moment) → state_at start log moment ≡ state_after op (before moment)
      → (asks (answer ∷ []) ≡ done) × Guarded (moment ∷ []) (answer ∷ [])
  inserted moment answer told step = by (is_met (Some file.source) (generation_at (before moment) file.name)) refl
    where
      object : Object
      object = new_object (before moment) file.name content pairs second

      by : (met : Bool) → is_met (Some file.source) (generation_at (before moment) file.name) ≡ met → (asks (answer ∷ []) ≡ done) × Guarded (moment ∷ []) (answer ∷ [])
      by true met =
          let is : answer ≡ answers.Meta object.meta = told ∙ ap (λ m. if m then answers.Meta object.meta else refused (before moment) file.name) met in
          let made : state_at start log moment ≡ with_new (before moment) file.name object = step ∙ ap (λ m. if m then with_new (before moment) file.name object else before moment) met in (
            ap (λ (a : Answer). asks (a ∷ [])) is,
            subst (λ (a : Answer). Guarded (moment ∷ []) (a ∷ [])) (sym is) record {
              earlier = [];
              moment = moment;
              last = refl;
              quiet = tt;
              live = λ live. (refl, record { object = object; made = made; fresh = refl; holds = refl });
              gone = λ gone. absurd (false≢true (sym (met_gone (before moment) file.name file.source numbered gone) ∙ met));
            },
          )
      by false met =
          let is : answer ≡ refused (before moment) file.name = told ∙ ap (λ m. if m then answers.Meta object.meta else refused (before moment) file.name) met in
          let same : state_at start log moment ≡ before moment = step ∙ ap (λ m. if m then with_new (before moment) file.name object else before moment) met in (
            ap (λ (a : Answer). asks (a ∷ [])) is,
            subst (λ (a : Answer). Guarded (moment ∷ []) (a ∷ [])) (sym is) record {
              earlier = [];
              moment = moment;
              last = refl;
              quiet = tt;
              live = λ live. absurd (false≢true (sym met ∙ met_live (before moment) file.name file.source live));
              gone = λ gone. (refl, same);
            },
          )

  -- and so does a read that finds the source gone
  gone_at : (moment : ℕ) → LeavesBucket start log moment → object_of (before moment) file.name file.source ≡ None → Guarded (moment ∷ []) (answers.NotFound ∷ [])
  gone_at moment leaves gone = record {
    earlier = [];
    moment = moment;
    last = refl;
    quiet = tt;
    live = λ live. absurd (false≢true (subst IsSome gone live));
    gone = λ none. (refl, leaves);
  }

  -- a read that is given bytes decides nothing
  read_first : (moment : ℕ) (own : List ℕ) (reply : Reply) → LeavesBucket start log moment → IsGuarded start log file content own reply → IsGuarded start log file content (moment ∷ own) reply
  read_first moment own reply leaves guarded = record {
    earlier = moment ∷ guarded.earlier;
    moment = guarded.moment;
    last = ap (λ moments. moment ∷ moments) guarded.last;
    quiet = (leaves, guarded.quiet);
    live = guarded.live;
    gone = guarded.gone;
  }

  pub walked : (items : List Item) → Walked start log o asks items → MayEnd (asks (answers_of (seen_by start log items)))
      → AllByRecursion (λ (s : Observed). s.answer ≢ answers.Fault) (seen_by start log items) → Guarded (own_moments_of items) (answers_of (seen_by start log items))
  walked [] walk ends well = absurd ends
  walked (item ∷ items) walk ends well =
      subst (λ seen. Guarded (own_moments_of (item ∷ items)) (answers_of (cons_option seen (seen_by start log items)))) (sym walk.1)
      (by walk.2 (subst (λ seen. MayEnd (asks (answers_of (cons_option seen (seen_by start log items))))) walk.1 ends)
      (subst (λ seen. AllByRecursion (λ (s : Observed). s.answer ≢ answers.Fault) (cons_option seen (seen_by start log items))) walk.1 well)
      (λ later its_ends its_well. walked items later its_ends its_well))
    where
      seen : Observed
      seen = walk.0

      moment : ℕ
      moment = moment_of item

      t : Told start log moment seen
      t = told_at start log moment seen walk.1

      more : List Answer
      more = answers_of (seen_by start log items)

      done_well : walk.0.answer ≢ answers.Fault → t.event.mode ≡ modes.Done
      done_well well = done_by t.event.mode t.event (before moment) refl (λ bad. well (t.answer ∙ bad))

      answered : (asked : Operation) → walk.0.op ≡ asked → t.event.mode ≡ modes.Done → walk.0.answer ≡ answer_to asked (before moment)
      answered asked is mode =
          t.answer ∙ ap (λ m. answer_by m t.event.op (before moment)) mode ∙ ap (λ (x : Operation). answer_to x (before moment)) (sym t.op ∙ is)

      stepped : (asked : Operation) → walk.0.op ≡ asked → t.event.mode ≡ modes.Done → state_at start log moment ≡ state_after asked (before moment)
      stepped asked is mode =
          moment_step start log moment t.event t.there ∙ ap (λ m. state_by m t.event.op (before moment)) mode ∙ ap (λ (x : Operation). state_after x (before moment)) (sym t.op ∙ is)

      -- the last item
      ended : (IsLook walk.0.op → ⊥) → asks (walk.0.answer ∷ []) ≡ done → Guarded (moment ∷ []) (walk.0.answer ∷ []) → Guarded (own_moments_of (item ∷ items)) (walk.0.answer ∷ more)
      ended other last guarded =
          let none : items ≡ [] = no_items start log o (λ told. asks (walk.0.answer ∷ told)) last items walk.4 in
          subst (λ its. Guarded (own_moments_of (item ∷ its)) (walk.0.answer ∷ answers_of (seen_by start log its))) (sym none)
          (subst (λ own. Guarded own (walk.0.answer ∷ [])) (sym (own_made start log o walk.0.op item walk.3 other [])) guarded)

      by : IsReadOf (source_of file) walk.0.op ⊎ (walk.0.op ≡ op) → MayEnd (asks (walk.0.answer ∷ answers_of (seen_by start log items)))
          → AllByRecursion (λ (s : Observed). s.answer ≢ answers.Fault) (walk.0 ∷ seen_by start log items)
          → (Walked start log o asks items → MayEnd (asks (answers_of (seen_by start log items)))
          → AllByRecursion (λ (s : Observed). s.answer ≢ answers.Fault) (seen_by start log items) → Guarded (own_moments_of items) (answers_of (seen_by start log items)))
          → Guarded (own_moments_of (item ∷ items)) (walk.0.answer ∷ answers_of (seen_by start log items))
      by (inr asked) ends well later =
          let mode = done_well well.0 in
          let came = inserted moment walk.0.answer (answered op asked mode) (stepped op asked mode) in
          ended (λ look. subst IsLook asked look) came.0 came.1
      by (inl reads) ends well later = on r.told
        where
          mode : t.event.mode ≡ modes.Done
          mode = done_well well.0

          r : ReadsSource start log moment file walk.0.answer
          r = reads_source start log moment file walk.0.answer walk.0.op reads (answered walk.0.op refl mode) (stepped walk.0.op refl mode)

          on : ((bytes : List ℕ) × (walk.0.answer ≡ answers.Bytes bytes)) ⊎ ((walk.0.answer ≡ answers.NotFound) × (object_of (before_moment start log moment) file.name file.source ≡ None))
              → Guarded (own_moments_of (item ∷ items)) (walk.0.answer ∷ answers_of (seen_by start log items))
          on (inl (bytes, is)) =
              subst (λ own. Guarded own (walk.0.answer ∷ more)) (sym (own_made start log o walk.0.op item walk.3 (no_look file walk.0.op reads) items))
              (subst (λ (a : Answer). Guarded (moment ∷ own_moments_of items) (a ∷ more)) (sym is)
              (read_first moment (own_moments_of items) (flush.reply_to (flush.came_of more)) r.leaves
              (later (subst (λ (a : Answer). Walked start log o (λ told. asks (a ∷ told)) items) is walk.4) (subst (λ (a : Answer). MayEnd (asks (a ∷ more))) is ends) well.1)))
          on (inr (is, gone)) =
              ended (no_look file walk.0.op reads) (ap (λ (a : Answer). asks (a ∷ [])) is)
              (subst (λ (a : Answer). Guarded (moment ∷ []) (a ∷ [])) (sym is) (gone_at moment r.leaves gone))
