-- A flush of staged content makes a generation where the one that the file shows is live under its name, and else nothing.
use Rattle.std.proofs.Common.{◌≡◌, ◌≢◌, ◌≤◌, ℕ, Bool, true, false, List, [], ◌∷◌, Option, Some, None, refl, sym, ap, subst, ◌∙◌, arith}
use Rattle.std.proofs.lemmas.Bool.{false≢true}
use Rattle.std.proofs.lemmas.Bool.Decides.{Decides-eqb}
use Rattle.std.specs.FinMap as fin
use Rattle.std.specs.Option.{option_and_then, option_map_or}
use Rattle.std.specs.Prelude.{if◌then◌else◌, not, ◌==◌, is_some, IsSome, nat_lt}
use Rattle.bucket_api.proofs.LogLaws.{state_at-pushed}
use Rattle.bucket_api.specs.BucketState.{BucketState, generation_at, object_at, object_of}
use Rattle.bucket_api.specs.BucketStep.{answer_to, is_met, new_object, refused, state_after, with_new}
use Rattle.bucket_api.specs.Operation.{Operation}
use Rattle.bucket_api.specs.declared.answers.Answer.{Answer}
use Rattle.bucket_api.specs.declared.answers.Answer.TheVariants as answers
use Rattle.bucket_api.specs.declared.events.Mode.TheVariants as modes
use Rattle.bucket_api.specs.declared.objects.Object.{Object}
use Rattle.fuse_replies.specs.Errno.{estale}
use Rattle.fuse_replies.specs.declared.reply.Reply.{Reply}
use Rattle.fuse_replies.specs.declared.reply.Reply.TheVariants.{Empty, Error}
use Rattle.fuse_requests.specs.declared.request.Request.{Request}
use Rattle.fuse_requests.specs.declared.request.Request.TheVariants.{Flush, Fsync}
use Rattle.mount_model.specs.Observing.{Observed}
use Rattle.mount_model.specs.declared.config.Config.{Config}
use Rattle.mount_rules.specs.Dispatch.{early, reply_to, wants}
use Rattle.mount_rules.specs.Files.{content_in}
use Rattle.mount_rules.specs.Laws.{FlushesAreGuarded, IsFlushOf, IsGuarded, content_at, reached}
use Rattle.mount_rules.specs.Mount.{File, IsStagedAt, MountModel, Node}
use Rattle.mount_rules.specs.OneThread.{Call, Ending, Ends, IsLawful, Observes, RunState, Store, after_operation, after_operations, at_state, bucket_of, contents_of, mount_by, performed, plan_at, reply_by, reply_in, short, stale, state_after_call}
use Rattle.mount_rules.specs.Plans.{Completes, Plan, Wanted, answers_of, asked_by, done}
use Rattle.mount_rules.specs.Reading.{source_of}
use Rattle.mount_rules.specs.Requests.Flush as flush
use Rattle.mount_rules.specs.Rules.{Taken}
use Rattle.mount_rules.specs.View.{Sight, sight_at, view_of}
use Rattle.staging_spec.specs.StagedFiles.{StagedContent, touched_by}
use Rattle.staging_spec.specs.Wanted.{Range, wanted_by_flush}
use Rattle.mount_laws.proofs.Keeping.{no_Some, same_Some}
use Rattle.mount_laws.proofs.Lengths.{was_live}
use Rattle.mount_laws.proofs.Settled.{IsSettled, ends_with}
use Rattle.mount_laws.proofs.StagedContents.{SeesFileAt, SeesFileAt-of}
use Rattle.mount_laws.proofs.Stores.{observes_none}

-- ---- whether a generation is live
module _ (b : BucketState) (name : List ℕ) (generation : ℕ) where
  -- then an insert on it alone is made
  pub met_live : IsSome (object_of b name generation) → is_met (Some generation) (generation_at b name) ≡ true
  met_live = by (object_at b name)
    where
      one : (o : Object) (same : Bool) → (o.meta.generation == generation) ≡ same → IsSome (if same then Some o else None) → (generation == o.meta.generation) ≡ true
      one o true e live = (Decides-eqb generation o.meta.generation).1 (sym ((Decides-eqb o.meta.generation generation).0 e))
      one o false e live = absurd (false≢true live)

      by : (found : Option Object) → IsSome (option_and_then (λ (o : Object). if o.meta.generation == generation then Some o else None) found)
          → (generation == option_map_or (λ (o : Object). o.meta.generation) found 0) ≡ true
      by None live = absurd (false≢true live)
      by (Some o) live = one o (o.meta.generation == generation) refl live

  -- and else it isn't
  pub met_gone : 1 ≤ generation → object_of b name generation ≡ None → is_met (Some generation) (generation_at b name) ≡ false
  met_gone numbered = by (object_at b name)
    where
      not_same : (m n : ℕ) → m ≢ n → (m == n) ≡ false
      not_same m n other = on (m == n) refl
        where
          on : (b : Bool) → (m == n) ≡ b → b ≡ false
          on true e = absurd (other ((Decides-eqb m n).0 e))
          on false e = refl

      one : (o : Object) (same : Bool) → (o.meta.generation == generation) ≡ same → (if same then Some o else None) ≡ None → (generation == o.meta.generation) ≡ false
      one o true e gone = absurd (no_Some (sym gone))
      one o false e gone = not_same generation o.meta.generation (λ is. false≢true (sym e ∙ (Decides-eqb o.meta.generation generation).1 (sym is)))

      by : (found : Option Object) → option_and_then (λ (o : Object). if o.meta.generation == generation then Some o else None) found ≡ None
          → (generation == option_map_or (λ (o : Object). o.meta.generation) found 0) ≡ false
      by None gone = not_same generation 0 (λ is. absurd (omega (arith, numbered, is)))
      by (Some o) gone = one o (o.meta.generation == generation) refl gone

-- ---- what a flush comes to
-- the bucket after one more operation
pub bucket_then : (store : Store) (op : Operation) → bucket_of (after_operation store op) ≡ state_after op (bucket_of store)
bucket_then store op = state_at-pushed store.start store.log (record { lane = 1; op = op; mode = modes.Done })

module _ (config : Config) (state : RunState) (node fh : ℕ) (file : Sight) (staged : StagedContent) (settled : IsSettled config state)
    (seen_file : sight_at state.mount.table node ≡ Some file) (found : fin.get state.mount.staged node ≡ Some staged) where
  abbrev taken : Taken
  taken = record { at = at_state config state; view = view_of state.mount (flush.looks node fh) }

  abbrev op : Operation
  op = flush.insert_of (contents_of state.store) taken.at.second taken.view.kept staged file

  abbrev object : Object
  object = new_object (bucket_of state.store) file.name (content_in (contents_of state.store) (Some staged) file) (flush.pairs_of taken.view.kept staged) taken.at.second

  -- the file shows a generation that was live
  at : SeesFileAt state.mount.table node file
  at = by s.file (fin.get state.mount.table.nodes node) refl s.there
    where
      s : IsStagedAt state.mount.table node staged
      s = settled.is.staged node staged found

      by : (f : File) (there : Option Node) → fin.get state.mount.table.nodes node ≡ there → option_and_then (λ (n : Node). n.file) there ≡ Some f → SeesFileAt state.mount.table node file
      by f None there e = absurd (no_Some e)
      by f (Some n) there e = SeesFileAt-of state.mount.table node file seen_file n f there e

  numbered : 1 ≤ file.source
  numbered =
      let has = settled.files node at.node at.file at.there at.is in
      subst (λ n. 1 ≤ n) (sym at.source) (was_live state.store.start state.store.log at.node.name at.file.source has.0 settled.bucket settled.allowed has.1).numbered

  content_is : content_in (contents_of state.store) (Some staged) file ≡ content_at state node
  content_is =
      sym (ap (λ s. option_map_or (λ f. content_in (contents_of state.store) (fin.get state.mount.staged node) f) s []) seen_file
      ∙ ap (λ s. content_in (contents_of state.store) s file) found)

  -- ---- by its insert
  abbrev Guarded : Reply → Store → Type 0
  Guarded answer store = IsGuarded state (record { mount = state.mount; store = store }) node file answer

  -- where the insert is made, and where it isn't
  inserted : is_met (Some file.source) (generation_at (bucket_of state.store) file.name) ≡ true → Guarded Empty (after_operation state.store op)
  inserted met = record {
    live = λ live. (
      refl,
      record {
        object = object;
        made = bucket_then state.store op ∙ ap (λ is. if is then with_new (bucket_of state.store) file.name object else bucket_of state.store) met;
        fresh = refl;
        holds = content_is;
      },
    );
    gone = λ gone. absurd (false≢true (sym (met_gone (bucket_of state.store) file.name file.source numbered gone) ∙ met));
  }

  refused_it : is_met (Some file.source) (generation_at (bucket_of state.store) file.name) ≡ false → Guarded (Error estale) (after_operation state.store op)
  refused_it met = record {
    live = λ live. absurd (false≢true (sym met ∙ met_live (bucket_of state.store) file.name file.source live));
    gone = λ gone. (refl, bucket_then state.store op ∙ ap (λ is. if is then with_new (bucket_of state.store) file.name object else bucket_of state.store) met);
  }

  -- what the bucket answers to it decides
  answered : (answer : Answer) → answer ≡ answer_to op (bucket_of state.store) → Guarded (flush.reply_to (flush.came_of (answer ∷ []))) (after_operation state.store op)
  answered answer is = subst (λ (a : Answer). Guarded (flush.reply_to (flush.came_of (a ∷ []))) (after_operation state.store op)) (sym is)
      (by (is_met (Some file.source) (generation_at (bucket_of state.store) file.name)) refl)
    where
      by : (met : Bool) → is_met (Some file.source) (generation_at (bucket_of state.store) file.name) ≡ met
          → Guarded (flush.reply_to (flush.came_of ((if met then answers.Meta object.meta else refused (bucket_of state.store) file.name) ∷ []))) (after_operation state.store op)
      by true met = inserted met
      by false met = refused_it met

  -- and then nothing more is asked
  asks_no_more : (answer : Answer) → answer ≡ answer_to op (bucket_of state.store) → flush.after_reads (source_of file) op (answer ∷ []) ≡ done
  asks_no_more answer is = ap (λ (a : Answer). flush.after_reads (source_of file) op (a ∷ [])) is ∙ by (is_met (Some file.source) (generation_at (bucket_of state.store) file.name))
    where
      by : (met : Bool) → flush.after_reads (source_of file) op ((if met then answers.Meta object.meta else refused (bucket_of state.store) file.name) ∷ []) ≡ done
      by true = refl
      by false = refl

  -- a walk along its plan to the end
  walked : (seen : List Observed) → Observes (flush.after_reads (source_of file) op) state.store seen → Completes (flush.after_reads (source_of file) op) seen
      → Guarded (flush.reply_to (flush.came_of (answers_of seen))) (after_operations state.store seen)
  walked [] observed ends = absurd ends
  walked (o ∷ more) observed ends =
      let asked : o.op ≡ op = same_Some (sym observed.0.asked) in
      let told : o.answer ≡ answer_to op (bucket_of state.store) = observed.0.answer ∙ ap (λ (x : Operation). answer_to x (bucket_of state.store)) asked in
      let none : more ≡ [] =
      observes_none (λ later. flush.after_reads (source_of file) op (o.answer ∷ later)) (ap asked_by (asks_no_more o.answer told)) (after_operation state.store o.op) more observed.1 in
      subst (λ (m : List Observed). Guarded (flush.reply_to (flush.came_of (o.answer ∷ answers_of m))) (after_operations (after_operation state.store o.op) m)) (sym none)
      (subst (λ (x : Operation). Guarded (flush.reply_to (flush.came_of (o.answer ∷ []))) (after_operation state.store x)) (sym asked) (answered o.answer told))

  -- the plan of a flush of this file
  plan_is : flush.plan taken ≡ flush.after_reads (source_of file) op
  plan_is =
      ap (λ held. flush.plan (record taken { view = record taken.view { staged = held } })) found
      ∙ ap (λ seen. flush.plan (record taken { view = record taken.view { staged = Some staged; node = seen } })) seen_file

  performed_so : (seen : List Observed) → Observes (flush.plan taken) state.store seen → Completes (flush.plan taken) seen
      → Guarded (flush.reply_by taken.view.staged (flush.came_of (answers_of seen))) (after_operations state.store seen)
  performed_so seen observed ends =
      subst (λ held. Guarded (flush.reply_by held (flush.came_of (answers_of seen))) (after_operations state.store seen)) (sym found)
      (walked seen (subst (λ (plan : Plan). Observes plan state.store seen) plan_is observed) (subst (λ (plan : Plan). Completes plan seen) plan_is ends))

  -- ---- or stale
  wanted_is : (wanted : Wanted) → flush.wanted taken.view ≡ Some wanted → (wanted.name ≡ file.name) × (wanted.generation ≡ file.source)
  wanted_is wanted is = by (nat_lt 0 range.count)
      (sym (ap (λ held. flush.wanted (record taken.view { staged = held })) found ∙ ap (λ seen. flush.wanted (record taken.view { staged = Some staged; node = seen })) seen_file) ∙ is)
    where
      range : Range
      range = wanted_by_flush (touched_by staged.overlay) staged.overlay.limit

      by : (some : Bool) → (if some then Some (record { name = file.name; generation = file.source; range = range }) else None) ≡ Some wanted
          → (wanted.name ≡ file.name) × (wanted.generation ≡ file.source)
      by true e =
          let same : record { name = file.name; generation = file.source; range = range } ≡ wanted = same_Some e in
          (sym (ap (λ (w : Wanted). w.name) same), sym (ap (λ (w : Wanted). w.generation) same))
      by false e = absurd (no_Some e)

  stale_so : (wanted : Wanted) → flush.wanted taken.view ≡ Some wanted → object_of (bucket_of state.store) wanted.name wanted.generation ≡ None → Guarded (Error estale) state.store
  stale_so wanted wants_it gone =
      let is = wanted_is wanted wants_it in
      let none : object_of (bucket_of state.store) file.name file.source ≡ None =
      ap (λ name. object_of (bucket_of state.store) name file.source) (sym is.0) ∙ ap (object_of (bucket_of state.store) wanted.name) (sym is.1) ∙ gone in
      record { live = λ live. absurd (false≢true (subst IsSome none live)); gone = λ none. (refl, refl) }

  -- ---- however the request ends
  -- what is left of the mount is no matter
  with_mount : (mount : MountModel) (store : Store) (answer : Reply) → Guarded answer store → IsGuarded state (record { mount = mount; store = store }) node file answer
  with_mount mount store answer guarded = record {
    live = λ live. let came = guarded.live live in (came.0, record { object = came.1.object; made = came.1.made; fresh = came.1.fresh; holds = came.1.holds });
    gone = λ gone. guarded.gone gone;
  }

  -- a request with these rules, which nothing refuses
  record GoesAsFlush (request : Request) : Type 0 where
    plan_so : plan_at config state request ≡ flush.plan taken
    reply_so : (seen : List Observed) → reply_to (at_state config state) state.mount request seen ≡ flush.reply_by taken.view.staged (flush.came_of (answers_of seen))
    wants_so : wants config state.mount request ≡ flush.wanted taken.view

  flush_goes : early state.mount (Flush node fh) ≡ None → GoesAsFlush (Flush node fh)
  flush_goes free = record {
    plan_so = ap (λ (e : Option ℕ). if◌then◌else◌ {A = Plan} (not (is_some e)) (flush.plan taken) (λ told. done)) free;
    reply_so = λ seen. ap (λ e. option_map_or Error e (flush.reply_by taken.view.staged (flush.came_of (answers_of seen)))) free;
    wants_so = ap (λ (e : Option ℕ). if not (is_some e) then flush.wanted taken.view else None) free;
  }

  fsync_goes : early state.mount (Fsync node fh) ≡ None → GoesAsFlush (Fsync node fh)
  fsync_goes free = record {
    plan_so = ap (λ (e : Option ℕ). if◌then◌else◌ {A = Plan} (not (is_some e)) (flush.plan taken) (λ told. done)) free;
    reply_so = λ seen. ap (λ e. option_map_or Error e (flush.reply_by taken.view.staged (flush.came_of (answers_of seen)))) free;
    wants_so = ap (λ (e : Option ℕ). if not (is_some e) then flush.wanted taken.view else None) free;
  }

  of_call : (call : Call) → GoesAsFlush call.request → IsLawful config state call → call.ending ≢ short → IsGuarded state (state_after_call config state call) node file (reply_in config state call)
  of_call call goes lawful = by call.ending lawful.ends
    where
      by : (ending : Ending) → Ends config state call.request call.seen ending → ending ≢ short
          → IsGuarded state (record { mount = mount_by config state call ending; store = after_operations state.store call.seen }) node file (reply_by config state call ending)
      by performed ends other =
          let plan = goes.plan_so in
          with_mount _ _ _ (subst (λ reply. Guarded reply (after_operations state.store call.seen)) (sym (goes.reply_so call.seen))
          (performed_so call.seen (subst (λ (p : Plan). Observes p state.store call.seen) plan lawful.observed) (subst (λ (p : Plan). Completes p call.seen) plan ends)))
      by short ends other = absurd (other refl)
      by stale ends other =
          with_mount _ _ _ (subst (λ (seen : List Observed). Guarded (Error estale) (after_operations state.store seen)) (sym ends.silent)
          (stale_so ends.wanted (sym goes.wants_so ∙ ends.wants_it) ends.gone))

-- ---- in any run
module _ (config : Config) (state : RunState) (node : ℕ) (file : Sight) (staged : StagedContent) (settled : IsSettled config state)
    (seen_file : sight_at state.mount.table node ≡ Some file) (found : fin.get state.mount.staged node ≡ Some staged) where
  abbrev Guards : Request → Type 0
  Guards request = (call : Call) → call.request ≡ request → early state.mount request ≡ None → IsLawful config state call → call.ending ≢ short
      → IsGuarded state (state_after_call config state call) node file (reply_in config state call)

  guards : (request : Request) → IsFlushOf node request → Guards request
  guards (Flush number fh) same = subst (λ n. Guards (Flush n fh)) (sym same)
      (λ call is free lawful other. of_call config state node fh file staged settled seen_file found call
      (subst (GoesAsFlush config state node fh file staged settled seen_file found) (sym is) (flush_goes config state node fh file staged settled seen_file found free)) lawful other)
  guards (Fsync number fh) same = subst (λ n. Guards (Fsync n fh)) (sym same)
      (λ call is free lawful other. of_call config state node fh file staged settled seen_file found call
      (subst (GoesAsFlush config state node fh file staged settled seen_file found) (sym is) (fsync_goes config state node fh file staged settled seen_file found free)) lawful other)
  guards request same = absurd same

pub flushes_are_guarded : FlushesAreGuarded
flushes_are_guarded config bucket calls call node file staged ran is_flush seen_file found free other =
    let last = ends_with config bucket calls call ran in
    subst (λ (after : RunState). IsGuarded (reached config bucket calls) after node file (reply_in config (reached config bucket calls) call)) (sym last.after)
    (guards config (reached config bucket calls) node file staged last.before seen_file found call.request is_flush call refl free last.lawful other)
