-- What a RENAME makes of the bucket of the one-thread mount: it moves the object of the old name, or leaves all as it was.
use Rattle.std.proofs.Common.{◌≡◌, ◌≢◌, ℕ, Bool, true, false, cond, List, [], ◌∷◌, Option, Some, None, refl, sym, ap, subst, ◌∙◌, inl, inr}
use Rattle.std.proofs.lemmas.Bool.{false≢true}
use Rattle.std.proofs.lemmas.Map.Text.{is_eq-slice_cmp}
use Rattle.std.proofs.lemmas.Slice.Eq.{bytes_eq-Decides}
use Rattle.std.specs.BTreeMap.{insert_entry, is_at}
use Rattle.std.specs.List.{AllByRecursion}
use Rattle.std.specs.Map.{lookup}
use Rattle.std.specs.Option.{option_map_or}
use Rattle.std.specs.Ordering.{is_eq, match_ordering}
use Rattle.std.specs.Prelude.{if◌then◌else◌, not, is_some}
use Rattle.std.specs.Str.{bytes_eq}
use Rattle.std.specs.declared.cmp.Ordering.{Ordering}
use Rattle.std.specs.declared.cmp.Ordering.TheVariants.{Less, Equal, Greater}
use Rattle.bucket_api.specs.BucketState.{BucketState, object_at, object_of}
use Rattle.bucket_api.specs.BucketStep.{answer_to, is_met, new_object, refused, state_after, with_new, without_object}
use Rattle.bucket_api.specs.Metadata.{text_cmp}
use Rattle.bucket_api.specs.Operation.{Operation, copy, delete, stat}
use Rattle.bucket_api.specs.declared.answers.Answer.{Answer}
use Rattle.bucket_api.specs.declared.answers.Answer.TheVariants as answers
use Rattle.bucket_api.specs.declared.objects.Object.{Object}
use Rattle.fuse_replies.specs.declared.reply.Reply.{Reply}
use Rattle.fuse_replies.specs.declared.reply.Reply.TheVariants.{Error}
use Rattle.fuse_requests.specs.declared.request.Request.{Request}
use Rattle.fuse_requests.specs.declared.request.Request.TheVariants.{Rename}
use Rattle.mount_model.specs.Observing.{Observed}
use Rattle.mount_model.specs.declared.config.Config.{Config}
use Rattle.fuse_replies.specs.Errno.{eio, enoent, enosys, estale}
use Rattle.mount_rules.specs.Dispatch.{early, taken_at}
use Rattle.mount_rules.specs.OneThread.{Call, Ends, IsLawful, Observes, RunState, StopsShort, Store, after_operation, after_operations, at_state, bucket_of, plan_at, reply_in, second_of, short}
use Rattle.mount_rules.specs.Plans.{Completes, IsHarmless, MayEnd, Plan, Step, answers_of, asked_by, done}
use Rattle.mount_rules.specs.Requests.Lookup as lookup_rules
use Rattle.mount_rules.specs.Requests.Lookup.{Probed, present, absent, failed}
use Rattle.mount_rules.specs.Requests.Rename as rename
use Rattle.mount_rules.specs.Requests.Rename.{Came, Names}
use Rattle.mount_rules.specs.Rules.{Taken}
use Rattle.object_names.specs.Paths.{has_suffix}
use Rattle.mount_laws.proofs.Calls.{of_call}
use Rattle.mount_laws.proofs.Guarded.{bucket_then}
use Rattle.mount_laws.proofs.Keeping.{no_Some, same_Some}
use Rattle.mount_laws.proofs.Memory.{empty_is_none}
use Rattle.mount_laws.proofs.Stores.{object_of-found, observes_none, same_generation}
use Rattle.mount_laws.specs.Renames.{IsCopiedAtMost, IsMoved, IsRenamed, RenamesMove, RenamesStop, renamed}

-- ---- a bucket with one more object
-- has the same one under every other name
abbrev live_in : List (List ℕ × Object) → List ℕ → Option Object
live_in es name = lookup (is_at (text_cmp name)) es

object_at-new : (b : BucketState) (name made : List ℕ) (o : Object) → bytes_eq name made ≡ false → object_at (with_new b made o) name ≡ object_at b name
object_at-new b name made o different = by b.entries
  where
    other : is_eq (text_cmp name made) ≡ false
    other = is_eq-slice_cmp name made ∙ different

    by : (es : List (List ℕ × Object)) → live_in (insert_entry text_cmp es made o) name ≡ live_in es name
    by [] = ap (λ here. cond here (Some o) None) other
    by (e ∷ es) = on (by es) (text_cmp made e.0) refl
      where
        on : live_in (insert_entry text_cmp es made o) name ≡ live_in es name → (r : Ordering) → text_cmp made e.0 ≡ r
            → live_in (match_ordering r ((made, o) ∷ e ∷ es) ((e.0, o) ∷ es) (e ∷ insert_entry text_cmp es made o)) name ≡ live_in (e ∷ es) name
        on later Less is = ap (λ here. cond here (Some o) (live_in (e ∷ es) name)) other
        on later Equal is =
            let one : made ≡ e.0 = (bytes_eq-Decides made e.0).0 (sym (is_eq-slice_cmp made e.0) ∙ ap is_eq is) in
            let no_ : is_eq (text_cmp name e.0) ≡ false = ap (λ k. is_eq (text_cmp name k)) (sym one) ∙ other in
            ap (λ here. cond here (Some o) (live_in es name)) no_ ∙ sym (ap (λ here. cond here (Some e.1) (live_in es name)) no_)
        on later Greater is = ap (cond (is_eq (text_cmp name e.0)) (Some e.1)) later

-- ---- the walk
module _ (store : Store) (implicit : Bool) (from to : List ℕ) (suffixed : Bool) (second : ℕ) (different : bytes_eq from to ≡ false) where
  abbrev b : BucketState
  b = bucket_of store

  abbrev moving : Plan
  moving = rename.moving_plan implicit from to suffixed second

  -- what came of it says what became of the bucket
  abbrev Outcome : BucketState → Came → Type 0
  Outcome after rename.moved = IsMoved b after from to second
  Outcome after rename.directory = after ≡ b
  Outcome after rename.nothing = after ≡ b
  Outcome after rename.stale = after ≡ b
  Outcome after rename.fault = after ≡ b

  by_probe : (after : BucketState) → after ≡ b → (told : Probed) → Outcome after (rename.came_of_probe told)
  by_probe after same present = same
  by_probe after same absent = same
  by_probe after same failed = same

  by_stat : (after : BucketState) → after ≡ b → (told : Answer) → Outcome after (rename.came_of_stat told)
  by_stat after same answers.NotFound = same
  by_stat after same _ = same

  probe_keeps : (x : BucketState) → state_after (lookup_rules.probe implicit from) x ≡ x
  probe_keeps x = by implicit
    where
      by : (i : Bool) → state_after (lookup_rules.probe i from) x ≡ x
      by true = refl
      by false = refl

  asks_stat : (told : Probed) (op : Operation) → asked_by (lookup_rules.after_probe from suffixed told) ≡ Some op → op ≡ stat from
  asks_stat told op = by told suffixed
    where
      by : (told : Probed) (s : Bool) → asked_by (lookup_rules.after_probe from s told) ≡ Some op → op ≡ stat from
      by present true e = sym (same_Some e)
      by present false e = absurd (no_Some e)
      by absent true e = absurd (no_Some e)
      by absent false e = sym (same_Some e)
      by failed s e = absurd (no_Some e)

  -- after the probe
  module _ (o : Observed) (asked : asked_by (moving []) ≡ Some o.op) where
    abbrev first : Store
    first = after_operation store o.op

    probed : bucket_of first ≡ b
    probed = bucket_then store o.op ∙ ap (λ op. state_after op b) (sym (same_Some asked)) ∙ probe_keeps b

    -- and after the stat
    module _ (p : Observed) (asked_then : asked_by (moving (o.answer ∷ [])) ≡ Some p.op) (told : p.answer ≡ answer_to p.op (bucket_of first)) where
      abbrev second_one : Store
      second_one = after_operation first p.op

      is_stat : p.op ≡ stat from
      is_stat = asks_stat (lookup_rules.probed o.answer) p.op asked_then

      looked : bucket_of second_one ≡ b
      looked = bucket_then first p.op ∙ ap (λ op. state_after op (bucket_of first)) is_stat ∙ probed

      shown : p.answer ≡ option_map_or (λ (x : Object). answers.Meta x.meta) (object_at b from) answers.NotFound
      shown = told ∙ ap (λ op. answer_to op (bucket_of first)) is_stat ∙ ap (answer_to (stat from)) probed

      -- no copy follows where there was no object
      no_copy : object_at b from ≡ None → (q : Observed) → asked_by (rename.after_stat from to second p.answer) ≡ Some q.op → ⊥
      no_copy none q asked_now =
          let nothing : p.answer ≡ answers.NotFound = shown ∙ ap (λ found. option_map_or (λ (x : Object). answers.Meta x.meta) found answers.NotFound) none in
          no_Some (sym (ap (λ a. asked_by (rename.after_stat from to second a)) nothing) ∙ asked_now)

      -- and after the copy, of an object that was there
      module _ (object : Object) (there : object_at b from ≡ Some object) (q : Observed) (asked_now : asked_by (rename.after_stat from to second p.answer) ≡ Some q.op)
          (copied : q.answer ≡ answer_to q.op (bucket_of second_one)) where
        abbrev made : Object
        made = new_object b to object.content object.meta.pairs second

        abbrev third : Store
        third = after_operation second_one q.op

        shown_so : p.answer ≡ answers.Meta object.meta
        shown_so = shown ∙ ap (λ found. option_map_or (λ (x : Object). answers.Meta x.meta) found answers.NotFound) there

        is_copy : q.op ≡ copy from object.meta.generation to second
        is_copy = sym (same_Some (sym (ap (λ a. asked_by (rename.after_stat from to second a)) shown_so) ∙ asked_now))

        live : object_of b from object.meta.generation ≡ Some object
        live = object_of-found b from object there

        copied_so : q.answer ≡ answers.Meta made.meta
        copied_so = copied ∙ ap (λ op. answer_to op (bucket_of second_one)) is_copy ∙ ap (answer_to (copy from object.meta.generation to second)) looked
            ∙ ap (λ found. option_map_or (λ (x : Object). answers.Meta (new_object b to x.content x.meta.pairs second).meta) found answers.NotFound) live

        both : bucket_of third ≡ with_new b to made
        both = bucket_then second_one q.op ∙ ap (λ op. state_after op (bucket_of second_one)) is_copy ∙ ap (state_after (copy from object.meta.generation to second)) looked
            ∙ ap (λ found. option_map_or (λ (x : Object). with_new b to (new_object b to x.content x.meta.pairs second)) found b) live

        goes_on : rename.after_copy from p.answer q.answer ≡ rename.after_copy from (answers.Meta object.meta) (answers.Meta made.meta)
        goes_on = ap (λ a. rename.after_copy from a q.answer) shown_so ∙ ap (rename.after_copy from (answers.Meta object.meta)) copied_so

        -- and after the delete
        module _ (r : Observed) (asked_last : asked_by (rename.after_copy from p.answer q.answer) ≡ Some r.op) (deleted : r.answer ≡ answer_to r.op (bucket_of third)) where
          abbrev gone : Operation
          gone = delete from (Some object.meta.generation)

          is_delete : r.op ≡ gone
          is_delete = sym (same_Some (sym (ap asked_by goes_on) ∙ asked_last))

          still : object_at (with_new b to made) from ≡ Some object
          still = object_at-new b from to made different ∙ there

          met : is_met (Some object.meta.generation) object.meta.generation ≡ true
          met = same_generation object.meta.generation

          is_done : r.answer ≡ answers.Done
          is_done = deleted ∙ ap (λ op. answer_to op (bucket_of third)) is_delete ∙ ap (answer_to gone) both
              ∙ ap (λ found. option_map_or (λ (x : Object). if is_met (Some object.meta.generation) x.meta.generation then answers.Done else refused (with_new b to made) from) found answers.NotFound) still
              ∙ ap (λ m. if m then answers.Done else refused (with_new b to made) from) met

          moved : IsMoved b (bucket_of (after_operation third r.op)) from to second
          moved = record {
            object = object;
            was = there;
            left = bucket_then third r.op ∙ ap (λ op. state_after op (bucket_of third)) is_delete ∙ ap (state_after gone) both
                ∙ ap (λ found. option_map_or (λ (x : Object). if is_met (Some object.meta.generation) x.meta.generation then without_object (with_new b to made) from else with_new b to made) found (with_new b to made)) still
                ∙ ap (λ m. if m then without_object (with_new b to made) from else with_new b to made) met;
          }

  -- to its end
  walked : (seen : List Observed) → Observes moving store seen → Completes moving seen → Outcome (bucket_of (after_operations store seen)) (rename.came_of (answers_of seen))
  walked [] observed ends = absurd ends
  walked (o ∷ []) observed ends = by_probe _ (probed o observed.0.asked) (lookup_rules.probed o.answer)
  walked (o ∷ p ∷ []) observed ends = by_stat _ (looked o observed.0.asked p observed.1.0.asked observed.1.0.answer) p.answer
  walked (o ∷ p ∷ q ∷ more) observed ends = found (object_at b from) refl
    where
      rest : (object : Object) (there : object_at b from ≡ Some object) (more : List Observed)
          → Observes (λ later. moving (o.answer ∷ p.answer ∷ q.answer ∷ later)) (after_operation (after_operation (after_operation store o.op) p.op) q.op) more
          → Completes moving (o ∷ p ∷ q ∷ more)
          → Outcome (bucket_of (after_operations store (o ∷ p ∷ q ∷ more))) (rename.came_of (answers_of (o ∷ p ∷ q ∷ more)))
      rest object there [] further ends =
          absurd (subst MayEnd (goes_on o observed.0.asked p observed.1.0.asked observed.1.0.answer object there q observed.1.1.0.asked observed.1.1.0.answer) ends)
      rest object there (r ∷ more) further ends =
          let answered = is_done o observed.0.asked p observed.1.0.asked observed.1.0.answer object there q observed.1.1.0.asked observed.1.1.0.answer r further.0.asked further.0.answer in
          let is = moved o observed.0.asked p observed.1.0.asked observed.1.0.answer object there q observed.1.1.0.asked observed.1.1.0.answer r further.0.asked further.0.answer in
          let last = after_operation (after_operation (after_operation (after_operation store o.op) p.op) q.op) r.op in
          let none : more ≡ [] = observes_none (λ later. moving (o.answer ∷ p.answer ∷ q.answer ∷ r.answer ∷ later)) refl last more further.1 in
          subst (λ (m : List Observed). Outcome (bucket_of (after_operations last m)) (rename.came_of_delete r.answer)) (sym none)
          (subst (λ a. Outcome (bucket_of last) (rename.came_of_delete a)) (sym answered) is)

      found : (there : Option Object) → object_at b from ≡ there → Outcome (bucket_of (after_operations store (o ∷ p ∷ q ∷ more))) (rename.came_of (answers_of (o ∷ p ∷ q ∷ more)))
      found None there = absurd (no_copy o observed.0.asked p observed.1.0.asked observed.1.0.answer there q observed.1.1.0.asked)
      found (Some object) there = rest object there more observed.1.1.1 ends

  -- up to the copy, while all that it made is harmless
  stopped : (seen : List Observed) → Observes moving store seen → AllByRecursion (λ (o : Observed). IsHarmless o.op) seen → IsCopiedAtMost b (bucket_of (after_operations store seen)) from to second
  stopped [] observed few = inl refl
  stopped (o ∷ []) observed few = inl (probed o observed.0.asked)
  stopped (o ∷ p ∷ []) observed few = inl (looked o observed.0.asked p observed.1.0.asked observed.1.0.answer)
  stopped (o ∷ p ∷ q ∷ more) observed few = found (object_at b from) refl
    where
      rest : (object : Object) (there : object_at b from ≡ Some object) (more : List Observed)
          → Observes (λ later. moving (o.answer ∷ p.answer ∷ q.answer ∷ later)) (after_operation (after_operation (after_operation store o.op) p.op) q.op) more
          → AllByRecursion (λ (x : Observed). IsHarmless x.op) more
          → IsCopiedAtMost b (bucket_of (after_operations (after_operation (after_operation (after_operation store o.op) p.op) q.op) more)) from to second
      rest object there [] further few = inr (record {
        object = object;
        was = there;
        left = both o observed.0.asked p observed.1.0.asked observed.1.0.answer object there q observed.1.1.0.asked observed.1.1.0.answer;
      })
      rest object there (r ∷ more) further few =
          absurd (subst IsHarmless
          (is_delete o observed.0.asked p observed.1.0.asked observed.1.0.answer object there q observed.1.1.0.asked observed.1.1.0.answer r further.0.asked further.0.answer) few.0)

      found : (there : Option Object) → object_at b from ≡ there → IsCopiedAtMost b (bucket_of (after_operations store (o ∷ p ∷ q ∷ more))) from to second
      found None there = absurd (no_copy o observed.0.asked p observed.1.0.asked observed.1.0.answer there q observed.1.1.0.asked)
      found (Some object) there = rest object there more observed.1.1.1 few.1.1.1

-- ---- a call
module _ (config : Config) (state : RunState) (node newdir : ℕ) (name newname : List ℕ) where
  abbrev names : Names
  names = renamed newdir name newname

  abbrev request : Request
  request = Rename node newdir name newname

  abbrev taken : Taken
  taken = taken_at (at_state config state) state.mount request

  abbrev moving_then : Plan
  moving_then = rename.moving_plan config.implicit_dirs (rename.from_of names taken.view) (rename.to_of names taken.view) (has_suffix name) (second_of config)

  abbrev Renames : Store → Reply → Type 0
  Renames store answer = IsRenamed config state (record { mount = state.mount; store = store }) names taken.view answer

  -- an error, where nothing was asked
  unasked : (errno : ℕ) → Renames state.store (Error errno)
  unasked errno = record { moved = λ different empty. absurd (empty_is_none errno (sym empty)); kept = λ e same. refl }

  -- by what came of it
  by_outcome : (store : Store) (different : bytes_eq (rename.from_of names taken.view) (rename.to_of names taken.view) ≡ false) (came : Came)
      → Outcome state.store config.implicit_dirs (rename.from_of names taken.view) (rename.to_of names taken.view) (has_suffix name) (second_of config) different (bucket_of store) came
      → Renames store (rename.reply_to came)
  by_outcome store different rename.moved is = record { moved = λ other empty. is; kept = λ errno e. absurd (empty_is_none errno e) }
  by_outcome store different rename.directory is = record { moved = λ other empty. absurd (empty_is_none enosys (sym empty)); kept = λ errno e. is }
  by_outcome store different rename.nothing is = record { moved = λ other empty. absurd (empty_is_none enoent (sym empty)); kept = λ errno e. is }
  by_outcome store different rename.stale is = record { moved = λ other empty. absurd (empty_is_none estale (sym empty)); kept = λ errno e. is }
  by_outcome store different rename.fault is = record { moved = λ other empty. absurd (empty_is_none eio (sym empty)); kept = λ errno e. is }

  -- one that nothing refuses, to the same name or another
  unrefused_so : (same : Bool) → rename.is_same names taken.view ≡ same → (seen : List Observed)
      → Observes (rename.plan names taken) state.store seen → Completes (rename.plan names taken) seen
      → Renames (after_operations state.store seen) (rename.reply_to (rename.came names taken.view (answers_of seen)))
  unrefused_so true same seen observed ends =
      let none : seen ≡ [] = observes_none (rename.plan names taken) (ap (λ s. asked_by (if s then done else moving_then [])) same) state.store seen observed in
      subst (λ (told : List Observed). Renames (after_operations state.store told) (rename.reply_to (rename.came names taken.view (answers_of told)))) (sym none)
      (subst (λ s. Renames state.store (rename.reply_to (if s then rename.moved else rename.came_of []))) (sym same) (record {
        moved = λ different empty. absurd (false≢true (sym different ∙ same));
        kept = λ errno e. absurd (empty_is_none errno e);
      }))
  unrefused_so false different seen observed ends =
      let plan : rename.plan names taken ≡ moving_then = ap (λ s told. if◌then◌else◌ {A = Step} s done (moving_then told)) different in
      subst (λ s. Renames (after_operations state.store seen) (rename.reply_to (if s then rename.moved else rename.came_of (answers_of seen)))) (sym different)
      (by_outcome (after_operations state.store seen) different (rename.came_of (answers_of seen))
      (walked state.store config.implicit_dirs (rename.from_of names taken.view) (rename.to_of names taken.view) (has_suffix name) (second_of config) different seen
      (subst (λ (p : Plan). Observes p state.store seen) plan observed) (subst (λ (p : Plan). Completes p seen) plan ends)))

  abbrev plan_by : Option ℕ → Plan
  plan_by refused = if◌then◌else◌ {A = Plan} (not (is_some refused)) (rename.plan names taken) (λ told. done)

  -- one that stops short
  abbrev Stopped : Store → Type 0
  Stopped store = IsCopiedAtMost (bucket_of state.store) (bucket_of store) (rename.from_of names taken.view) (rename.to_of names taken.view) (second_of config)

  stopped_so : (seen : List Observed) → Observes (plan_at config state request) state.store seen → AllByRecursion (λ (o : Observed). IsHarmless o.op) seen
      → plan_at config state request [] ≢ done → Stopped (after_operations state.store seen)
  stopped_so seen observed few asks = by (early state.mount request) refl
    where
      on : (same : Bool) → rename.is_same names taken.view ≡ same → Observes (rename.plan names taken) state.store seen → Stopped (after_operations state.store seen)
      on true same walk =
          let none : seen ≡ [] = observes_none (rename.plan names taken) (ap (λ s. asked_by (if s then done else moving_then [])) same) state.store seen walk in
          subst (λ (told : List Observed). Stopped (after_operations state.store told)) (sym none) (inl refl)
      on false different walk =
          let plan : rename.plan names taken ≡ moving_then = ap (λ s told. if◌then◌else◌ {A = Step} s done (moving_then told)) different in
          stopped state.store config.implicit_dirs (rename.from_of names taken.view) (rename.to_of names taken.view) (has_suffix name) (second_of config) different seen
          (subst (λ (p : Plan). Observes p state.store seen) plan walk) few

      by : (refused : Option ℕ) → early state.mount request ≡ refused → Stopped (after_operations state.store seen)
      by (Some errno) is = absurd (asks (ap (λ (p : Plan). p []) (ap plan_by is)))
      by None is = on (rename.is_same names taken.view) refl (subst (λ (p : Plan). Observes p state.store seen) (ap plan_by is) observed)

  stop_of : (call : Call) → call.request ≡ request → IsLawful config state call → call.ending ≡ short → Stopped (after_operations state.store call.seen)
  stop_of call is lawful short_one =
      let ends : StopsShort config state call.request call.seen = subst (Ends config state call.request call.seen) short_one lawful.ends in
      stopped_so call.seen (subst (λ r. Observes (plan_at config state r) state.store call.seen) is lawful.observed) ends.harmless
      (subst (λ r. plan_at config state r [] ≢ done) is ends.asks)

  rename_of : (call : Call) → call.request ≡ request → IsLawful config state call → call.ending ≢ short → Renames (after_operations state.store call.seen) (reply_in config state call)
  rename_of = of_call config state request refl Renames unasked (unrefused_so (rename.is_same names taken.view) refl)

pub renames_move : RenamesMove
renames_move config state call node newdir name newname is lawful other =
    let renames = rename_of config state node newdir name newname call is lawful other in record { moved = renames.moved; kept = renames.kept }

pub renames_stop : RenamesStop
renames_stop config state call node newdir name newname is lawful short_one = stop_of config state node newdir name newname call is lawful short_one
