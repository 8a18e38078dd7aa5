-- What the bucket of the one-thread mount tells: each generation that an answer shows has content, of the size that is told.
use Rattle.std.proofs.Common.{◌≡◌, ℕ, Bool, true, false, cond, List, [], ◌∷◌, ◌++◌, All, Option, Some, None, refl, sym, ap, subst, ◌∙◌, length, arith, append_assoc, append-nil}
use Rattle.std.proofs.lemmas.Bool.Decides.{Decides-eqb}
use Rattle.std.proofs.lemmas.Map.Text.{is_eq-slice_cmp}
use Rattle.std.proofs.lemmas.Slice.Eq.{bytes_eq-Decides}
use Rattle.std.specs.BTreeMap.{insert_entry, is_at}
use Rattle.std.specs.Map.{lookup}
use Rattle.std.specs.Option.{option_map_or, option_and_then}
use Rattle.std.specs.Ordering.{is_eq, match_ordering}
use Rattle.std.specs.Prelude.{IfSome, if◌then◌else◌, ◌==◌}
use Rattle.std.specs.declared.cmp.Ordering.{Ordering}
use Rattle.std.specs.declared.cmp.Ordering.TheVariants.{Less, Equal, Greater}
use Rattle.bucket_api.proofs.BucketLaws.{stored_at}
use Rattle.bucket_api.proofs.ContentLaws.{content_of-live}
use Rattle.bucket_api.proofs.LogLaws.{IsBucket-state_at, state_at-grown, state_at-pushed}
use Rattle.bucket_api.specs.BucketState.{BucketState, IsBucket, IsStored, generation_at, object_at, object_of}
use Rattle.bucket_api.specs.BucketStep.{answer_to, is_met, new_object, refused, state_after, with_new}
use Rattle.bucket_api.specs.Log.{content_of, state_at}
use Rattle.bucket_api.specs.LogEvent.{LogEvent}
use Rattle.bucket_api.specs.Metadata.{text_cmp}
use Rattle.bucket_api.specs.Operation.{IsAllowed, Operation, insert, stat}
use Rattle.bucket_api.specs.declared.answers.Answer.TheVariants.{Meta, NotFound}
use Rattle.bucket_api.specs.declared.events.Mode.TheVariants as modes
use Rattle.bucket_api.specs.declared.objects.Object.{Object}
use Rattle.bucket_api.specs.declared.objects.Pair.{Pair}
use Rattle.mount_model.specs.Observing.{Observed}
use Rattle.mount_rules.specs.OneThread.{Observes, Store, after_operation, after_operations, bucket_of}
use Rattle.mount_rules.specs.Plans.{Plan, asked_by, plan_after}
use Rattle.mount_laws.proofs.Telling.{Tells, TellsAlong}

-- the generation of the name was live at some time, with content of this size
abbrev pub HasContent : BucketState → List LogEvent → List ℕ → ℕ → ℕ → Type 0
HasContent start log name generation size = (content : List ℕ) × (content_of start log name generation ≡ Some content) × (length content ≡ size)

-- ---- a store that grows
-- the event of an operation that the mount makes
abbrev made : Operation → LogEvent
made op = record { lane = 1; op = op; mode = modes.Done }

pub record Grown (store after : Store) : Type 0 where
  pub start : after.start ≡ store.start
  pub more : List LogEvent
  pub log : after.log ≡ store.log ++ more

pub Grown-operations : (store : Store) (seen : List Observed) → Grown store (after_operations store seen)
Grown-operations store [] = record { start = refl; more = []; log = sym (append-nil store.log) }
Grown-operations store (o ∷ seen) =
    let rest = Grown-operations (after_operation store o.op) seen in
    record { start = rest.start; more = made o.op ∷ rest.more; log = rest.log ∙ append_assoc store.log (made o.op ∷ []) rest.more }

pub Grown-then : (first second third : Store) → Grown first second → Grown second third → Grown first third
Grown-then first second third one two = record {
  start = two.start ∙ one.start;
  more = one.more ++ two.more;
  log = two.log ∙ ap (λ log. log ++ two.more) one.log ∙ append_assoc first.log one.more two.more;
}

-- nothing is observed where nothing is asked
pub observes_none : (plan : Plan) → asked_by (plan []) ≡ None → (store : Store) (seen : List Observed) → Observes plan store seen → seen ≡ []
observes_none plan none store [] observed = refl
observes_none plan none store (o ∷ more) observed = absurd (let never : None ≡ Some o.op = sym none ∙ observed.0.asked in cc)

-- ---- what is found in a bucket
pub same_generation : (generation : ℕ) → (generation == generation) ≡ true
same_generation generation = (Decides-eqb generation generation).1 refl

-- the live object of a name has its own generation
pub object_of-found : (b : BucketState) (name : List ℕ) (o : Object) → object_at b name ≡ Some o → object_of b name o.meta.generation ≡ Some o
object_of-found b name o there =
    ap (option_and_then (λ (x : Object). if x.meta.generation == o.meta.generation then Some x else None)) there
    ∙ ap (λ same. if same then Some o else None) (same_generation o.meta.generation)

-- what was put under a name is found there
lookup-made : (name : List ℕ) (o : Object) (entries : List (List ℕ × Object)) → lookup (is_at (text_cmp name)) (insert_entry text_cmp entries name o) ≡ Some o
lookup-made name o entries = by entries
  where
    own : is_eq (text_cmp name name) ≡ true
    own = is_eq-slice_cmp name name ∙ (bytes_eq-Decides name name).1 refl

    by : (es : List (List ℕ × Object)) → lookup (is_at (text_cmp name)) (insert_entry text_cmp es name o) ≡ Some o
    by [] = ap (λ here. cond here (Some o) None) own
    by (e ∷ es) = on (by es) (text_cmp name e.0) refl
      where
        on : lookup (is_at (text_cmp name)) (insert_entry text_cmp es name o) ≡ Some o → (r : Ordering) → text_cmp name e.0 ≡ r
            → lookup (is_at (text_cmp name)) (match_ordering r ((name, o) ∷ e ∷ es) ((e.0, o) ∷ es) (e ∷ insert_entry text_cmp es name o)) ≡ Some o
        on later Less is = ap (λ here. cond here (Some o) (lookup (is_at (text_cmp name)) (e ∷ es))) own
        on later Equal is = ap (λ r. cond (is_eq r) (Some o) (lookup (is_at (text_cmp name)) es)) is
        on later Greater is = ap (λ r. cond (is_eq r) (Some e.1) (lookup (is_at (text_cmp name)) (insert_entry text_cmp es name o))) is ∙ later

-- ---- what is told, where the log is this one in the end
module _ (start : BucketState) (log : List LogEvent) (is : IsBucket start) (allowed : All (λ e. IsAllowed e.op) log) where
  -- an object that is live at a moment
  pub has_content-live : (moment : ℕ) (name : List ℕ) (o : Object) → object_at (state_at start log moment) name ≡ Some o
      → HasContent start log name o.meta.generation o.meta.size
  has_content-live moment name o there =
      let b : BucketState = state_at start log moment in
      let stored : IsStored b.last name o = subst (λ found. IfSome found (IsStored b.last name)) there (stored_at b (IsBucket-state_at start log moment is allowed) name) in
      (o.content, content_of-live start log moment name o.meta.generation o is allowed (object_of-found b name o there), sym stored.sized)

  module _ (store : Store) (op : Operation) (more : List LogEvent) (from : store.start ≡ start)
      (grown : (store.log ++ made op ∷ []) ++ more ≡ log) where
    before : state_at start log (length store.log) ≡ bucket_of store
    before =
        ap (λ (l : List LogEvent). state_at start l (length store.log)) (sym grown ∙ append_assoc store.log (made op ∷ []) more)
        ∙ state_at-grown start store.log (made op ∷ more) (length store.log) (omega arith)
        ∙ ap (λ (b : BucketState). state_at b store.log (length store.log)) (sym from)

    after : state_at start log (length (store.log ++ made op ∷ [])) ≡ state_after op (bucket_of store)
    after =
        ap (λ (l : List LogEvent). state_at start l (length (store.log ++ made op ∷ []))) (sym grown)
        ∙ state_at-grown start (store.log ++ made op ∷ []) more (length (store.log ++ made op ∷ [])) (omega arith)
        ∙ state_at-pushed start store.log (made op)
        ∙ ap (λ (b : BucketState). state_after op (state_at b store.log (length store.log))) (sym from)

  -- the answer to an operation that was made between two moments
  told_stat : (b : BucketState) (moment : ℕ) (name : List ℕ) → state_at start log moment ≡ b → Tells (HasContent start log) (Some (stat name)) (answer_to (stat name) b)
  told_stat b moment name at = by (object_at b name) refl
    where
      by : (found : Option Object) → object_at b name ≡ found → Tells (HasContent start log) (Some (stat name)) (option_map_or (λ (o : Object). Meta o.meta) found NotFound)
      by None there = tt
      by (Some o) there = has_content-live moment name o (ap (λ x. object_at x name) at ∙ there)

  told_insert : (b : BucketState) (moment : ℕ) (name content : List ℕ) (pairs : List Pair) (only : Option ℕ) (stamp : ℕ)
      → state_at start log moment ≡ state_after (insert name content pairs only stamp) b
      → Tells (HasContent start log) (Some (insert name content pairs only stamp)) (answer_to (insert name content pairs only stamp) b)
  told_insert b moment name content pairs only stamp at = by (is_met only (generation_at b name)) refl
    where
      by : (met : Bool) → is_met only (generation_at b name) ≡ met
          → Tells (HasContent start log) (Some (insert name content pairs only stamp)) (if met then Meta (new_object b name content pairs stamp).meta else refused b name)
      by true is_so = has_content-live moment name (new_object b name content pairs stamp)
          (ap (λ x. object_at x name) (at ∙ ap (λ met. if met then with_new b name (new_object b name content pairs stamp) else b) is_so)
          ∙ lookup-made name (new_object b name content pairs stamp) b.entries)
      by false is_so = tt

  pub told : (op : Operation) (b : BucketState) (first then_ : ℕ) → state_at start log first ≡ b → state_at start log then_ ≡ state_after op b
      → Tells (HasContent start log) (Some op) (answer_to op b)
  told (stat name) b first then_ before_ after_ = told_stat b first name before_
  told (insert name content pairs only stamp) b first then_ before_ after_ = told_insert b then_ name content pairs only stamp after_
  told _ b first then_ before_ after_ = tt

  -- and all that a walk observes
  pub tells_along : (plan : Plan) (store : Store) (seen : List Observed) → store.start ≡ start → (after_operations store seen).log ≡ log → Observes plan store seen
      → TellsAlong (HasContent start log) plan seen
  tells_along plan store [] from grown walk = tt
  tells_along plan store (o ∷ seen) from grown walk = (
    subst (λ asked. Tells (HasContent start log) asked o.answer) (sym walk.0.asked)
        (subst (Tells (HasContent start log) (Some o.op)) (sym walk.0.answer)
        (told o.op (bucket_of store) _ _ (before store o.op rest.more from whole) (after store o.op rest.more from whole))),
    tells_along (plan_after plan o.answer) (after_operation store o.op) seen from grown walk.1,
  )
    where
      rest : Grown (after_operation store o.op) (after_operations (after_operation store o.op) seen)
      rest = Grown-operations (after_operation store o.op) seen

      whole : (store.log ++ made o.op ∷ []) ++ rest.more ≡ log
      whole = sym rest.log ∙ grown
