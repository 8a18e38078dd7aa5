-- A bucket tells of pairs in order, whatever it is asked.
use Rattle.std.proofs.Common.{◌≡◌, ◌++◌, ℕ, All, Bool, true, false, List, [], ◌∷◌, Option, Some, None, length, take, drop, refl, sym, ap, subst, ◌∙◌}
use Rattle.std.proofs.Math.Seq.{drop-append_seam, take-append_seam}
use Rattle.std.proofs.lemmas.List.Elements.{All-drop, All-head, All-take}
use Rattle.std.specs.Option.{option_map_or, option_and_then}
use Rattle.std.specs.Prelude.{IfSome, if◌then◌else◌, ◌==◌}
use Rattle.bucket_api.proofs.BucketLaws.{KeysRise-with_pairs, stored_at}
use Rattle.bucket_api.proofs.LogLaws.{IsBucket-state_at}
use Rattle.bucket_api.specs.BucketState.{BucketState, IsBucket, IsStored, object_at, object_of, generation_at}
use Rattle.bucket_api.specs.BucketStep.{answer_to, is_met, may_update, new_object, refused, updated_object}
use Rattle.bucket_api.specs.LogEvent.{LogEvent}
use Rattle.bucket_api.specs.Metadata.{KeysRise}
use Rattle.bucket_api.specs.Operation.{IsAllowed, Operation, copy, delete, insert, list, read, stat, update}
use Rattle.bucket_api.specs.declared.answers.Answer.{Answer}
use Rattle.bucket_api.specs.declared.answers.Answer.TheVariants as answers
use Rattle.bucket_api.specs.declared.events.Mode.TheVariants as modes
use Rattle.bucket_api.specs.declared.objects.Object.{Object}
use Rattle.mount_core.proofs.PairsInOrder.{TellInOrder, TellsInOrder}
use Rattle.mount_laws.proofs.Keeping.{no_Some, same_Some}
use Rattle.mount_laws.proofs.Stores.{Grown-operations}
use Rattle.mount_model.specs.Observing.{Observed}
use Rattle.mount_rules.specs.OneThread.{Observes, Store, after_operation, after_operations, bucket_of}
use Rattle.mount_rules.specs.Plans.{Plan, plan_after}

-- an object that is live has pairs in order
live_rises : (b : BucketState) → IsBucket b → (name : List ℕ) (o : Object) → object_at b name ≡ Some o → KeysRise o.meta.pairs
live_rises b is name o there = (by (object_at b name) there (stored_at b is name)).pairs
  where
    by : (found : Option Object) → found ≡ Some o → IfSome found (IsStored b.last name) → IsStored b.last name o
    by found e stored = subst (λ (f : Option Object). IfSome f (IsStored b.last name)) e stored

of_rises : (b : BucketState) → IsBucket b → (name : List ℕ) (generation : ℕ) (o : Object) → object_of b name generation ≡ Some o → KeysRise o.meta.pairs
of_rises b is name generation o there = by (object_at b name) refl there
  where
    same : (x : Object) (b_ : Bool) → (if b_ then Some x else None) ≡ Some o → x ≡ o
    same x true e = same_Some e
    same x false e = absurd (no_Some e)

    by : (found : Option Object) → object_at b name ≡ found → option_and_then (λ (x : Object). if x.meta.generation == generation then Some x else None) found ≡ Some o → KeysRise o.meta.pairs
    by None e is_ = absurd (no_Some is_)
    by (Some x) e is_ = live_rises b is name o (e ∙ ap Some (same x (x.meta.generation == generation) is_))

-- an answer by what is live
module _ (found : Object → Answer) (other : Answer) (none : TellsInOrder other) where
  by_live : (live : Option Object) → ((o : Object) → live ≡ Some o → TellsInOrder (found o)) → TellsInOrder (option_map_or found live other)
  by_live None each = none
  by_live (Some o) each = each o refl

by_test : (met : Bool) (yes_ no_ : Answer) → TellsInOrder yes_ → TellsInOrder no_ → TellsInOrder (if met then yes_ else no_)
by_test true yes_ no_ y n = y
by_test false yes_ no_ y n = n

pub in_order : (op : Operation) (b : BucketState) → IsAllowed op → IsBucket b → TellsInOrder (answer_to op b)
in_order (stat name) b may is = by_live (λ o. answers.Meta o.meta) answers.NotFound tt (object_at b name) (λ o there. live_rises b is name o there)
in_order (read name generation first count) b may is =
    by_live (λ o. answers.Bytes (take count (drop first o.content))) answers.NotFound tt (object_of b name generation) (λ o there. tt)
in_order (insert name content pairs only stamp) b may is =
    by_test (is_met only (generation_at b name)) (answers.Meta (new_object b name content pairs stamp).meta) (refused b name) may.2 tt
in_order (update name pairs only only_meta stamp) b may is =
    by_live (λ o. if may_update only only_meta o then answers.Meta (updated_object pairs stamp o).meta else refused b name) answers.NotFound tt (object_at b name)
    (λ o there. by_test (may_update only only_meta o) (answers.Meta (updated_object pairs stamp o).meta) (refused b name)
    (KeysRise-with_pairs o.meta.pairs pairs (live_rises b is name o there)) tt)
in_order (delete name only) b may is =
    by_live (λ o. if is_met only o.meta.generation then answers.Done else refused b name) answers.NotFound tt (object_at b name)
    (λ o there. by_test (is_met only o.meta.generation) answers.Done (refused b name) tt tt)
in_order (copy from generation to stamp) b may is =
    by_live (λ o. answers.Meta (new_object b to o.content o.meta.pairs stamp).meta) answers.NotFound tt (object_of b from generation)
    (λ o there. of_rises b is from generation o there)
in_order (list prefix slash max after) b may is = tt

-- ---- along a walk
abbrev AreAllowed : List LogEvent → Type 0
AreAllowed log = All (λ e. IsAllowed e.op) log

front : (log more : List LogEvent) → AreAllowed (log ++ more) → AreAllowed log
front log more all = subst AreAllowed (take-append_seam log more) (All-take (λ e. IsAllowed e.op) (length log) (log ++ more) all)

back : (log more : List LogEvent) → AreAllowed (log ++ more) → AreAllowed more
back log more all = subst AreAllowed (drop-append_seam log more) (All-drop (λ e. IsAllowed e.op) (length log) (log ++ more) all)

pub tell_in_order : (plan : Plan) (store : Store) (seen : List Observed) → IsBucket store.start → All (λ e. IsAllowed e.op) (after_operations store seen).log
    → Observes plan store seen → TellInOrder seen
tell_in_order plan store [] is allowed walk = tt
tell_in_order plan store (o ∷ seen) is allowed walk = (
  subst TellsInOrder (sym walk.0.answer) (in_order o.op (bucket_of store) may (IsBucket-state_at store.start store.log (length store.log) is (front store.log (event ∷ []) one))),
  tell_in_order (plan_after plan o.answer) (after_operation store o.op) seen is allowed walk.1,
)
  where
    event : LogEvent
    event = record { lane = 1; op = o.op; mode = modes.Done }

    one : AreAllowed (store.log ++ event ∷ [])
    one =
        let grown = Grown-operations (after_operation store o.op) seen in
        front (store.log ++ event ∷ []) grown.more (subst AreAllowed grown.log allowed)

    may : IsAllowed o.op
    may = All-head (λ e. IsAllowed e.op) event [] (back store.log (event ∷ []) one)
