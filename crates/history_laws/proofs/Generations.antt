-- Generations under a name never fall along a log: a new one is greater than all that were given.
use Rattle.std.proofs.Common.{Option, None, Some, ◌≡◌, cond, ℕ, zero, suc, ◌+◌, ◌≤◌, List, [], ◌∷◌, All, refl, sym, subst, arith}
use Rattle.std.specs.Prelude.{IfSome, if◌then◌else◌}
use Rattle.std.specs.Option.{IsSome, option_map_or}
use Rattle.std.specs.declared.cmp.Ordering.{Ordering}
use Rattle.std.specs.declared.cmp.Ordering.TheVariants.{Less, Equal, Greater}
use Rattle.std.specs.Ordering.{is_eq}
use Rattle.std.specs.BTreeMap.{is_at}
use Rattle.std.proofs.lemmas.Map.{lookup-set_value, lookup-remove_entry}
use Rattle.std.proofs.lemmas.Map.Keys.{IsDistinct-from_sorted}
use Rattle.std.proofs.lemmas.List.Elements.{All-head, All-tail}
use Rattle.bucket_api.specs.declared.objects.Object.{Object}
use Rattle.bucket_api.specs.declared.objects.Pair.{Pair}
use Rattle.bucket_api.specs.declared.events.Mode.{Mode}
use Rattle.bucket_api.specs.declared.events.Mode.TheVariants.{Done, Failed, Lost}
use Rattle.bucket_api.specs.LogEvent.{LogEvent}
use Rattle.bucket_api.specs.Metadata.{text_cmp}
use Rattle.bucket_api.specs.Operation.{Operation, stat, read, insert, update, delete, copy, list, IsAllowed}
use Rattle.bucket_api.specs.BucketState.{BucketState, object_at, object_of, generation_at, IsStored, IsBucket}
use Rattle.bucket_api.specs.BucketStep.{is_met, may_update, new_object, updated_object, with_new, with_object, without_object, state_after}
use Rattle.bucket_api.specs.Log.{state_by, state_at}
use Rattle.bucket_api.proofs.BucketLaws.{stored_at}
use Rattle.bucket_api.proofs.TextOrder.{text_same}
use Rattle.bucket_api.proofs.RoomLaws.{chosen, same_names, lookup_inserted}
use Rattle.bucket_api.proofs.LogLaws.{IsBucket-state_at, IsBucket-state_by}

abbrev effect : BucketState → LogEvent → BucketState
effect b e = state_by e.mode e.op b

-- what is found is no older
abbrev NoOlder : ℕ → Option Object → Type 0
NoOlder generation found = IfSome found (λ o. generation ≤ o.meta.generation)

-- the generation was given, and whatever is live under the name is no older
record Newest (name : List ℕ) (generation : ℕ) (b : BucketState) : Type 0 where
  given : generation ≤ b.last
  found : NoOlder generation (object_at b name)

module _ (name : List ℕ) (generation : ℕ) where
  abbrev Holds : BucketState → Type 0
  Holds b = Newest name generation b

  newest_with_new : (b : BucketState) (to : List ℕ) (o : Object) → o.meta.generation ≡ b.last + 1 → Holds b → Holds (with_new b to o)
  newest_with_new b to o next has = let given : generation ≤ b.last = has.given in record {
    given = omega arith;
    found = lookup_inserted (NoOlder generation) name to o b.entries (omega arith) has.found;
  }

  newest_with_object : (b : BucketState) (at : List ℕ) (o : Object) (pairs : List Pair) (stamp : ℕ) → object_at b at ≡ Some o → Holds b → Holds (with_object b at (updated_object pairs stamp o))
  newest_with_object b at o pairs stamp live has = record {
    given = has.given;
    found = subst (NoOlder generation)
        (sym (lookup-set_value same_names (is_at (text_cmp at)) (same_names.congr at) name (updated_object pairs stamp o) b.entries (subst IsSome (sym live) refl)))
        (by (text_cmp at name) refl);
  }
    where
      by : (r : Ordering) → text_cmp at name ≡ r → NoOlder generation (cond (is_eq r) (Some (updated_object pairs stamp o)) (object_at b name))
      by Less e = has.found
      by Equal e =
          let found : object_at b name ≡ Some o = subst (λ q. object_at b q ≡ Some o) (text_same at name e) live in
          subst (NoOlder generation) found has.found
      by Greater e = has.found

  newest_without : (b : BucketState) (at : List ℕ) → IsBucket b → Holds b → Holds (without_object b at)
  newest_without b at is has = record {
    given = has.given;
    found = subst (NoOlder generation)
        (sym (lookup-remove_entry same_names (is_at (text_cmp at)) (same_names.congr at) name b.entries (IsDistinct-from_sorted text_cmp _ is.ordered)))
        (chosen (NoOlder generation) (is_at (text_cmp at) name) None _ tt has.found);
  }

  newest_after : (op : Operation) (b : BucketState) → IsBucket b → Holds b → Holds (state_after op b)
  newest_after (stat at) b is has = has
  newest_after (read at of first count) b is has = has
  newest_after (insert at bytes pairs only stamp) b is has = chosen Holds (is_met only (generation_at b at)) _ b (newest_with_new b at _ refl has) has
  newest_after (update at pairs only only_meta stamp) b is has = by (object_at b at) refl
    where
      by : (found : Option Object) → object_at b at ≡ found → Holds (option_map_or (λ o. if may_update only only_meta o then with_object b at (updated_object pairs stamp o) else b) found b)
      by None live = has
      by (Some o) live = chosen Holds (may_update only only_meta o) _ b (newest_with_object b at o pairs stamp live has) has
  newest_after (delete at only) b is has = by (object_at b at)
    where
      by : (found : Option Object) → Holds (option_map_or (λ o. if is_met only o.meta.generation then without_object b at else b) found b)
      by None = has
      by (Some o) = chosen Holds (is_met only o.meta.generation) _ b (newest_without b at is has) has
  newest_after (copy from of to stamp) b is has = by (object_of b from of)
    where
      by : (found : Option Object) → Holds (option_map_or (λ o. with_new b to (new_object b to o.content o.meta.pairs stamp)) found b)
      by None = has
      by (Some o) = newest_with_new b to _ refl has
  newest_after (list prefix slash max after) b is has = has

  newest_by : (mode : Mode) (op : Operation) (b : BucketState) → IsBucket b → Holds b → Holds (state_by mode op b)
  newest_by Done op b is has = newest_after op b is has
  newest_by Failed op b is has = has
  newest_by Lost op b is has = newest_after op b is has

  newest_along : (b : BucketState) (log : List LogEvent) (k : ℕ) → IsBucket b → All (λ e. IsAllowed e.op) log → Holds b → Holds (state_at b log k)
  newest_along b log zero is asked has = has
  newest_along b [] (suc k) is asked has = has
  newest_along b (e ∷ log) (suc k) is asked has =
      let Asked : LogEvent → Type 0 = λ e. IsAllowed e.op in
      newest_along (effect b e) log k (IsBucket-state_by e.mode e.op b (All-head Asked e log asked) is) (All-tail Asked e log asked) (newest_by e.mode e.op b is has)

  -- from any moment on
  newest_later : (b : BucketState) (log : List LogEvent) (earlier later : ℕ) → IsBucket b → All (λ e. IsAllowed e.op) log → earlier ≤ later
      → Holds (state_at b log earlier) → Holds (state_at b log later)
  newest_later b log zero later is asked within has = newest_along b log later is asked has
  newest_later b log (suc earlier) zero is asked within has = absurd (omega arith)
  newest_later b [] (suc earlier) (suc later) is asked within has = has
  newest_later b (e ∷ log) (suc earlier) (suc later) is asked within has =
      let Asked : LogEvent → Type 0 = λ e. IsAllowed e.op in
      newest_later (effect b e) log earlier later (IsBucket-state_by e.mode e.op b (All-head Asked e log asked) is) (All-tail Asked e log asked) (omega arith) has

-- What is live under a name at a moment is no older than what was live under it before.
pub no_older : (start : BucketState) (log : List LogEvent) (name : List ℕ) (earlier later : ℕ) (other o : Object) → IsBucket start → All (λ e. IsAllowed e.op) log → earlier ≤ later
    → object_at (state_at start log earlier) name ≡ Some other → object_at (state_at start log later) name ≡ Some o → other.meta.generation ≤ o.meta.generation
no_older start log name earlier later other o bucket asked within was there =
    let before : BucketState = state_at start log earlier in
    let stored : IsStored before.last name other = subst (λ found. IfSome found (IsStored before.last name)) was (stored_at before (IsBucket-state_at start log earlier bucket asked) name) in
    let first : Newest name other.meta.generation before = record { given = stored.given; found = subst (NoOlder other.meta.generation) (sym was) (omega arith) } in
    subst (NoOlder other.meta.generation) there (newest_later name other.meta.generation start log earlier later bucket asked within first).found
