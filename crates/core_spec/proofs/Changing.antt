-- An operation changes no name but the one that it writes: so an operation that claims cover changes none that they don't own.
use Rattle.std.proofs.Common.{◌≡◌, ◌≢◌, Bool, false, cond, List, [], ◌∷◌, Option, Some, None, refl, sym, ap, subst, ◌∙◌, inl, inr}
use Rattle.std.specs.Prelude.{ℕ, ◌⊎◌}
use Rattle.std.specs.Option.{option_map_or}
use Rattle.std.specs.declared.cmp.Ordering.{Ordering}
use Rattle.std.specs.declared.cmp.Ordering.TheVariants.{Less, Equal, Greater}
use Rattle.std.specs.Ordering.{is_eq, match_ordering}
use Rattle.std.specs.Map.{lookup, remove_entry, set_value}
use Rattle.std.specs.BTreeMap.{insert_entry, is_at}
use Rattle.bucket_api.proofs.RoomLaws.{chosen}
use Rattle.bucket_api.proofs.TextOrder.{text_same}
use Rattle.bucket_api.specs.BucketState.{BucketState, generation_at, object_at, object_of}
use Rattle.bucket_api.specs.BucketStep.{is_met, may_update, new_object, state_after, updated_object, with_new, with_object, without_object}
use Rattle.bucket_api.specs.Log.{state_by}
use Rattle.bucket_api.specs.Metadata.{text_cmp}
use Rattle.bucket_api.specs.Operation.{Operation, copy, delete, insert, list, read, stat, update}
use Rattle.bucket_api.specs.declared.events.Mode.{Mode}
use Rattle.bucket_api.specs.declared.events.Mode.TheVariants as modes
use Rattle.bucket_api.specs.declared.objects.Object.{Object}
use Rattle.claim_spec.specs.Conflicts.{IsOwned}
use Rattle.claim_spec.specs.declared.claim.Claim.{Claim}
use Rattle.claim_spec.specs.declared.claim.ClaimKey.TheVariants as key
use Rattle.mount_rules.specs.Laws.{IsCovered}

-- ---- names
same_or_other : (at name : List ℕ) → (at ≡ name) ⊎ (is_eq (text_cmp name at) ≡ false)
same_or_other at name = by (text_cmp name at) refl
  where
    by : (r : Ordering) → text_cmp name at ≡ r → (at ≡ name) ⊎ (is_eq (text_cmp name at) ≡ false)
    by Less is = inr (ap is_eq is)
    by Equal is = inl (sym (text_same name at is))
    by Greater is = inr (ap is_eq is)

-- ---- what stands under another name
abbrev live_in : List (List ℕ × Object) → List ℕ → Option Object
live_in es name = lookup (is_at (text_cmp name)) es

module _ (name at : List ℕ) (other : is_eq (text_cmp name at) ≡ false) where
  -- an entry of the written name is not the other's
  not_here : (k : List ℕ) → text_cmp at k ≡ Equal → is_eq (text_cmp name k) ≡ false
  not_here k is = ap (λ q. is_eq (text_cmp name q)) (sym (text_same at k is)) ∙ other

  stays_new : (o : Object) (es : List (List ℕ × Object)) → live_in (insert_entry text_cmp es at o) name ≡ live_in es name
  stays_new o [] = ap (λ here. cond here (Some o) None) other
  stays_new o (e ∷ es) = by (stays_new o es) (text_cmp at e.0) refl
    where
      by : live_in (insert_entry text_cmp es at o) name ≡ live_in es name → (r : Ordering) → text_cmp at e.0 ≡ r
          → live_in (match_ordering r ((at, o) ∷ e ∷ es) ((e.0, o) ∷ es) (e ∷ insert_entry text_cmp es at o)) name ≡ live_in (e ∷ es) name
      by later Less is = ap (λ here. cond here (Some o) (live_in (e ∷ es) name)) other
      by later Equal is = ap (λ here. cond here (Some o) (live_in es name)) (not_here e.0 is) ∙ sym (ap (λ here. cond here (Some e.1) (live_in es name)) (not_here e.0 is))
      by later Greater is = ap (cond (is_eq (text_cmp name e.0)) (Some e.1)) later

  stays_set : (o : Object) (es : List (List ℕ × Object)) → live_in (set_value (is_at (text_cmp at)) es o) name ≡ live_in es name
  stays_set o [] = refl
  stays_set o (e ∷ es) = by (stays_set o es) (text_cmp at e.0) refl
    where
      by : live_in (set_value (is_at (text_cmp at)) es o) name ≡ live_in es name → (r : Ordering) → text_cmp at e.0 ≡ r
          → live_in (cond (is_eq r) ((e.0, o) ∷ es) (e ∷ set_value (is_at (text_cmp at)) es o)) name ≡ live_in (e ∷ es) name
      by later Less is = ap (cond (is_eq (text_cmp name e.0)) (Some e.1)) later
      by later Equal is = ap (λ here. cond here (Some o) (live_in es name)) (not_here e.0 is) ∙ sym (ap (λ here. cond here (Some e.1) (live_in es name)) (not_here e.0 is))
      by later Greater is = ap (cond (is_eq (text_cmp name e.0)) (Some e.1)) later

  stays_removed : (es : List (List ℕ × Object)) → live_in (remove_entry (is_at (text_cmp at)) es) name ≡ live_in es name
  stays_removed [] = refl
  stays_removed (e ∷ es) = by (stays_removed es) (text_cmp at e.0) refl
    where
      by : live_in (remove_entry (is_at (text_cmp at)) es) name ≡ live_in es name → (r : Ordering) → text_cmp at e.0 ≡ r
          → live_in (cond (is_eq r) es (e ∷ remove_entry (is_at (text_cmp at)) es)) name ≡ live_in (e ∷ es) name
      by later Less is = ap (cond (is_eq (text_cmp name e.0)) (Some e.1)) later
      by later Equal is = sym (ap (λ here. cond here (Some e.1) (live_in es name)) (not_here e.0 is))
      by later Greater is = ap (cond (is_eq (text_cmp name e.0)) (Some e.1)) later

  abbrev Stays : BucketState → BucketState → Type 0
  Stays b after = object_at after name ≡ object_at b name

  insert_stays : (b : BucketState) (content : List ℕ) (o : Object) (met : Bool) → Stays b (cond met (with_new b at o) b)
  insert_stays b content o met = chosen (Stays b) met (with_new b at o) b (stays_new o b.entries) refl

  update_stays : (b : BucketState) (met : Object → Bool) (made : Object → Object) (found : Option Object)
      → Stays b (option_map_or (λ (o : Object). cond (met o) (with_object b at (made o)) b) found b)
  update_stays b met made None = refl
  update_stays b met made (Some o) = chosen (Stays b) (met o) (with_object b at (made o)) b (stays_set (made o) b.entries) refl

  delete_stays : (b : BucketState) (met : Object → Bool) (found : Option Object) → Stays b (option_map_or (λ (o : Object). cond (met o) (without_object b at) b) found b)
  delete_stays b met None = refl
  delete_stays b met (Some o) = chosen (Stays b) (met o) (without_object b at) b (stays_removed b.entries) refl

  copy_stays : (b : BucketState) (made : Object → Object) (found : Option Object) → Stays b (option_map_or (λ (o : Object). with_new b at (made o)) found b)
  copy_stays b made None = refl
  copy_stays b made (Some o) = stays_new (made o) b.entries

-- ---- what is changed is owned
module _ (claimed : List Claim) (b : BucketState) (name : List ℕ) where
  -- where the written name is owned, and all others stay
  owned_by : (at : List ℕ) (after : BucketState) → IsOwned claimed (key.Name at) → (is_eq (text_cmp name at) ≡ false → object_at after name ≡ object_at b name)
      → object_at after name ≢ object_at b name → IsOwned claimed (key.Name name)
  owned_by at after owns stays changed = by (same_or_other at name)
    where
      by : (at ≡ name) ⊎ (is_eq (text_cmp name at) ≡ false) → IsOwned claimed (key.Name name)
      by (inl same) = subst (λ n. IsOwned claimed (key.Name n)) same owns
      by (inr other) = absurd (changed (stays other))

  step_owned : (op : Operation) → IsCovered claimed op → object_at (state_after op b) name ≢ object_at b name → IsOwned claimed (key.Name name)
  step_owned (stat at) covered changed = absurd (changed refl)
  step_owned (read at generation first count) covered changed = absurd (changed refl)
  step_owned (insert at content pairs only stamp) covered changed =
      owned_by at (state_after (insert at content pairs only stamp) b) covered
      (λ other. insert_stays name at other b content (new_object b at content pairs stamp) (is_met only (generation_at b at))) changed
  step_owned (update at pairs only only_meta stamp) covered changed =
      owned_by at (state_after (update at pairs only only_meta stamp) b) covered
      (λ other. update_stays name at other b (may_update only only_meta) (updated_object pairs stamp) (object_at b at)) changed
  step_owned (delete at only) covered changed =
      owned_by at (state_after (delete at only) b) covered (λ other. delete_stays name at other b (λ o. is_met only o.meta.generation) (object_at b at)) changed
  step_owned (copy from generation to stamp) covered changed =
      owned_by to (state_after (copy from generation to stamp) b) covered.1
      (λ other. copy_stays name to other b (λ o. new_object b to o.content o.meta.pairs stamp) (object_of b from generation)) changed
  step_owned (list prefix slash max after) covered changed = absurd (changed refl)

  -- in any mode
  pub event_owned : (mode : Mode) (op : Operation) → IsCovered claimed op → object_at (state_by mode op b) name ≢ object_at b name → IsOwned claimed (key.Name name)
  event_owned modes.Done op covered changed = step_owned op covered changed
  event_owned modes.Failed op covered changed = absurd (changed refl)
  event_owned modes.Lost op covered changed = step_owned op covered changed
