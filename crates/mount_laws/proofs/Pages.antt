-- A listing's pages but the last are full, so it comes to its end.
use Rattle.std.proofs.Common.{◌≡◌, ◌≤◌, ◌<◌, ◌+◌, ◌*◌, ◌/◌, ℕ, zero, suc, Bool, true, false, cond, List, [], ◌∷◌, ◌++◌, length, take, drop, Option, Some, None, refl, sym, ap, subst, ◌∙◌, arith, append_assoc, length-drop}
use Rattle.std.proofs.Math.Nat.{le-div_iff_mul-le, suc-mul}
use Rattle.std.proofs.lemmas.List.{take-append-drop}
use Rattle.std.proofs.lemmas.List.Kept.{IsStrictlySortedBy-filter}
use Rattle.std.proofs.lemmas.Map.Keys.{sorted_head, sorted_tail}
use Rattle.std.specs.Prelude.{filter, map, nat_lt, if◌then◌else◌}
use Rattle.std.specs.Cmp.{tied_itself}
use Rattle.std.specs.Cmp.Lexicographic.{nat_list_cmp_total}
use Rattle.std.specs.List.{last_or}
use Rattle.std.specs.List.Sorted.{IsStrictlySortedBy}
use Rattle.std.specs.Map.{keys_of}
use Rattle.std.specs.Option.{option_map_or}
use Rattle.std.specs.Ordering.{is_lt}
use Rattle.std.specs.declared.cmp.Ordering.{Ordering}
use Rattle.std.specs.declared.cmp.Ordering.TheVariants.{Less, Equal, Greater}
use Rattle.bucket_api.proofs.LogLaws.{state_at-pushed}
use Rattle.bucket_api.proofs.TextOrder.{text_above}
use Rattle.bucket_api.specs.BucketState.{BucketState}
use Rattle.bucket_api.specs.BucketStep.{answer_to}
use Rattle.bucket_api.specs.Listing.{is_after, key_of, keys_after, keys_shown, page_of}
use Rattle.bucket_api.specs.Metadata.{text_cmp}
use Rattle.bucket_api.specs.Operation.{list}
use Rattle.bucket_api.specs.declared.answers.Answer.{Answer}
use Rattle.bucket_api.specs.declared.answers.Answer.TheVariants as answers
use Rattle.bucket_api.specs.declared.events.Mode.TheVariants as modes
use Rattle.bucket_api.specs.declared.objects.Object.{Object}
use Rattle.bucket_list.proofs.Keys.{Below, beginning, sorted_in_order}
use Rattle.bucket_list.proofs.Walks.{filter-filter}
use Rattle.fuse_requests.specs.declared.request.Request.TheVariants.{Opendir}
use Rattle.mount_model.specs.Observing.{Observed}
use Rattle.mount_rules.specs.Dispatch.{goes_on, rules_of, taken_at, view_in}
use Rattle.mount_rules.specs.OneThread.{Observes, Store, after_operation, at_state, bucket_of}
use Rattle.mount_rules.specs.Plans.{done}
use Rattle.mount_rules.specs.Requests.Opendir as opendir
use Rattle.mount_laws.specs.Listings.{PagesAreFull, keys_in}
use Rattle.mount_laws.proofs.Stores.{observes_none}

-- a filter passes no more than there is
few : (p : List ℕ → Bool) (keys : List (List ℕ)) → length (filter p keys) ≤ length keys
few p [] = omega arith
few p (key ∷ keys) = by (p key) (few p keys)
  where
    by : (t : Bool) → length (filter p keys) ≤ length keys → length (cond t (key ∷ filter p keys) (filter p keys)) ≤ suc (length keys)
    by true le = omega (arith, le)
    by false le = omega (arith, le)

-- of keys in order, no more than those behind a key stand after it
behind : (front : List (List ℕ)) (key : List ℕ) (later : List (List ℕ)) → IsStrictlySortedBy text_cmp (front ++ key ∷ later)
    → length (filter (is_after (Some key)) (front ++ key ∷ later)) ≤ length later
behind [] key later sorted =
    subst (λ o. length (cond (is_lt o) (key ∷ filter (is_after (Some key)) later) (filter (is_after (Some key)) later)) ≤ length later)
    (sym (tied_itself nat_list_cmp_total key)) (few (is_after (Some key)) later)
behind (x ∷ front) key later sorted =
    let below : text_cmp x key ≡ Less = among front (sorted_head text_cmp x (front ++ key ∷ later) sorted) in
    let rest : List (List ℕ) = filter (is_after (Some key)) (front ++ key ∷ later) in
    subst (λ o. length (cond (is_lt o) (x ∷ rest) rest) ≤ length later) (sym (text_above x key below))
    (behind front key later (sorted_tail text_cmp x (front ++ key ∷ later) sorted))
  where
    among : (l : List (List ℕ)) → Below x (l ++ key ∷ later) → text_cmp x key ≡ Less
    among [] all = all.0
    among (y ∷ l) all = among l all.1

-- a list with a last element is put together of the others and it
cut_last : (keys : List (List ℕ)) (key : List ℕ) → last_or None keys ≡ Some key → (front : List (List ℕ)) × (keys ≡ front ++ key ∷ [])
cut_last [] key e = ([], cc)
cut_last (x ∷ []) key e = ([], cc)
cut_last (x ∷ y ∷ keys) key e = let cut = cut_last (y ∷ keys) key e in (x ∷ cut.0, ap (λ l. x ∷ l) cut.1)

-- a key that a filter lets through passes
passes : (p : List ℕ → Bool) (keys front : List (List ℕ)) (key : List ℕ) (later : List (List ℕ)) → filter p keys ≡ front ++ key ∷ later → p key ≡ true
passes p [] [] key later e = absurd (cc)
passes p [] (f ∷ front) key later e = absurd (cc)
passes p (x ∷ keys) front key later e = by (p x) refl front e (λ f rest. passes p keys f key later rest)
  where
    by : (t : Bool) → p x ≡ t → (f : List (List ℕ)) → cond t (x ∷ filter p keys) (filter p keys) ≡ f ++ key ∷ later
        → ((f : List (List ℕ)) → filter p keys ≡ f ++ key ∷ later → p key ≡ true) → p key ≡ true
    by true px [] e further = let same : x ≡ key = cc in ap p (sym same) ∙ px
    by true px (y ∷ f) e further = let rest : filter p keys ≡ f ++ key ∷ later = cc in further f rest
    by false px f e further = further f e

-- what stands after a key that stands after another stands after that one
after_both : (after : Option (List ℕ)) (key : List ℕ) → is_after after key ≡ true → (x : List ℕ) → is_after (Some key) x ≡ true → is_after after x ≡ true
after_both None key h x g = refl
after_both (Some a) key h x g = by (text_cmp a key) refl h (text_cmp key x) refl g
  where
    by : (o : Ordering) → text_cmp a key ≡ o → is_lt o ≡ true → (r : Ordering) → text_cmp key x ≡ r → is_lt r ≡ true → is_lt (text_cmp a x) ≡ true
    by Less e h Less f g = ap is_lt (nat_list_cmp_total.trans a key x e f)
    by Less e h Equal f g = cc
    by Less e h Greater f g = cc
    by Equal e h r f g = cc
    by Greater e h r f g = cc

-- a plan that asks nothing observes nothing
none_observed : (store : Store) (seen : List Observed) → Observes (λ answers. done) store seen → length seen ≤ 0
none_observed store seen observed = let none = ap length (observes_none (λ answers. done) refl store seen observed) in omega (arith, none)

module _ (entries : List (List ℕ × Object)) (prefix : List ℕ) (max : ℕ) where
  abbrev keys_left : Option (List ℕ) → List (List ℕ)
  keys_left after = keys_after entries prefix true after

  -- a full page leaves as many keys less as it shows
  left_by : (after : Option (List ℕ)) (key : List ℕ) → max ≤ length (keys_left after) → last_or None (take max (keys_left after)) ≡ Some key
      → length (keys_left (Some key)) + max ≤ length (keys_left after)
  left_by after key full last =
      let all : List (List ℕ) = keys_shown prefix true (keys_of entries) in
      let later : List (List ℕ) = drop max (keys_left after) in
      let cut = cut_last (take max (keys_left after)) key last in
      let is : keys_left after ≡ cut.0 ++ key ∷ later = sym (take-append-drop max (keys_left after)) ∙ (ap (λ l. l ++ later) cut.1 ∙ append_assoc cut.0 (key ∷ []) later) in
      let sorted : IsStrictlySortedBy text_cmp (keys_left after)
      = IsStrictlySortedBy-filter text_cmp (is_after after) all (sorted_in_order (map (key_of prefix true) (beginning prefix (keys_of entries)))) in
      let passed : is_after after key ≡ true = passes (is_after after) all cut.0 key later is in
      let same : keys_left (Some key) ≡ filter (is_after (Some key)) (cut.0 ++ key ∷ later)
      = sym (filter-filter (is_after after) (is_after (Some key)) (after_both after key passed) all) ∙ ap (filter (is_after (Some key))) is in
      let fewer : length (filter (is_after (Some key)) (cut.0 ++ key ∷ later)) ≤ length later = behind cut.0 key later (subst (IsStrictlySortedBy text_cmp) is sorted) in
      omega (arith, ap length same, fewer, length-drop max (keys_left after), full)

  -- the bucket answers a page, and stays as it is
  module _ (after : Option (List ℕ)) (store : Store) (o : Observed) (more : List Observed) (same : (bucket_of store).entries ≡ entries)
      (observed : Observes (opendir.plan prefix max after) store (o ∷ more)) where
    op : list prefix true max after ≡ o.op
    op = let asked : Some (list prefix true max after) ≡ Some o.op = observed.0.asked in cc

    told : o.answer ≡ answers.Page (page_of entries prefix true max after)
    told = observed.0.answer ∙ ap (λ asked. answer_to asked (bucket_of store)) (sym op) ∙ ap (λ es. answers.Page (page_of es prefix true max after)) same

    stays : (bucket_of (after_operation store o.op)).entries ≡ entries
    stays = subst (λ asked. (bucket_of (after_operation store asked)).entries ≡ entries) op
        (ap (λ (b : BucketState). b.entries) (state_at-pushed store.start store.log (record { lane = 1; op = list prefix true max after; mode = modes.Done })) ∙ same)

    -- what is observed behind the page goes on behind its last key
    goes_on_behind : Observes (λ told. option_map_or (λ key. opendir.plan prefix max (Some key) told) (page_of entries prefix true max after).next done)
        (after_operation store o.op) more
    goes_on_behind = subst (λ (a : Answer). Observes (λ told. opendir.plan prefix max after (a ∷ told)) (after_operation store o.op) more) told observed.1

  -- the pages from a key on hold at most one page more than the keys that are left
  pages : (after : Option (List ℕ)) (store : Store) (seen : List Observed) → (bucket_of store).entries ≡ entries → Observes (opendir.plan prefix max after) store seen
      → length seen * max ≤ length (keys_left after) + max
  pages after store [] same observed = omega arith
  pages after store (o ∷ more) same observed =
      subst (λ n. n ≤ length (keys_left after) + max) (sym (suc-mul (length more) max))
      (by (nat_lt max (length (keys_left after))) refl (goes_on_behind after store o more same observed)
      (λ key ob. pages (Some key) (after_operation store o.op) more (stays after store o more same observed) ob))
    where
      ends : length more ≤ 0 → length more * max + max ≤ length (keys_left after) + max
      ends none = let ended : length more ≡ 0 = omega (arith, none) in let nothing : length more * max ≡ 0 * max = ap (λ n. n * max) ended in omega (arith, nothing)

      Further : Type 0
      Further = (key : List ℕ) → Observes (opendir.plan prefix max (Some key)) (after_operation store o.op) more → length more * max ≤ length (keys_left (Some key)) + max

      last : max < length (keys_left after) → (next : Option (List ℕ)) → last_or None (take max (keys_left after)) ≡ next
          → Observes (λ told. option_map_or (λ key. opendir.plan prefix max (Some key) told) next done) (after_operation store o.op) more
          → Further → length more * max + max ≤ length (keys_left after) + max
      last full None is observed further = ends (none_observed (after_operation store o.op) more observed)
      last full (Some key) is observed further =
          let fewer = left_by after key (omega (arith, full)) is in
          omega (arith, further key observed, fewer)

      by : (t : Bool) → nat_lt max (length (keys_left after)) ≡ t
          → Observes (λ told. option_map_or (λ key. opendir.plan prefix max (Some key) told) (if t then last_or None (take max (keys_left after)) else None) done) (after_operation store o.op) more
          → Further → length more * max + max ≤ length (keys_left after) + max
      by false over observed further = ends (none_observed (after_operation store o.op) more observed)
      by true over observed further = last (grind (arith, over)) (last_or None (take max (keys_left after))) refl observed further

-- so many full pages and one more
counted : (count keys max : ℕ) → 1 ≤ max → count * max ≤ keys + max → count ≤ keys / max + 1
counted zero keys max some few = omega arith
counted (suc count) keys max some few =
    let less : count * max ≤ keys = omega (arith, few, suc-mul count max) in
    let quotient : count ≤ keys / max = (le-div_iff_mul-le some).1 less in
    omega (arith, quotient)

pub pages_are_full : PagesAreFull
pages_are_full config state node seen some observed = by (goes_on state.mount (Opendir node)) observed
  where
    prefix : List ℕ
    prefix = opendir.prefix_of (view_in state.mount (Opendir node))

    entries : List (List ℕ × Object)
    entries = (bucket_of state.store).entries

    by : (on : Bool) → Observes (if on then (rules_of (Opendir node)).plan (taken_at (at_state config state) state.mount (Opendir node)) else (λ answers. done)) state.store seen
        → length seen ≤ length (keys_in state node) / config.list_page + 1
    by true observed =
        let held = pages entries prefix config.list_page None state.store seen refl observed in
        counted (length seen) (length (keys_in state node)) config.list_page some (omega (arith, held, few (is_after None) (keys_in state node)))
    by false observed = let none = none_observed state.store seen observed in omega (arith, none)
