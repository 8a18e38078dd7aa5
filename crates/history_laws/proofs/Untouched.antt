-- Looks at a key that nobody wrote since: the bucket answers them as it did.
use Rattle.std.proofs.Common.{◌≡◌, ◌≤◌, ◌<◌, ℕ, zero, suc, ◌+◌, Bool, true, false, cond, List, [], ◌∷◌, All, Option, Some, None, refl, sym, ap, subst, ◌∙◌, inl, inr, arith}
use Rattle.bucket_list.proofs.Texts.{starts_split}
use Rattle.std.proofs.lemmas.Bool.{false≢true}
use Rattle.std.proofs.lemmas.List.Elements.{All-cons, All-filter, All-head, All-nil, All-tail, All-take}
use Rattle.std.proofs.lemmas.Map.Entries.{lookup-filter-keys}
use Rattle.std.proofs.lemmas.Map.Text.{is_eq-slice_cmp}
use Rattle.std.proofs.lemmas.Map.Views.{All-insert_key}
use Rattle.std.proofs.lemmas.Slice.Eq.{bytes_eq-Decides}
use Rattle.std.specs.BTreeMap.{insert_entry, is_at}
use Rattle.std.specs.List.{cons_option, filter_map, last_or, starts_with}
use Rattle.std.specs.Map.{keys_of, lookup, remove_entry, set_value}
use Rattle.std.specs.Option.{option_map_or}
use Rattle.std.specs.Ordering.{is_eq, match_ordering}
use Rattle.std.specs.Prelude.{IsTrue, drop, filter, if◌then◌else◌, length, map, nat_eq, nat_lt, option_map, slice_get, take}
use Rattle.std.specs.declared.cmp.Ordering.{Ordering}
use Rattle.std.specs.declared.cmp.Ordering.TheVariants.{Less, Equal, Greater}
use Rattle.bucket_api.proofs.RoomLaws.{chosen}
use Rattle.bucket_api.proofs.TextOrder.{text_same}
use Rattle.bucket_api.specs.BucketState.{BucketState, generation_at, object_at, object_of}
use Rattle.bucket_api.specs.BucketStep.{answer_to, is_met, may_update, new_object, state_after, updated_object, with_new, with_object, without_object}
use Rattle.bucket_api.specs.Listing.{ends_in_slash, in_order, is_after, key_of, keys_after, keys_shown, page_of, page_showing}
use Rattle.bucket_api.specs.Log.{state_at, state_by}
use Rattle.bucket_api.specs.LogEvent.{LogEvent}
use Rattle.bucket_api.specs.Metadata.{Metadata, text_cmp}
use Rattle.bucket_api.specs.Operation.{Operation, stat, read, insert, update, delete, copy, list}
use Rattle.bucket_api.specs.PageData.{PageData}
use Rattle.bucket_api.specs.declared.answers.Answer.TheVariants as answers
use Rattle.bucket_api.specs.declared.events.Mode.{Mode}
use Rattle.bucket_api.specs.declared.events.Mode.TheVariants as modes
use Rattle.bucket_api.specs.declared.objects.Object.{Object}
use Rattle.history_laws.proofs.Moments.{position_step}
use Rattle.history_spec.specs.Pasts as pasts
use Rattle.history_spec.specs.Pasts.{written_by}
use Rattle.record_spec.specs.Past.{Writes}
use Rattle.record_spec.specs.RecordList.{Key}

abbrev Entries : Type 0
Entries = List (Key × Object)

-- ---- the objects whose names pass a test
module _ (p : Key → Bool) where
  abbrev among : Entries → Entries
  among es = filter (λ e. p e.0) es

  module _ (k : Key) (other : p k ≡ false) where
    passed_by : (v : Object) (es : Entries) → among ((k, v) ∷ es) ≡ among es
    passed_by v es = ap (λ b. cond b ((k, v) ∷ among es) (among es)) other

    -- a name that fails the test, as another that is the same
    fails_too : (e : Key × Object) → text_cmp k e.0 ≡ Equal → p e.0 ≡ false
    fails_too e is = subst (λ name. p name ≡ false) (text_same k e.0 is) other

    inserted : (v : Object) (es : Entries) → among (insert_entry text_cmp es k v) ≡ among es
    inserted v [] = passed_by v []
    inserted v (e ∷ es) = by (text_cmp k e.0) refl (inserted v es)
      where
        by : (r : Ordering) → text_cmp k e.0 ≡ r → among (insert_entry text_cmp es k v) ≡ among es
            → among (match_ordering r ((k, v) ∷ e ∷ es) ((e.0, v) ∷ es) (e ∷ insert_entry text_cmp es k v)) ≡ among (e ∷ es)
        by Less is later = passed_by v (e ∷ es)
        by Equal is later = ap (λ b. cond b ((e.0, v) ∷ among es) (among es)) (fails_too e is) ∙ sym (ap (λ b. cond b (e ∷ among es) (among es)) (fails_too e is))
        by Greater is later = ap (λ rest. cond (p e.0) (e ∷ rest) rest) later

    replaced : (v : Object) (es : Entries) → among (set_value (is_at (text_cmp k)) es v) ≡ among es
    replaced v [] = refl
    replaced v (e ∷ es) = by (text_cmp k e.0) refl (replaced v es)
      where
        by : (r : Ordering) → text_cmp k e.0 ≡ r → among (set_value (is_at (text_cmp k)) es v) ≡ among es
            → among (cond (is_eq r) ((e.0, v) ∷ es) (e ∷ set_value (is_at (text_cmp k)) es v)) ≡ among (e ∷ es)
        by Less is later = ap (λ rest. cond (p e.0) (e ∷ rest) rest) later
        by Equal is later = ap (λ b. cond b ((e.0, v) ∷ among es) (among es)) (fails_too e is) ∙ sym (ap (λ b. cond b (e ∷ among es) (among es)) (fails_too e is))
        by Greater is later = ap (λ rest. cond (p e.0) (e ∷ rest) rest) later

    removed : (es : Entries) → among (remove_entry (is_at (text_cmp k)) es) ≡ among es
    removed [] = refl
    removed (e ∷ es) = by (text_cmp k e.0) refl (removed es)
      where
        by : (r : Ordering) → text_cmp k e.0 ≡ r → among (remove_entry (is_at (text_cmp k)) es) ≡ among es
            → among (cond (is_eq r) es (e ∷ remove_entry (is_at (text_cmp k)) es)) ≡ among (e ∷ es)
        by Less is later = ap (λ rest. cond (p e.0) (e ∷ rest) rest) later
        by Equal is later = sym (ap (λ b. cond b (e ∷ among es) (among es)) (fails_too e is))
        by Greater is later = ap (λ rest. cond (p e.0) (e ∷ rest) rest) later

  -- an operation whose name fails the test leaves those that pass it as they were
  among_after : (op : Operation) (b : BucketState) → ((name : Key) → written_by op ≡ Some name → p name ≡ false) → among (state_after op b).entries ≡ among b.entries
  among_after op b fails = by op fails
    where
      Same : BucketState → Type 0
      Same after = among after.entries ≡ among b.entries

      by : (op : Operation) → ((name : Key) → written_by op ≡ Some name → p name ≡ false) → Same (state_after op b)
      by (stat name) fails = refl
      by (read name generation first count) fails = refl
      by (list prefix slash max after) fails = refl
      by (insert name content pairs only stamp) fails =
          chosen Same (is_met only (generation_at b name)) (with_new b name (new_object b name content pairs stamp)) b
          (inserted name (fails name refl) (new_object b name content pairs stamp) b.entries) refl
      by (update name pairs only only_meta stamp) fails = found (object_at b name)
        where
          found : (o : Option Object) → Same (option_map_or (λ o. if may_update only only_meta o then with_object b name (updated_object pairs stamp o) else b) o b)
          found None = refl
          found (Some o) = chosen Same (may_update only only_meta o) (with_object b name (updated_object pairs stamp o)) b
              (replaced name (fails name refl) (updated_object pairs stamp o) b.entries) refl
      by (delete name only) fails = found (object_at b name)
        where
          found : (o : Option Object) → Same (option_map_or (λ o. if is_met only o.meta.generation then without_object b name else b) o b)
          found None = refl
          found (Some o) = chosen Same (is_met only o.meta.generation) (without_object b name) b (removed name (fails name refl) b.entries) refl
      by (copy from generation to stamp) fails = found (object_of b from generation)
        where
          found : (o : Option Object) → Same (option_map_or (λ o. with_new b to (new_object b to o.content o.meta.pairs stamp)) o b)
          found None = refl
          found (Some o) = inserted to (fails to refl) (new_object b to o.content o.meta.pairs stamp) b.entries

-- ---- looks
-- a name that passes is found among those that pass
found_among : (p : Key → Bool) (name : Key) (es : Entries) → p name ≡ true → lookup (is_at (text_cmp name)) (among p es) ≡ lookup (is_at (text_cmp name)) es
found_among p name es passes = lookup-filter-keys (is_at (text_cmp name)) p true same es
  where
    same : (k : Key) → is_at (text_cmp name) k ≡ true → p k ≡ true
    same k at = by (text_cmp name k) refl at
      where
        by : (r : Ordering) → text_cmp name k ≡ r → is_eq r ≡ true → p k ≡ true
        by Less is eq = absurd (false≢true eq)
        by Equal is eq = subst (λ n. p n ≡ true) (text_same name k is) passes
        by Greater is eq = absurd (false≢true eq)

names_among : (p : Key → Bool) (es : Entries) → filter p (keys_of es) ≡ keys_of (among p es)
names_among p [] = refl
names_among p (e ∷ es) = by (p e.0) (names_among p es)
  where
    by : (b : Bool) → filter p (keys_of es) ≡ keys_of (among p es) → cond b (e.0 ∷ filter p (keys_of es)) (filter p (keys_of es)) ≡ keys_of (cond b (e ∷ among p es) (among p es))
    by true later = ap (λ rest. e.0 ∷ rest) later
    by false later = later

-- two buckets with the same objects below a prefix list the same there
module _ (prefix : Key) where
  abbrev begins : Key → Bool
  begins name = starts_with nat_eq name prefix

  abbrev meta_in : Entries → Key → Option Metadata
  meta_in es key = option_map (λ (o : Object). o.meta) (lookup (is_at (text_cmp key)) es)

  all_begin : (names : List Key) → All (λ name. begins name ≡ true) (filter begins names)
  all_begin [] = All-nil (λ name. begins name ≡ true)
  all_begin (name ∷ names) = by (begins name) refl (all_begin names)
    where
      by : (b : Bool) → begins name ≡ b → All (λ n. begins n ≡ true) (filter begins names) → All (λ n. begins n ≡ true) (cond b (name ∷ filter begins names) (filter begins names))
      by true is rest = All-cons (λ n. begins n ≡ true) name (filter begins names) is rest
      by false is rest = rest

  all_shown : (names : List Key) → All (λ name. begins name ≡ true) names → All (λ name. begins name ≡ true) (in_order (map (key_of prefix false) names))
  all_shown [] all = All-nil (λ name. begins name ≡ true)
  all_shown (name ∷ names) all =
      All-insert_key text_cmp name (λ n. begins n ≡ true) (in_order (map (key_of prefix false) names))
      (all_shown names (All-tail (λ n. begins n ≡ true) name names all)) (All-head (λ n. begins n ≡ true) name names all)

  module _ (es fs : Entries) (same : among begins fs ≡ among begins es) where
    shown_same : keys_shown prefix false (keys_of fs) ≡ keys_shown prefix false (keys_of es)
    shown_same = ap (λ names. in_order (map (key_of prefix false) names)) (names_among begins fs ∙ ap keys_of same ∙ sym (names_among begins es))

    meta_same : (key : Key) → begins key ≡ true → meta_in fs key ≡ meta_in es key
    meta_same key is = ap (option_map (λ (o : Object). o.meta))
        (sym (found_among begins key fs is) ∙ ap (lookup (is_at (text_cmp key))) same ∙ found_among begins key es is)

    metas_same : (keys : List Key) → All (λ name. begins name ≡ true) keys → filter_map (meta_in fs) keys ≡ filter_map (meta_in es) keys
    metas_same [] all = refl
    metas_same (key ∷ keys) all =
        ap (λ found. cons_option found (filter_map (meta_in fs) keys)) (meta_same key (All-head (λ n. begins n ≡ true) key keys all))
        ∙ ap (cons_option (meta_in es key)) (metas_same keys (All-tail (λ n. begins n ≡ true) key keys all))

    -- the first name that a probe asks for
    abbrev first_keys : Entries → List Key
    first_keys entries = take 1 (keys_after entries prefix false None)

    first_begin : All (λ name. begins name ≡ true) (first_keys es)
    first_begin = All-take (λ n. begins n ≡ true) 1 (keys_after es prefix false None)
        (All-filter (is_after None) (λ n. begins n ≡ true) (keys_shown prefix false (keys_of es)) (all_shown (filter begins (keys_of es)) (all_begin (keys_of es))))

    after_same : keys_after fs prefix false None ≡ keys_after es prefix false None
    after_same = ap (filter (is_after None)) shown_same

    pub page_same : page_of fs prefix false 1 None ≡ page_of es prefix false 1 None
    page_same =
        ap (λ keys. page_by fs keys) after_same
        ∙ ap (λ items. record (page_by es (keys_after es prefix false None)) { items = items }) (metas_same (first_keys es) first_begin)
      where
        page_by : Entries → List Key → PageData
        page_by entries keys = page_showing entries prefix false (take 1 keys) (if nat_lt 1 (length keys) then last_or None (take 1 keys) else None)

-- ---- what a look is answered
-- a look at a key that each write of it is a write of: a list looks below a directory's key, where directories are implied
abbrev pub LooksAt : Bool → Operation → Type 0
LooksAt implicit (stat name) = Unit {0}
LooksAt implicit (list prefix slash max after) = IsTrue implicit × IsTrue (ends_in_slash prefix) × (slash ≡ false) × (max ≡ 1) × (after ≡ None)
LooksAt implicit op = ⊥

-- the operation doesn't write the key
abbrev pub LeavesKey : Bool → Key → Operation → Type 0
LeavesKey implicit key op = (name : Key) → written_by op ≡ Some name → Writes implicit name key → ⊥

unlike : (p : Key → Bool) (name : Key) → (p name ≡ true → ⊥) → p name ≡ false
unlike p name never = by (p name) refl
  where
    by : (b : Bool) → p name ≡ b → p name ≡ false
    by true is = absurd (never is)
    by false is = is

-- a look is answered the same once an operation was done that doesn't write its key
pub look_stays : (implicit : Bool) (look op : Operation) (b : BucketState) → LooksAt implicit look → LeavesKey implicit (pasts.key_of look) op
    → answer_to look (state_after op b) ≡ answer_to look b
look_stays implicit (stat name) op b at leaves =
    ap (λ found. option_map_or (λ (o : Object). answers.Meta o.meta) found answers.NotFound)
    (sym (found_among (is_at (text_cmp name)) name (state_after op b).entries itself)
    ∙ ap (lookup (is_at (text_cmp name))) (among_after (is_at (text_cmp name)) op b other)
    ∙ found_among (is_at (text_cmp name)) name b.entries itself)
  where
    itself : is_at (text_cmp name) name ≡ true
    itself = is_eq-slice_cmp name name ∙ (bytes_eq-Decides name name).1 refl

    other : (written : Key) → written_by op ≡ Some written → is_at (text_cmp name) written ≡ false
    other written is = unlike (is_at (text_cmp name)) written
        (λ same. leaves written is (inl ((bytes_eq-Decides name written).0 (sym (is_eq-slice_cmp name written) ∙ same))))
look_stays implicit (list prefix slash max after) op b at leaves =
    by slash max after (at.2, at.3, at.4) (page_same prefix b.entries (state_after op b).entries (among_after (begins prefix) op b other))
  where
    other : (written : Key) → written_by op ≡ Some written → begins prefix written ≡ false
    other written is = unlike (begins prefix) written
        (λ front. leaves written is (inr (at.0, at.1, (drop (length prefix) written, starts_split prefix written front))))

    by : (s : Bool) (m : ℕ) (a : Option Key) → (s ≡ false) × (m ≡ 1) × (a ≡ None)
        → page_of (state_after op b).entries prefix false 1 None ≡ page_of b.entries prefix false 1 None
        → answer_to (list prefix s m a) (state_after op b) ≡ answer_to (list prefix s m a) b
    by s m a are same =
        ap (λ t. answer_to (list prefix t m a) (state_after op b)) are.0
        ∙ ap (λ n. answer_to (list prefix false n a) (state_after op b)) are.1
        ∙ ap (λ last. answer_to (list prefix false 1 last) (state_after op b)) are.2
        ∙ ap answers.Page same
        ∙ sym (ap (λ t. answer_to (list prefix t m a) b) are.0 ∙ ap (λ n. answer_to (list prefix false n a) b) are.1
        ∙ ap (λ last. answer_to (list prefix false 1 last) b) are.2)
look_stays implicit (read name generation first count) op b at leaves = absurd at
look_stays implicit (insert name content pairs only stamp) op b at leaves = absurd at
look_stays implicit (update name pairs only only_meta stamp) op b at leaves = absurd at
look_stays implicit (delete name only) op b at leaves = absurd at
look_stays implicit (copy from generation to stamp) op b at leaves = absurd at

-- ---- along a log
module _ (implicit : Bool) (start : BucketState) (log : List LogEvent) where
  -- no event of the log writes the key from one position on, up to another
  abbrev pub IsLeft : Key → ℕ → ℕ → Type 0
  IsLeft key from upto = (k : ℕ) → from ≤ k → k < upto → (e : LogEvent) × (slice_get log k ≡ Some e) × LeavesKey implicit key e.op

  pub event_leaves : (look : Operation) (e : LogEvent) (b : BucketState) → LooksAt implicit look → LeavesKey implicit (pasts.key_of look) e.op
      → answer_to look (state_by e.mode e.op b) ≡ answer_to look b
  event_leaves look e b at leaves = by e.mode
    where
      by : (mode : Mode) → answer_to look (state_by mode e.op b) ≡ answer_to look b
      by modes.Done = look_stays implicit look e.op b at leaves
      by modes.Failed = refl
      by modes.Lost = look_stays implicit look e.op b at leaves

  -- No record stands against it: what the bucket answered a look at a position, it answers at each later one, where nothing
  -- wrote the key meanwhile.
  pub answers_still : (look : Operation) (from count : ℕ) → LooksAt implicit look → IsLeft (pasts.key_of look) from (from + count)
      → answer_to look (state_at start log (from + count)) ≡ answer_to look (state_at start log from)
  answers_still look from zero at left = let same : from + zero ≡ from = omega arith in ap (λ n. answer_to look (state_at start log n)) same
  answers_still look from (suc count) at left =
      let next : from + suc count ≡ suc (from + count) = omega arith in
      let last = left (from + count) (omega arith) (omega arith) in
      ap (λ n. answer_to look (state_at start log n)) next
      ∙ ap (answer_to look) (position_step start log (from + count) last.0 last.1)
      ∙ event_leaves look last.0 (state_at start log (from + count)) at last.2
      ∙ answers_still look from count at (λ k after before. left k after (omega (arith, before)))
