-- What an RMDIR makes of the bucket of the one-thread mount: it removes an empty directory, or leaves all as it was.
use Rattle.std.proofs.Common.{◌≡◌, ◌≢◌, ℕ, Bool, true, false, List, [], ◌∷◌, All, Option, Some, None, refl, sym, ap, subst, ◌∙◌, take}
use Rattle.std.proofs.lemmas.Bool.{false≢true}
use Rattle.std.proofs.lemmas.List.Elements.{All-contains, All-filter, All-head, All-tail, All-cons, All-nil}
use Rattle.std.proofs.lemmas.List.Kept.{IsStrictlySortedBy-filter}
use Rattle.std.proofs.lemmas.Map.Keys.{sorted_head, sorted_tail}
use Rattle.std.proofs.lemmas.Map.Text.{is_eq-slice_cmp}
use Rattle.std.proofs.lemmas.Map.Views.{Contains-keys_from_lookup}
use Rattle.std.proofs.lemmas.Slice.Eq.{bytes_eq-Decides}
use Rattle.std.specs.BTreeMap.{is_at}
use Rattle.std.specs.BTreeSet.{insert_key}
use Rattle.std.specs.Cmp.{tied_itself}
use Rattle.std.specs.Cmp.Lexicographic.{nat_list_cmp_total}
use Rattle.std.specs.List.{cons_option, filter_map, list_any, starts_with}
use Rattle.std.specs.List.Sorted.{IsStrictlySortedBy}
use Rattle.std.specs.Map.{keys_of, lookup}
use Rattle.std.specs.Option.{option_map_or}
use Rattle.std.specs.Ordering.{is_eq, match_ordering}
use Rattle.std.specs.Prelude.{IfSome, IsSome, if◌then◌else◌, cond, filter, map, nat_eq, not, option_map, ◌||◌}
use Rattle.std.specs.Str.{bytes_eq}
use Rattle.std.specs.declared.cmp.Ordering.TheVariants.{Less, Equal}
use Rattle.bucket_api.proofs.BucketLaws.{stored_at}
use Rattle.bucket_api.specs.BucketState.{BucketState, IsBucket, IsStored, object_at}
use Rattle.bucket_api.specs.Listing.{in_order, is_after, key_of, keys_after, page_of}
use Rattle.bucket_api.specs.BucketStep.{answer_to, state_after, without_object}
use Rattle.bucket_api.specs.Metadata.{Metadata, text_cmp}
use Rattle.bucket_api.specs.Operation.{delete}
use Rattle.bucket_api.specs.declared.answers.Answer.{Answer}
use Rattle.bucket_api.specs.declared.answers.Answer.TheVariants as answers
use Rattle.bucket_api.specs.declared.objects.Object.{Object}
use Rattle.bucket_list.proofs.Keys.{Below}
use Rattle.fuse_replies.specs.Errno.{eio, enoent, enotempty}
use Rattle.fuse_replies.specs.declared.reply.Reply.{Reply}
use Rattle.fuse_requests.specs.declared.request.Request.{Request}
use Rattle.fuse_requests.specs.declared.request.Request.TheVariants.{Rmdir}
use Rattle.mount_model.specs.Observing.{Observed}
use Rattle.mount_model.specs.declared.config.Config.{Config}
use Rattle.mount_rules.specs.Dispatch.{view_in}
use Rattle.mount_rules.specs.OneThread.{Call, IsLawful, Observes, RunState, Store, after_operation, after_operations, bucket_of, reply_in, short}
use Rattle.mount_rules.specs.Plans.{Completes, answers_of, asked_by}
use Rattle.mount_rules.specs.Removing as removing
use Rattle.mount_rules.specs.Requests.Mkdir.{prefix_of}
use Rattle.mount_rules.specs.Requests.Rmdir as rmdir
use Rattle.mount_laws.proofs.Calls.{of_call}
use Rattle.mount_laws.proofs.Guarded.{bucket_then}
use Rattle.mount_laws.proofs.Keeping.{no_Some, same_Some}
use Rattle.mount_laws.proofs.Memory.{empty_is_none}
use Rattle.mount_laws.proofs.Stores.{observes_none}
use Rattle.mount_laws.specs.Removals.{IsEmptied, IsRemoved, RmdirsEmpty}

-- ---- a flat listing
-- what is in order stays so
in_order-sorted : (keys : List (List ℕ)) → IsStrictlySortedBy text_cmp keys → in_order keys ≡ keys
in_order-sorted [] sorted = refl
in_order-sorted (key ∷ keys) sorted =
    ap (λ rest. insert_key text_cmp rest key) (in_order-sorted keys (sorted_tail text_cmp key keys sorted)) ∙ first keys (sorted_head text_cmp key keys sorted)
  where
    first : (ks : List (List ℕ)) → Below key ks → insert_key text_cmp ks key ≡ key ∷ ks
    first [] below = refl
    first (k ∷ ks) below = ap (λ o. match_ordering o (key ∷ k ∷ ks) (k ∷ ks) (k ∷ insert_key text_cmp ks key)) below.0

-- each name is its own key, and stands after none
same_keys : (prefix : List ℕ) (names : List (List ℕ)) → map (key_of prefix false) names ≡ names
same_keys prefix [] = refl
same_keys prefix (name ∷ names) = ap (λ rest. name ∷ rest) (same_keys prefix names)

after_none : (keys : List (List ℕ)) → filter (is_after None) keys ≡ keys
after_none [] = refl
after_none (key ∷ keys) = ap (λ rest. key ∷ rest) (after_none keys)

-- what holds of all that a test passes holds of each where it passes
of_passed : (p : List ℕ → Bool) (Q : List ℕ → Type 0) (names : List (List ℕ)) → All Q (filter p names) → All (λ name. p name ≡ true → Q name) names
of_passed p Q [] all = All-nil (λ name. p name ≡ true → Q name)
of_passed p Q (name ∷ names) all = by (p name) refl (of_passed p Q names) all
  where
    by : (b : Bool) → p name ≡ b → (All Q (filter p names) → All (λ x. p x ≡ true → Q x) names) → All Q (cond b (name ∷ filter p names) (filter p names))
        → All (λ x. p x ≡ true → Q x) (name ∷ names)
    by true is rest all =
        All-cons (λ x. p x ≡ true → Q x) name names (λ passed. All-head Q name (filter p names) all) (rest (All-tail Q name (filter p names) all))
    by false is rest all = All-cons (λ x. p x ≡ true → Q x) name names (λ passed. absurd (false≢true (sym is ∙ passed))) (rest all)

module _ (b : BucketState) (is : IsBucket b) (prefix : List ℕ) where
  abbrev begins : List ℕ → Bool
  begins name = starts_with nat_eq name prefix

  -- the names that begin with the prefix
  abbrev inside_names : List (List ℕ)
  inside_names = filter begins (keys_of b.entries)

  names_sorted : IsStrictlySortedBy text_cmp inside_names
  names_sorted = IsStrictlySortedBy-filter text_cmp begins (keys_of b.entries) is.ordered

  listed : keys_after b.entries prefix false None ≡ inside_names
  listed = after_none (in_order (map (key_of prefix false) inside_names)) ∙ ap in_order (same_keys prefix inside_names) ∙ in_order-sorted inside_names names_sorted

  -- ---- their objects
  abbrev meta_of : List ℕ → Option Metadata
  meta_of name = option_map (λ (o : Object). o.meta) (object_at b name)

  same_text : (x y : List ℕ) → is_at (text_cmp x) y ≡ true → x ≡ y
  same_text x y e = (bytes_eq-Decides x y).0 (sym (is_eq-slice_cmp x y) ∙ e)

  -- a live object is told by its own name
  abbrev IsTold : List ℕ → Type 0
  IsTold name = (meta : Metadata) × (meta_of name ≡ Some meta) × (meta.name ≡ name)

  told : (name : List ℕ) → IsSome (object_at b name) → IsTold name
  told name live = by (object_at b name) refl (stored_at b is name) live
    where
      by : (found : Option Object) → object_at b name ≡ found → IfSome found (IsStored b.last name) → IsSome found → IsTold name
      by None there stored some = absurd (false≢true some)
      by (Some o) there stored some = (o.meta, ap (option_map (λ (x : Object). x.meta)) there, stored.named)

  -- each name of the bucket has one
  live_names : (es : List (List ℕ × Object)) → All (λ name. IsSome (lookup (is_at (text_cmp name)) es)) (keys_of es)
  live_names [] = All-nil (λ name. IsSome (lookup {X = Object} (is_at (text_cmp name)) []))
  live_names (e ∷ es) = All-cons Live e.0 (keys_of es) (one (is_eq (text_cmp e.0 e.0)) own) (more (keys_of es) (live_names es))
    where
      Live : List ℕ → Type 0
      Live name = IsSome (lookup (is_at (text_cmp name)) (e ∷ es))

      own : is_eq (text_cmp e.0 e.0) ≡ true
      own = is_eq-slice_cmp e.0 e.0 ∙ (bytes_eq-Decides e.0 e.0).1 refl

      one : (here : Bool) → here ≡ true → IsSome (cond here (Some e.1) (lookup (is_at (text_cmp e.0)) es))
      one true at = refl
      one false at = absurd (false≢true at)

      either : (here : Bool) (found : Option Object) → IsSome found → IsSome (cond here (Some e.1) found)
      either true found live = refl
      either false found live = live

      more : (names : List (List ℕ)) → All (λ name. IsSome (lookup (is_at (text_cmp name)) es)) names → All Live names
      more [] all = All-nil Live
      more (name ∷ names) all = All-cons Live name names
          (either (is_eq (text_cmp name e.0)) (lookup (is_at (text_cmp name)) es) (All-head (λ n. IsSome (lookup (is_at (text_cmp n)) es)) name names all))
          (more names (All-tail (λ n. IsSome (lookup (is_at (text_cmp n)) es)) name names all))

  all_told : (names : List (List ℕ)) → All (λ name. IsSome (object_at b name)) names → All IsTold names
  all_told [] all = All-nil IsTold
  all_told (name ∷ names) all =
      All-cons IsTold name names (told name (All-head (λ n. IsSome (object_at b n)) name names all)) (all_told names (All-tail (λ n. IsSome (object_at b n)) name names all))

  -- ---- a page that shows the placeholder alone
  none_other : (meta : Metadata) (metas : List Metadata) → rmdir.inside prefix (meta ∷ metas) ≡ rmdir.empty → list_any (rmdir.is_other prefix) (meta ∷ metas) ≡ false
  none_other meta metas e = by (list_any (rmdir.is_other prefix) (meta ∷ metas)) e
    where
      by : (some : Bool) → (if some then rmdir.filled else rmdir.empty) ≡ rmdir.empty → some ≡ false
      by true e = absurd (let never : rmdir.filled ≡ rmdir.empty = e in cc)
      by false e = refl

  neither : (x y : Bool) → (x || y) ≡ false → (x ≡ false) × (y ≡ false)
  neither true y e = absurd (false≢true (sym e))
  neither false y e = (refl, e)

  named : (meta : Metadata) → rmdir.is_other prefix meta ≡ false → meta.name ≡ prefix
  named meta e = by (bytes_eq meta.name prefix) refl e
    where
      by : (same : Bool) → bytes_eq meta.name prefix ≡ same → not same ≡ false → meta.name ≡ prefix
      by true is e = (bytes_eq-Decides meta.name prefix).0 is
      by false is e = absurd (false≢true (sym e))

  abbrev Own : List ℕ → Type 0
  Own name = name ≡ prefix

  only_own : (names : List (List ℕ)) → IsStrictlySortedBy text_cmp names → All IsTold names → rmdir.inside prefix (filter_map meta_of (take 2 names)) ≡ rmdir.empty → All Own names
  only_own [] sorted all e = All-nil Own
  only_own (name ∷ []) sorted all e =
      let t = All-head IsTold name [] all in
      let shows : rmdir.inside prefix (t.0 ∷ []) ≡ rmdir.empty = subst (λ found. rmdir.inside prefix (cons_option found []) ≡ rmdir.empty) t.1 e in
      All-cons Own name [] (sym t.2 ∙ named t.0 (neither (rmdir.is_other prefix t.0) false (none_other t.0 [] shows)).0) (All-nil Own)
  only_own (one ∷ two ∷ names) sorted all e =
      let s = All-head IsTold one (two ∷ names) all in
      let t = All-head IsTold two names (All-tail IsTold one (two ∷ names) all) in
      let rest : List Metadata = filter_map meta_of (take 0 names) in
      let shows : rmdir.inside prefix (s.0 ∷ t.0 ∷ rest) ≡ rmdir.empty =
      subst (λ found. rmdir.inside prefix (s.0 ∷ cons_option found rest) ≡ rmdir.empty) t.1
      (subst (λ found. rmdir.inside prefix (cons_option found (cons_option (meta_of two) rest)) ≡ rmdir.empty) s.1 e) in
      let others = neither (rmdir.is_other prefix s.0) (list_any (rmdir.is_other prefix) (t.0 ∷ rest)) (none_other s.0 (t.0 ∷ rest) shows) in
      let first : one ≡ prefix = sym s.2 ∙ named s.0 others.0 in
      let second : two ≡ prefix = sym t.2 ∙ named t.0 (neither (rmdir.is_other prefix t.0) (list_any (rmdir.is_other prefix) rest) others.1).0 in
      let below : text_cmp one two ≡ Less = (sorted_head text_cmp one (two ∷ names) sorted).0 in
      absurd (never (sym (tied_itself nat_list_cmp_total prefix) ∙ ap (text_cmp prefix) (sym second) ∙ ap (λ n. text_cmp n two) (sym first) ∙ below))
    where
      never : Equal ≡ Less → ⊥
      never e = cc

  -- so every live name that begins with the prefix is the placeholder's
  alone : rmdir.inside prefix (page_of b.entries prefix false 2 None).items ≡ rmdir.empty
      → (name : List ℕ) → IsSome (object_at b name) → starts_with nat_eq name prefix ≡ true → name ≡ prefix
  alone e name live starts =
      let shows : rmdir.inside prefix (filter_map meta_of (take 2 inside_names)) ≡ rmdir.empty =
      subst (λ keys. rmdir.inside prefix (filter_map meta_of (take 2 keys)) ≡ rmdir.empty) listed e in
      let own : All Own inside_names =
      only_own inside_names names_sorted (All-filter begins IsTold (keys_of b.entries) (all_told (keys_of b.entries) (live_names b.entries))) shows in
      All-contains (λ n. begins n ≡ true → Own n) (keys_of b.entries) name (of_passed begins Own (keys_of b.entries) own)
      (Contains-keys_from_lookup {eq = λ x. is_at (text_cmp x)} same_text name b.entries live) starts

-- ---- the walk
module _ (store : Store) (is : IsBucket (bucket_of store)) (prefix : List ℕ) where
  -- what came of it says what became of the bucket
  abbrev Outcome : BucketState → rmdir.Came → Type 0
  Outcome after (rmdir.removed removing.gone) = IsEmptied (bucket_of store) after prefix
  Outcome after (rmdir.removed removing.nothing) = after ≡ bucket_of store
  Outcome after (rmdir.removed removing.fault) = after ≡ bucket_of store
  Outcome after rmdir.not_empty = after ≡ bucket_of store

  by_page : (after : BucketState) → after ≡ bucket_of store → (inside : rmdir.Inside) → Outcome after (rmdir.came_of_page inside)
  by_page after same rmdir.filled = same
  by_page after same rmdir.absent = same
  by_page after same rmdir.empty = same

  by_list : (after : BucketState) → after ≡ bucket_of store → (answer : Answer) → Outcome after (rmdir.came_of_list prefix answer)
  by_list after same (answers.Page page) = by_page after same (rmdir.inside prefix page.items)
  by_list after same _ = same

  module _ (o : Observed) (asked : asked_by (rmdir.plan prefix []) ≡ Some o.op) (answer : o.answer ≡ answer_to o.op (bucket_of store)) where
    abbrev first : Store
    first = after_operation store o.op

    kept : bucket_of first ≡ bucket_of store
    kept = bucket_then store o.op ∙ ap (λ op. state_after op (bucket_of store)) (sym (same_Some asked))

    shown : o.answer ≡ answers.Page (page_of (bucket_of store).entries prefix false 2 None)
    shown = answer ∙ ap (λ op. answer_to op (bucket_of store)) (sym (same_Some asked))

    module _ (p : Observed) (then_asked : asked_by (rmdir.after_list prefix o.answer) ≡ Some p.op) (told_then : p.answer ≡ answer_to p.op (bucket_of first)) where
      deleted : Outcome (bucket_of (after_operation first p.op)) (rmdir.removed (removing.removed_by p.answer))
      deleted = by (rmdir.inside prefix (page_of (bucket_of store).entries prefix false 2 None).items) refl (sym (ap (λ a. asked_by (rmdir.after_list prefix a)) shown) ∙ then_asked)
        where
          one : rmdir.inside prefix (page_of (bucket_of store).entries prefix false 2 None).items ≡ rmdir.empty → p.op ≡ delete prefix None
              → Outcome (bucket_of (after_operation first p.op)) (rmdir.removed (removing.removed_by p.answer))
          one shows is_delete = on (object_at (bucket_of store) prefix) refl
            where
              told_so : p.answer ≡ answer_to (delete prefix None) (bucket_of store)
              told_so = told_then ∙ ap (λ op. answer_to op (bucket_of first)) is_delete ∙ ap (answer_to (delete prefix None)) kept

              left_so : bucket_of (after_operation first p.op) ≡ state_after (delete prefix None) (bucket_of store)
              left_so = bucket_then first p.op ∙ ap (λ op. state_after op (bucket_of first)) is_delete ∙ ap (state_after (delete prefix None)) kept

              on : (found : Option Object) → object_at (bucket_of store) prefix ≡ found → Outcome (bucket_of (after_operation first p.op)) (rmdir.removed (removing.removed_by p.answer))
              on None there =
                  let none : p.answer ≡ answers.NotFound = told_so ∙ ap (λ f. option_map_or (λ (x : Object). answers.Done) f answers.NotFound) there in
                  subst (λ a. Outcome (bucket_of (after_operation first p.op)) (rmdir.removed (removing.removed_by a))) (sym none)
                  (left_so ∙ ap (λ f. option_map_or (λ (x : Object). without_object (bucket_of store) prefix) f (bucket_of store)) there)
              on (Some object) there =
                  let done_so : p.answer ≡ answers.Done = told_so ∙ ap (λ f. option_map_or (λ (x : Object). answers.Done) f answers.NotFound) there in
                  subst (λ a. Outcome (bucket_of (after_operation first p.op)) (rmdir.removed (removing.removed_by a))) (sym done_so) (record {
                    alone = alone (bucket_of store) is prefix shows;
                    left = left_so ∙ ap (λ f. option_map_or (λ (x : Object). without_object (bucket_of store) prefix) f (bucket_of store)) there;
                  })

          by : (inside : rmdir.Inside) → rmdir.inside prefix (page_of (bucket_of store).entries prefix false 2 None).items ≡ inside
              → asked_by (rmdir.after_page prefix inside) ≡ Some p.op → Outcome (bucket_of (after_operation first p.op)) (rmdir.removed (removing.removed_by p.answer))
          by rmdir.empty shows e = one shows (sym (same_Some e))
          by rmdir.absent shows e = absurd (no_Some e)
          by rmdir.filled shows e = absurd (no_Some e)

  walked : (seen : List Observed) → Observes (rmdir.plan prefix) store seen → Completes (rmdir.plan prefix) seen
      → Outcome (bucket_of (after_operations store seen)) (rmdir.came_of prefix (answers_of seen))
  walked [] observed ends = absurd ends
  walked (o ∷ []) observed ends = by_list _ (kept o observed.0.asked observed.0.answer) o.answer
  walked (o ∷ p ∷ more) observed ends =
      let last = after_operation (after_operation store o.op) p.op in
      let none : more ≡ [] = observes_none (λ later. rmdir.plan prefix (o.answer ∷ p.answer ∷ later)) refl last more observed.1.1 in
      subst (λ (m : List Observed). Outcome (bucket_of (after_operations last m)) (rmdir.removed (removing.removed_by p.answer))) (sym none)
      (deleted o observed.0.asked observed.0.answer p observed.1.0.asked observed.1.0.answer)

-- ---- a call
module _ (config : Config) (state : RunState) (node : ℕ) (name : List ℕ) (is : IsBucket (bucket_of state.store)) where
  abbrev request : Request
  request = Rmdir node name

  abbrev prefix : List ℕ
  prefix = prefix_of name (view_in state.mount request)

  abbrev Removes : Store → Reply → Type 0
  Removes store answer = IsRemoved state (record { mount = state.mount; store = store }) prefix answer

  by_outcome : (store : Store) (came : rmdir.Came) → Outcome state.store is prefix (bucket_of store) came → Removes store (rmdir.reply_to came)
  by_outcome store (rmdir.removed removing.gone) outcome = record { emptied = λ empty. outcome; kept = λ errno e. absurd (empty_is_none errno e) }
  by_outcome store (rmdir.removed removing.nothing) outcome = record { emptied = λ empty. absurd (empty_is_none enoent (sym empty)); kept = λ errno e. outcome }
  by_outcome store (rmdir.removed removing.fault) outcome = record { emptied = λ empty. absurd (empty_is_none eio (sym empty)); kept = λ errno e. outcome }
  by_outcome store rmdir.not_empty outcome = record { emptied = λ empty. absurd (empty_is_none enotempty (sym empty)); kept = λ errno e. outcome }

  rmdir_of : (call : Call) → call.request ≡ request → IsLawful config state call → call.ending ≢ short → Removes (after_operations state.store call.seen) (reply_in config state call)
  rmdir_of = of_call config state request refl Removes
      (λ errno. record { emptied = λ empty. absurd (empty_is_none errno (sym empty)); kept = λ e same. refl })
      (λ seen observed ends. by_outcome (after_operations state.store seen) (rmdir.came_of prefix (answers_of seen)) (walked state.store is prefix seen observed ends))

pub rmdirs_empty : RmdirsEmpty
rmdirs_empty config state call node name bucket is lawful other =
    let removes = rmdir_of config state node name bucket call is lawful other in record { emptied = removes.emptied; kept = removes.kept }
