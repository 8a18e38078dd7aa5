-- A page never goes on behind the empty key: what a bucket answers is told.
use Rattle.std.proofs.Common.{◌≡◌, ◌≢◌, ◌≤◌, ℕ, zero, suc, Bool, true, false, List, [], ◌∷◌, length, take, drop, Option, Some, None, IfSome, ap, arith}
use Rattle.std.specs.Prelude.{if◌then◌else◌, nat_eq, nat_lt, ◌==◌, filter, map}
use Rattle.std.specs.BTreeSet.{insert_key}
use Rattle.std.specs.List.{AllByRecursion, last_or, starts_with}
use Rattle.std.specs.Map.{keys_of}
use Rattle.std.specs.Option.{option_map_or}
use Rattle.std.specs.Ordering.{match_ordering}
use Rattle.std.specs.declared.cmp.Ordering.{Ordering}
use Rattle.std.specs.declared.cmp.Ordering.TheVariants.{Less, Equal, Greater}
use Rattle.bucket_api.specs.BucketState.{BucketState, IsBucket, IsStored, generation_at, object_at, object_of}
use Rattle.bucket_api.specs.BucketStep.{answer_to, is_met, may_update, new_object, refused, updated_object}
use Rattle.bucket_api.specs.Listing.{in_order, is_after, key_of, keys_after, keys_shown, page_of, through_slash}
use Rattle.bucket_api.specs.Metadata.{text_cmp, Metadata}
use Rattle.bucket_api.specs.Operation.{Operation, stat, read, insert, update, delete, copy, list}
use Rattle.bucket_api.specs.declared.answers.Answer.{Answer}
use Rattle.bucket_api.specs.declared.answers.Answer.TheVariants as answers
use Rattle.bucket_api.specs.declared.objects.Object.{Object}
use Rattle.plan_names.specs.Errands.{IsTold}

-- a text that is not empty
abbrev IsSomeText : List ℕ → Type 0
IsSomeText text = text ≢ []

abbrev AreSomeTexts : List (List ℕ) → Type 0
AreSomeTexts texts = AllByRecursion IsSomeText texts

names_are : (last : ℕ) (entries : List (List ℕ × Object)) → AllByRecursion (λ e. IsStored last e.0 e.1) entries → AreSomeTexts (keys_of entries)
names_are last [] stored = tt
names_are last (e ∷ entries) stored = (some e.0 stored.0.allowed.some, names_are last entries stored.1)
  where
    some : (name : List ℕ) → 1 ≤ length name → name ≢ []
    some name long e = omega (arith, ap length e)

through_is : (text : List ℕ) → text ≢ [] → through_slash text ≢ []
through_is [] some e = some e
through_is (b ∷ bs) some e = by (b == 47) e
  where
    by : (slash : Bool) → (if slash then 47 ∷ [] else b ∷ through_slash bs) ≡ [] → ⊥
    by true e = cc
    by false e = cc

key_is : (prefix : List ℕ) (slash : Bool) (name : List ℕ) → name ≢ [] → key_of prefix slash name ≢ []
key_is prefix false name some = some
key_is [] true name some = through_is name some
key_is (b ∷ prefix) true name some = λ e. cc

shown_are : (prefix : List ℕ) (slash : Bool) (names : List (List ℕ)) → AreSomeTexts names
    → AreSomeTexts (map (key_of prefix slash) (filter (λ name. starts_with nat_eq name prefix) names))
shown_are prefix slash [] all = tt
shown_are prefix slash (name ∷ names) all = by (starts_with nat_eq name prefix) (shown_are prefix slash names all.1)
  where
    rest : List (List ℕ)
    rest = filter (λ n. starts_with nat_eq n prefix) names

    by : (begins : Bool) → AreSomeTexts (map (key_of prefix slash) rest) → AreSomeTexts (map (key_of prefix slash) (if begins then name ∷ rest else rest))
    by true later = (key_is prefix slash name all.0, later)
    by false later = later

insert_is : (key : List ℕ) (keys : List (List ℕ)) → key ≢ [] → AreSomeTexts keys → AreSomeTexts (insert_key text_cmp keys key)
insert_is key [] some all = (some, tt)
insert_is key (k ∷ keys) some all = by (text_cmp key k) (insert_is key keys some all.1)
  where
    by : (o : Ordering) → AreSomeTexts (insert_key text_cmp keys key) → AreSomeTexts (match_ordering o (key ∷ k ∷ keys) (k ∷ keys) (k ∷ insert_key text_cmp keys key))
    by Less later = (some, all)
    by Equal later = all
    by Greater later = (all.0, later)

ordered_are : (keys : List (List ℕ)) → AreSomeTexts keys → AreSomeTexts (in_order keys)
ordered_are [] all = tt
ordered_are (key ∷ keys) all = insert_is key (in_order keys) all.0 (ordered_are keys all.1)

later_are : (after : Option (List ℕ)) (keys : List (List ℕ)) → AreSomeTexts keys → AreSomeTexts (filter (is_after after) keys)
later_are after [] all = tt
later_are after (key ∷ keys) all = by (is_after after key) (later_are after keys all.1)
  where
    by : (later : Bool) → AreSomeTexts (filter (is_after after) keys)
        → AreSomeTexts (if later then key ∷ filter (is_after after) keys else filter (is_after after) keys)
    by true more = (all.0, more)
    by false more = more

taken_are : (n : ℕ) (keys : List (List ℕ)) → AreSomeTexts keys → AreSomeTexts (take n keys)
taken_are zero keys all = tt
taken_are (suc n) [] all = tt
taken_are (suc n) (key ∷ keys) all = (all.0, taken_are n keys all.1)

last_is : (first : Option (List ℕ)) (keys : List (List ℕ)) → IfSome first IsSomeText → AreSomeTexts keys → IfSome (last_or first keys) IsSomeText
last_is first [] some all = some
last_is first (key ∷ keys) some all = last_is (Some key) keys all.0 all.1

-- the key behind which a page goes on
next_is : (max : ℕ) (keys : List (List ℕ)) → AreSomeTexts keys → IfSome (if nat_lt max (length keys) then last_or None (take max keys) else None) IsSomeText
next_is max keys all = by (nat_lt max (length keys))
  where
    by : (more : Bool) → IfSome (if more then last_or None (take max keys) else None) IsSomeText
    by true = last_is None (take max keys) tt (taken_are max keys all)
    by false = tt

page_is : (b : BucketState) (prefix : List ℕ) (slash : Bool) (max : ℕ) (after : Option (List ℕ)) → IsBucket b → IsTold (answers.Page (page_of b.entries prefix slash max after))
page_is b prefix slash max after is =
    next_is max (keys_after b.entries prefix slash after)
    (later_are after (keys_shown prefix slash (keys_of b.entries))
    (ordered_are (map (key_of prefix slash) (filter (λ name. starts_with nat_eq name prefix) (keys_of b.entries)))
    (shown_are prefix slash (keys_of b.entries) (names_are b.last b.entries is.stored))))

-- an answer by what is live, where nothing but a page goes on
module _ (found : Object → Answer) (each : (o : Object) → IsTold (found o)) where
  by_live : (live : Option Object) → IsTold (option_map_or found live answers.NotFound)
  by_live None = tt
  by_live (Some o) = each o

by_test : (met : Bool) (meta : Metadata) (b : BucketState) (name : List ℕ) → IsTold (if met then answers.Meta meta else refused b name)
by_test true meta b name = tt
by_test false meta b name = tt

deleted : (met : Bool) (b : BucketState) (name : List ℕ) → IsTold (if met then answers.Done else refused b name)
deleted true b name = tt
deleted false b name = tt

-- what a bucket answers goes on behind a key, if it is a page that goes on
pub answer_told : (op : Operation) (b : BucketState) → IsBucket b → IsTold (answer_to op b)
answer_told (stat name) b is = by_live (λ o. answers.Meta o.meta) (λ o. tt) (object_at b name)
answer_told (read name generation first count) b is = by_live (λ o. answers.Bytes (take count (drop first o.content))) (λ o. tt) (object_of b name generation)
answer_told (insert name content pairs only stamp) b is = by_test (is_met only (generation_at b name)) (new_object b name content pairs stamp).meta b name
answer_told (update name pairs only only_meta stamp) b is =
    by_live (λ o. if may_update only only_meta o then answers.Meta (updated_object pairs stamp o).meta else refused b name)
    (λ o. by_test (may_update only only_meta o) (updated_object pairs stamp o).meta b name) (object_at b name)
answer_told (delete name only) b is =
    by_live (λ o. if is_met only o.meta.generation then answers.Done else refused b name) (λ o. deleted (is_met only o.meta.generation) b name) (object_at b name)
answer_told (copy from generation to stamp) b is = by_live (λ o. answers.Meta (new_object b to o.content o.meta.pairs stamp).meta) (λ o. tt) (object_of b from generation)
answer_told (list prefix slash max after) b is = page_is b prefix slash max after is
