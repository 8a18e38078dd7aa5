-- What each operation answers, and what it makes of the bucket.
-- Source: Cloud Storage's request preconditions (ifGenerationMatch, ifMetagenerationMatch), where a
-- generation of 0 asks that no live version of the object exists.
use Rattle.std.specs.Prelude.{ℕ, ◌+◌, Bool, true, ◌&&◌, List, take, drop, length, Option, Some, None, fold, if◌then◌else◌, ◌==◌}
use Rattle.std.specs.Option.{option_map_or}
use Rattle.std.specs.Map.{remove_entry, set_value}
use Rattle.std.specs.BTreeMap.{is_at, insert_entry}
use Rattle.std.specs.Ordering.{match_ordering}
use Rattle.std.specs.Prelude.{[], ◌∷◌}
use Rattle.bucket_api.specs.declared.objects.Object.{Object}
use Rattle.bucket_api.specs.declared.objects.Pair.{Pair}
use Rattle.bucket_api.specs.declared.answers.Answer.{Answer}
use Rattle.bucket_api.specs.declared.answers.Answer.TheVariants.{Meta, Bytes, Page, Done, NotFound, Precondition}
use Rattle.bucket_api.specs.Metadata.{text_cmp}
use Rattle.bucket_api.specs.Operation.{Operation, stat, read, insert, update, delete, copy, list}
use Rattle.bucket_api.specs.BucketState.{BucketState, object_at, object_of, generation_at, metageneration_at}
use Rattle.bucket_api.specs.Listing.{page_of}

-- the pairs with p added, or put in the place of the pair of its key
abbrev pub with_pair : List Pair → Pair → List Pair
with_pair [] p = p ∷ []
with_pair (q ∷ qs) p = match_ordering (text_cmp p.key q.key) (p ∷ q ∷ qs) (p ∷ qs) (q ∷ with_pair qs p)

-- the pairs with each of the new ones added or put in its place
abbrev pub with_pairs : List Pair → List Pair → List Pair
with_pairs pairs new = fold with_pair pairs new

-- whether a precondition on a number is met, which is 0 where no object is live
abbrev pub is_met : Option ℕ → ℕ → Bool
is_met None live = true
is_met (Some only) live = only == live

-- the answer of a failed precondition carries the live numbers
abbrev pub refused : BucketState → List ℕ → Answer
refused b name = Precondition (generation_at b name) (metageneration_at b name)

-- the object that a content makes under the bucket's next generation
abbrev pub new_object : BucketState → List ℕ → List ℕ → List Pair → ℕ → Object
new_object b name content pairs stamp = record {
  meta = record { name = name; generation = b.last + 1; metageneration = 1; size = length content; updated = stamp; pairs = pairs };
  content = content;
}

-- the object with the pairs added or put in their places
abbrev pub updated_object : List Pair → ℕ → Object → Object
updated_object pairs stamp o = record o {
  meta = record o.meta { metageneration = o.meta.metageneration + 1; updated = stamp; pairs = with_pairs o.meta.pairs pairs };
}

-- both preconditions of an update
abbrev pub may_update : Option ℕ → Option ℕ → Object → Bool
may_update only only_meta o = is_met only o.meta.generation && is_met only_meta o.meta.metageneration

-- what the operation answers
abbrev pub answer_to : Operation → BucketState → Answer
answer_to (stat name) b = option_map_or (λ o. Meta o.meta) (object_at b name) NotFound
answer_to (read name generation first count) b = option_map_or (λ o. Bytes (take count (drop first o.content))) (object_of b name generation) NotFound
answer_to (insert name content pairs only stamp) b =
    if is_met only (generation_at b name) then Meta (new_object b name content pairs stamp).meta else refused b name
answer_to (update name pairs only only_meta stamp) b =
    option_map_or (λ o. if may_update only only_meta o then Meta (updated_object pairs stamp o).meta else refused b name) (object_at b name) NotFound
answer_to (delete name only) b = option_map_or (λ o. if is_met only o.meta.generation then Done else refused b name) (object_at b name) NotFound
answer_to (copy from generation to stamp) b =
    option_map_or (λ o. Meta (new_object b to o.content o.meta.pairs stamp).meta) (object_of b from generation) NotFound
answer_to (list prefix slash max after) b = Page (page_of b.entries prefix slash max after)

-- the bucket with one more object, which has the next generation
abbrev pub with_new : BucketState → List ℕ → Object → BucketState
with_new b name o = record { entries = insert_entry text_cmp b.entries name o; last = b.last + 1 }

-- the bucket with another object under a live name
abbrev pub with_object : BucketState → List ℕ → Object → BucketState
with_object b name o = record b { entries = set_value (is_at (text_cmp name)) b.entries o }

-- the bucket without the object of the name
abbrev pub without_object : BucketState → List ℕ → BucketState
without_object b name = record b { entries = remove_entry (is_at (text_cmp name)) b.entries }

-- what the operation makes of the bucket
abbrev pub state_after : Operation → BucketState → BucketState
state_after (stat name) b = b
state_after (read name generation first count) b = b
state_after (insert name content pairs only stamp) b =
    if is_met only (generation_at b name) then with_new b name (new_object b name content pairs stamp) else b
state_after (update name pairs only only_meta stamp) b =
    option_map_or (λ o. if may_update only only_meta o then with_object b name (updated_object pairs stamp o) else b) (object_at b name) b
state_after (delete name only) b = option_map_or (λ o. if is_met only o.meta.generation then without_object b name else b) (object_at b name) b
state_after (copy from generation to stamp) b =
    option_map_or (λ o. with_new b to (new_object b to o.content o.meta.pairs stamp)) (object_of b from generation) b
state_after (list prefix slash max after) b = b
