-- The sizes of a bucket's objects, added up, fit into 128 bits.
use Rattle.std.proofs.Common.{◌≡◌, ℕ, ◌+◌, ◌*◌, ◌≤◌, ◌<◌, ◌^◌, List, [], ◌∷◌, length, arith}
use Rattle.std.specs.Prelude.{fold}
use Rattle.std.specs.List.{AllByRecursion}
use Rattle.std.specs.Map.{values_of}
use Rattle.bucket_api.specs.declared.objects.Object.{Object}
use Rattle.bucket_api.specs.BucketState.{BucketState, IsBucket, IsStored}
use Rattle.drill_maker.specs.Summary.{bytes_in}

-- a sum is not below what it began with
fold_from : (a : ℕ) (objects : List Object) → a ≤ fold (λ n o. n + o.meta.size) a objects
fold_from a [] = omega arith
fold_from a (o ∷ objects) = let later = fold_from (a + o.meta.size) objects in omega (arith, later)

-- no object has more than 16 MiB
fold_up_to : (last a : ℕ) (entries : List (List ℕ × Object)) → AllByRecursion (λ e. IsStored last e.0 e.1) entries
    → fold (λ n o. n + o.meta.size) a (values_of entries) ≤ a + 16777216 * length entries
fold_up_to last a [] all = omega arith
fold_up_to last a (e ∷ entries) all =
    let later = fold_up_to last (a + e.1.meta.size) entries all.1 in
    let sized = all.0.sized in
    let bounded = all.0.bounded in
    omega (arith, later, sized, bounded)

pub sizes_fit : (bucket : BucketState) (a : ℕ) (o : Object) (objects : List Object) → IsBucket bucket → length bucket.entries < 2 ^ 63
    → fold (λ n o. n + o.meta.size) a (o ∷ objects) ≡ bytes_in bucket → a + o.meta.size < 2 ^ 128
sizes_fit bucket a o objects is few all =
    let least = fold_from (a + o.meta.size) objects in
    let most = fold_up_to bucket.last 0 bucket.entries is.stored in
    omega (arith, least, most, few, all)
