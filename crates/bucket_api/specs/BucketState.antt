-- A bucket as plain data: its live objects by name, and the last generation that it gave.
use Rattle.std.specs.Prelude.{◌≡◌, ℕ, ◌^◌, ◌<◌, ◌≤◌, ◌-◌, List, [], length, Option, ◌==◌}
use Rattle.std.specs.Option.{option_map_or, option_and_then}
use Rattle.std.specs.Prelude.{Some, None, if◌then◌else◌}
use Rattle.std.specs.List.{AllByRecursion}
use Rattle.std.specs.Map.{lookup, keys_of}
use Rattle.std.specs.BTreeMap.{is_at}
use Rattle.std.specs.List.Sorted.{IsStrictlySortedBy}
use Rattle.bucket_api.specs.declared.objects.Object.{Object}
use Rattle.bucket_api.specs.Metadata.{text_cmp, KeysRise}
use Rattle.bucket_api.specs.Names.{IsObjectName}
use Rattle.bucket_api.specs.Operation.{max_content}

-- the entries are sorted by name, as those of a `BTreeMap`
pub record BucketState : Type 0 where
  pub entries : List (List ℕ × Object)
  pub last : ℕ

-- a bucket that never held an object
abbrev pub empty_bucket : BucketState
empty_bucket = record { entries = []; last = 0 }

-- the live object of a name
abbrev pub object_at : BucketState → List ℕ → Option Object
object_at b name = lookup (is_at (text_cmp name)) b.entries

-- the live object of a name, where it has the generation
abbrev pub object_of : BucketState → List ℕ → ℕ → Option Object
object_of b name generation = option_and_then (λ o. if o.meta.generation == generation then Some o else None) (object_at b name)

-- the live generation of a name, 0 where none is live
abbrev pub generation_at : BucketState → List ℕ → ℕ
generation_at b name = option_map_or (λ o. o.meta.generation) (object_at b name) 0

-- the live metageneration of a name, 0 where none is live
abbrev pub metageneration_at : BucketState → List ℕ → ℕ
metageneration_at b name = option_map_or (λ o. o.meta.metageneration) (object_at b name) 0

-- the object may stand under the name, where `last` is the last generation given
pub record IsStored (last : ℕ) (name : List ℕ) (o : Object) : Type 0 where
  pub allowed : IsObjectName name
  pub named : o.meta.name ≡ name
  pub numbered : 1 ≤ o.meta.generation
  pub given : o.meta.generation ≤ last
  pub sized : o.meta.size ≡ length o.content
  pub bounded : length o.content ≤ max_content
  pub pairs : KeysRise o.meta.pairs

-- names rise, so none stands twice, and each object may stand under its name
pub record IsBucket (b : BucketState) : Type 0 where
  pub ordered : IsStrictlySortedBy text_cmp (keys_of b.entries)
  pub stored : AllByRecursion (λ e. IsStored b.last e.0 e.1) b.entries

-- one more generation, and one more metageneration of any object, are still 64-bit numbers
pub record HasRoom (b : BucketState) : Type 0 where
  pub last : b.last < 2 ^ 64 - 1
  pub metageneration : (name : List ℕ) → metageneration_at b name < 2 ^ 64 - 1

-- no generation and no metageneration is above this number
pub record IsWithin (most : ℕ) (b : BucketState) : Type 0 where
  pub last : b.last ≤ most
  pub metageneration : (name : List ℕ) → metageneration_at b name ≤ most
