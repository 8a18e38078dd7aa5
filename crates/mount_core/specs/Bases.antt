-- What a request wants of the source of its file, and what it got.
use Rattle.std.specs.Prelude.{◌≡◌, ◌≤◌, ◌+◌, [], length, Option, Some, None}
use Rattle.bucket_api.specs.BucketState.{BucketState, object_of}
use Rattle.bucket_api.specs.declared.objects.Object.{Object}
use Rattle.mount_rules.specs.Plans.{Contents, Wanted}
use Rattle.mount_rules.specs.Reading.{bytes_in}
use Rattle.mount_state.specs.declared.base.Base.{Base}
use Rattle.staging_spec.specs.Slices.{Holds}

-- the bucket has the generation that is wanted, as this object
abbrev pub HasLive : BucketState → Wanted → Object → Type 0
HasLive bucket wanted o = object_of bucket wanted.name wanted.generation ≡ Some o

-- the bucket has it no more
abbrev pub IsGone : BucketState → Wanted → Type 0
IsGone bucket wanted = object_of bucket wanted.name wanted.generation ≡ None

-- all bytes that are wanted were read, as they stand
pub record IsRead (bucket : BucketState) (wanted : Wanted) (base : Base) : Type 0 where
  pub object : Object
  pub is_live : HasLive bucket wanted object
  pub first : base.first ≡ wanted.range.first
  pub bytes : base.bytes ≡ bytes_in wanted.range object.content

-- nothing was read where nothing is wanted
abbrev pub HasRead : BucketState → Option Wanted → Base → Type 0
HasRead bucket None base = base.bytes ≡ []
HasRead bucket (Some wanted) base = IsRead bucket wanted base

-- the base has bytes of the generation of which some are wanted, as it is in these contents
abbrev pub HoldsBase : Contents → Option Wanted → Base → Type 0
HoldsBase contents None base = base.bytes ≡ []
HoldsBase contents (Some wanted) base = Holds (contents wanted.name wanted.generation) base.first base.bytes

-- where the generation is live that is wanted, all bytes are there that are wanted of it
abbrev pub HasBytes : BucketState → Option Wanted → Type 0
HasBytes bucket None = Unit {0}
HasBytes bucket (Some wanted) = (o : Object) → HasLive bucket wanted o → wanted.range.first + wanted.range.count ≤ length o.content
