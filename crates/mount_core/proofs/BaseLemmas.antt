-- The bytes that are wanted of a source are there while it is live, and what was read of them is what is wanted.
use Rattle.std.proofs.Common.{◌≡◌, ◌≤◌, ◌+◌, ℕ, All, Bool, true, false, List, [], Option, Some, None, length, take, drop, unwrap_or, nat_lt, refl, sym, ap, subst, ◌∙◌, arith}
use Rattle.std.proofs.lemmas.List.{length-drop, length-take-le}
use Rattle.std.specs.Prelude.{if◌then◌else◌}
use Rattle.bucket_api.proofs.ContentLaws.{content_of-live}
use Rattle.bucket_api.specs.BucketState.{BucketState, IsBucket, object_of}
use Rattle.bucket_api.specs.Log.{content_of}
use Rattle.bucket_api.specs.Operation.{IsAllowed}
use Rattle.bucket_api.specs.declared.objects.Object.{Object}
use Rattle.fuse_requests.specs.declared.request.Request.{Request}
use Rattle.mount_core.specs.Bases.{HasBytes, HasRead, HoldsBase, IsRead}
use Rattle.mount_core.specs.Serials.{CameTo, SerialState}
use Rattle.mount_laws.proofs.RequestLaws.{wants_of_files}
use Rattle.mount_model.specs.declared.config.Config.{Config}
use Rattle.mount_rules.specs.Dispatch.{wants}
use Rattle.mount_rules.specs.Laws.{FilesHaveContent, IsOfFile}
use Rattle.mount_rules.specs.Mount.{IsMount, MountModel}
use Rattle.mount_rules.specs.OneThread.{RunState, bucket_of, contents_of}
use Rattle.mount_rules.specs.Plans.{Contents, CoversWanted, HoldsWanted, Wanted}
use Rattle.mount_rules.specs.Reading.{wanting}
use Rattle.mount_state.specs.declared.base.Base.{Base}
use Rattle.staging_spec.specs.Slices.{Covers, Holds}
use Rattle.staging_spec.specs.Wanted.{Range}

-- ---- what was read
-- all bytes that are wanted were read
read_len : (bucket : BucketState) (wanted : Wanted) (base : Base) → HasBytes bucket (Some wanted) → IsRead bucket wanted base → length base.bytes ≡ wanted.range.count
read_len bucket wanted base has is =
    ap length is.bytes ∙ length-take-le wanted.range.count (drop wanted.range.first is.object.content)
    (let l = length-drop wanted.range.first is.object.content in let inside = has is.object is.is_live in omega (arith, l, inside))

-- where nothing is wanted nothing was read
pub holds_base : (contents : Contents) (bucket : BucketState) (found : Option Wanted) (base : Base) → HasRead bucket found base → HoldsWanted contents found base.first base.bytes → HoldsBase contents found base
holds_base contents bucket None base read holds = read
holds_base contents bucket (Some wanted) base read holds = holds

covers_all : (range : Range) → Covers range.first range.count range
covers_all range = λ some. (omega arith, omega arith)

-- ---- what a live object has
-- the object of the generation that is wanted has all bytes that are wanted, for it is as long as the file is
module _ (config : Config) (run : RunState) (request : Request) (valid : IsMount run.mount) (start : IsBucket run.store.start) (allowed : All (λ e. IsAllowed e.op) run.store.log)
    (files : FilesHaveContent run) where
  live_content : (wanted : Wanted) (o : Object) → object_of (bucket_of run.store) wanted.name wanted.generation ≡ Some o
      → content_of run.store.start run.store.log wanted.name wanted.generation ≡ Some o.content
  live_content wanted o live = content_of-live run.store.start run.store.log (length run.store.log) wanted.name wanted.generation o start allowed live

  live_reaches : (wanted : Wanted) → wants config run.mount request ≡ Some wanted → (o : Object) → object_of (bucket_of run.store) wanted.name wanted.generation ≡ Some o
      → wanted.range.first + wanted.range.count ≤ length o.content
  live_reaches wanted wanting_ o live =
      let of_file : IsOfFile run.mount wanted = wants_of_files config run.mount request wanted valid wanting_ in
      let shown = files of_file.number of_file.node of_file.file of_file.there of_file.is_file in
      let same : Some o.content ≡ Some shown.0 =
      sym (live_content wanted o live) ∙ ap (λ n. content_of run.store.start run.store.log n wanted.generation) of_file.named
      ∙ ap (content_of run.store.start run.store.log of_file.node.name) of_file.shown ∙ shown.1 in
      let long : length o.content ≡ of_file.file.size = ap length (let one : o.content ≡ shown.0 = cc in one) ∙ shown.2 in
      let inside = of_file.inside in
      omega (arith, long, inside)

  pub live_has_bytes : (found : Option Wanted) → wants config run.mount request ≡ found → HasBytes (bucket_of run.store) found
  live_has_bytes None wanting_ = tt
  live_has_bytes (Some wanted) wanting_ = λ o live. live_reaches wanted wanting_ o live

-- ---- what a run makes of that
module _ (config : Config) (before : SerialState) (request : Request) (is : IsMount before.mount) (run : RunState) (came : CameTo run before) where
  -- a live object of the generation that is wanted has its content
  known : (wanted : Wanted) (o : Object) → object_of before.store.bucket wanted.name wanted.generation ≡ Some o
      → content_of run.store.start run.store.log wanted.name wanted.generation ≡ Some o.content
  known wanted o live = live_content config run request (subst IsMount came.mount is) came.store.start came.store.allowed came.files wanted o
      (subst (λ (b : BucketState). object_of b wanted.name wanted.generation ≡ Some o) came.store.bucket live)

  pub has_bytes : (found : Option Wanted) → wants config before.mount request ≡ found → HasBytes before.store.bucket found
  has_bytes found wanting_ = subst (λ (b : BucketState). HasBytes b found) (sym came.store.bucket)
      (live_has_bytes config run request (subst IsMount came.mount is) came.store.start came.store.allowed came.files found (subst (λ (m : MountModel). wants config m request ≡ found) came.mount wanting_))

  pub holds_all : (found : Option Wanted) → wants config before.mount request ≡ found → (base : Base) → HasRead before.store.bucket found base
      → HoldsWanted (contents_of run.store) found base.first base.bytes
  holds_all None wanting_ base read = tt
  holds_all (Some wanted) wanting_ base read =
      let found : content_of run.store.start run.store.log wanted.name wanted.generation ≡ Some read.object.content = known wanted read.object read.is_live in
      let long : length base.bytes ≡ wanted.range.count = read_len before.store.bucket wanted base (has_bytes (Some wanted) wanting_) read in
      ap (λ (c : Option (List ℕ)). take (length base.bytes) (drop base.first (unwrap_or c []))) found
      ∙ ap (λ n. take (length base.bytes) (drop n read.object.content)) read.first
      ∙ ap (λ n. take n (drop wanted.range.first read.object.content)) long
      ∙ sym read.bytes

  -- what was read is as it is in the run
  pub holds_read : (found : Option Wanted) → wants config before.mount request ≡ found → (base : Base) → HasRead before.store.bucket found base → HoldsBase (contents_of run.store) found base
  holds_read found wanting_ base read = holds_base (contents_of run.store) before.store.bucket found base read (holds_all found wanting_ base read)

  -- and reaches over what is wanted
  pub covers_read : (found : Option Wanted) → wants config before.mount request ≡ found → (base : Base) → HasRead before.store.bucket found base → CoversWanted found base.first (length base.bytes)
  covers_read None wanting_ base read = tt
  covers_read (Some wanted) wanting_ base read =
      let long : length base.bytes ≡ wanted.range.count = read_len before.store.bucket wanted base (has_bytes (Some wanted) wanting_) read in
      subst (λ n. Covers base.first n wanted.range) (sym long) (subst (λ n. Covers n wanted.range.count wanted.range) (sym read.first) (covers_all wanted.range))

-- ---- a range that is wanted, where any byte is
pub holds_range : (contents : Contents) (name : List ℕ) (generation : ℕ) (range : Range) (base : Base) → HoldsBase contents (wanting name generation range) base
    → Holds (contents name generation) base.first base.bytes
holds_range contents name generation range base holds = by (nat_lt 0 range.count) holds
  where
    by : (any : Bool) → HoldsBase contents (if any then Some (record { name = name; generation = generation; range = range }) else None) base → Holds (contents name generation) base.first base.bytes
    by true holds_it = holds_it
    by false none = subst (λ (bytes : List ℕ). Holds (contents name generation) base.first bytes) (sym none) refl
