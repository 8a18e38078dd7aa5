-- The flush of a frozen copy: it takes what the copy lacks, and its content is short.
use Rattle.std.proofs.Common.{◌≡◌, ◌≤◌, ℕ, List, length, take, drop, replicate, sym, ap, subst, ◌∙◌}
use Rattle.std.proofs.Math.Seq.{drop-append_seam, take-length}
use Rattle.std.proofs.lemmas.List.{length-replicate}
use Rattle.std.specs.Prelude.{◌++◌}
use Rattle.bucket_api.specs.Operation.{max_content}
use Rattle.mount_core.proofs.BaseLemmas.{holds_range}
use Rattle.mount_core.specs.Bases.{HoldsBase}
use Rattle.mount_core.specs.Errands.{FlushesFrozen, source_of}
use Rattle.mount_rules.specs.Plans.{Contents}
use Rattle.mount_state.specs.declared.base.Base.{Base}
use Rattle.plan_files.specs.Errands.{wanted_of}
use Rattle.plan_files.specs.declared.errand.FileErrand.{FileErrand}
use Rattle.plan_files.specs.declared.errand.FileErrand.TheVariants.{Attr, Flush, Source, Touch}
use Rattle.staged_file.proofs.Contents.{length-bytes}
use Rattle.staged_file.specs.Frozen.{FrozenFile, frozen_content}
use Rattle.staged_file.specs.Sources.{range_of}
use Rattle.staging_spec.specs.Slices.{Holds}

-- ---- its parts
is_short : (errand : FileErrand) (frozen : FrozenFile) → FlushesFrozen errand frozen → length frozen.bytes ≤ max_content
is_short (Flush name generation wanted pairs) frozen is = is.short
is_short (Attr name) frozen is = absurd is
is_short (Source name generation wanted) frozen is = absurd is
is_short (Touch name generation seconds nanos) frozen is = absurd is

-- ---- what it takes
pub holds_frozen : (errand : FileErrand) (frozen : FrozenFile) (contents : Contents) (base : Base) → FlushesFrozen errand frozen → HoldsBase contents (wanted_of errand) base
    → Holds (source_of errand contents) base.first base.bytes
holds_frozen (Flush name generation wanted pairs) frozen contents base is holds = holds_range contents name generation (range_of wanted) base holds
holds_frozen (Attr name) frozen contents base is holds = absurd is
holds_frozen (Source name generation wanted) frozen contents base is holds = absurd is
holds_frozen (Touch name generation seconds nanos) frozen contents base is holds = absurd is

-- a source that holds the bytes at their place
padded_holds : (first : ℕ) (bytes : List ℕ) → Holds (replicate first 0 ++ bytes) first bytes
padded_holds first bytes =
    ap (take (length bytes)) (ap (λ n. drop n (replicate first 0 ++ bytes)) (sym (length-replicate first 0)) ∙ drop-append_seam (replicate first 0) bytes) ∙ take-length bytes

-- so the content is short, whatever the source
pub content_short : (errand : FileErrand) (frozen : FrozenFile) (first : ℕ) (bytes content : List ℕ) → FlushesFrozen errand frozen
    → ((source : List ℕ) → Holds source first bytes → content ≡ frozen_content frozen source) → length content ≤ max_content
content_short errand frozen first bytes content is whole =
    let source : List ℕ = replicate first 0 ++ bytes in
    let long : length content ≡ length frozen.bytes = ap length (whole source (padded_holds first bytes)) ∙ length-bytes _ (length frozen.bytes) in
    subst (λ n. n ≤ max_content) (sym long) (is_short errand frozen is)
