-- The files that a mount keeps have the contents of their generations, as the log tells of them.
use Rattle.std.proofs.Common.{◌≡◌, ◌-◌, ℕ, Bool, true, false, append-nil, cond, All, IfSome, List, [], ◌∷◌, ◌++◌, nat_eq, nat_le, Option, Some, None, take, refl, sym, ap, subst, ◌∙◌, arith}
use Rattle.std.proofs.Math.Seq.{take-length}
use Rattle.std.proofs.lemmas.Bool.Decides.{nat_tests}
use Rattle.std.specs.Cmp.Lexicographic.{pointwise}
use Rattle.std.specs.List.{AllByRecursion}
use Rattle.std.specs.Map.{lookup_entry, remove_entry}
use Rattle.std.specs.Option.{option_map_or}
use Rattle.std.specs.Prelude.{unwrap_or}
use Rattle.bucket_api.proofs.ContentLaws.{content_of-grown}
use Rattle.bucket_api.specs.BucketState.{BucketState, IsBucket}
use Rattle.bucket_api.specs.Log as bucket_log
use Rattle.bucket_api.specs.Log.{answer_by, event_at, state_at}
use Rattle.bucket_api.specs.LogEvent.{LogEvent}
use Rattle.bucket_api.specs.Operation.{IsAllowed}
use Rattle.cache_spec.specs.KeptFiles.{KeptFiles, blocks_of, content_of, filled, fitting, is_kept, made_room, same_file, used}
use Rattle.cache_spec.specs.declared.file_key.FileKey.{FileKey}
use Rattle.history_spec.specs.Account.{Item}
use Rattle.history_spec.specs.JournalState.{JournalState, OpenCall}
use Rattle.history_spec.specs.Laws.{IsTaken}
use Rattle.history_spec.specs.Observing.{seen_by}
use Rattle.mount_model.specs.declared.config.Config.{Config}
use Rattle.mount_model.specs.declared.journal.Fill.{Fill}
use Rattle.mount_model.specs.declared.journal.Fill.TheVariants as fills
use Rattle.mount_rules.specs.Dispatch.{wants}
use Rattle.mount_rules.specs.OneThread.{contents_of}
use Rattle.mount_rules.specs.Plans.{Contents, Wanted}
use Rattle.mount_rules.specs.Rules.{AtTake}
use Rattle.record_spec.proofs.KnownLaws.{same_text}
use Rattle.thrift_spec.proofs.OneCall.{at_is}
use Rattle.thrift_spec.specs.Files.{files_filled, key_wanted, wholes_read}
use Rattle.thrift_spec.specs.Thrift.{Kept}
use Rattle.thrift_spec.specs.Contents.{AreContents, FillsSome, IfFilled, IsContent}
use Rattle.thrift_spec.specs.OneCall.{files_taken, kept_done, kept_taken}
use Rattle.thrift_spec.proofs.WholeReads.{ReadsContent, both_true, wholes_are_contents}

-- ---- what holds of each kept file
module _ (P : FileKey × List ℕ → Type 0) where
  all_removed : (test : FileKey → Bool) (files : KeptFiles) → AllByRecursion P files → AllByRecursion P (remove_entry test files)
  all_removed test [] all = tt
  all_removed test (file ∷ files) all = by (test file.0) (all_removed test files all.1)
    where
      by : (b : Bool) → AllByRecursion P (remove_entry test files) → AllByRecursion P (cond b files (file ∷ remove_entry test files))
      by true rest = all.1
      by false rest = (all.0, rest)

  entry_has : (test : FileKey → Bool) (files : KeptFiles) → AllByRecursion P files → IfSome (lookup_entry test files) P
  entry_has test [] all = tt
  entry_has test (file ∷ files) all = by (test file.0) (entry_has test files all.1)
    where
      by : (b : Bool) → IfSome (lookup_entry test files) P → IfSome (cond b (Some file) (lookup_entry test files)) P
      by true rest = all.0
      by false rest = rest

  pub all_used : (files : KeptFiles) (key : FileKey) → AllByRecursion P files → AllByRecursion P (used files key)
  all_used files key all = by (lookup_entry (same_file key) files) (entry_has (same_file key) files all)
    where
      by : (found : Option (FileKey × List ℕ)) → IfSome found P → AllByRecursion P (option_map_or (λ file. file ∷ remove_entry (same_file key) files) found files)
      by None has = all
      by (Some file) has = (has, all_removed (same_file key) files all)

  all_fitting : (room : ℕ) (files : KeptFiles) → AllByRecursion P files → AllByRecursion P (fitting room files)
  all_fitting room [] all = tt
  all_fitting room (file ∷ files) all = by (nat_le (blocks_of file.1) room) (all_fitting (room - blocks_of file.1) files all.1)
    where
      by : (b : Bool) → AllByRecursion P (fitting (room - blocks_of file.1) files) → AllByRecursion P (cond b (file ∷ fitting (room - blocks_of file.1) files) [])
      by true rest = (all.0, rest)
      by false rest = tt

  all_filled : (capacity : ℕ) (files : KeptFiles) (key : FileKey) (content : List ℕ) → AllByRecursion P files → P (key, content) → AllByRecursion P (filled capacity files key content)
  all_filled capacity files key content all has = by (is_kept files key)
    where
      by : (b : Bool) → AllByRecursion P (cond b (used files key) ((key, content) ∷ made_room capacity files content))
      by true = all_used files key all
      by false = (has, all_fitting (capacity - blocks_of content) files all)

  pub all_files_filled : (capacity : ℕ) (fill : Fill) (files : KeptFiles) (wholes : List (FileKey × List ℕ)) → AllByRecursion P files → IfFilled P fill wholes
      → AllByRecursion P (files_filled capacity fill files wholes)
  all_files_filled capacity fills.Kept files (whole ∷ more) all has = all_filled capacity files whole.0 whole.1 all has
  all_files_filled capacity fills.NoMemory files (whole ∷ more) all has = all_fitting (capacity - blocks_of whole.1) files all
  all_files_filled capacity fills.Nothing files (whole ∷ more) all has = all
  all_files_filled capacity fills.Kept files [] all has = all
  all_files_filled capacity fills.NoMemory files [] all has = all
  all_files_filled capacity fills.Nothing files [] all has = all

pub contents_grow : (start : BucketState) (log more : List LogEvent) (files : KeptFiles) → AreContents start log files → AreContents start (log ++ more) files
contents_grow start log more [] all = tt
contents_grow start log more (file ∷ files) all =
    (content_of-grown start log more file.0.name file.0.generation file.1 all.0, contents_grow start log more files all.1)

same_key : (one other : FileKey) → same_file one other ≡ true → one ≡ other
same_key one other is =
    let parts = both_true (pointwise nat_eq one.name other.name) (nat_eq one.generation other.generation) is in
    let name : one.name ≡ other.name = same_text one.name other.name parts.0 in
    let number : nat_eq one.generation other.generation ≡ true = parts.1 in
    let generation : one.generation ≡ other.generation = grind (arith, nat_tests) in
    let renamed : one ≡ record { name = other.name; generation = one.generation } = ap (λ (n : List ℕ). record { name = n; generation = one.generation }) name in
    renamed ∙ ap (λ (g : ℕ). record { name = other.name; generation = g }) generation

-- what is kept of a key is what that generation has
pub kept_content : (start : BucketState) (log : List LogEvent) (files : KeptFiles) (key : FileKey) (content : List ℕ) → AreContents start log files → content_of files key ≡ Some content
    → bucket_log.content_of start log key.name key.generation ≡ Some content
kept_content start log [] key content all is = absurd (cc)
kept_content start log (file ∷ files) key content all is = by (same_file key file.0) refl (kept_content start log files key content all.1) is
  where
    by : (b : Bool) → same_file key file.0 ≡ b → (content_of files key ≡ Some content → bucket_log.content_of start log key.name key.generation ≡ Some content) → cond b (Some file.1) (content_of files key) ≡ Some content → bucket_log.content_of start log key.name key.generation ≡ Some content
    by true same later is =
        let key_is : key ≡ file.0 = same_key key file.0 same in
        subst (λ (k : FileKey). bucket_log.content_of start log k.name k.generation ≡ Some content) (sym key_is) (all.0 ∙ is)
    by false other later is = later is

-- so it is what a take at the end of the log knows of it
pub kept_is_known : (start : BucketState) (log : List LogEvent) (files : KeptFiles) (key : FileKey) (content : List ℕ) → AreContents start log files → content_of files key ≡ Some content
    → contents_of (record { start = start; log = log }) key.name key.generation ≡ content
kept_is_known start log files key content all is = ap (λ found. unwrap_or found []) (kept_content start log files key content all is)

-- ---- a call
fills_contents : (start : BucketState) (log : List LogEvent) (fill : Fill) (wholes : List (FileKey × List ℕ)) → AllByRecursion (ReadsContent start log) wholes → FillsSome fill wholes
    → IfFilled (IsContent start log) fill wholes
fills_contents start log fills.Kept (whole ∷ more) reads some = reads.0 some
fills_contents start log fills.NoMemory (whole ∷ more) reads some = tt
fills_contents start log fills.Nothing (whole ∷ more) reads some = tt
fills_contents start log fills.Kept [] reads some = tt
fills_contents start log fills.NoMemory [] reads some = tt
fills_contents start log fills.Nothing [] reads some = tt

module _ (config : Config) (start : BucketState) (log : List LogEvent) (state : JournalState) (o : OpenCall) (taken : IsTaken config start log state o) where
  -- what the call knows of generations from its take, over a longer log too
  known_taken : (more : List LogEvent) → contents_of (record { start = start; log = take o.front (log ++ more) }) ≡ o.taken.at.contents
  known_taken more = ap (λ (at : AtTake). at.contents) (at_is config start log state o taken more)

  -- of what is kept at the take that is the content
  pub kept_is_taken : (files : KeptFiles) (key : FileKey) (content : List ℕ) → AreContents start log files → content_of files key ≡ Some content
      → o.taken.at.contents key.name key.generation ≡ content
  kept_is_taken files key content all is =
      subst (λ (c : Contents). c key.name key.generation ≡ content) (known_taken [])
      (subst (λ events. contents_of (record { start = start; log = events }) key.name key.generation ≡ content) (sym same) (kept_is_known start log files key content all is))
    where
      same : take o.front (log ++ []) ≡ log
      same = ap (take o.front) (append-nil log) ∙ (ap (λ n. take n log) (ap (λ (x : OpenCall). x.front) taken.so) ∙ take-length log)

  -- what is kept once the call is done has the contents of its generations still
  pub contents_after_call : (more : List LogEvent) (kept : Kept) (items : List Item) (fill : Fill) → IsBucket start → All (λ e. IsAllowed e.op) (log ++ more) → AreContents start log kept.files
      → FillsSome fill (wholes_read o.taken.at.contents (seen_by start (log ++ more) items))
      → AreContents start (log ++ more) (kept_done config start (log ++ more) (kept_taken config state kept o) o items fill).files
  contents_after_call more kept items fill bucket asked all some =
      all_files_filled (IsContent start (log ++ more)) config.cache_blocks fill (files_taken config state kept.files o) (wholes_read o.taken.at.contents (seen_by start (log ++ more) items))
      (wanted (wants config state.mount o.taken.request))
      (fills_contents start (log ++ more) fill (wholes_read o.taken.at.contents (seen_by start (log ++ more) items)) reads some)
    where
      reads : AllByRecursion (ReadsContent start (log ++ more)) (wholes_read o.taken.at.contents (seen_by start (log ++ more) items))
      reads = subst (λ (c : Contents). AllByRecursion (ReadsContent start (log ++ more)) (wholes_read c (seen_by start (log ++ more) items))) (known_taken more)
          (wholes_are_contents start (log ++ more) bucket asked o.front items)

      wanted : (found : Option Wanted) → AreContents start (log ++ more) (option_map_or (λ (w : Wanted). used kept.files (key_wanted w)) found kept.files)
      wanted None = contents_grow start log more kept.files all
      wanted (Some w) = all_used (IsContent start (log ++ more)) kept.files (key_wanted w) (contents_grow start log more kept.files all)
