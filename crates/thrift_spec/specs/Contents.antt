-- The contents of kept files, as a log tells of them.
use Rattle.std.specs.List.{AllByRecursion}
use Rattle.std.specs.Prelude.{◌≡◌, ◌≤◌, ℕ, List, ◌∷◌, length, Some}
use Rattle.bucket_api.specs.BucketState.{BucketState}
use Rattle.bucket_api.specs.Log as bucket_log
use Rattle.bucket_api.specs.LogEvent.{LogEvent}
use Rattle.cache_spec.specs.KeptFiles.{KeptFiles}
use Rattle.cache_spec.specs.declared.file_key.FileKey.{FileKey}
use Rattle.mount_model.specs.declared.journal.Fill.TheVariants as fills
use Rattle.mount_model.specs.declared.journal.Fill.{Fill}

-- the file's generation has this content, as the log tells of it
abbrev pub IsContent : BucketState → List LogEvent → FileKey × List ℕ → Type 0
IsContent start log file = bucket_log.content_of start log file.0.name file.0.generation ≡ Some file.1

-- each kept file does
abbrev pub AreContents : BucketState → List LogEvent → KeptFiles → Type 0
AreContents start log files = AllByRecursion (IsContent start log) files

-- ---- fills
-- it holds of what a fill keeps
abbrev pub IfFilled : (FileKey × List ℕ → Type 0) → Fill → List (FileKey × List ℕ) → Type 0
IfFilled P fills.Kept (whole ∷ more) = P whole
IfFilled P fill wholes = Unit {0}

-- a fill keeps no empty file
abbrev pub FillsSome : Fill → List (FileKey × List ℕ) → Type 0
FillsSome fill wholes = IfFilled (λ (whole : FileKey × List ℕ). 1 ≤ length whole.1) fill wholes
