-- Reading the source of a file's content, which stands under the file's name as one generation of its object.
use Rattle.std.specs.Prelude.{ℕ, List, [], ◌∷◌, Option, Some, None, nat_lt, take, drop, if◌then◌else◌}
use Rattle.bucket_api.specs.declared.answers.Answer.{Answer}
use Rattle.bucket_api.specs.declared.answers.Answer.TheVariants as answers
use Rattle.staging_spec.specs.Wanted.{Range}
use Rattle.mount_rules.specs.Plans.{Source, Step, Wanted, done, may_read}
use Rattle.mount_rules.specs.View.{Sight}

abbrev pub source_of : Sight → Source
source_of file = record { name = file.name; generation = file.source; size = file.size }

-- the range of a generation, where any byte lies in it
abbrev pub wanting : List ℕ → ℕ → Range → Option Wanted
wanting name generation range = if nat_lt 0 range.count then Some (record { name = name; generation = generation; range = range }) else None

abbrev pub bytes_in : Range → List ℕ → List ℕ
bytes_in range content = take range.count (drop range.first content)

-- What the reads of a source came to: all were given bytes; or the generation is live no more; or the bucket failed.
pub data Reads : Type 0 where
  given : Reads
  gone : Reads
  failed : Reads

abbrev pub reads : List Answer → Reads
reads [] = given
reads (answers.Bytes bytes ∷ more) = reads more
reads (answers.NotFound ∷ more) = gone
reads (_ ∷ more) = failed

-- the source may be read until a read isn't given bytes
abbrev pub while_given : Source → Reads → Step
while_given source given = may_read source done
while_given source gone = done
while_given source failed = done
