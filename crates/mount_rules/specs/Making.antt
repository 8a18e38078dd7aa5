-- Making an object of a name, only where none is live (Cloud Storage: `ifGenerationMatch=0`): what is asked, and what came
-- of it.
use Rattle.std.specs.Prelude.{ℕ, [], ◌∷◌, List, Some}
use Rattle.bucket_api.specs.Metadata.{Metadata}
use Rattle.bucket_api.specs.declared.answers.Answer.{Answer}
use Rattle.bucket_api.specs.declared.answers.Answer.TheVariants as answers
use Rattle.bucket_api.specs.declared.objects.Pair.{Pair}
use Rattle.bucket_api.specs.Operation.{insert}
use Rattle.fuse_replies.specs.Errno.{eexist, eio}
use Rattle.mount_rules.specs.Plans.{Step, done, ask}

-- the object is empty, and has these pairs
abbrev pub plan : List ℕ → List Pair → ℕ → List Answer → Step
plan name pairs second [] = ask (insert name [] pairs (Some 0) second)
plan name pairs second (a ∷ more) = done

-- What came of the insert: a new object, as the bucket told of it; nothing, since one was live; or the bucket failed.
pub data Made : Type 0 where
  new : Metadata → Made
  exists : Made
  fault : Made

abbrev pub made_by : Answer → Made
made_by (answers.Meta meta) = new meta
made_by (answers.Precondition generation metageneration) = exists
made_by _ = fault

abbrev pub made : List Answer → Made
made [] = fault
made (a ∷ more) = made_by a

-- the error that the request is answered, 0 where the object was made
abbrev pub errno_of : Made → ℕ
errno_of (new meta) = 0
errno_of exists = eexist
errno_of fault = eio
