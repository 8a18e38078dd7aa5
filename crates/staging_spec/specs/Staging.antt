-- The staged content of a file: what it is now, which blocks were touched, and how much of the source it still has.
use Rattle.std.specs.Prelude.{ℕ, List, [], length, min}
use Rattle.staging_spec.specs.Content.{patch, resize}
use Rattle.staging_spec.specs.Blocks.{touch, untouch, met, newly_met}

-- the content, the blocks touched by a WRITE, which rise, and the limit: the least length that the content has had since
-- it was staged, beginning with the source's
pub record Staging : Type 0 where
  pub content : List ℕ
  pub touched : List ℕ
  pub limit : ℕ

-- a source is staged
abbrev pub staged : List ℕ → Staging
staged source = record { content = source; touched = []; limit = length source }

-- these bytes are written at an offset, which touches the blocks that they meet
abbrev pub written : Staging → ℕ → List ℕ → Staging
written staging offset bytes = record {
  content = patch staging.content offset bytes;
  touched = touch staging.touched (met offset (length bytes));
  limit = staging.limit;
}

-- the content gets another length, which untouches the blocks that begin at or after it
abbrev pub resized : Staging → ℕ → Staging
resized staging size = record {
  content = resize staging.content size;
  touched = untouch staging.touched size;
  limit = min staging.limit size;
}

-- how many blocks a WRITE of so many bytes at an offset would newly touch
abbrev pub needed : List ℕ → ℕ → ℕ → ℕ
needed touched offset count = length (newly_met touched offset count)
