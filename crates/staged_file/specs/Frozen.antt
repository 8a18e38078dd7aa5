-- What contracts see of a copy of staged content apart from its pool.
use Rattle.std.specs.Prelude.{◌≡◌, ℕ, ◌*◌, ◌/◌, ◌<◌, ◌≤◌, ◌&&◌, Bool, false, not, cond, List, IsTrue, filter, length, nat_lt, slice_index, slice_index_or}
use Rattle.staging_spec.specs.Blocks.{numbers_from, is_among}
use Rattle.staging_spec.specs.Wanted.{Range, span}
use Rattle.staged_file.specs.Staged.{bytes_below}

-- the bytes that it has, which blocks were touched, and the limit
pub record FrozenFile : Type 0 where
  pub bytes : List ℕ
  pub touched : List Bool
  pub limit : ℕ

-- whether a byte is still the source's
abbrev pub frozen_lacks : FrozenFile → ℕ → Bool
frozen_lacks frozen byte = nat_lt byte frozen.limit && not (slice_index_or frozen.touched (byte / 65536) false)

-- the content over a source
abbrev pub frozen_content : FrozenFile → List ℕ → List ℕ
frozen_content frozen source = bytes_below (λ byte. cond (frozen_lacks frozen byte) (slice_index source byte) (slice_index frozen.bytes byte)) (length frozen.bytes)

-- the range of the source that it lacks
abbrev pub frozen_wanted : FrozenFile → Range
frozen_wanted frozen = span (filter (frozen_lacks frozen) (numbers_from 0 frozen.limit))

-- ---- while it is made and finished
-- The blocks below one are told of, and copied where they are touched; all other bytes are zeros.
pub record Copies (touched : List ℕ) (shown : List ℕ → ℕ → ℕ) (size : ℕ) (bytes : List ℕ) (told : List Bool) (block : ℕ) : Type 0 where
  pub len : length told ≡ block
  pub told_of : (b : ℕ) → b < block → slice_index_or told b false ≡ is_among touched b
  pub copied : (source : List ℕ) (i : ℕ) → i < size → i < block * 65536 → IsTrue (is_among touched (i / 65536)) → slice_index bytes i ≡ shown source i
  pub zeros : (i : ℕ) → is_among touched (i / 65536) ≡ false → slice_index bytes i ≡ 0
  pub later : (i : ℕ) → block * 65536 ≤ i → slice_index bytes i ≡ 0

-- Below a place the bytes that are still the source's are there; all others are as they were.
pub record Fills (touched : List Bool) (limit : ℕ) (source was now : List ℕ) (upto : ℕ) : Type 0 where
  pub filled : (i : ℕ) → i < upto → i < limit → slice_index_or touched (i / 65536) false ≡ false → slice_index now i ≡ slice_index source i
  pub held : (i : ℕ) → IsTrue (slice_index_or touched (i / 65536) false) → slice_index now i ≡ slice_index was i
  pub later : (i : ℕ) → upto ≤ i → slice_index now i ≡ slice_index was i
  pub past : (i : ℕ) → limit ≤ i → slice_index now i ≡ slice_index was i
