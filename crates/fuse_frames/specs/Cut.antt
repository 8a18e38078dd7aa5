-- How a stream of bytes is cut into request frames, all of it at once: each request of Linux fuse.h begins with the
-- number of its bytes.
use Rattle.std.specs.Prelude.{◌≡◌, ◌<◌, ◌≤◌, ◌++◌, ◌⊎◌, ℕ, List, All, length, take}
use Rattle.std.specs.List.{concat}
use Rattle.fuse_head.specs.Head.{longest_frame, IsWholeFrame}
use Rattle.fuse_head.specs.Little.{u32_at}

-- no whole frame stands at the front of the bytes
abbrev pub IsUnfinished : List ℕ → Type 0
IsUnfinished rest = (n : ℕ) → ¬ IsWholeFrame (take n rest)

-- the stream is these whole frames, one behind the other, and a rest that begins with none
pub record Cuts (stream : List ℕ) (frames : List (List ℕ)) (rest : List ℕ) : Type 0 where
  pub joined : stream ≡ concat frames ++ rest
  pub whole : All IsWholeFrame frames
  pub unfinished : IsUnfinished rest

-- the four bytes of a len are there, and it is below 40
pub record IsBelow40 (rest : List ℕ) : Type 0 where
  pub told : 4 ≤ length rest
  pub below : u32_at rest 0 < 40

-- the four bytes of a len are there, and it is above 135,168
pub record IsOver (rest : List ℕ) : Type 0 where
  pub told : 4 ≤ length rest
  pub over : longest_frame < u32_at rest 0

-- the four bytes of a len aren't all there, or it is one that a frame may have
pub record HasNoBadLen (rest : List ℕ) : Type 0 where
  pub least : 4 ≤ length rest → 40 ≤ u32_at rest 0
  pub most : 4 ≤ length rest → u32_at rest 0 ≤ longest_frame

-- a bad len stands at the front
abbrev pub IsBad : List ℕ → Type 0
IsBad rest = IsBelow40 rest ⊎ IsOver rest

-- what is kept of a rest: all of it, or the four bytes of a bad len
abbrev pub IsKeptOf : List ℕ → List ℕ → Type 0
IsKeptOf rest kept = (HasNoBadLen rest × (kept ≡ rest)) ⊎ (IsBad rest × (kept ≡ take 4 rest))
