-- What the steps of cutting say of the front of bytes.
use Rattle.std.specs.Prelude.{◌≡◌, ◌<◌, ◌≤◌, ◌++◌, ◌⊎◌, ℕ, List, [], Option, None, Some, length, max, take}
use Rattle.fuse_head.specs.Head.{longest_frame, IsWholeFrame}
use Rattle.fuse_head.specs.Little.{u32_at}
use Rattle.fuse_frames.specs.Cut.{IsBad, IsBelow40, IsOver, HasNoBadLen, IsUnfinished}
use Rattle.fuse_frames.specs.declared.fault.CutFault.{CutFault}
use Rattle.fuse_frames.specs.declared.fault.CutFault.TheVariants.{LenBelow40, LenOver, NoMemory, Truncated}

-- which bad len the bytes begin with, named with their place
abbrev pub SaysBadLen : List ℕ → ℕ → Option CutFault → Type 0
SaysBadLen rest place None = HasNoBadLen rest
SaysBadLen rest place (Some NoMemory) = ⊥
SaysBadLen rest place (Some (LenBelow40 at)) = IsBelow40 rest × (at ≡ place)
SaysBadLen rest place (Some (LenOver at)) = IsOver rest × (at ≡ place)
SaysBadLen rest place (Some (Truncated at)) = ⊥

-- the four bytes of a len are there, and it is one that a frame may have
pub record TellsLen (rest : List ℕ) (len : ℕ) : Type 0 where
  pub told : 4 ≤ length rest
  pub is : u32_at rest 0 ≡ len
  pub least : 40 ≤ len
  pub most : len ≤ longest_frame

-- the len of the frame at the front, where it can be told
abbrev pub SaysLen : List ℕ → Option ℕ → Type 0
SaysLen rest None = (length rest < 4) ⊎ IsBad rest
SaysLen rest (Some len) = TellsLen rest len

-- the bytes are a whole frame and what stands behind it
pub record BeginsWithFrame (bytes frame behind : List ℕ) : Type 0 where
  pub joined : bytes ≡ frame ++ behind
  pub whole : IsWholeFrame frame

-- bytes went over from the front of `bytes` behind `old`, until there were `size` of them or none was left
pub record Fills (old : List ℕ) (size : ℕ) (bytes new left : List ℕ) : Type 0 where
  pub joined : old ++ bytes ≡ new ++ left
  pub kept : take (length old) new ≡ old
  pub enough : (size ≤ length new) ⊎ (left ≡ [])
  pub most : length new ≤ max size (length old)

-- a rest grew until its frame was whole, or its len was known to be bad, or no byte was left
pub record GrowsTo (old bytes new left : List ℕ) : Type 0 where
  pub joined : old ++ bytes ≡ new ++ left
  pub kept : take (length old) new ≡ old
  pub front : IsWholeFrame new ⊎ ((HasNoBadLen new × IsUnfinished new × (left ≡ [])) ⊎ (IsBad new × (length new ≡ 4)))
