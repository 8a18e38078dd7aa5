-- What a cutter keeps true of its own fields, and what its steps make of them.
use Rattle.std.specs.Prelude.{◌≡◌, ◌++◌, ℕ, List, All, Result, Ok, Err, length}
use Rattle.std.specs.List.{concat}
use Rattle.fuse_head.specs.Head.{IsWholeFrame}
use Rattle.fuse_frames.specs.Cut.{Cuts, IsBad, HasNoBadLen, IsUnfinished, IsKeptOf}
use Rattle.fuse_frames.specs.Cutter.{Cutter, HasStopped, pending}
use Rattle.fuse_frames.specs.declared.fault.CutFault.{CutFault}

-- the frames held are whole and the rest begins with none; of a bad len four bytes are kept
pub record IsCutter (cutter : Cutter) : Type 0 where
  pub whole : All IsWholeFrame cutter.held
  pub unfinished : IsUnfinished cutter.rest
  pub four : IsBad cutter.rest → length cutter.rest ≡ 4

-- bytes were cut into frames and what is kept of their rest, and the frames have so many bytes
pub record IsPieces (bytes : List ℕ) (frames : List (List ℕ)) (kept : List ℕ) (size : ℕ) : Type 0 where
  pub rest : List ℕ
  pub cut : Cuts bytes frames rest
  pub keeps : IsKeptOf rest kept
  pub sized : size ≡ length (concat frames)

-- the frame that a rest begins isn't whole yet, or never will be
pub record Waits (old bytes new : List ℕ) : Type 0 where
  pub unfinished : IsUnfinished (old ++ bytes)
  pub keeps : IsKeptOf (old ++ bytes) new

-- the frame that a rest begins is whole, and what stands behind it was cut
pub record Ends (old bytes new : List ℕ) (frames : List (List ℕ)) (kept : List ℕ) (size : ℕ) : Type 0 where
  pub left : List ℕ
  pub joined : old ++ bytes ≡ new ++ left
  pub whole : IsWholeFrame new
  pub behind : IsPieces left frames kept size

-- bytes were taken in: what was pending is cut anew with them behind it
pub record TakesIn (old : Cutter) (bytes : List ℕ) (new : Cutter) : Type 0 where
  pub rest : List ℕ
  pub given : new.given ≡ old.given
  pub cut : Cuts (pending old ++ bytes) new.held rest
  pub keeps : IsKeptOf rest new.rest

-- bytes were taken in, or memory was refused and nothing has changed
abbrev pub TakenIn : {U E : Type 0} → Cutter → List ℕ → Result U E → Cutter → Type 0
TakenIn old bytes (Ok _) new = TakesIn old bytes new
TakenIn old bytes (Err _) new = new ≡ old

-- the bad len that a cutter has come upon, or none
abbrev pub Says : {U : Type 0} → Cutter → Result U CutFault → Type 0
Says cutter (Ok _) = HasNoBadLen cutter.rest
Says cutter (Err fault) = HasStopped fault cutter
