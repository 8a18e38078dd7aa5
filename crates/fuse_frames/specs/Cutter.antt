-- What a cutter is to its callers, and what each of its calls makes of it.
use Rattle.std.specs.Prelude.{◌≡◌, ◌≢◌, ◌+◌, ◌++◌, ℕ, List, [], ◌∷◌, Option, None, Some, Result, Ok, Err, length, take}
use Rattle.std.specs.List.{concat}
use Rattle.fuse_head.specs.Head.{IsWholeFrame}
use Rattle.fuse_frames.specs.Cut.{Cuts, IsBelow40, IsOver, HasNoBadLen, IsKeptOf}
use Rattle.fuse_frames.specs.declared.fault.CutFault.{CutFault}
use Rattle.fuse_frames.specs.declared.fault.CutFault.TheVariants.{LenBelow40, LenOver, NoMemory, Truncated}

-- a cutter: the bytes of the frames that it has given, the frames that it holds, and the bytes behind them;
-- of a rest that begins with a bad len it keeps the four bytes of the len alone
pub record Cutter : Type 0 where
  pub given : ℕ
  pub held : List (List ℕ)
  pub rest : List ℕ

-- a cutter that has been fed nothing
abbrev pub fresh : Cutter
fresh = record { given = 0; held = []; rest = [] }

-- the bytes that were fed and not yet given
abbrev pub pending : Cutter → List ℕ
pending cutter = concat cutter.held ++ cutter.rest

-- the place in the stream of the first byte behind the last whole frame
abbrev pub place : Cutter → ℕ
place cutter = cutter.given + length (concat cutter.held)

-- how many bytes were fed, those behind a bad len not counted
abbrev pub fed : Cutter → ℕ
fed cutter = place cutter + length cutter.rest

-- the cutter goes on by these bytes: what was pending is cut anew with them behind it
pub record Feeds (old : Cutter) (bytes : List ℕ) (new : Cutter) : Type 0 where
  pub given : new.given ≡ old.given
  pub cut : Cuts (pending old ++ bytes) new.held new.rest
  pub sound : HasNoBadLen new.rest

-- the cutter comes upon a bad len, or has come upon one before: `rest` is all that stands behind the last
-- whole frame, and what is told is the place of its first byte
pub record StopsAt (Bad : List ℕ → Type 0) (old : Cutter) (bytes : List ℕ) (told : ℕ) (new : Cutter) : Type 0 where
  pub rest : List ℕ
  pub given : new.given ≡ old.given
  pub cut : Cuts (pending old ++ bytes) new.held rest
  pub bad : Bad rest
  pub kept : new.rest ≡ take 4 rest
  pub at : told ≡ place new

-- what `feed` answers and leaves; memory is asked for only while no bad len was met
abbrev pub Fed : {U : Type 0} → Cutter → List ℕ → Result U CutFault → Cutter → Type 0
Fed old bytes (Ok _) new = Feeds old bytes new
Fed old bytes (Err NoMemory) new = (new ≡ old) × HasNoBadLen old.rest
Fed old bytes (Err (LenBelow40 at)) new = StopsAt IsBelow40 old bytes at new
Fed old bytes (Err (LenOver at)) new = StopsAt IsOver old bytes at new
Fed old bytes (Err (Truncated at)) new = ⊥

-- the cutter gives the frame that has waited longest
pub record GivesFrame (old : Cutter) (frame : List ℕ) (new : Cutter) : Type 0 where
  pub first : old.held ≡ frame ∷ new.held
  pub given : new.given ≡ old.given + length frame
  pub rest : new.rest ≡ old.rest
  pub whole : IsWholeFrame frame

-- what `next` answers and leaves
abbrev pub GivesNext : Cutter → Option (List ℕ) → Cutter → Type 0
GivesNext old None new = (old.held ≡ []) × (new ≡ old)
GivesNext old (Some frame) new = GivesFrame old frame new

-- the cutter has come upon this bad len, at this place
abbrev pub HasStopped : CutFault → Cutter → Type 0
HasStopped NoMemory cutter = ⊥
HasStopped (LenBelow40 at) cutter = IsBelow40 cutter.rest × (at ≡ place cutter)
HasStopped (LenOver at) cutter = IsOver cutter.rest × (at ≡ place cutter)
HasStopped (Truncated at) cutter = ⊥

-- what `finish` answers
abbrev pub Finishes : {U : Type 0} → Cutter → Result U CutFault → Type 0
Finishes cutter (Ok _) = cutter.rest ≡ []
Finishes cutter (Err NoMemory) = ⊥
Finishes cutter (Err (LenBelow40 at)) = IsBelow40 cutter.rest × (at ≡ place cutter)
Finishes cutter (Err (LenOver at)) = IsOver cutter.rest × (at ≡ place cutter)
Finishes cutter (Err (Truncated at)) = HasNoBadLen cutter.rest × (cutter.rest ≢ []) × (at ≡ place cutter)

-- the cutter has been fed this stream and has given these frames: they and those that it holds are the frames of the
-- stream, however it was fed
pub record HasRead (stream : List ℕ) (gave : List (List ℕ)) (cutter : Cutter) : Type 0 where
  pub rest : List ℕ
  pub cut : Cuts stream (gave ++ cutter.held) rest
  pub given : cutter.given ≡ length (concat gave)
  pub kept : IsKeptOf rest cutter.rest

-- the stream with the bytes that a call of `feed` has taken in
abbrev pub stream_after : {U : Type 0} → List ℕ → List ℕ → Result U CutFault → List ℕ
stream_after stream bytes (Ok _) = stream ++ bytes
stream_after stream bytes (Err NoMemory) = stream
stream_after stream bytes (Err (LenBelow40 at)) = stream ++ bytes
stream_after stream bytes (Err (LenOver at)) = stream ++ bytes
stream_after stream bytes (Err (Truncated at)) = stream

-- the frames given with the one that a call of `next` gives
abbrev pub gave_after : List (List ℕ) → Option (List ℕ) → List (List ℕ)
gave_after gave None = gave
gave_after gave (Some frame) = gave ++ frame ∷ []
