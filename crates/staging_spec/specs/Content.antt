-- Contents of a file as lists of bytes: zeros, patching by a WRITE and resizing by a size change.
use Rattle.std.specs.Prelude.{ℕ, ◌+◌, ◌-◌, List, [], ◌∷◌, ◌++◌, length, take, drop, replicate}

-- so many zero bytes; the word stays shut, for the count may be large
unfoldable pub zeros : ℕ → List ℕ
zeros count = replicate count 0

-- The content after these bytes are written at an offset (pwrite of POSIX): they stand there, zeros fill a gap between
-- the old end and the offset, and all else is as it was. Writing no byte changes nothing.
abbrev pub patch : List ℕ → ℕ → List ℕ → List ℕ
patch content offset [] = content
patch content offset (byte ∷ bytes) =
    take offset content ++ zeros (offset - length content) ++ (byte ∷ bytes) ++ drop (offset + length (byte ∷ bytes)) content

-- The content at another length (ftruncate of POSIX): its first bytes, followed by zeros where it grows.
abbrev pub resize : List ℕ → ℕ → List ℕ
resize content size = take size content ++ zeros (size - length content)
