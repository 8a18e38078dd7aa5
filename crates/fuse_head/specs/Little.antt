-- Little-endian numbers as fields of a list of bytes: the number that stands at a place, and the bytes of
-- a number. The words are opened by name where a proof wants their bytes.
use Rattle.std.specs.Prelude.{ℕ, List, drop}
use Rattle.byteorder.specs.Endian.{little_bytes, little_number}

-- the number in the two bytes from the place on, the lowest byte first
unfoldable pub u16_at : List ℕ → ℕ → ℕ
u16_at bytes place = little_number 2 (drop place bytes)

-- the number in the four bytes from the place on
unfoldable pub u32_at : List ℕ → ℕ → ℕ
u32_at bytes place = little_number 4 (drop place bytes)

-- the number in the eight bytes from the place on
unfoldable pub u64_at : List ℕ → ℕ → ℕ
u64_at bytes place = little_number 8 (drop place bytes)

-- the two bytes of a number below 2 ^ 16, the lowest byte first
unfoldable pub u16_bytes : ℕ → List ℕ
u16_bytes n = little_bytes 2 n

-- the four bytes of a number below 2 ^ 32
unfoldable pub u32_bytes : ℕ → List ℕ
u32_bytes n = little_bytes 4 n

-- the eight bytes of a number below 2 ^ 64
unfoldable pub u64_bytes : ℕ → List ℕ
u64_bytes n = little_bytes 8 n
