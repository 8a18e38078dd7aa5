-- The layout of a body: its fixed part, what stands behind that, and the request that they make.
use Rattle.std.specs.Prelude.{ℕ, List, Result, Ok}
use Rattle.fuse_head.specs.Little.{u32_at, u32_bytes, u64_bytes}
use Rattle.std.specs.List.{flat_map}
use Rattle.fuse_requests.specs.declared.fault.BodyFault.{BodyFault}
use Rattle.fuse_requests.specs.declared.request.Forgotten.{Forgotten}
use Rattle.fuse_requests.specs.declared.request.Request.{Request}
use Rattle.fuse_requests.specs.Parts.{◌>>=◌, after_fixed, ended, last_name, last_two_names, last_bytes, last_pairs}

-- Each has the number of bytes of the fixed part, and the request, made of the whole body, by the offsets of
-- its fields, and of what stands behind the fixed part.
pub data Layout : Type 0 where
  -- nothing
  alone : ℕ → (List ℕ → Request) → Layout
  -- anything, which is ignored
  open_ended : ℕ → (List ℕ → Request) → Layout
  -- a name
  named : ℕ → (List ℕ → List ℕ → Request) → Layout
  -- two names
  twice_named : ℕ → (List ℕ → List ℕ → List ℕ → Request) → Layout
  -- as many bytes as the u32 at this offset tells
  filled : ℕ → ℕ → (List ℕ → List ℕ → Request) → Layout
  -- as many pairs as the u32 at this offset tells
  paired : ℕ → ℕ → (List Forgotten → Request) → Layout

-- the request of a body of this layout, or its first fault
abbrev pub read_body : Layout → List ℕ → Result Request BodyFault
read_body (alone fixed make) body = after_fixed fixed body >>= λ rest. ended rest >>= λ _. Ok (make body)
read_body (open_ended fixed make) body = after_fixed fixed body >>= λ _. Ok (make body)
read_body (named fixed make) body = after_fixed fixed body >>= λ rest. last_name rest >>= λ name. Ok (make body name)
read_body (twice_named fixed make) body = after_fixed fixed body >>= λ rest. last_two_names rest >>= λ names. Ok (make body names.0 names.1)
read_body (filled fixed size make) body = after_fixed fixed body >>= λ rest. last_bytes (u32_at body size) rest >>= λ content. Ok (make body content)
read_body (paired fixed count make) body = after_fixed fixed body >>= λ rest. last_pairs (u32_at body count) rest >>= λ pairs. Ok (make pairs)

-- A field of a fixed part, for writing: four bytes or eight.
pub data Field : Type 0 where
  w32 : ℕ → Field
  w64 : ℕ → Field

abbrev pub field_bytes : Field → List ℕ
field_bytes (w32 n) = u32_bytes n
field_bytes (w64 n) = u64_bytes n

-- the text of a fixed part
abbrev pub fields_text : List Field → List ℕ
fields_text fields = flat_map field_bytes fields
