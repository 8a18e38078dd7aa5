-- The parts of a request's body, each read at the front of bytes: what it is, or the first fault there.
use Rattle.std.specs.Prelude.{◌≡◌, ◌+◌, ◌*◌, ◌==◌, ℕ, Bool, zero, suc, List, [], ◌∷◌, Option, None, Some, Result, Ok, Err, length, take, drop, nat_lt, position, if◌then◌else◌}
use Rattle.fuse_head.specs.Little.{u64_at}
use Rattle.fuse_requests.specs.declared.fault.BodyFault.{BodyFault}
use Rattle.fuse_requests.specs.declared.fault.BodyFault.TheVariants.{NoMemory, Short, NoZeroByte, LongTail, BadCount}
use Rattle.fuse_requests.specs.declared.request.Forgotten.{Forgotten}

-- read on where there was no fault
infixl 10 ◌>>=◌
abbrev pub ◌>>=◌ : {A B : Type 0} → Result A BodyFault → (A → Result B BodyFault) → Result B BodyFault
(Ok x) >>= next = next x
(Err fault) >>= next = Err fault

-- the bytes after a fixed part of n bytes
abbrev pub after_fixed : ℕ → List ℕ → Result (List ℕ) BodyFault
after_fixed n bytes = if nat_lt (length bytes) n then Err Short else Ok (drop n bytes)

-- nothing is left
abbrev pub ended : List ℕ → Result Unit BodyFault
ended [] = Ok tt
ended (_ ∷ _) = Err LongTail

abbrev pub is_zero : ℕ → Bool
is_zero byte = byte == 0

-- the bytes before the zero byte at this place and those after it
abbrev pub cut_at : List ℕ → Option ℕ → Result (List ℕ × List ℕ) BodyFault
cut_at bytes None = Err NoZeroByte
cut_at bytes (Some place) = Ok (take place bytes, drop (place + 1) bytes)

-- a name, which ends before the first zero byte, and the bytes after that one
unfoldable pub name_at : List ℕ → Result (List ℕ × List ℕ) BodyFault
name_at bytes = cut_at bytes (position is_zero bytes)

-- a name, and nothing after it
abbrev pub last_name : List ℕ → Result (List ℕ) BodyFault
last_name bytes = name_at bytes >>= λ name. ended name.1 >>= λ _. Ok name.0

-- two names, and nothing after them
abbrev pub last_two_names : List ℕ → Result (List ℕ × List ℕ) BodyFault
last_two_names bytes = name_at bytes >>= λ name. last_name name.1 >>= λ other. Ok (name.0, other)

-- exactly size bytes
abbrev pub last_bytes : ℕ → List ℕ → Result (List ℕ) BodyFault
last_bytes size bytes = if nat_lt (length bytes) size then Err Short else ended (drop size bytes) >>= λ _. Ok (take size bytes)

-- count pairs of a node and a number, as struct fuse_forget_one has them, 16 bytes each
abbrev pub pairs_of : ℕ → List ℕ → List Forgotten
pairs_of zero bytes = []
pairs_of (suc count) bytes = record { node = u64_at bytes 0; count = u64_at bytes 8 } ∷ pairs_of count (drop 16 bytes)

-- exactly count pairs
abbrev pub last_pairs : ℕ → List ℕ → Result (List Forgotten) BodyFault
last_pairs count bytes = if length bytes == 16 * count then Ok (pairs_of count bytes) else Err BadCount

-- What is read is there, and of this kind.
abbrev pub IsReadAs : {A : Type 0} → (A → Type 0) → Result A BodyFault → Type 0
IsReadAs P (Ok x) = P x
IsReadAs P (Err fault) = ⊥

-- What a fault that a call returned says of what reading gives: that fault; and where memory ran out, a value of the
-- kind that takes memory.
abbrev pub IsFaultOf : {A : Type 0} → (A → Type 0) → BodyFault → Result A BodyFault → Type 0
IsFaultOf takes NoMemory read = IsReadAs takes read
IsFaultOf takes Short read = read ≡ Err Short
IsFaultOf takes NoZeroByte read = read ≡ Err NoZeroByte
IsFaultOf takes LongTail read = read ≡ Err LongTail
IsFaultOf takes BadCount read = read ≡ Err BadCount

-- What a call returned, seen by view, is what reading gives; memory may run out for a value of the kind that takes it.
abbrev pub ReadsAs : {X A : Type 0} → (X → A) → (A → Type 0) → Result X BodyFault → Result A BodyFault → Type 0
ReadsAs view takes (Ok x) read = read ≡ Ok (view x)
ReadsAs view takes (Err fault) read = IsFaultOf takes fault read

-- of a value for which no memory is taken, and of one for which it always is
abbrev pub never : {A : Type 0} → A → Type 0
never x = ⊥

abbrev pub always : {A : Type 0} → A → Type 0
always x = Unit {0}
