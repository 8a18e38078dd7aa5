-- What the readers of parts of a frame answer.
use Rattle.std.specs.Prelude.{◌≡◌, ◌≢◌, ◌<◌, ◌+◌, ◌^◌, ◌++◌, ◌∷◌, [], ℕ, List, length, replicate, Result, Ok, Err, IfOk, Option, Some, IfSome, MatchOption}
use Rattle.std.specs.Borrow.{Bor}
use Rattle.fuse_head.specs.Little.{u32_at, u64_at}
use Rattle.fuse_head.specs.Head.{out_head}
use Rattle.fuse_replies.specs.declared.dirents.DirentFront.{DirentFront}
use Rattle.fuse_replies.specs.declared.fault.ReplyFault.{ReplyFault}
use Rattle.fuse_replies.specs.declared.fault.ReplyFault.TheVariants as faults
use Rattle.fuse_replies.specs.declared.reply.AttrOut.{AttrOut}
use Rattle.fuse_replies.specs.declared.reply.Reply.{Reply}
use Rattle.fuse_replies.specs.declared.reply.ReplyKind.{ReplyKind}
use Rattle.fuse_replies.specs.declared.reply.EntryOut.{EntryOut}
use Rattle.fuse_replies.specs.Layouts.{entry_text, init_text, open_text, padding_of, u32s, u64s}
use Rattle.fuse_replies.specs.Replies.{body_of, errno_of, without_spare, IsEntry, IsOfKind, IsReply}

-- What follows these bytes where the others begin with them, and none where they don't.
abbrev pub Strips : List ℕ → List ℕ → Option (Bor (List ℕ)) → Type 0
Strips bytes front result = MatchOption result ((rest : List ℕ) → bytes ≢ front ++ rest) (λ rest. bytes ≡ front ++ rest.now)

-- The value whose text the bytes are, and none where they are the text of no value that fits.
pub record Reads {A : Type 0} (text : A → List ℕ) (fits : A → Type 0) (bytes : List ℕ) (result : Option A) : Type 0 where
  pub found : IfSome result (λ x. (bytes ≡ text x) × fits x)
  pub again : (x : A) → fits x → bytes ≡ text x → result ≡ Some x

-- the fields of a fuse_attr that aren't told by others
abbrev pub attr_at : List ℕ → AttrOut
attr_at bytes = record {
  ino = u64_at bytes 0;
  size = u64_at bytes 8;
  mtime = u64_at bytes 32;
  nanos = u32_at bytes 52;
  mode = u32_at bytes 60;
  nlink = u32_at bytes 64;
}

-- the front of a fuse_entry_out, 40 bytes: nodeid, generation, entry_valid and attr_valid, their nanoseconds
abbrev pub node_text : ℕ → List ℕ
node_text node = u64s (node ∷ 0 ∷ 0 ∷ 0 ∷ []) ++ u32s (0 ∷ 0 ∷ [])

-- a new file and its handle
abbrev pub created_text : EntryOut × ℕ → List ℕ
created_text x = entry_text x.0 ++ open_text x.1

abbrev pub IsCreated : EntryOut × ℕ → Type 0
IsCreated x = IsEntry x.0 × (x.1 < 2 ^ 64)

-- the numbers of an init
abbrev pub numbers_text : ℕ × ℕ → List ℕ
numbers_text x = init_text x.0 x.1

abbrev pub AreNumbers : ℕ × ℕ → Type 0
AreNumbers x = (x.0 < 2 ^ 32) × (x.1 < 2 ^ 32)

-- A fault says that the bytes are malformed only where this holds.
abbrev pub FaultsWhere : ReplyFault → Type 0 → Type 0
FaultsWhere faults.NoMemory Q = Unit {0}
FaultsWhere faults.Malformed Q = Q

-- What a reader that takes memory answers: a value of which the first holds, or a fault for the reason of the
-- second.
abbrev pub ReadsOrFaults : {A : Type 0} → Result A ReplyFault → (A → Type 0) → Type 0 → Type 0
ReadsOrFaults (Ok x) P Q = P x
ReadsOrFaults (Err fault) P Q = FaultsWhere fault Q

-- the front of a fuse_dirent, 24 bytes: ino, off, namelen and type
abbrev pub front_text : DirentFront → List ℕ
front_text f = u64s (4294967295 ∷ f.off ∷ []) ++ u32s (f.namelen ∷ f.kind ∷ [])

pub record IsFront (f : DirentFront) : Type 0 where
  pub off : f.off < 2 ^ 64
  pub namelen : f.namelen < 2 ^ 32
  pub kind : f.kind < 2 ^ 32

abbrev pub front_at : List ℕ → DirentFront
front_at bytes = record { off = u64_at bytes 8; namelen = u32_at bytes 16; kind = u32_at bytes 20 }

-- a name of a length with its zeros, and what follows; none where there is no such name
abbrev pub SplitsName : List ℕ → ℕ → Option (Bor (List ℕ) × Bor (List ℕ)) → Type 0
SplitsName bytes len result =
    MatchOption result ((name rest : List ℕ) → length name ≡ len → bytes ≢ name ++ (replicate (padding_of len) 0 ++ rest))
    (λ found. (length found.0.now ≡ len) × (bytes ≡ found.0.now ++ (replicate (padding_of len) 0 ++ found.1.now)))

-- the bytes are the body of a well-formed reply of this kind that is no error
pub record IsBody (kind : ReplyKind) (reply : Reply) (bytes : List ℕ) : Type 0 where
  pub reply_fits : IsReply reply
  pub answers : IsOfKind kind reply
  pub done : errno_of reply ≡ 0
  pub text : bytes ≡ body_of reply

abbrev pub GivesReply : Reply → Result Reply ReplyFault → Type 0
GivesReply reply (Ok read) = without_spare read ≡ without_spare reply
GivesReply reply (Err fault) = fault ≡ faults.NoMemory

-- the reply whose body the bytes are, unless memory was refused
pub record ReadsBody (kind : ReplyKind) (bytes : List ℕ) (result : Result Reply ReplyFault) : Type 0 where
  pub found : IfOk result (λ reply. IsBody kind (without_spare reply) bytes)
  pub again : (reply : Reply) → IsBody kind reply bytes → GivesReply reply result

-- a frame is its head, which has its length, and a body
abbrev pub SplitsHead : List ℕ → Option (ℕ × ℕ × Bor (List ℕ)) → Type 0
SplitsHead bytes result =
    MatchOption result ((errno unique : ℕ) (body : List ℕ) → errno < 2 ^ 32 → unique < 2 ^ 64 → 16 + length body < 2 ^ 32 → bytes ≢ out_head (16 + length body) errno unique ++ body)
    (λ found. (found.0 < 2 ^ 32) × (found.1 < 2 ^ 64) × (16 + length found.2.now < 2 ^ 32) × (bytes ≡ out_head (16 + length found.2.now) found.0 found.1 ++ found.2.now))
