-- The heads of the FUSE wire, after `struct fuse_in_header` and `struct fuse_out_header` of Linux fuse.h
-- (protocol 7.31), and what a whole request frame is.
use Rattle.std.specs.Prelude.{◌≡◌, ◌<◌, ◌≤◌, ◌-◌, ◌%◌, ◌^◌, ◌++◌, ℕ, List, length}
use Rattle.fuse_head.specs.Little.{u32_at, u32_bytes, u64_at, u64_bytes}
use Rattle.fuse_head.specs.declared.in_head.InHead.{InHead}
use Rattle.fuse_head.specs.declared.out_head.OutHead.{OutHead}

-- the request head that begins a list of at least 40 bytes; bytes 36 to 39 are padding
abbrev pub in_head : List ℕ → InHead
in_head bytes = record {
  len = u32_at bytes 0;
  opcode = u32_at bytes 4;
  unique = u64_at bytes 8;
  node = u64_at bytes 16;
  uid = u32_at bytes 24;
  gid = u32_at bytes 28;
  pid = u32_at bytes 32;
}

-- the most bytes of a request frame: 131,072 of content and a page of 4,096 for what stands before it
abbrev pub longest_frame : ℕ
longest_frame = 135168

-- the text of a request head, 40 bytes: its fields in order and four bytes of padding
abbrev pub in_head_text : InHead → List ℕ
in_head_text head =
    u32_bytes head.len ++ u32_bytes head.opcode ++ u64_bytes head.unique ++ u64_bytes head.node
    ++ u32_bytes head.uid ++ u32_bytes head.gid ++ u32_bytes head.pid ++ u32_bytes 0

-- each field of a head lies in the range of its type
pub record IsHead (head : InHead) : Type 0 where
  pub len : head.len < 2 ^ 32
  pub opcode : head.opcode < 2 ^ 32
  pub unique : head.unique < 2 ^ 64
  pub node : head.node < 2 ^ 64
  pub uid : head.uid < 2 ^ 32
  pub gid : head.gid < 2 ^ 32
  pub pid : head.pid < 2 ^ 32

-- the bytes are one whole request: a head of 40 bytes, at most a page beside 131,072 bytes of content, and
-- the length that the head tells
pub record IsWholeFrame (bytes : List ℕ) : Type 0 where
  pub headed : 40 ≤ length bytes
  pub fits : length bytes ≤ longest_frame
  pub told : u32_at bytes 0 ≡ length bytes

-- what the four bytes of a reply's error hold: 0, or the errno negated, in two's complement
abbrev pub negated : ℕ → ℕ
negated errno = (2 ^ 32 - errno) % 2 ^ 32

-- the text of a reply head, 16 bytes
abbrev pub out_head : ℕ → ℕ → ℕ → List ℕ
out_head len errno unique = u32_bytes len ++ u32_bytes (negated errno) ++ u64_bytes unique

-- the reply head that begins a list of at least 16 bytes: its error is negated back
abbrev pub out_head_at : List ℕ → OutHead
out_head_at bytes = record { len = u32_at bytes 0; errno = negated (u32_at bytes 4); unique = u64_at bytes 8 }
