-- The bodies of replies, after the structs of Linux fuse.h (protocol 7.31): fuse_attr, fuse_entry_out,
-- fuse_attr_out, fuse_open_out, fuse_write_out, fuse_kstatfs, fuse_init_out and fuse_dirent. Fields stand in the
-- structs' order, little-endian and with no gaps.
use Rattle.std.specs.Prelude.{ℕ, ◌+◌, ◌-◌, ◌%◌, List, [], ◌∷◌, ◌++◌, length, replicate}
use Rattle.std.specs.Int.{div_ceil}
use Rattle.std.specs.List.{flat_map}
use Rattle.fuse_head.specs.Little.{u16_bytes, u32_bytes, u64_bytes}
use Rattle.fuse_replies.specs.declared.reply.AttrOut.{AttrOut}
use Rattle.fuse_replies.specs.declared.reply.EntryOut.{EntryOut}
use Rattle.fuse_replies.specs.declared.reply.Dirent.{Dirent}

-- fields of one width, one after the other
unfoldable pub u16s : List ℕ → List ℕ
u16s fields = flat_map u16_bytes fields

unfoldable pub u32s : List ℕ → List ℕ
u32s fields = flat_map u32_bytes fields

unfoldable pub u64s : List ℕ → List ℕ
u64s fields = flat_map u64_bytes fields

-- fuse_attr, 88 bytes: ino, size, blocks of 512 bytes, atime, mtime and ctime, which are one moment; its
-- nanoseconds three times, mode, nlink, uid, gid, rdev, blksize and padding
unfoldable pub attr_text : AttrOut → List ℕ
attr_text a =
    u64s (a.ino ∷ a.size ∷ div_ceil a.size 512 ∷ a.mtime ∷ a.mtime ∷ a.mtime ∷ [])
    ++ u32s (a.nanos ∷ a.nanos ∷ a.nanos ∷ a.mode ∷ a.nlink ∷ 0 ∷ 0 ∷ 0 ∷ 4096 ∷ 0 ∷ [])

-- fuse_entry_out, 128 bytes: nodeid, generation, entry_valid and attr_valid, their nanoseconds, and the attr
unfoldable pub entry_text : EntryOut → List ℕ
entry_text e = u64s (e.node ∷ 0 ∷ 0 ∷ 0 ∷ []) ++ u32s (0 ∷ 0 ∷ []) ++ attr_text e.attr

-- fuse_attr_out, 104 bytes: attr_valid, its nanoseconds, padding, and the attr
unfoldable pub attr_out_text : AttrOut → List ℕ
attr_out_text a = u64s (0 ∷ []) ++ u32s (0 ∷ 0 ∷ []) ++ attr_text a

-- fuse_open_out, 16 bytes: fh, open_flags and padding
unfoldable pub open_text : ℕ → List ℕ
open_text fh = u64s (fh ∷ []) ++ u32s (0 ∷ 0 ∷ [])

-- fuse_write_out, 8 bytes: size and padding
unfoldable pub written_text : ℕ → List ℕ
written_text size = u32s (size ∷ 0 ∷ [])

-- fuse_kstatfs, 80 bytes: blocks, bfree, bavail, files and ffree are 2 ^ 30 each; bsize, namelen, frsize,
-- padding and six spare fields
unfoldable pub statfs_text : List ℕ
statfs_text =
    u64s (1073741824 ∷ 1073741824 ∷ 1073741824 ∷ 1073741824 ∷ 1073741824 ∷ [])
    ++ u32s (65536 ∷ 255 ∷ 65536 ∷ 0 ∷ 0 ∷ 0 ∷ 0 ∷ 0 ∷ 0 ∷ 0 ∷ [])

-- fuse_init_out, 64 bytes: major, minor, max_readahead and flags; max_background and congestion_threshold;
-- max_write and time_gran; max_pages and map_alignment; eight unused fields
unfoldable pub init_text : ℕ → ℕ → List ℕ
init_text readahead flags =
    u32s (7 ∷ 31 ∷ readahead ∷ flags ∷ []) ++ u16s (12 ∷ 9 ∷ []) ++ u32s (131072 ∷ 1 ∷ []) ++ u16s (0 ∷ 0 ∷ [])
    ++ u32s (replicate 8 0)

-- the same where the kernel's major version was above 7: it is told 7.31, and begins anew
unfoldable pub waits_text : List ℕ
waits_text = u32s (7 ∷ 31 ∷ replicate 14 0)

-- how many zero bytes bring n to a multiple of 8
abbrev pub padding_of : ℕ → ℕ
padding_of n = (8 - n % 8) % 8

-- fuse_dirent: ino, which is told as unknown; off, namelen and type; the name; zeros up to a multiple of 8
unfoldable pub dirent_text : Dirent → List ℕ
dirent_text d =
    u64s (4294967295 ∷ d.off ∷ []) ++ u32s (length d.name ∷ d.kind ∷ []) ++ d.name
    ++ replicate (padding_of (length d.name)) 0

-- the bytes of the fuse_dirent of a name, as FUSE_DIRENT_SIZE has them
abbrev pub dirent_len : List ℕ → ℕ
dirent_len name = 24 + length name + padding_of (length name)

unfoldable pub dirents_text : List Dirent → List ℕ
dirents_text dirents = flat_map dirent_text dirents
