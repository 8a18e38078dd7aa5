-- The requests that speak of a node or a handle: their layouts, by the offsets of Linux fuse.h 7.31, and
-- their fixed parts.
use Rattle.std.specs.Prelude.{ℕ, List, [], ◌∷◌}
use Rattle.fuse_head.specs.Little.{u32_at, u64_at}
use Rattle.fuse_requests.specs.declared.request.Request.TheVariants.{Getattr, Setattr, Readlink, Opening, Read, Write, Release, Fsync, Flush, Opendir, Readdir, Releasedir, Fsyncdir}
use Rattle.fuse_requests.specs.Layout.{Layout, alone, filled, Field, w32, w64}

-- struct fuse_getattr_in: flags, padding, fh
abbrev pub getattr : ℕ → Layout
getattr node = alone 16 (λ body. Getattr node)

abbrev pub getattr_in : List Field
getattr_in = w32 0 ∷ w32 0 ∷ w64 0 ∷ []

-- struct fuse_setattr_in: valid, padding, fh, size, lock_owner, atime, mtime, ctime, atimensec, mtimensec,
-- ctimensec, mode, padding, uid, gid, padding
abbrev pub setattr : ℕ → Layout
setattr node = alone 88 (λ body. Setattr node (u32_at body 0) (u64_at body 16) (u64_at body 40) (u32_at body 60))

abbrev pub setattr_in : ℕ → ℕ → ℕ → ℕ → List Field
setattr_in valid size mtime nanos =
    w32 valid ∷ w32 0 ∷ w64 0 ∷ w64 size ∷ w64 0 ∷ w64 0 ∷ w64 mtime ∷ w64 0
    ∷ w32 0 ∷ w32 nanos ∷ w32 0 ∷ w32 0 ∷ w32 0 ∷ w32 0 ∷ w32 0 ∷ w32 0 ∷ []

abbrev pub readlink : ℕ → Layout
readlink node = alone 0 (λ body. Readlink node)

-- struct fuse_open_in: flags, padding; OPENDIR has it too
abbrev pub opening : ℕ → Layout
opening node = alone 8 (λ body. Opening node (u32_at body 0))

abbrev pub opendir : ℕ → Layout
opendir node = alone 8 (λ body. Opendir node)

abbrev pub open_in : ℕ → List Field
open_in flags = w32 flags ∷ w32 0 ∷ []

-- struct fuse_read_in: fh, offset, size, read_flags, lock_owner, flags, padding; READDIR has it too, and
-- struct fuse_write_in has write_flags in the place of read_flags
abbrev pub reading : ℕ → Layout
reading node = alone 40 (λ body. Read node (u64_at body 0) (u64_at body 8) (u32_at body 16))

abbrev pub readdir : ℕ → Layout
readdir node = alone 40 (λ body. Readdir node (u64_at body 0) (u64_at body 8) (u32_at body 16))

abbrev pub writing : ℕ → Layout
writing node = filled 40 16 (λ body content. Write node (u64_at body 0) (u64_at body 8) content)

abbrev pub read_in : ℕ → ℕ → ℕ → List Field
read_in fh first size = w64 fh ∷ w64 first ∷ w32 size ∷ w32 0 ∷ w64 0 ∷ w32 0 ∷ w32 0 ∷ []

-- struct fuse_release_in: fh, flags, release_flags, lock_owner; RELEASEDIR has it too
abbrev pub release : ℕ → Layout
release node = alone 24 (λ body. Release node (u64_at body 0))

abbrev pub releasedir : ℕ → Layout
releasedir node = alone 24 (λ body. Releasedir node (u64_at body 0))

abbrev pub release_in : ℕ → List Field
release_in fh = w64 fh ∷ w32 0 ∷ w32 0 ∷ w64 0 ∷ []

-- struct fuse_fsync_in: fh, fsync_flags, padding; FSYNCDIR has it too
abbrev pub fsync : ℕ → Layout
fsync node = alone 16 (λ body. Fsync node (u64_at body 0))

abbrev pub fsyncdir : ℕ → Layout
fsyncdir node = alone 16 (λ body. Fsyncdir node (u64_at body 0))

abbrev pub fsync_in : ℕ → List Field
fsync_in fh = w64 fh ∷ w32 0 ∷ w32 0 ∷ []

-- struct fuse_flush_in: fh, unused, padding, lock_owner
abbrev pub flush : ℕ → Layout
flush node = alone 24 (λ body. Flush node (u64_at body 0))

abbrev pub flush_in : ℕ → List Field
flush_in fh = w64 fh ∷ w32 0 ∷ w32 0 ∷ w64 0 ∷ []
