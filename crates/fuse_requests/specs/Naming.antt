-- The requests that carry names: their layouts, by the offsets of Linux fuse.h 7.31, and their fixed parts.
use Rattle.std.specs.Prelude.{ℕ, List, [], ◌∷◌}
use Rattle.fuse_head.specs.Little.{u32_at, u64_at}
use Rattle.fuse_requests.specs.declared.request.Request.TheVariants.{Lookup, Symlink, Mknod, Mkdir, Unlink, Rmdir, Rename, Create, Rename2}
use Rattle.fuse_requests.specs.Layout.{Layout, named, twice_named, Field, w32, w64}

abbrev pub lookup : ℕ → Layout
lookup node = named 0 (λ body name. Lookup node name)

-- the target stands as a second name
abbrev pub symlink : ℕ → Layout
symlink node = twice_named 0 (λ body name target. Symlink node name target)

-- struct fuse_mknod_in: mode, rdev, umask, padding
abbrev pub mknod : ℕ → Layout
mknod node = named 16 (λ body name. Mknod node (u32_at body 0) name)

abbrev pub mknod_in : ℕ → List Field
mknod_in mode = w32 mode ∷ w32 0 ∷ w32 0 ∷ w32 0 ∷ []

-- struct fuse_mkdir_in: mode, umask
abbrev pub mkdir : ℕ → Layout
mkdir node = named 8 (λ body name. Mkdir node name)

abbrev pub mkdir_in : List Field
mkdir_in = w32 0 ∷ w32 0 ∷ []

abbrev pub unlink : ℕ → Layout
unlink node = named 0 (λ body name. Unlink node name)

abbrev pub rmdir : ℕ → Layout
rmdir node = named 0 (λ body name. Rmdir node name)

-- struct fuse_rename_in: newdir
abbrev pub rename : ℕ → Layout
rename node = twice_named 8 (λ body name newname. Rename node (u64_at body 0) name newname)

abbrev pub rename_in : ℕ → List Field
rename_in newdir = w64 newdir ∷ []

-- struct fuse_create_in: flags, mode, umask, padding
abbrev pub create : ℕ → Layout
create node = named 16 (λ body name. Create node name)

abbrev pub create_in : List Field
create_in = w32 0 ∷ w32 0 ∷ w32 0 ∷ w32 0 ∷ []

-- struct fuse_rename2_in: newdir, flags, padding
abbrev pub rename2 : ℕ → Layout
rename2 node = twice_named 16 (λ body name newname. Rename2 node (u64_at body 0) (u32_at body 8) name newname)

abbrev pub rename2_in : ℕ → ℕ → List Field
rename2_in newdir flags = w64 newdir ∷ w32 flags ∷ w32 0 ∷ []
