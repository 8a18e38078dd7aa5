-- The requests that speak of the whole mount, or take look-ups back: their layouts, by the offsets of Linux
-- fuse.h 7.31, and their fixed parts.
use Rattle.std.specs.Prelude.{ℕ, List, [], ◌∷◌}
use Rattle.fuse_head.specs.Little.{u32_at, u64_at}
use Rattle.fuse_requests.specs.declared.request.Request.TheVariants.{Forget, Statfs, Init, Interrupt, Destroy, BatchForget}
use Rattle.fuse_requests.specs.Layout.{Layout, alone, open_ended, paired, Field, w32, w64}

-- struct fuse_forget_in: nlookup
abbrev pub forget : ℕ → Layout
forget node = alone 8 (λ body. Forget node (u64_at body 0))

abbrev pub forget_in : ℕ → List Field
forget_in count = w64 count ∷ []

abbrev pub statfs : Layout
statfs = alone 0 (λ body. Statfs)

-- struct fuse_init_in: major, minor, max_readahead, flags; later minors have more fields
abbrev pub init : Layout
init = open_ended 16 (λ body. Init (u32_at body 0) (u32_at body 4) (u32_at body 8) (u32_at body 12))

abbrev pub init_in : ℕ → ℕ → ℕ → ℕ → List Field
init_in major minor readahead flags = w32 major ∷ w32 minor ∷ w32 readahead ∷ w32 flags ∷ []

-- struct fuse_interrupt_in: unique
abbrev pub interrupt : Layout
interrupt = alone 8 (λ body. Interrupt)

abbrev pub interrupt_in : List Field
interrupt_in = w64 0 ∷ []

abbrev pub destroy : Layout
destroy = alone 0 (λ body. Destroy)

-- struct fuse_batch_forget_in: count, padding
abbrev pub batch_forget : Layout
batch_forget = paired 8 0 (λ pairs. BatchForget (record { items = pairs; spare = 0 }))

abbrev pub batch_forget_in : ℕ → List Field
batch_forget_in count = w32 count ∷ w32 0 ∷ []
