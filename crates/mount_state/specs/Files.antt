-- What a request on a file sees of a mount, whatever its handle, and what a READ and a WRITE come to there.
use Rattle.std.specs.Prelude.{◌≡◌, ℕ, Bool, false, List, length, Option}
use Rattle.std.specs.FinMap as fin
use Rattle.mount_model.specs.declared.config.Config.{Config}
use Rattle.mount_rules.specs.Mount.{MountModel}
use Rattle.mount_rules.specs.Plans.{Contents, CoversWanted, HoldsWanted, Wanted}
use Rattle.mount_rules.specs.Reading.{Reads}
use Rattle.mount_rules.specs.Requests.Read as reading
use Rattle.mount_rules.specs.Requests.Setattr as setattr
use Rattle.mount_rules.specs.Requests.Write as writing
use Rattle.mount_rules.specs.Rules.{AtTake, Taken, at_file}
use Rattle.mount_rules.specs.View.{View, sight_at, view_of}
use Rattle.mount_state.specs.declared.base.Base.{Base}
use Rattle.mount_state.specs.declared.tables.Tables.{Tables}

abbrev pub file_view : MountModel → ℕ → View
file_view mount node = view_of mount (at_file node)

-- what it has from a take at this mount
abbrev pub file_taken : AtTake → MountModel → ℕ → Taken
file_taken at mount node = record { at = at; view = file_view mount node }

-- what a SETATTR changes
abbrev pub change_at : MountModel → ℕ → setattr.Asked → setattr.Change
change_at mount node asked = setattr.change_in asked (file_view mount node)

-- the region has as many blocks as the settings say
abbrev pub HasBlocks : Tables → Config → Type 0
HasBlocks tables config = tables.staging.blocks ≡ config.staging_blocks

-- ---- a READ
abbrev pub read_wanted : MountModel → ℕ → ℕ → ℕ → Option Wanted
read_wanted mount node first size = reading.wanted first size (fin.get mount.staged node) (sight_at mount.table node)

abbrev pub read_bytes : Contents → MountModel → ℕ → ℕ → ℕ → List ℕ
read_bytes contents mount node first size = reading.bytes contents first size (fin.get mount.staged node) (sight_at mount.table node)

-- ---- a WRITE
abbrev pub is_full_at : Config → MountModel → ℕ → ℕ → List ℕ → Bool
is_full_at config mount node first content = writing.is_full config mount.staged first content (file_view mount node)

abbrev pub write_wanted : MountModel → ℕ → ℕ → List ℕ → Option Wanted
write_wanted mount node first content = writing.wanted first content (fin.get mount.staged node) (sight_at mount.table node)

-- what came of it, whose reads came to this
abbrev pub came_at : Config → MountModel → ℕ → ℕ → List ℕ → Reads → writing.Came
came_at config mount node first content reads = writing.came_of (is_full_at config mount node first content) reads

-- unless it is full, the base reaches over what it wants
abbrev pub CoversUnlessFull : Config → MountModel → ℕ → ℕ → List ℕ → Base → Type 0
CoversUnlessFull config mount node first content base =
    is_full_at config mount node first content ≡ false → CoversWanted (write_wanted mount node first content) base.first (length base.bytes)

-- and has bytes of the source
abbrev pub HoldsUnlessFull : AtTake → MountModel → ℕ → ℕ → List ℕ → Base → Type 0
HoldsUnlessFull at mount node first content base =
    is_full_at at.config mount node first content ≡ false → HoldsWanted at.contents (write_wanted mount node first content) base.first base.bytes
