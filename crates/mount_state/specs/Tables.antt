-- The mount that the three tables make.
use Rattle.std.specs.Prelude.{◌≡◌, ℕ, ◌+◌, ◌≤◌, ◌^◌}
use Rattle.mount_model.specs.declared.config.Config.{Config}
use Rattle.mount_rules.specs.Mount.{IsMount, MountModel}
use Rattle.mount_state.specs.declared.tables.Tables.{Tables}

abbrev pub mount_of : Tables → MountModel
mount_of tables = record {
  table = tables.nodes.table;
  handles = tables.handles.handles;
  next_handle = tables.handles.next;
  staged = tables.staging.files;
  negotiated = tables.negotiated;
}

-- the most room that a mount ever promises
abbrev pub most_promised : ℕ
most_promised = 2 ^ 48

-- The tables make a mount, its region has as many blocks as the settings say, each table has the room that is promised,
-- and no more handles were opened than room was given for.
pub record IsKept (config : Config) (tables : Tables) (promised given : ℕ) : Type 0 where
  pub mount : IsMount (mount_of tables)
  pub region : tables.staging.blocks ≡ config.staging_blocks
  pub node_room : promised ≤ tables.nodes.spare
  pub handle_room : promised ≤ tables.handles.spare
  pub staging_room : promised ≤ tables.staging.spare
  pub numbers : tables.handles.next + promised ≤ given + 1
  pub bounded : given ≤ most_promised

-- the tables have this much room
pub record HasRoom (room : ℕ) (tables : Tables) : Type 0 where
  pub nodes : room ≤ tables.nodes.spare
  pub handles : room ≤ tables.handles.spare
  pub staging : room ≤ tables.staging.spare

-- the tables have used up at most this much room, and as many numbers of handles; the region is as large as before
pub record Uses (room : ℕ) (old new : Tables) : Type 0 where
  pub nodes : old.nodes.spare ≤ new.nodes.spare + room
  pub handles : old.handles.spare ≤ new.handles.spare + room
  pub staging : old.staging.spare ≤ new.staging.spare + room
  pub numbers : new.handles.next ≤ old.handles.next + room
  pub region : new.staging.blocks ≡ old.staging.blocks
