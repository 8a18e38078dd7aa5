-- The settings of a mount: what holds where nothing is set, and the range of each.
use Rattle.std.specs.Prelude.{ℕ, ◌≤◌, false}
use Rattle.mount_model.specs.declared.config.Config.{Config}

-- What holds where nothing is set.
abbrev pub default_config : Config
default_config = record {
  implicit_dirs = false;
  stat_lifetime = 60;
  type_lifetime = 60;
  record_capacity = 4096;
  staging_blocks = 1024;
  cache_blocks = 1024;
  list_page = 1000;
  start = 0;
}

-- Each number of the settings lies in its range.
pub record IsConfig (config : Config) : Type 0 where
  pub stat_lifetime : config.stat_lifetime ≤ 1000000000000
  pub type_lifetime : config.type_lifetime ≤ 1000000000000
  pub some_record : 1 ≤ config.record_capacity
  pub record_capacity : config.record_capacity ≤ 65536
  pub some_staging : 1 ≤ config.staging_blocks
  pub staging_blocks : config.staging_blocks ≤ 1024
  pub cache_blocks : config.cache_blocks ≤ 1024
  pub some_key : 1 ≤ config.list_page
  pub list_page : config.list_page ≤ 1000
  pub start : config.start ≤ 100000000000
