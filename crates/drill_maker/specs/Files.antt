-- Which files a drill has.
use Rattle.std.specs.Prelude.{◌≤◌}
use Rattle.drill_maker.specs.declared.file.File.{File}

-- one of 16 files in one of 8 directories
pub record IsFile (file : File) : Type 0 where
  pub directory : file.directory ≤ 8
  pub first : 1 ≤ file.number
  pub last : file.number ≤ 16
