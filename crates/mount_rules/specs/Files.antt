-- A file as the requests on its content see it: its source, and what is staged of it.
use Rattle.std.specs.Prelude.{◌≡◌, ◌≤◌, ℕ, List, Option, Some, None}
use Rattle.std.specs.FinMap as fin
use Rattle.std.specs.Option.{option_map_or}
use Rattle.bucket_api.specs.Operation.{max_content}
use Rattle.inode_spec.specs.Inodes.{file_of}
use Rattle.mount_rules.specs.Mount.{File, MountModel}
use Rattle.mount_rules.specs.Plans.{Contents}
use Rattle.mount_rules.specs.View.{Sight}
use Rattle.staging_spec.specs.Overlays.{Overlay, bare, staging_over}
use Rattle.staging_spec.specs.StagedFiles.{StagedContent}
use Rattle.staging_spec.specs.Staging.{Staging}

-- no file of the mount is longer than a content may be
abbrev pub FilesAreShort : MountModel → Type 0
FilesAreShort mount = (number : ℕ) (file : File) → file_of mount.table number ≡ Some file → file.size ≤ max_content

-- the length of its content
abbrev pub length_of : Option StagedContent → Sight → ℕ
length_of staged file = option_map_or (λ s. s.overlay.size) staged file.size

-- what is held of it: where nothing is staged, no block is touched
abbrev pub overlay_of : Option StagedContent → Sight → Overlay
overlay_of staged file = option_map_or (λ s. s.overlay) staged (bare file.size)

-- the content of the generation that it shows
abbrev pub source_in : Contents → Sight → List ℕ
source_in contents file = contents file.name file.source

-- its staged content over that, as it is or as it would begin
abbrev pub staging_in : Contents → Option StagedContent → Sight → Staging
staging_in contents staged file = staging_over (overlay_of staged file) (source_in contents file)

-- its content: the staged one, where there is one
abbrev pub content_in : Contents → Option StagedContent → Sight → List ℕ
content_in contents None file = source_in contents file
content_in contents (Some s) file = (staging_over s.overlay (source_in contents file)).content

-- the mount with this staged of a file, or with nothing
abbrev pub with_staged : MountModel → ℕ → StagedContent → MountModel
with_staged mount number staged = record mount { staged = fin.insert mount.staged number staged }

abbrev pub without_staged : MountModel → ℕ → MountModel
without_staged mount number = record mount { staged = fin.remove mount.staged number }
