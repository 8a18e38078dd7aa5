-- What a flush gives its new generation as metadata: the pairs that are kept of the file's object, and the staged time.
use Rattle.std.specs.Prelude.{◌≡◌, ℕ, Some}
use Rattle.std.specs.FinMap as fin
use Rattle.bucket_api.specs.Metadata.{KeysRise}
use Rattle.mount_rules.specs.Mount.{File, MountModel, Node}
use Rattle.plan_files.specs.Errands.{IsTime}
use Rattle.staging_spec.specs.StagedFiles.{StagedContent}

-- it may be given: the pairs that are kept of each file are in order, and the time of what is staged is one of a file
pub record GivesMetadata (mount : MountModel) : Type 0 where
  pub pairs : (number : ℕ) (node : Node) (file : File) → fin.get mount.table.nodes number ≡ Some node → node.file ≡ Some file
      → KeysRise file.kept.meta.pairs
  pub times : (number : ℕ) (staged : StagedContent) → fin.get mount.staged number ≡ Some staged → IsTime staged.seconds staged.nanos
