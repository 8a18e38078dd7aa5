-- What is shown of a file's staged content, as the code says it.
use Rattle.staging_spec.specs.StagedFiles.{StagedContent}
use Rattle.mount_state.specs.declared.attributes.StagedAttr.{StagedAttr}

abbrev pub attr_of : StagedContent → StagedAttr
attr_of staged = record { size = staged.overlay.size; mtime = staged.seconds; nanos = staged.nanos }
