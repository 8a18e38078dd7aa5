-- The attributes that a node is shown with. The modes, the times and the counts are this project's own choice; the time
-- that is set on a file stands in the metadata of its object, as gcsfuse keeps it.
use Rattle.std.specs.Prelude.{ℕ, Bool, length, List, Option, Some, None, option_and_then, option_map, unwrap_or}
use Rattle.std.specs.Option.{option_map_or}
use Rattle.std.specs.List.{find}
use Rattle.std.specs.Str.{bytes_eq}
use Rattle.bucket_api.specs.Metadata.{Metadata}
use Rattle.bucket_api.specs.declared.objects.Pair.{Pair}
use Rattle.dir_listing.specs.Kinds.{is_target}
use Rattle.file_metadata.specs.FileMetadata.{mtime_key}
use Rattle.fuse_replies.specs.declared.reply.AttrOut.{AttrOut}
use Rattle.fuse_replies.specs.declared.reply.EntryOut.{EntryOut}
use Rattle.mount_model.specs.declared.config.Config.{Config}
use Rattle.mount_rules.specs.Mount.{File, Node}
use Rattle.mtime_text.specs.Reading.{mtime_of}
use Rattle.object_names.specs.declared.shown.NodeKind.{NodeKind}
use Rattle.object_names.specs.declared.shown.NodeKind.TheVariants.{Dir, File as RegularFile, Symlink}
use Rattle.staging_spec.specs.StagedFiles.{StagedContent}

-- the target of a symlink, where the object is one: gcsfuse keeps it in the object's metadata
abbrev pub target_of : Metadata → Option (List ℕ)
target_of meta = option_map (λ p. p.value) (find is_target meta.pairs)

-- the kind and the permissions, as in `stat`: 0040755, 0100644 and 0120777
abbrev pub mode_of : NodeKind → ℕ
mode_of Dir = 16877
mode_of RegularFile = 33188
mode_of Symlink = 41471

-- bytes of the content, which is the staged one where there is one; of a symlink those of its target
abbrev pub size_of : NodeKind → Option StagedContent → File → ℕ
size_of Dir staged file = 0
size_of RegularFile staged file = option_map_or (λ s. s.overlay.size) staged file.size
size_of Symlink staged file = option_map_or length (target_of file.kept.meta) 0

-- the pair that holds the time that was set on a file
abbrev pub is_mtime : Pair → Bool
is_mtime pair = bytes_eq pair.key mtime_key

-- the time of an object, in seconds and nanoseconds: the one that was set, where it can be read, else that of its last change
abbrev pub time_of_object : Metadata → ℕ × ℕ
time_of_object meta = unwrap_or (option_and_then (λ p. mtime_of p.value) (find is_mtime meta.pairs)) (meta.updated, 0)

abbrev pub time_of_file : Option StagedContent → File → ℕ × ℕ
time_of_file None file = time_of_object file.kept.meta
time_of_file (Some staged) file = (staged.seconds, staged.nanos)

-- the time of a node: of a file with staged content that of this; a directory has the second at which the mount started
abbrev pub time_of : Config → Option StagedContent → Option File → ℕ × ℕ
time_of config staged file = option_map_or (time_of_file staged) file (config.start, 0)

-- with the content that is staged of it, where any is
abbrev pub attributes : Config → ℕ → Node → Option StagedContent → AttrOut
attributes config number node staged = record {
  ino = number;
  size = option_map_or (size_of node.kind staged) node.file 0;
  mtime = (time_of config staged node.file).0;
  nanos = (time_of config staged node.file).1;
  mode = mode_of node.kind;
  nlink = 1;
}

abbrev pub entry_of : Config → ℕ → Node → Option StagedContent → EntryOut
entry_of config number node staged = record { node = number; attr = attributes config number node staged }
