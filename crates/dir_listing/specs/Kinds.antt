-- What an object that a page shows is in a directory. gcsfuse keeps the target of a symlink under a metadata key of the
-- object, and so tells symlinks from files.
use Rattle.std.specs.Prelude.{Bool, List, if◌then◌else◌}
use Rattle.std.specs.List.{list_any}
use Rattle.std.specs.Str.{bytes_eq}
use Rattle.file_metadata.specs.FileMetadata.{target_key}
use Rattle.bucket_api.specs.Metadata.{Metadata}
use Rattle.bucket_api.specs.declared.objects.Pair.{Pair}
use Rattle.object_names.specs.declared.shown.NodeKind.{NodeKind}
use Rattle.object_names.specs.declared.shown.NodeKind.TheVariants.{File, Symlink}

-- the pair that holds a symlink's target
abbrev pub is_target : Pair → Bool
is_target pair = bytes_eq pair.key target_key

abbrev pub has_target : List Pair → Bool
has_target pairs = list_any is_target pairs

abbrev pub file_or_link : Bool → NodeKind
file_or_link link = if link then Symlink else File

-- What an object is whose name does not end in a slash. One whose name does is a directory's placeholder, whatever
-- this says of it.
abbrev pub node_kind : Metadata → NodeKind
node_kind meta = file_or_link (has_target meta.pairs)
