-- The paths of look-ups name objects, and so do the placeholders of their directories.
use Rattle.std.proofs.Common.{ℕ, List, [], ◌∷◌}
use Rattle.bucket_api.specs.Names.{IsObjectName}
use Rattle.dir_listing.proofs.PathLaws.{paths_name}
use Rattle.object_names.specs.Paths.{IsPath, dir_prefix_of}

pub path_named : (path : List ℕ) → IsPath path → IsObjectName path
path_named path is = (paths_name path is).0

pub directory_named : (path : List ℕ) → IsPath path → IsObjectName (dir_prefix_of path)
directory_named [] is = (paths_name [] is).0
directory_named (byte ∷ path) is = (paths_name (byte ∷ path) is).1
