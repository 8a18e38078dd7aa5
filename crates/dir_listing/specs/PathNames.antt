-- The law that paths name objects.
use Rattle.std.specs.Prelude.{ℕ, List, [], ◌∷◌, ◌++◌}
use Rattle.bucket_api.specs.Names.{IsObjectName}
use Rattle.object_names.specs.Paths.{IsPath}

-- a path is the name of an object, a file's, and so is the path with a slash, a directory's placeholder
abbrev pub PathsNameObjects : Type 0
PathsNameObjects = (path : List ℕ) → IsPath path → IsObjectName path × IsObjectName (path ++ 47 ∷ [])
