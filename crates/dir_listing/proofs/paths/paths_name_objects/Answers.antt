-- The law was proved over all paths.
use Rattle.dir_listing.proofs.PathLaws.{paths_name}
use Rattle.dir_listing.proofs.paths.paths_name_objects.Goals as goal

pub returns : goal.returns
returns c = paths_name
