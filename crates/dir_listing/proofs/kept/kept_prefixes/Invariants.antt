-- What is kept of the prefixes so far.
use Rattle.std.proofs.Common.{◌≡◌, map, take}
use Rattle.dir_listing.specs.Names.{kept_name, FitsAll}
use Rattle.dir_listing.proofs.kept.kept_prefixes.Given as goal

abbrev pub invariant-loop-name : goal.invariant-loop-name
invariant-loop-name l = (map (kept_name l.prefix) l.prefixes.items ≡ take l.name-index l.names) × FitsAll l.prefix l.prefixes.items
