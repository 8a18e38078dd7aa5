-- What is kept of the items so far.
use Rattle.std.proofs.Common.{◌≡◌, map, take}
use Rattle.dir_listing.specs.Names.{told, FitsAll}
use Rattle.dir_listing.specs.Pages.{item_of}
use Rattle.dir_listing.proofs.kept.kept_items.Given as goal

abbrev pub invariant-loop-meta : goal.invariant-loop-meta
invariant-loop-meta l = (map (told l.prefix) l.items.items ≡ map item_of (take l.meta-index l.metas)) × FitsAll l.prefix l.items.items
