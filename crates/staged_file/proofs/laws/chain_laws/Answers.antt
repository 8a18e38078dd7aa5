-- The laws are those of all pools and files.
use Rattle.std.proofs.Common.{refl}
use Rattle.staged_file.proofs.Overlay.{held_is}
use Rattle.staged_file.proofs.laws.chain_laws.Goals as goal

pub returns-clause-shows : goal.returns-clause-shows
returns-clause-shows c chains file source = refl

pub returns-clause-held : goal.returns-clause-held
returns-clause-held c pool file source valid is = held_is pool file source valid is
