-- A listed name is a placeholder's, a file's, or gives no entry.
use Rattle.std.proofs.Common.{sym, ◌∙◌}
use Rattle.dir_listing.proofs.PartLemmas.{no_directory}
use Rattle.dir_listing.proofs.roles.role_of.Goals as goal

pub returns-in-None-shown_part-clause-fits : goal.returns-in-None-shown_part-clause-fits
returns-in-None-shown_part-clause-fits c =
    no_directory c.args.prefix.now c.in-Some.path.now c.args.name.now (sym c.as_bytes-bytes.ensures.value ∙ c.in-Some.ensures) c.in-None-shown_part.ensures
