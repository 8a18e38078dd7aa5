-- A part can be shown that is a component.
use Rattle.dir_listing.proofs.PartLemmas.{no_component}
use Rattle.dir_listing.proofs.roles.shown_part.Goals as goal

pub returns-in-Err : goal.returns-in-Err
returns-in-Err c = no_component c.args.prefix.now c.args.path.now c.in-Some.rest.now c.in-Err.field-0 c.in-Some.ensures c.in-Err.ensures
