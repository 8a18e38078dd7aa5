-- The laws are those that were proved over all staged contents.
use Rattle.staging_spec.proofs.OverlayLaws.{held_shows, staged_stands}
use Rattle.staging_spec.proofs.StandingLaws.{written_stands, resized_stands}
use Rattle.staging_spec.proofs.laws.overlay_laws.Goals as goal

pub returns-clause-shows : goal.returns-clause-shows
returns-clause-shows c = held_shows

pub returns-clause-staged : goal.returns-clause-staged
returns-clause-staged c = staged_stands

pub returns-clause-written : goal.returns-clause-written
returns-clause-written c = written_stands

pub returns-clause-resized : goal.returns-clause-resized
returns-clause-resized c = resized_stands
