-- The law is a lemma.
use Rattle.mount_kept.proofs.Telling.{notes_tell_items}
use Rattle.mount_kept.proofs.laws.kept_laws.Goals as goal

pub returns : goal.returns
returns c = record { items = notes_tell_items }
