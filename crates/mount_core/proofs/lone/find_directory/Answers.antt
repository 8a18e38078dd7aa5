-- The directory's key is the path and a slash.
use Rattle.std.proofs.Common.{◌≡◌, ◌∷◌, [], List, ℕ, ap, ◌∙◌}
use Rattle.mount_kept.specs.Serves.{found_of}
use Rattle.object_names.specs.Paths.{dir_prefix_of}
use Rattle.record_spec.specs.RecordList.{Key}
use Rattle.mount_core.proofs.lone.find_directory.Goals as goal

pub returns-clause-ok : goal.returns-clause-ok
returns-clause-ok c = λ asks.
    c.in_ok-found.ensures.ok asks
    ∙ ap (λ (key : Key). found_of c.args.config.now c.args.clock asks c.args.kept.now.records (key ∷ [])) (c.in_ok-directory.ensures.ok ∙ ap dir_prefix_of c.as_str.ensures.bytes)
