-- The directory's key is the path and a slash.
use Rattle.std.proofs.Common.{◌≡◌, ◌∷◌, [], Bool, List, ℕ, ap, subst, ◌∙◌}
use Rattle.mount_kept.specs.Serves.{found_of}
use Rattle.mount_kept.specs.declared.kept.Kept.{Kept}
use Rattle.mount_rules.specs.Requests.Lookup as lookup
use Rattle.object_names.specs.Paths.{dir_prefix_of}
use Rattle.record_spec.specs.RecordList.{Key}
use Rattle.thrift_spec.specs.Records.{found_in}
use Rattle.mount_core.proofs.lone.find_both.Goals as goal

pub returns-clause-ok : goal.returns-clause-ok
returns-clause-ok c = λ other name.
    c.in_ok-found.ensures.ok other name
    ∙ ap (λ (key : Key). found_of c.args.config.now c.args.clock (lookup.plan other name c.args.suffixed) c.args.kept.now.records (key ∷ c.args.path.now ∷ []))
    (c.in_ok-directory.ensures.ok ∙ ap dir_prefix_of c.as_str.ensures.bytes)

pub returns-clause-list : goal.returns-clause-list
returns-clause-list c = λ other name.
    c.in_ok-found.ensures.kept other name
    ∙ ap (λ (key : Key). record {
      records = found_in c.args.config.now c.args.clock (lookup.plan other name c.args.suffixed) (key ∷ c.args.path.now ∷ []) c.args.kept.now.records;
      files = c.args.kept.now.files;
    }) (c.in_ok-directory.ensures.ok ∙ ap dir_prefix_of c.as_str.ensures.bytes)
