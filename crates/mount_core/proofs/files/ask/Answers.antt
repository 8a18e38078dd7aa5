-- A file or symlink is asked for by its own name.
use Rattle.std.proofs.Common.{◌≡◌, ◌∷◌, [], ℕ, rules, Some, None, List, Option, refl, sym, ap, subst, ◌∙◌}
use Rattle.std.specs.FinMap as fin
use Rattle.std.specs.Option.{option_map_or}
use Rattle.std.specs.Prelude.{is_some}
use Rattle.bucket_api.specs.Names.{IsObjectName}
use Rattle.mount_core.proofs.ErrandLemmas.{standing_reads}
use Rattle.mount_core.proofs.FileLemmas.{asks_name, named_object, no_directory}
use Rattle.mount_core.proofs.FlushLemmas.{not_staged}
use Rattle.mount_rules.specs.Mount.{Node}
use Rattle.mount_rules.specs.Plans.{without_reads}
use Rattle.mount_rules.specs.Standing as standing
use Rattle.staging_spec.specs.StagedFiles.{StagedFiles}
use Rattle.mount_core.proofs.files.ask.Goals as goal

pub returns : goal.returns
returns c =
    let mount = c.args.mount.now.mount in
    let node : Node = c.in-Some.inode.now in
    let there : fin.get mount.table.nodes c.args.node ≡ Some node = search rules in
    let other = no_directory node.kind (λ e. c.in_default-kind.not-Dir (search rules)) in
    let named : node.name ≡ c.in_ok-copy.field-0 = search rules in
    let unstaged : fin.get mount.staged c.args.node ≡ None =
    ap (λ (files : StagedFiles). fin.get files c.args.node) (sym c.staging.ensures.files)
    ∙ not_staged (fin.get c.staging.result.now.files c.args.node) (ap is_some (sym c.len.ensures.ok) ∙ sym c.is_some.ensures ∙ c.if-is_some.false) in
    record {
      plan = λ content second answers.
          standing_reads (Some c.in_ok-copy.field-0) answers
          ∙ ap (λ (name : Option (List ℕ)). without_reads (standing.plan name answers)) (ap Some (sym named) ∙ sym (asks_name mount c.args.node node there other unstaged));
      wanted = refl;
      keys = ap (λ (name : List ℕ). name ∷ []) (sym named) ∙ ap (λ (found : Option (List ℕ)). option_map_or (λ name. name ∷ []) found []) (sym (asks_name mount c.args.node node there other unstaged));
      errand = (subst IsObjectName named (named_object mount c.args.node node there other c.nodes.ensures.valid), tt);
    }
