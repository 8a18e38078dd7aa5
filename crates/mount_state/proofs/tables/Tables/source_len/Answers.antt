-- The file that is there is short.
use Rattle.std.proofs.Common.{◌≤◌, sym, ap, subst, ◌∙◌}
use Rattle.std.specs.Prelude.{option_and_then}
use Rattle.bucket_api.specs.Operation.{max_content}
use Rattle.mount_rules.specs.Mount.{File, Node}
use Rattle.mount_state.proofs.tables.Tables.source_len.Goals as goal

pub returns-clause-short : goal.returns-clause-short
returns-clause-short c =
    subst (λ (f : File). f.size ≤ max_content) (sym c.file.view_is)
    (c.requires c.args.node c.in-Some-file.file
    (ap (option_and_then (λ (n : Node). n.file)) (sym c.in-Some.ensures.ok) ∙ sym (ap (λ (n : Node). n.file) c.inode.view_is) ∙ c.in-Some-file.is))
