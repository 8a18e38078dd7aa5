-- A RENAME is refused as its own rules say, with flags or without.
use Rattle.std.proofs.Common.{sym, ap, ◌∙◌}
use Rattle.fuse_requests.specs.Grammar.{without_spare}
use Rattle.fuse_requests.specs.declared.request.Request.{Request}
use Rattle.mount_rules.specs.Dispatch.{rules_of, view_in}
use Rattle.mount_rules.specs.Requests.Rename.{refusal}
use Rattle.mount_rules.specs.Requests.Rename2 as rename2
use Rattle.mount_state.specs.Moving.{moving_view, names_of}
use Rattle.mount_state.specs.Tables.{mount_of}
use Rattle.mount_state.proofs.tables.Tables.refusal.Goals as goal

pub returns-in-Rename : goal.returns-in-Rename
returns-in-Rename c =
    let mount = mount_of c.args.self.now in
    let name = c.as_slice-in-Rename.ensures.bytes in
    let newname = c.as_slice-in-Rename-2.ensures.bytes in
    c.rename_refusal.ensures
    ∙ (λ i. let names = names_of (name i) c.in-Rename.newdir (newname i) in refusal names (moving_view mount c.in-Rename.node names))
    ∙ ap (λ (r : Request). (rules_of r).refusal (view_in mount r)) (sym (ap without_spare c.in-Rename.is))

pub returns-in-Rename2 : goal.returns-in-Rename2
returns-in-Rename2 c =
    let mount = mount_of c.args.self.now in
    let name = c.as_slice-in-Rename2.ensures.bytes in
    let newname = c.as_slice-in-Rename2-2.ensures.bytes in
    c.rename2_refusal.ensures
    ∙ (λ i. let names = names_of (name i) c.in-Rename2.newdir (newname i) in rename2.refusal c.in-Rename2.flags names (moving_view mount c.in-Rename2.node names))
    ∙ ap (λ (r : Request). (rules_of r).refusal (view_in mount r)) (sym (ap without_spare c.in-Rename2.is))
