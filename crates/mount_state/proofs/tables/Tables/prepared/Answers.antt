-- A RENAME that nothing refuses goes on, with flags or without.
use Rattle.std.proofs.Common.{◌≡◌, None, sym, ap, subst, ◌∙◌}
use Rattle.fuse_requests.specs.Grammar.{without_spare}
use Rattle.fuse_requests.specs.declared.request.Request.{Request}
use Rattle.fuse_requests.specs.declared.request.Request.TheVariants.{Rename, Rename2}
use Rattle.mount_rules.specs.Dispatch.{early}
use Rattle.mount_state.specs.Tables.{mount_of}
use Rattle.mount_state.proofs.EntryLaws.{no_refusal}
use Rattle.mount_state.proofs.MovingLaws.{rename2_free}
use Rattle.mount_state.proofs.tables.Tables.prepared.Goals as goal

pub moving-requires : goal.moving-requires
moving-requires c =
    let mount = mount_of c.args.self.now in
    let name = c.as_slice-in-Rename.ensures.bytes in
    let newname = c.as_slice-in-Rename-2.ensures.bytes in
    let same : without_spare c.args.request.now ≡ Rename c.in-Rename.node c.in-Rename.newdir c.as_slice-in-Rename.result.now c.as_slice-in-Rename-2.result.now =
    ap without_spare c.in-Rename.is ∙ (λ i. Rename c.in-Rename.node c.in-Rename.newdir (sym name i) (sym newname i)) in
    no_refusal mount (Rename c.in-Rename.node c.in-Rename.newdir c.as_slice-in-Rename.result.now c.as_slice-in-Rename-2.result.now)
    (subst (λ (r : Request). early mount r ≡ None) same c.requires)

pub moving-requires-in-Rename2 : goal.moving-requires-in-Rename2
moving-requires-in-Rename2 c =
    let mount = mount_of c.args.self.now in
    let name = c.as_slice-in-Rename2.ensures.bytes in
    let newname = c.as_slice-in-Rename2-2.ensures.bytes in
    let same : without_spare c.args.request.now ≡ Rename2 c.in-Rename2.node c.in-Rename2.newdir c.in-Rename2.flags c.as_slice-in-Rename2.result.now c.as_slice-in-Rename2-2.result.now =
    ap without_spare c.in-Rename2.is ∙ (λ i. Rename2 c.in-Rename2.node c.in-Rename2.newdir c.in-Rename2.flags (sym name i) (sym newname i)) in
    rename2_free mount c.in-Rename2.node c.in-Rename2.newdir c.in-Rename2.flags c.as_slice-in-Rename2.result.now c.as_slice-in-Rename2-2.result.now
    (subst (λ (r : Request). early mount r ≡ None) same c.requires)
