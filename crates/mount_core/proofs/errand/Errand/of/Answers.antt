-- Each errand is that of its request.
use Rattle.std.proofs.Common.{◌≡◌, ℕ, List, None, IfOk, length, ap, refl, subst, sym, ◌∙◌}
use Rattle.fuse_requests.specs.Grammar.{without_spare}
use Rattle.fuse_requests.specs.declared.request.Request.{Request}
use Rattle.fuse_requests.specs.declared.request.Request.TheVariants.{Lookup, Mkdir, Opendir, Read, Rmdir, Symlink, Unlink, Write}
use Rattle.mount_core.proofs.ErrandLemmas.{asks_so, listed_so, opendir_reads, plans_so, reads_so, refusal_free, writes_so}
use Rattle.mount_core.proofs.FileLemmas.{open_file}
use Rattle.mount_core.proofs.FlushLemmas.{flushed_plan, flushed_there, flushed_wants}
use Rattle.mount_core.proofs.NameLemmas.{MakesFile, file_free, rename_free, renames_by}
use Rattle.mount_core.proofs.NamePlans.{file_plan, link_plan, lookup_plan, mkdir_plan, rename_plan, rmdir_plan, unlink_plan}
use Rattle.mount_core.specs.Errands.{AsksAs, HoldsEntries, plan_over}
use Rattle.mount_model.specs.Observing.{Observed}
use Rattle.mount_model.specs.declared.config.Config.{Config}
use Rattle.mount_rules.specs.Dispatch.{early, plan}
use Rattle.mount_rules.specs.Guards.{size_refusal}
use Rattle.mount_rules.specs.Plans.{answers_of}
use Rattle.mount_rules.specs.Requests.Opendir as opendir
use Rattle.mount_rules.specs.Requests.Write as writing
use Rattle.mount_rules.specs.Rules.{AtTake, at_node, at_open_file}
use Rattle.mount_rules.specs.View.{view_of}
use Rattle.mount_state.specs.Spares.{Fills}
use Rattle.object_names.specs.declared.shown.DirItem.{DirItem}
use Rattle.mount_core.proofs.errand.Errand.of.Goals as goal

pub returns-in-Lookup-clause-plan : goal.returns-in-Lookup-clause-plan
returns-in-Lookup-clause-plan c =
    lookup_plan c.look_up.result c.args.config.now c.args.mount.now.mount c.args.second c.args.request.now c.in-Lookup.node c.as_slice.result.now
    (c.in-Lookup.is ∙ ap (Lookup c.in-Lookup.node) (sym c.as_slice.ensures.bytes)) c.requires.free c.look_up.ensures.plan

pub returns-in-Opendir-clause-plan : goal.returns-in-Opendir-clause-plan
returns-in-Opendir-clause-plan c =
    let config = c.args.config.now in
    let mount = c.args.mount.now.mount in
    let request = Opendir c.in-Opendir.node in
    let free : early mount request ≡ None = subst (λ (r : Request). early mount (without_spare r) ≡ None) c.in-Opendir.is c.requires.free in
    let prefix = opendir.prefix_of (view_of mount (at_node c.in-Opendir.node)) in
    subst (λ (r : Request). IfOk c.list.result (λ errand. (at : AtTake) → at.config ≡ config → at.second ≡ c.args.second → AsksAs (plan_over errand at.contents at.second) (plan at mount (without_spare r)))) (sym c.in-Opendir.is)
    (plans_so c.list.result config c.args.second mount request refl free
    (asks_so c.list.result config c.args.second (λ (o : Config) stamp. opendir.plan prefix o.list_page None) (λ o stamp. opendir_reads prefix o.list_page None) c.list.ensures.plan))

pub returns-in-Opendir-clause-entries : goal.returns-in-Opendir-clause-entries
returns-in-Opendir-clause-entries c =
    let config = c.args.config.now in
    let mount = c.args.mount.now.mount in
    subst (λ (r : Request). IfOk c.list.result (λ errand. (seen : List Observed) (items : List DirItem) → HoldsEntries errand config.implicit_dirs (answers_of seen) items → Fills config mount (without_spare r) seen items)) (sym c.in-Opendir.is)
    (listed_so c.list.result config mount c.in-Opendir.node c.list.ensures.entries)

pub returns-in-Read-clause-plan : goal.returns-in-Read-clause-plan
returns-in-Read-clause-plan c =
    let config = c.args.config.now in
    let mount = c.args.mount.now.mount in
    let request = Read c.in-Read.node c.in-Read.fh c.in-Read.first c.in-Read.size in
    let free : early mount request ≡ None = subst (λ (r : Request). early mount (without_spare r) ≡ None) c.in-Read.is c.requires.free in
    subst (λ (r : Request). IfOk c.read.result (λ errand. (at : AtTake) → at.config ≡ config → at.second ≡ c.args.second → AsksAs (plan_over errand at.contents at.second) (plan at mount (without_spare r)))) (sym c.in-Read.is)
    (plans_so c.read.result config c.args.second mount request refl free
    (reads_so c.read.result config c.args.second (view_of mount (at_open_file c.in-Read.node c.in-Read.fh)) c.read.ensures.plan))

-- ---- requests on open files
pub read-requires-clause-there : goal.read-requires-clause-there
read-requires-clause-there c =
    let mount = c.args.mount.now.mount in
    let request = Read c.in-Read.node c.in-Read.fh c.in-Read.first c.in-Read.size in
    open_file mount c.in-Read.node (at_open_file c.in-Read.node c.in-Read.fh) (λ file. size_refusal c.in-Read.size) refl c.requires.valid
    (refusal_free mount request (subst (λ (r : Request). early mount (without_spare r) ≡ None) c.in-Read.is c.requires.free))

pub write-requires-clause-there : goal.write-requires-clause-there
write-requires-clause-there c =
    let mount = c.args.mount.now.mount in
    let request = Write c.in-Write.node c.in-Write.fh c.in-Write.first c.in-Write.content in
    open_file mount c.in-Write.node (at_open_file c.in-Write.node c.in-Write.fh) (λ file. writing.limits_refusal c.in-Write.first (length c.in-Write.content)) refl c.requires.valid
    (refusal_free mount request (subst (λ (r : Request). early mount (without_spare r) ≡ None) c.in-Write.is c.requires.free))

pub flush-requires-clause-there : goal.flush-requires-clause-there
flush-requires-clause-there c = flushed_there c.args.mount.now.mount c.args.request.now c.in-Flush.node c.in-Flush.is c.requires.valid c.requires.free

pub returns-in-Write-clause-plan : goal.returns-in-Write-clause-plan
returns-in-Write-clause-plan c =
    let config = c.args.config.now in
    let mount = c.args.mount.now.mount in
    let request = Write c.in-Write.node c.in-Write.fh c.in-Write.first c.in-Write.content in
    let free : early mount request ≡ None = subst (λ (r : Request). early mount (without_spare r) ≡ None) c.in-Write.is c.requires.free in
    subst (λ (r : Request). IfOk c.write.result (λ errand. (at : AtTake) → at.config ≡ config → at.second ≡ c.args.second → AsksAs (plan_over errand at.contents at.second) (plan at mount (without_spare r)))) (sym c.in-Write.is)
    (plans_so c.write.result config c.args.second mount request refl free (writes_so c.write.result config c.args.second (view_of mount (at_open_file c.in-Write.node c.in-Write.fh)) c.write.ensures.plan))

pub returns-in-Flush-clause-plan : goal.returns-in-Flush-clause-plan
returns-in-Flush-clause-plan c =
    flushed_plan c.flush.result c.args.config.now c.args.mount.now.mount c.args.request.now c.in-Flush.node c.args.second c.in-Flush.is c.requires.free c.flush.ensures.plan

pub returns-in-Flush-clause-wanted : goal.returns-in-Flush-clause-wanted
returns-in-Flush-clause-wanted c = flushed_wants c.flush.result c.args.config.now c.args.mount.now.mount c.args.request.now c.in-Flush.node c.in-Flush.is c.requires.free c.flush.ensures.wanted

-- ---- requests that make, remove and move an object
pub make_file-requires : goal.make_file-requires
make_file-requires c =
    let makes = subst (MakesFile c.args.request.now c.in-Create.node) (sym c.as_slice-in-Create.ensures.bytes) c.in-Create.is in
    file_free c.args.mount.now.mount c.args.request.now c.in-Create.node c.as_slice-in-Create.result.now makes c.requires.free

pub returns-in-Create-clause-plan : goal.returns-in-Create-clause-plan
returns-in-Create-clause-plan c =
    let makes = subst (MakesFile c.args.request.now c.in-Create.node) (sym c.as_slice-in-Create.ensures.bytes) c.in-Create.is in
    file_plan c.make_file.result c.args.config.now c.args.mount.now.mount c.args.second c.args.request.now c.in-Create.node c.as_slice-in-Create.result.now makes c.requires.free c.make_file.ensures.plan

pub returns-in-Symlink-clause-plan : goal.returns-in-Symlink-clause-plan
returns-in-Symlink-clause-plan c =
    let links = c.in-Symlink.is ∙ ap (λ (name : List ℕ). Symlink c.in-Symlink.node name c.in-Symlink.target) (sym c.as_slice-in-Symlink.ensures.bytes)
    ∙ ap (Symlink c.in-Symlink.node c.as_slice-in-Symlink.result.now) (sym c.as_slice-in-Symlink-2.ensures.bytes) in
    link_plan c.make_link.result c.args.config.now c.args.mount.now.mount c.args.second c.args.request.now c.in-Symlink.node c.as_slice-in-Symlink.result.now c.as_slice-in-Symlink-2.result.now links c.requires.free
    c.make_link.ensures.plan

pub returns-in-Mkdir-clause-plan : goal.returns-in-Mkdir-clause-plan
returns-in-Mkdir-clause-plan c =
    mkdir_plan c.make_directory.result c.args.config.now c.args.mount.now.mount c.args.second c.args.request.now c.in-Mkdir.node c.as_slice-in-Mkdir.result.now
    (c.in-Mkdir.is ∙ ap (Mkdir c.in-Mkdir.node) (sym c.as_slice-in-Mkdir.ensures.bytes)) c.requires.free c.make_directory.ensures.plan

pub returns-in-Unlink-clause-plan : goal.returns-in-Unlink-clause-plan
returns-in-Unlink-clause-plan c =
    unlink_plan c.unlink.result c.args.config.now c.args.mount.now.mount c.args.second c.args.request.now c.in-Unlink.node c.as_slice-in-Unlink.result.now
    (c.in-Unlink.is ∙ ap (Unlink c.in-Unlink.node) (sym c.as_slice-in-Unlink.ensures.bytes)) c.requires.free c.unlink.ensures.plan

pub returns-in-Rmdir-clause-plan : goal.returns-in-Rmdir-clause-plan
returns-in-Rmdir-clause-plan c =
    rmdir_plan c.remove_directory.result c.args.config.now c.args.mount.now.mount c.args.second c.args.request.now c.in-Rmdir.node c.as_slice-in-Rmdir.result.now
    (c.in-Rmdir.is ∙ ap (Rmdir c.in-Rmdir.node) (sym c.as_slice-in-Rmdir.ensures.bytes)) c.requires.free c.remove_directory.ensures.plan

pub rename-requires : goal.rename-requires
rename-requires c =
    let renames = renames_by c.args.request.now c.in-Rename.node c.in-Rename.newdir c.as_slice-name.ensures.bytes c.as_slice-newname.ensures.bytes c.in-Rename.is in
    rename_free c.args.mount.now.mount c.args.request.now c.in-Rename.node c.in-Rename.newdir c.as_slice-name.result.now c.as_slice-newname.result.now renames c.requires.free

pub returns-in-Rename-clause-plan : goal.returns-in-Rename-clause-plan
returns-in-Rename-clause-plan c =
    let renames = renames_by c.args.request.now c.in-Rename.node c.in-Rename.newdir c.as_slice-name.ensures.bytes c.as_slice-newname.ensures.bytes c.in-Rename.is in
    rename_plan c.rename.result c.args.config.now c.args.mount.now.mount c.args.second c.args.request.now c.in-Rename.node c.as_slice-name.result.now c.in-Rename.newdir c.as_slice-newname.result.now renames
    c.requires.free c.rename.ensures.plan
