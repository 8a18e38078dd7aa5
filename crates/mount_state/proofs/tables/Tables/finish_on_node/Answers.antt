-- A READDIR is answered no more bytes than it asked for, a READ asks for not too many, and a WRITE goes by its own rules.
use Rattle.std.proofs.Common.{◌≡◌, None, sym, ap, subst, ◌∙◌}
use Rattle.fuse_requests.specs.Grammar.{without_spare}
use Rattle.fuse_requests.specs.declared.request.Request.{Request}
use Rattle.fuse_requests.specs.declared.request.Request.TheVariants.{Write}
use Rattle.mount_rules.specs.Dispatch.{early, mount_after, reply_to}
use Rattle.mount_state.specs.Serving.{IsServedAt}
use Rattle.mount_state.specs.Tables.{mount_of}
use Rattle.mount_state.proofs.DoneLaws.{write_leaves, write_replies}
use Rattle.mount_state.proofs.EntryLaws.{sendable_entries}
use Rattle.mount_state.proofs.ReadLaws.{read_within}
use Rattle.mount_state.proofs.tables.Tables.finish_on_node.Goals as goal

pub returns-in-Readdir-clause-sendable : goal.returns-in-Readdir-clause-sendable
returns-in-Readdir-clause-sendable c =
    sendable_entries (mount_of c.args.self.now) (without_spare c.args.request.now) c.in-Readdir.node c.in-Readdir.fh c.in-Readdir.first c.in-Readdir.size c.args.spare.provided c.into_entries.result.items
    (ap without_spare c.in-Readdir.is) c.requires.free c.requires.spare (sym c.into_prepared-in-Readdir.ensures ∙ c.into_entries.ensures)

pub read-requires-clause-short : goal.read-requires-clause-short
read-requires-clause-short c =
    read_within (mount_of c.args.self.now) (without_spare c.args.request.now) c.in-Read.node c.in-Read.fh c.in-Read.first c.in-Read.size
    (ap without_spare c.in-Read.is) c.requires.free

pub returns-in-Write-clause-reply : goal.returns-in-Write-clause-reply
returns-in-Write-clause-reply c = λ at served.
    let mount = mount_of c.args.self.now in
    let content = c.as_slice.result.now in
    let seen = c.args.seen.items in
    let same : without_spare c.args.request.now ≡ Write c.in-Write.node c.in-Write.fh c.in-Write.first content =
    ap without_spare c.in-Write.is ∙ ap (Write c.in-Write.node c.in-Write.fh c.in-Write.first) (sym c.as_slice.ensures.bytes) in
    c.write.ensures.no_spare
    ∙ write_replies mount c.in-Write.node c.in-Write.fh c.in-Write.first content (subst (λ (r : Request). early mount r ≡ None) same c.requires.free)
    at c.args.config.now c.args.second c.args.self.now.staging.blocks c.args.base seen
    (subst (λ (r : Request). IsServedAt c.args.config.now c.args.second mount r c.args.base at) same served) c.requires.blocks c.write.result c.write.ensures.reply
    ∙ ap (λ (r : Request). reply_to at mount r seen) (sym same)

pub returns-in-Write-clause-mount : goal.returns-in-Write-clause-mount
returns-in-Write-clause-mount c = λ at served.
    let mount = mount_of c.args.self.now in
    let content = c.as_slice.result.now in
    let seen = c.args.seen.items in
    let same : without_spare c.args.request.now ≡ Write c.in-Write.node c.in-Write.fh c.in-Write.first content =
    ap without_spare c.in-Write.is ∙ ap (Write c.in-Write.node c.in-Write.fh c.in-Write.first) (sym c.as_slice.ensures.bytes) in
    write_leaves mount c.in-Write.node c.in-Write.fh c.in-Write.first content (subst (λ (r : Request). early mount r ≡ None) same c.requires.free)
    at c.args.config.now c.args.second c.args.self.now.staging.blocks c.args.base seen
    (subst (λ (r : Request). IsServedAt c.args.config.now c.args.second mount r c.args.base at) same served) c.requires.blocks (mount_of c.write.new.self) c.write.ensures.mount
    ∙ ap (λ (r : Request). mount_after at mount r seen) (sym same)
