-- Where nothing is staged the bytes are the base's.
use Rattle.std.proofs.Common.{length, drop, ◌-◌, Option, sym, ap, subst, ◌∙◌, arith}
use Rattle.std.proofs.lemmas.List.{length-take}
use Rattle.std.specs.FinMap as fin
use Rattle.mount_rules.specs.Plans.{CoversWanted, HoldsWanted}
use Rattle.mount_rules.specs.Requests.Read as spec
use Rattle.mount_rules.specs.View.{sight_at}
use Rattle.staging_spec.specs.StagedFiles.{StagedContent}
use Rattle.mount_state.specs.Spares.{provided_by}
use Rattle.mount_state.proofs.ReadLaws.{read_so}
use Rattle.mount_state.proofs.StagedReads.{no_buffer, nothing_staged}
use Rattle.mount_state.proofs.tables.Tables.bytes.Goals as goal

pub returns-clause-bytes : goal.returns-clause-bytes
returns-clause-bytes c = λ contents holds.
    let found = fin.get c.args.self.now.staging.files c.args.node in
    let seen = sight_at c.args.self.now.nodes.table c.args.node in
    let none = nothing_staged c.args.first c.args.size found (provided_by c.args.prepared) (no_buffer c.args.prepared c.in_default.not-Buffer) c.requires.prepared in
    c.into_range.ensures
    ∙ read_so contents c.args.first c.args.size seen c.args.base.first c.args.base.bytes c.asked.result c.asked.ensures.asked
    (subst (λ (o : Option StagedContent). CoversWanted (spec.wanted c.args.first c.args.size o seen) c.args.base.first (length c.args.base.bytes)) none c.requires.covers)
    (subst (λ (o : Option StagedContent). HoldsWanted contents (spec.wanted c.args.first c.args.size o seen) c.args.base.first c.args.base.bytes) none holds)
    ∙ ap (λ (o : Option StagedContent). spec.bytes contents c.args.first c.args.size o seen) (sym none)

pub returns-clause-few : goal.returns-clause-few
returns-clause-few c =
    let few = c.asked.ensures.bounded in
    let cut = ap length c.into_range.ensures in
    let most = length-take c.asked.result (drop (c.args.first - c.args.base.first) c.args.base.bytes) in
    omega (arith, few, cut, most)
