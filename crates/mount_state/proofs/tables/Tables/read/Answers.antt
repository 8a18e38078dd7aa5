-- The bytes are those of the file, and no more than were asked for.
use Rattle.std.proofs.Common.{◌≡◌, sym, ap, ◌∙◌, arith}
use Rattle.std.specs.FinMap as fin
use Rattle.fuse_replies.specs.declared.reply.Reply.TheVariants.{Content}
use Rattle.mount_rules.specs.Plans.{answers_of}
use Rattle.mount_rules.specs.Reading.{given, reads}
use Rattle.mount_rules.specs.Requests.Read as spec
use Rattle.mount_rules.specs.View.{sight_at}
use Rattle.plan_files.specs.Outcomes.{as_reads}
use Rattle.mount_state.proofs.tables.Tables.read.Goals as goal

pub returns-in-Given-clause-reply : goal.returns-in-Given-clause-reply
returns-in-Given-clause-reply c = λ contents holds.
    let staged = fin.get c.args.self.now.staging.files c.args.node in
    let seen = sight_at c.args.self.now.nodes.table c.args.node in
    let told : given ≡ reads (answers_of c.args.seen.now.items) = ap as_reads (sym c.in-Given.is) ∙ c.outcome_of_reads.ensures ∙ ap reads c.answers.ensures in
    ap Content (c.bytes.ensures.bytes contents holds) ∙ ap (spec.reply_to (spec.bytes contents c.args.first c.args.size staged seen)) told

pub returns-in-Given-clause-sendable : goal.returns-in-Given-clause-sendable
returns-in-Given-clause-sendable c =
    let few = c.bytes.ensures.few in
    let short = c.requires.short in
    omega (arith, few, short)
