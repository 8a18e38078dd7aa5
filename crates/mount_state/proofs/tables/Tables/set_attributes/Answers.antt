-- The time of the staged content is set, and told.
use Rattle.std.proofs.Common.{◌≡◌, sym, ap, ◌∙◌}
use Rattle.mount_model.specs.declared.config.Config.{Config}
use Rattle.mount_rules.specs.Mount.{MountModel}
use Rattle.mount_rules.specs.Plans.{answers_of, last_moment}
use Rattle.mount_rules.specs.Requests.Getattr.{reply_with}
use Rattle.mount_rules.specs.Requests.Setattr as setattr
use Rattle.mount_rules.specs.Rules.{Taken, at_file}
use Rattle.mount_rules.specs.View.{view_of}
use Rattle.plan_files.specs.Settings.{as_change, asked_of}
use Rattle.mount_state.specs.Tables.{mount_of}
use Rattle.mount_state.proofs.tables.Tables.set_attributes.Goals as goal

pub returns-in-StageTime-clause-reply : goal.returns-in-StageTime-clause-reply
returns-in-StageTime-clause-reply c = λ at set now.
    let mount = mount_of c.args.self.now in
    let asked = asked_of c.args.asked.now in
    let taken : Taken = record { at = at; view = view_of mount (at_file c.args.node) } in
    let change : setattr.stage_time ≡ setattr.change_in asked taken.view = ap as_change (sym c.in-StageTime.is) ∙ c.change.ensures in
    c.attributes_with-in-StageTime.ensures.reply
    ∙ ap (λ (m : MountModel). reply_with c.args.config.now m.table m.staged c.args.node 1) (c.set_staged_time.ensures.mount at now)
    ∙ ap (λ (config : Config). setattr.attributes_in config (setattr.mount_after taken asked c.args.node mount (last_moment c.args.seen.items) (answers_of c.args.seen.items) setattr.stage_time) c.args.node) (sym set)
    ∙ ap (setattr.reply_to taken asked c.args.node mount (last_moment c.args.seen.items) (answers_of c.args.seen.items)) change

pub returns-in-StageTime-clause-mount : goal.returns-in-StageTime-clause-mount
returns-in-StageTime-clause-mount c = λ at now.
    let mount = mount_of c.args.self.now in
    let asked = asked_of c.args.asked.now in
    let taken : Taken = record { at = at; view = view_of mount (at_file c.args.node) } in
    let change : setattr.stage_time ≡ setattr.change_in asked taken.view = ap as_change (sym c.in-StageTime.is) ∙ c.change.ensures in
    c.set_staged_time.ensures.mount at now
    ∙ ap (setattr.mount_after taken asked c.args.node mount (last_moment c.args.seen.items) (answers_of c.args.seen.items)) change
