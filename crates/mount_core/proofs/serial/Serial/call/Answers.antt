-- A request is refused at once, or performed.
use Rattle.std.proofs.Common.{◌≡◌, ap, subst, sym, ◌∙◌}
use Rattle.fuse_requests.specs.Grammar.{without_spare}
use Rattle.mount_core.proofs.SendLemmas.{taken-told}
use Rattle.mount_core.proofs.SerialLemmas.{free_early, free_full, refused_taken, short_files}
use Rattle.mount_core.specs.Serials.{SerialState}
use Rattle.mount_model.specs.declared.config.Config.{Config}
use Rattle.mount_rules.specs.Dispatch.{refused_at_take}
use Rattle.mount_rules.specs.Mount.{IsMount}
use Rattle.mount_core.proofs.serial.Serial.call.Goals as goal
use Rattle.mount_core.proofs.serial.Serial.call.Goals.{After-early}

pub early-requires : goal.early-requires
early-requires c = record {
  short = short_files c.self.invariant.run (record { config = c.self.inside.config; mount = c.self.inside.mount.mount; store = c.self.inside.store }) c.self.invariant.came;
}

-- what the mount answers is what refuses the request of the serial
told : (c : After-early) → c.early.result ≡ refused_at_take c.args.self.now.config c.args.self.now.mount (without_spare c.args.request)
told c =
    c.early.ensures.errno ∙ ap (λ (config : Config). refused_at_take config c.self.inside.mount.mount (without_spare c.args.request)) c.self.invariant.same
    ∙ ap (λ (s : SerialState). refused_at_take s.config s.mount (without_spare c.args.request)) c.self.view_is

valid : (c : After-early) → IsMount c.args.self.now.mount
valid c = subst (λ (s : SerialState). IsMount s.mount) c.self.view_is c.early.ensures.valid

pub returns-in-Some-clause-ok : goal.returns-in-Some-clause-ok
returns-in-Some-clause-ok c =
    let after = (goal.at.returns-in-Some-clause-ok c).After-early in
    refused_taken c.args.self.now (without_spare c.args.request) c.in-Some.errno (valid after) (sym (told after) ∙ c.in-Some.is)

pub returns-in-Some-clause-sendable : goal.returns-in-Some-clause-sendable
returns-in-Some-clause-sendable c =
    let after = (goal.at.returns-in-Some-clause-sendable c).After-early in
    taken-told c.args.self.now.config c.args.self.now.mount (without_spare c.args.request) c.in-Some.errno (sym c.in-Some.is ∙ told after)

pub perform-requires-clause-valid : goal.perform-requires-clause-valid
perform-requires-clause-valid c = valid (goal.at.perform-requires-clause-valid c).After-early

pub perform-requires-clause-free : goal.perform-requires-clause-free
perform-requires-clause-free c =
    free_early c.args.self.now.config c.args.self.now.mount (without_spare c.args.request) (sym (told (goal.at.perform-requires-clause-free c).After-early) ∙ c.in-None.is)

pub perform-requires-clause-fits : goal.perform-requires-clause-fits
perform-requires-clause-fits c =
    free_full c.args.self.now.config c.args.self.now.mount (without_spare c.args.request) (sym (told (goal.at.perform-requires-clause-fits c).After-early) ∙ c.in-None.is)
