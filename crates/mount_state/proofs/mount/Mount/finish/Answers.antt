-- The mount stays one, and has room for the spares that are still out.
use Rattle.std.proofs.Common.{◌-◌, refl, sym, ap, subst, ◌∙◌, arith}
use Rattle.fuse_requests.specs.Grammar.{without_spare}
use Rattle.mount_rules.specs.Dispatch.{mount_after, reply_to, wants}
use Rattle.mount_rules.specs.Mount.{IsMount}
use Rattle.mount_rules.specs.Rules.{AtTake}
use Rattle.mount_laws.proofs.RequestLaws.{stays_mount}
use Rattle.mount_state.specs.Mounts.{MountState}
use Rattle.mount_state.specs.Serving.{IsServedAt}
use Rattle.mount_state.specs.Spares.{SpareState, need}
use Rattle.mount_state.specs.Tables.{mount_of}
use Rattle.mount_state.proofs.BaseLaws.{padded, padded_holds}
use Rattle.mount_state.proofs.mount.Mount.finish.Goals as goal

pub invariant_of-self : goal.invariant_of-self
invariant_of-self c =
    let request = without_spare c.args.request.now in
    let at : AtTake = record { config = c.self.inside.config; second = c.args.second; contents = padded c.args.base.first c.args.base.bytes } in
    let served : IsServedAt c.self.inside.config c.args.second (mount_of c.self.inside.tables) request c.args.base at = record {
      settings = refl;
      second_is = refl;
      holds = padded_holds c.args.base.first c.args.base.bytes (wants c.self.inside.config (mount_of c.self.inside.tables) request);
    } in
    let promised = ap (λ (s : MountState). s.promised) c.self.view_is in
    let needs = c.need-room.ensures ∙ ap (λ (s : SpareState). need s.provided) c.spare.view_is in
    let uses = c.finish-reply.ensures.uses in
    record {
      mount = subst IsMount (sym (c.finish-reply.ensures.mount at served))
          (stays_mount at (mount_of c.self.inside.tables) request c.args.seen.items c.self.invariant.mount);
      region = uses.region ∙ c.self.invariant.region;
      node_room = omega (arith, uses.nodes, c.self.invariant.node_room, promised, needs, c.requires.room);
      handle_room = omega (arith, uses.handles, c.self.invariant.handle_room, promised, needs, c.requires.room);
      staging_room = omega (arith, uses.staging, c.self.invariant.staging_room, promised, needs, c.requires.room);
      numbers = omega (arith, uses.numbers, c.self.invariant.numbers, promised, needs, c.requires.room);
      bounded = c.self.invariant.bounded;
    }

pub returns-clause-reply : goal.returns-clause-reply
returns-clause-reply c = λ at served.
    let request = without_spare c.args.request.now in
    c.finish-reply.ensures.reply at (subst (λ (s : MountState). IsServedAt s.config c.args.second s.mount request c.args.base at) (sym c.self.view_is) served)
    ∙ ap (λ (s : MountState). reply_to at s.mount request c.args.seen.items) c.self.view_is

pub returns-clause-mount : goal.returns-clause-mount
returns-clause-mount c = λ at served.
    let request = without_spare c.args.request.now in
    let mount =
    c.finish-reply.ensures.mount at (subst (λ (s : MountState). IsServedAt s.config c.args.second s.mount request c.args.base at) (sym c.self.view_is) served)
    ∙ ap (λ (s : MountState). mount_after at s.mount request c.args.seen.items) c.self.view_is in
    let needs = c.need-room.ensures ∙ ap (λ (s : SpareState). need s.provided) c.spare.view_is in
    let promised = ap (λ (s : MountState). s.promised) c.self.view_is in
    λ i. record { mount = mount i; config = (c.self.view_is i).config; promised = promised i - needs i }
