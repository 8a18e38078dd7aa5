-- A request that was carried out to its end is performed, or is stale; another stopped short.
use Rattle.std.proofs.Common.{◌≡◌, ◌≤◌, ◌+◌, ◌-◌, ap, subst, sym, ◌∙◌, arith}
use Rattle.file_metadata.specs.FileMetadata.{last_second}
use Rattle.fuse_replies.specs.Errno.{enomem}
use Rattle.fuse_replies.specs.Replies.{without_spare as reply_without_spare}
use Rattle.fuse_replies.specs.declared.reply.Reply.TheVariants.{Error}
use Rattle.fuse_requests.specs.Grammar.{without_spare}
use Rattle.mount_core.proofs.BaseLemmas.{has_bytes}
use Rattle.mount_core.proofs.SerialLemmas.{asks_along, carried_so, early_second, gives_metadata, holds_so, serves_so, short_files, stopped_so}
use Rattle.mount_core.specs.Errands.{wanted_of}
use Rattle.mount_core.specs.Serials.{CameTo, IsSerial, SerialState, ServesOne}
use Rattle.mount_model.specs.declared.config.Config.{Config}
use Rattle.mount_rules.specs.Dispatch.{mount_after, reply_to, wants}
use Rattle.mount_rules.specs.Files.{FilesAreShort}
use Rattle.mount_rules.specs.Mount.{MountModel}
use Rattle.mount_rules.specs.OneThread.{RunState, at_state, contents_of, second_of}
use Rattle.mount_rules.specs.Plans.{HoldsWanted, answers_of}
use Rattle.mount_state.specs.Mounts.{MountState}
use Rattle.mount_state.specs.Serving.{IsServedAt, Serves}
use Rattle.mount_state.specs.Spares.{Fills, need}
use Rattle.mount_core.proofs.serial.Serial.perform.Goals as goal
use Rattle.mount_core.proofs.serial.Serial.perform.Goals.{After-finish, After-forgo}

-- ---- its errand
pub of-requires-clause-second : goal.of-requires-clause-second
of-requires-clause-second c =
    subst (λ n. n ≤ last_second) (sym (c.second-second.ensures ∙ ap (λ (s : SerialState). second_of s.config) (sym c.self.view_is))) (early_second c.self.inside.config)

pub of-requires-clause-short : goal.of-requires-clause-short
of-requires-clause-short c =
    short_files c.self.invariant.run (record { config = c.self.inside.config; mount = c.self.inside.mount.mount; store = c.self.inside.store }) c.self.invariant.came

pub of-requires-clause-metadata : goal.of-requires-clause-metadata
of-requires-clause-metadata c =
    gives_metadata c.self.invariant.run (record { config = c.self.inside.config; mount = c.self.inside.mount.mount; store = c.self.inside.store }) c.self.invariant.came

pub carry_out-requires-clause-bytes : goal.carry_out-requires-clause-bytes
carry_out-requires-clause-bytes c =
    let request = without_spare c.args.request.now in
    let was : SerialState = record { config = c.self.inside.config; mount = c.self.inside.mount.mount; store = c.self.inside.store } in
    has_bytes c.self.inside.config was request c.in_ok-spare.ensures.valid c.self.invariant.run c.self.invariant.came (wanted_of c.in_ok-errand.errand) (sym c.in_ok-errand.ensures.wanted)

-- ---- it was carried out to its end
pub finish-requires-clause-short : goal.finish-requires-clause-short
finish-requires-clause-short c =
    subst (λ (m : MountState). FilesAreShort m.mount) (sym c.in_ok-spare.ensures.room)
    (short_files c.self.invariant.run (record { config = c.self.inside.config; mount = c.self.inside.mount.mount; store = c.self.inside.store }) c.self.invariant.came)

pub finish-requires-clause-items : goal.finish-requires-clause-items
finish-requires-clause-items c =
    let request = without_spare c.args.request.now in
    subst (λ (m : MountState). Fills m.config m.mount request c.in-Ok.told.items c.carry_out.new.spare.items) (sym c.in_ok-spare.ensures.room)
    (subst (λ (config : Config). Fills config c.self.inside.mount.mount request c.in-Ok.told.items c.carry_out.new.spare.items) (sym c.self.invariant.same)
    (c.in_ok-errand.ensures.entries c.in-Ok.told.items c.carry_out.new.spare.items c.in-Ok.ensures.entries))

pub finish-requires-clause-base : goal.finish-requires-clause-base
finish-requires-clause-base c =
    let request = without_spare c.args.request.now in
    let was : SerialState = record { config = c.self.inside.config; mount = c.self.inside.mount.mount; store = c.self.inside.store } in
    subst (λ (m : MountState). Serves m.config m.mount request (answers_of c.in-Ok.told.items) c.in-Ok.base) (sym c.in_ok-spare.ensures.room)
    (subst (λ (config : Config). Serves config c.self.inside.mount.mount request (answers_of c.in-Ok.told.items) c.in-Ok.base) (sym c.self.invariant.same)
    (serves_so was request c.in_ok-spare.ensures.valid c.in_ok-errand.errand c.second-second.result c.in-Ok.told c.in-Ok.base c.carry_out.new.store c.in_ok-errand.ensures.wanted c.in-Ok.ensures.ok c.self.invariant.run c.self.invariant.came))

-- so it is served at its end
served_at : (c : After-finish) (run : RunState) → CameTo run (record { config = c.self.inside.config; mount = c.self.inside.mount.mount; store = c.self.inside.store })
    → IsServedAt c.prepare.new.self.config c.second-second.result c.prepare.new.self.mount (without_spare c.args.request.now) c.in-Ok.base (at_state c.self.inside.config run)
served_at c run came =
    let request = without_spare c.args.request.now in
    let was : SerialState = record { config = c.self.inside.config; mount = c.self.inside.mount.mount; store = c.self.inside.store } in
    record {
      settings = sym (ap (λ (m : MountState). m.config) c.in_ok-spare.ensures.room ∙ c.self.invariant.same);
      second_is = sym (c.second-second.ensures ∙ ap (λ (s : SerialState). second_of s.config) (sym c.self.view_is));
      holds = subst (λ (m : MountState). HoldsWanted (contents_of run.store) (wants m.config m.mount request) c.in-Ok.base.first c.in-Ok.base.bytes) (sym c.in_ok-spare.ensures.room)
          (subst (λ (config : Config). HoldsWanted (contents_of run.store) (wants config c.self.inside.mount.mount request) c.in-Ok.base.first c.in-Ok.base.bytes) (sym c.self.invariant.same)
          (holds_so was request c.in_ok-spare.ensures.valid c.in_ok-errand.errand c.second-second.result c.in-Ok.told c.in-Ok.base c.carry_out.new.store c.in_ok-errand.ensures.wanted c.in-Ok.ensures.ok run came));
    }

-- and the request is the next one of every such run
performed_so : (c : After-finish)
    → ServesOne (record { config = c.self.inside.config; mount = c.self.inside.mount.mount; store = c.self.inside.store }) (without_spare c.args.request.now) (reply_without_spare c.finish.result)
    (record { config = c.self.inside.config; mount = c.finish.new.self.mount; store = c.carry_out.new.store })
performed_so c =
    let request = without_spare c.args.request.now in
    let was : SerialState = record { config = c.self.inside.config; mount = c.self.inside.mount.mount; store = c.self.inside.store } in
    let asks = asks_along was request c.in_ok-spare.ensures.valid c.in_ok-errand.errand c.second-second.result (c.second-second.ensures ∙ ap (λ (s : SerialState). second_of s.config) (sym c.self.view_is)) c.in_ok-errand.ensures.plan in
    carried_so was request c.in_ok-spare.ensures.valid c.in_ok-errand.errand c.second-second.result c.in-Ok.told c.in-Ok.base c.carry_out.new.store c.in_ok-errand.ensures.wanted c.in-Ok.ensures.ok
    c.self.invariant.run c.self.invariant.came (reply_without_spare c.finish.result) c.finish.new.self.mount asks
    (λ run came. c.finish.ensures.reply (at_state was.config run) (served_at c run came)
    ∙ ap (λ (m : MountState). reply_to (at_state was.config run) m.mount request c.in-Ok.told.items) c.in_ok-spare.ensures.room)
    (λ run came. ap (λ (m : MountState). m.mount) (c.finish.ensures.mount (at_state was.config run) (served_at c run came))
    ∙ ap (λ (m : MountState). mount_after (at_state was.config run) m.mount request c.in-Ok.told.items) c.in_ok-spare.ensures.room)

ended_so : (c : After-finish) → IsSerial c.self.inside.config c.finish.new.self c.carry_out.new.store
ended_so c =
    let on = performed_so c c.self.invariant.run c.self.invariant.came in
    let ended = c.finish.ensures.mount (at_state c.self.inside.config c.self.invariant.run) (served_at c c.self.invariant.run c.self.invariant.came) in
    let promised : c.finish.new.self.promised ≡ c.prepare.new.self.promised - need c.carry_out.new.spare.provided = ap (λ (m : MountState). m.promised) ended in
    let room : c.prepare.new.self.promised ≡ c.self.inside.mount.promised + need c.in_ok-spare.spare.provided = ap (λ (m : MountState). m.promised) c.in_ok-spare.ensures.room in
    record {
      settings = c.self.invariant.settings;
      same = ap (λ (m : MountState). m.config) ended ∙ ap (λ (m : MountState). m.config) c.in_ok-spare.ensures.room ∙ c.self.invariant.same;
      idle = omega (arith, promised, room, ap need c.carry_out.ensures.provided, c.self.invariant.idle);
      run = on.left;
      came = on.came;
    }

pub invariant_of-self-in-Ok : goal.invariant_of-self-in-Ok
invariant_of-self-in-Ok c = ended_so (goal.at.invariant_of-self-in-Ok c).After-finish

pub returns-in-Ok-clause-ok : goal.returns-in-Ok-clause-ok
returns-in-Ok-clause-ok c =
    subst (λ (before : SerialState). ServesOne before (without_spare c.args.request.now) (reply_without_spare c.finish.result) (record { config = c.self.inside.config; mount = c.finish.new.self.mount; store = c.carry_out.new.store })) c.self.view_is
    (performed_so (goal.at.returns-in-Ok-clause-ok c).After-finish)

-- ---- it stopped
stopped_here : (c : After-forgo)
    → ServesOne (record { config = c.self.inside.config; mount = c.self.inside.mount.mount; store = c.self.inside.store }) (without_spare c.args.request.now) (Error enomem)
    (record { config = c.self.inside.config; mount = c.forgo.new.self.mount; store = c.carry_out.new.store })
stopped_here c =
    let request = without_spare c.args.request.now in
    let was : SerialState = record { config = c.self.inside.config; mount = c.self.inside.mount.mount; store = c.self.inside.store } in
    let asks = asks_along was request c.in_ok-spare.ensures.valid c.in_ok-errand.errand c.second-second.result (c.second-second.ensures ∙ ap (λ (s : SerialState). second_of s.config) (sym c.self.view_is)) c.in_ok-errand.ensures.plan in
    let kept : c.forgo.new.self.mount ≡ c.self.inside.mount.mount = ap (λ (m : MountState). m.mount) c.forgo.ensures ∙ ap (λ (m : MountState). m.mount) c.in_ok-spare.ensures.room in
    subst (λ (m : MountModel). ServesOne was request (Error enomem) (record was { mount = m; store = c.carry_out.new.store })) (sym kept)
    (stopped_so was request c.in_ok-spare.ensures.valid c.in_ok-errand.errand c.second-second.result c.carry_out.new.store asks c.in_ok-errand.ensures.wanted c.in-Err.ensures.err)

pub invariant_of-self-in-Err : goal.invariant_of-self-in-Err
invariant_of-self-in-Err c =
    let on = stopped_here (goal.at.invariant_of-self-in-Err c).After-forgo c.self.invariant.run c.self.invariant.came in
    let promised : c.forgo.new.self.promised ≡ c.prepare.new.self.promised - need c.carry_out.new.spare.provided = ap (λ (m : MountState). m.promised) c.forgo.ensures in
    let room : c.prepare.new.self.promised ≡ c.self.inside.mount.promised + need c.in_ok-spare.spare.provided = ap (λ (m : MountState). m.promised) c.in_ok-spare.ensures.room in
    record {
      settings = c.self.invariant.settings;
      same = ap (λ (m : MountState). m.config) c.forgo.ensures ∙ ap (λ (m : MountState). m.config) c.in_ok-spare.ensures.room ∙ c.self.invariant.same;
      idle = omega (arith, promised, room, ap need c.carry_out.ensures.provided, c.self.invariant.idle);
      run = on.left;
      came = on.came;
    }

pub returns-in-Err-clause-ok : goal.returns-in-Err-clause-ok
returns-in-Err-clause-ok c =
    subst (λ (before : SerialState). ServesOne before (without_spare c.args.request.now) (Error enomem) (record { config = c.self.inside.config; mount = c.forgo.new.self.mount; store = c.carry_out.new.store })) c.self.view_is
    (stopped_here (goal.at.returns-in-Err-clause-ok c).After-forgo)
