-- A request is carried out to its end, or stops short.
use Rattle.std.proofs.Common.{◌≡◌, ◌+◌, ap, subst, sym, ◌∙◌, arith}
use Rattle.fuse_replies.specs.Replies.{without_spare as reply_without_spare}
use Rattle.fuse_requests.specs.Grammar.{without_spare}
use Rattle.history_laws.specs.Ends.{over}
use Rattle.history_spec.specs.JournalState.{OpenCall}
use Rattle.mount_core.proofs.BaseLemmas.{live_has_bytes}
use Rattle.mount_core.proofs.LonePerformed.{came_so, errand_so, finds_so, performed_short, performed_so, served_so, serves_now, some_served}
use Rattle.mount_core.specs.Errands.{wanted_of}
use Rattle.mount_core.specs.Logged.{IsCarried, IsErrandOf, IsServed}
use Rattle.mount_core.specs.LoneCalls.{AllServed, IsTakenNow, Performs, found_taken}
use Rattle.mount_model.specs.declared.config.Config.{Config}
use Rattle.mount_rules.specs.Dispatch.{mount_after, plan, reply_to, rules_of, view_in}
use Rattle.mount_rules.specs.Mount.{MountModel, second_at}
use Rattle.mount_rules.specs.Plans.{answers_of}
use Rattle.mount_rules.specs.Rules.{AtTake}
use Rattle.mount_state.specs.Mounts.{MountState}
use Rattle.mount_state.specs.Serving.{IsServedAt, Serves}
use Rattle.mount_state.specs.Spares.{Fills, SpareState, need}
use Rattle.fuse_replies.specs.declared.reply.Reply.TheVariants.{Error}
use Rattle.mount_model.specs.declared.journal.How.TheVariants as how
use Rattle.thrift_spec.specs.Records.{found_in}
use Rattle.mount_core.proofs.lone.carry_through.Goals as goal
use Rattle.mount_core.proofs.lone.carry_through.Goals.{In-Ok, In-Ok-carry_logged}

pub carry_logged-requires-clause-bytes : goal.carry_logged-requires-clause-bytes
carry_logged-requires-clause-bytes c =
    live_has_bytes c.args.config.now (over c.args.bucket.now.start c.args.bucket.now.log c.args.mount.now.mount) (without_spare c.args.request.now) c.requires.valid
    c.requires.bucket.start c.requires.bucket.allowed c.requires.files (wanted_of c.in_ok-errand.errand) (sym c.in_ok-errand.ensures.wanted)

errand_is : (c : In-Ok) (o : OpenCall) → IsTakenNow c.args.config.now (second_at c.args.config.now c.args.clock) c.args.lane c.args.bucket.now (without_spare c.args.request.now) o
    → IsErrandOf c.in_ok-errand.errand c.second_of-second.result c.args.lane c.args.mount.now.mount c.args.bucket.now o
errand_is c o now =
    subst (λ n. IsErrandOf c.in_ok-errand.errand n c.args.lane c.args.mount.now.mount c.args.bucket.now o) (sym c.second_of-second.ensures)
    (errand_so c.args.config.now c.args.clock c.args.lane c.args.mount.now.mount c.args.kept.now.records c.args.bucket.now (without_spare c.args.request.now) c.in_ok-errand.errand (λ at settings stamp. c.in_ok-errand.ensures.plan at settings (stamp ∙ sym c.second_of-second.ensures)) c.in_ok-errand.ensures.wanted o now)

served : (c : In-Ok) (o : OpenCall) → AllServed c.args.config.now c.args.clock c.args.mount.now.mount c.args.kept.now.records c.args.bucket.now (without_spare c.args.request.now) o
    → IsServed c.in-Ok.found c.args.mount.now.mount c.args.bucket.now o
served c o all =
    served_so c.args.config.now c.args.clock c.args.lane c.args.mount.now.mount c.args.kept.now.records c.args.bucket.now (without_spare c.args.request.now) c.in_ok-errand.errand (λ at settings stamp. c.in_ok-errand.ensures.plan at settings (stamp ∙ sym c.second_of-second.ensures)) c.in_ok-errand.ensures.wanted
    c.in_ok-errand.ensures.keys c.in-Ok.found c.find.new.kept.records c.in-Ok.ensures.ok o all

finds : (c : In-Ok) (at : AtTake) → at.config ≡ c.args.config.now → at.second ≡ second_at c.args.config.now c.args.clock
    → c.find.new.kept.records ≡ found_in c.args.config.now c.args.clock (plan at c.args.mount.now.mount (without_spare c.args.request.now))
    ((rules_of (without_spare c.args.request.now)).keys (view_in c.args.mount.now.mount (without_spare c.args.request.now))) c.args.kept.now.records
finds c =
    finds_so c.args.config.now c.args.clock c.args.lane c.args.mount.now.mount c.args.kept.now.records c.args.bucket.now (without_spare c.args.request.now) c.in_ok-errand.errand (λ at settings stamp. c.in_ok-errand.ensures.plan at settings (stamp ∙ sym c.second_of-second.ensures)) c.in_ok-errand.ensures.wanted
    c.in_ok-errand.ensures.keys c.in-Ok.found c.find.new.kept.records c.in-Ok.ensures.ok

came : (c : In-Ok) (at : AtTake) → at.config ≡ c.args.config.now → at.second ≡ second_at c.args.config.now c.args.clock
    → c.in-Ok.found ≡ found_taken c.args.config.now c.args.clock at c.args.mount.now.mount c.args.kept.now.records (without_spare c.args.request.now)
came c =
    came_so c.args.config.now c.args.clock c.args.lane c.args.mount.now.mount c.args.kept.now.records c.args.bucket.now (without_spare c.args.request.now) c.in_ok-errand.errand (λ at settings stamp. c.in_ok-errand.ensures.plan at settings (stamp ∙ sym c.second_of-second.ensures)) c.in_ok-errand.ensures.wanted
    c.in_ok-errand.ensures.keys c.in-Ok.found c.find.new.kept.records c.in-Ok.ensures.ok

errand_on : (c : In-Ok-carry_logged) (o : OpenCall) → IsTakenNow c.args.config.now (second_at c.args.config.now c.args.clock) c.args.lane c.args.bucket.now (without_spare c.args.request.now) o
    → IsErrandOf c.in_ok-errand.errand c.second_of-second.result c.args.lane c.args.mount.now.mount c.args.bucket.now o
errand_on c o now =
    subst (λ n. IsErrandOf c.in_ok-errand.errand n c.args.lane c.args.mount.now.mount c.args.bucket.now o) (sym c.second_of-second.ensures)
    (errand_so c.args.config.now c.args.clock c.args.lane c.args.mount.now.mount c.args.kept.now.records c.args.bucket.now (without_spare c.args.request.now) c.in_ok-errand.errand (λ at settings stamp. c.in_ok-errand.ensures.plan at settings (stamp ∙ sym c.second_of-second.ensures)) c.in_ok-errand.ensures.wanted o now)

served_on : (c : In-Ok-carry_logged) (o : OpenCall) → AllServed c.args.config.now c.args.clock c.args.mount.now.mount c.args.kept.now.records c.args.bucket.now (without_spare c.args.request.now) o
    → IsServed c.in-Ok.found c.args.mount.now.mount c.args.bucket.now o
served_on c o all =
    served_so c.args.config.now c.args.clock c.args.lane c.args.mount.now.mount c.args.kept.now.records c.args.bucket.now (without_spare c.args.request.now) c.in_ok-errand.errand (λ at settings stamp. c.in_ok-errand.ensures.plan at settings (stamp ∙ sym c.second_of-second.ensures)) c.in_ok-errand.ensures.wanted
    c.in_ok-errand.ensures.keys c.in-Ok.found c.find.new.kept.records c.in-Ok.ensures.ok o all

finds_on : (c : In-Ok-carry_logged) (at : AtTake) → at.config ≡ c.args.config.now → at.second ≡ second_at c.args.config.now c.args.clock
    → c.find.new.kept.records ≡ found_in c.args.config.now c.args.clock (plan at c.args.mount.now.mount (without_spare c.args.request.now))
    ((rules_of (without_spare c.args.request.now)).keys (view_in c.args.mount.now.mount (without_spare c.args.request.now))) c.args.kept.now.records
finds_on c =
    finds_so c.args.config.now c.args.clock c.args.lane c.args.mount.now.mount c.args.kept.now.records c.args.bucket.now (without_spare c.args.request.now) c.in_ok-errand.errand (λ at settings stamp. c.in_ok-errand.ensures.plan at settings (stamp ∙ sym c.second_of-second.ensures)) c.in_ok-errand.ensures.wanted
    c.in_ok-errand.ensures.keys c.in-Ok.found c.find.new.kept.records c.in-Ok.ensures.ok

came_on : (c : In-Ok-carry_logged) (at : AtTake) → at.config ≡ c.args.config.now → at.second ≡ second_at c.args.config.now c.args.clock
    → c.in-Ok.found ≡ found_taken c.args.config.now c.args.clock at c.args.mount.now.mount c.args.kept.now.records (without_spare c.args.request.now)
came_on c =
    came_so c.args.config.now c.args.clock c.args.lane c.args.mount.now.mount c.args.kept.now.records c.args.bucket.now (without_spare c.args.request.now) c.in_ok-errand.errand (λ at settings stamp. c.in_ok-errand.ensures.plan at settings (stamp ∙ sym c.second_of-second.ensures)) c.in_ok-errand.ensures.wanted
    c.in_ok-errand.ensures.keys c.in-Ok.found c.find.new.kept.records c.in-Ok.ensures.ok

carried : (c : In-Ok-carry_logged) (o : OpenCall) → IsTakenNow c.args.config.now (second_at c.args.config.now c.args.clock) c.args.lane c.args.bucket.now (without_spare c.args.request.now) o
    → AllServed c.args.config.now c.args.clock c.args.mount.now.mount c.args.kept.now.records c.args.bucket.now (without_spare c.args.request.now) o
    → IsCarried c.args.mount.now.mount c.in-Ok.found c.args.bucket.now c.carry_logged.new.bucket o c.in-Ok-carry_logged.told c.in-Ok-carry_logged.base c.carry_logged.new.notes.items
carried c o now all = c.in-Ok-carry_logged.ensures.ok c.args.mount.now.mount o c.requires.valid (errand_on c o now) (served_on c o all)

pub finish-reply-requires-clause-items : goal.finish-reply-requires-clause-items
finish-reply-requires-clause-items c =
    subst (λ (m : MountState). Fills m.config m.mount (without_spare c.args.request.now) c.in-Ok-carry_logged.told.items c.in-Ok-carry_logged.items.items) (sym c.in_ok-spare.ensures.room)
    (subst (λ (config : Config). Fills config c.args.mount.now.mount (without_spare c.args.request.now) c.in-Ok-carry_logged.told.items c.in-Ok-carry_logged.items.items) (sym c.requires.same)
    (c.in_ok-errand.ensures.entries c.in-Ok-carry_logged.told.items c.in-Ok-carry_logged.items.items c.in-Ok-carry_logged.ensures.entries))

pub finish-reply-requires-clause-base : goal.finish-reply-requires-clause-base
finish-reply-requires-clause-base c =
    subst (λ (m : MountState). Serves m.config m.mount (without_spare c.args.request.now) (answers_of c.in-Ok-carry_logged.told.items) c.in-Ok-carry_logged.base) (sym c.in_ok-spare.ensures.room)
    (subst (λ (config : Config). Serves config c.args.mount.now.mount (without_spare c.args.request.now) (answers_of c.in-Ok-carry_logged.told.items) c.in-Ok-carry_logged.base) (sym c.requires.same)
    (serves_now c.args.config.now c.args.clock c.args.lane c.args.mount.now.mount c.args.kept.now.records c.args.bucket.now (without_spare c.args.request.now) c.in-Ok.found c.in-Ok-carry_logged.told c.in-Ok-carry_logged.base c.carry_logged.new.notes.items c.carry_logged.new.bucket c.requires.some
    (carried (goal.at.finish-reply-requires-clause-base c).In-Ok-carry_logged)))

-- served at these settings, it is served by the mount that has made room
prepared : (c : In-Ok-carry_logged) (at : AtTake) → IsServedAt c.args.config.now (second_at c.args.config.now c.args.clock) c.args.mount.now.mount (without_spare c.args.request.now) c.in-Ok-carry_logged.base at
    → IsServedAt c.prepare.new.self.config c.second_of-second.result c.prepare.new.self.mount (without_spare c.args.request.now) c.in-Ok-carry_logged.base at
prepared c at served =
    subst (λ n. IsServedAt c.prepare.new.self.config n c.prepare.new.self.mount (without_spare c.args.request.now) c.in-Ok-carry_logged.base at) (sym c.second_of-second.ensures)
    (subst (λ (m : MountState). IsServedAt m.config (second_at c.args.config.now c.args.clock) m.mount (without_spare c.args.request.now) c.in-Ok-carry_logged.base at) (sym c.in_ok-spare.ensures.room)
    (subst (λ (config : Config). IsServedAt config (second_at c.args.config.now c.args.clock) c.args.mount.now.mount (without_spare c.args.request.now) c.in-Ok-carry_logged.base at) (sym c.requires.same) served))

pub returns-in-Ok-carry_logged-clause-ok : goal.returns-in-Ok-carry_logged-clause-ok
returns-in-Ok-carry_logged-clause-ok c =
    let was = (goal.at.returns-in-Ok-carry_logged-clause-ok c).In-Ok-carry_logged in
    performed_so c.args.config.now c.args.clock c.args.lane c.args.mount.now.mount c.args.kept.now.records c.args.bucket.now (without_spare c.args.request.now) c.in-Ok.found c.in-Ok-carry_logged.told c.in-Ok-carry_logged.base c.carry_logged.new.notes.items c.carry_logged.new.bucket c.requires.some (carried was)
    (reply_without_spare c.finish-reply.result) c.finish-reply.new.self.mount c.find.new.kept.records
    (λ at served. c.finish-reply.ensures.reply at (prepared was at served)
    ∙ ap (λ (m : MountState). reply_to at m.mount (without_spare c.args.request.now) c.in-Ok-carry_logged.told.items) c.in_ok-spare.ensures.room)
    (λ at served. ap (λ (m : MountState). m.mount) (c.finish-reply.ensures.mount at (prepared was at served))
    ∙ ap (λ (m : MountState). mount_after at m.mount (without_spare c.args.request.now) c.in-Ok-carry_logged.told.items) c.in_ok-spare.ensures.room)
    (finds_on was) (came_on was)

pub returns-in-Ok-carry_logged-clause-kept : goal.returns-in-Ok-carry_logged-clause-kept
returns-in-Ok-carry_logged-clause-kept c =
    let was = (goal.at.returns-in-Ok-carry_logged-clause-kept c).In-Ok-carry_logged in
    let some = some_served c.args.config.now c.args.clock c.args.lane c.args.mount.now.mount c.args.kept.now.records c.args.bucket.now (without_spare c.args.request.now) c.in-Ok.found c.in-Ok-carry_logged.told c.in-Ok-carry_logged.base c.carry_logged.new.notes.items c.carry_logged.new.bucket c.requires.some (carried was) in
    let ended = c.finish-reply.ensures.mount some.at (prepared was some.at some.served) in
    let room : c.prepare.new.self.promised ≡ c.args.mount.now.promised + need c.in_ok-spare.spare.provided = ap (λ (m : MountState). m.promised) c.in_ok-spare.ensures.room in
    let promised = ap (λ (m : MountState). m.promised) ended in
    let same : c.finish-reply.new.self.promised ≡ c.args.mount.now.promised = omega (arith, room, promised, ap (λ (s : SpareState). need s.provided) c.spare.view_is) in
    ap (λ (config : Config). record { mount = c.finish-reply.new.self.mount; config = config; promised = c.finish-reply.new.self.promised })
    (ap (λ (m : MountState). m.config) ended ∙ ap (λ (m : MountState). m.config) c.in_ok-spare.ensures.room)
    ∙ ap (λ n. record { mount = c.finish-reply.new.self.mount; config = c.args.mount.now.config; promised = n }) same

pub returns-in-Err-clause-ok : goal.returns-in-Err-clause-ok
returns-in-Err-clause-ok c =
    let was = (goal.at.returns-in-Err-clause-ok c).In-Ok in
    subst (λ (m : MountModel). Performs c.args.config.now c.args.clock c.args.lane c.args.mount.now.mount c.args.kept.now.records c.args.bucket.now (without_spare c.args.request.now) (Error 12) how.NoMemory
    c.carry_logged.new.notes.items m c.find.new.kept.records c.carry_logged.new.bucket)
    (sym (ap (λ (m : MountState). m.mount) c.forgo-in-Err.ensures ∙ ap (λ (m : MountState). m.mount) c.in_ok-spare.ensures.room))
    (performed_short c.args.config.now c.args.clock c.args.lane c.args.mount.now.mount c.args.kept.now.records c.args.bucket.now (without_spare c.args.request.now) c.in-Ok.found c.carry_logged.new.notes.items c.find.new.kept.records c.carry_logged.new.bucket
    (λ o now all. c.in-Err.ensures.err c.args.mount.now.mount o c.requires.valid (errand_is was o now) (served was o all)) (finds was) (came was))
