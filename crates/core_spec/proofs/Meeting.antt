-- The pass of a ticket is met, and its call is done.
use Rattle.std.proofs.Common.{◌≡◌, ℕ, true, false, All, List, ◌++◌, length, map, Some, sym, ap, subst, ◌∙◌}
use Rattle.bucket_api.specs.LogEvent.{LogEvent}
use Rattle.bucket_api.specs.Passes.{PassState, both_faults}
use Rattle.core_spec.proofs.Beside.{beside_longer}
use Rattle.core_spec.proofs.Looking.{looks_same, looks_told}
use Rattle.core_spec.proofs.TicketEnds.{found, o, ticket_beside, ticket_reached, ticket_told}
use Rattle.core_spec.specs.Beside.{AreBeside}
use Rattle.core_spec.specs.Cores.{CoreState, IsTold, IsToldBy, Tells, come_to, with_lane, with_seen}
use Rattle.core_spec.specs.Laws.{EndsGoOn, GoesOnByEnd, LooksGoOn}
use Rattle.core_spec.specs.Takes.{Learns}
use Rattle.core_spec.specs.Tickets.{IsOf, IsUnderWay, TicketState, how_of, unflagged}
use Rattle.history_spec.specs.Account.{Item}
use Rattle.history_spec.specs.JournalState.{JournalState, OpenCall, after_done, open_of}
use Rattle.lane_spec.specs.Numbers.{has, together}
use Rattle.mount_model.specs.declared.journal.Fill.{Fill}

module _ {I : Type 0} (before : CoreState (PassState I)) (log rest : List LogEvent) (is : log ≡ before.pass.seen ++ rest) (none : All (λ (e : LogEvent). has before.pass.held e.lane ≡ false) rest)
    (told : IsTold before) where
  looked_told : Tells (with_seen before log) told.told
  looked_told = subst (λ events. Tells (with_seen before events) told.told) (sym is) (looks_told before told.told told.is.tells rest none)

  looked_same : come_to (with_seen before log) told.told ≡ come_to before told.told
  looked_same = subst (λ events. come_to (with_seen before events) told.told ≡ come_to before told.told) (sym is) (looks_same before told.told told.is.tells rest none)

  looked_beside : AreBeside log (come_to (with_seen before log) told.told).opened (come_to (with_seen before log) told.told).ended
  looked_beside = subst (λ (s : JournalState). AreBeside log s.opened s.ended) (sym looked_same)
      (subst (λ events. AreBeside events (come_to before told.told).opened (come_to before told.told).ended) (sym is)
      (beside_longer before.pass.seen rest (come_to before told.told).opened (come_to before told.told).ended told.is.beside))

  pub looked_is : IsToldBy (with_seen before log) told.told
  looked_is = record { tells = looked_told; beside = looked_beside }

  -- ---- the end of a call, once the log is seen so far
  module _ (t : TicketState (PassState I)) (way : IsUnderWay t) (its : IsOf before t) (over : t.ended ≡ true) (more : List LogEvent) (seen : log ≡ t.pass.seen ++ more)
      (others : All (λ (e : LogEvent). has t.pass.held e.lane ≡ false) more) (items : List Item) (flags : map unflagged items ≡ map unflagged way.items) (fill : Fill)
      (learns : (p : OpenCall) → open_of (come_to (with_seen before log) told.told).opened t.call.lane ≡ Some p → Learns (with_seen before log) told.told p t.short items fill) where
    abbrev looked : CoreState (PassState I)
    looked = with_seen before log

    its_looked : IsOf (with_seen before log) t
    its_looked = record { origin = its.origin; config = its.config; rest = its.rest; journal = its.journal; unended = its.unended }

    abbrev its_call : OpenCall
    its_call = o looked told.told looked_told looked_beside t way its_looked over more seen others

    its_found : open_of (come_to (with_seen before log) told.told).opened t.call.lane ≡ Some its_call
    its_found = found looked told.told looked_told looked_beside t way its_looked over more seen others

    learned : Learns (with_seen before log) told.told its_call t.short items fill
    learned = learns its_call its_found

    ends_looked : (faults : ℕ) → GoesOnByEnd I before (with_lane (with_seen before log) t.call.lane faults) t told.told items fill
    ends_looked faults = record {
      o = its_call;
      found = ap (λ (s : JournalState). open_of s.opened t.call.lane) (sym looked_same) ∙ its_found;
      is = record {
        tells = ticket_told looked told.told looked_told looked_beside t way its_looked over more seen others items flags fill learned.filled learned.learned faults;
        beside = ticket_beside looked told.told looked_told looked_beside t way its_looked over more seen others items flags fill learned.filled learned.learned;
      };
      reaches = ticket_reached looked told.told looked_told looked_beside t way its_looked over more seen others items flags fill learned.filled learned.learned
          ∙ ap (λ (s : JournalState). after_done before.pass.origin.start log s (length log) (how_of t.short) items its_call) looked_same;
    }

pub looks_go_on : (I : Type 0) → LooksGoOn I
looks_go_on I core told log (rest, is, none) by = looked_is core log rest is none (record { told = told; is = by })

pub ends_go_on : (I : Type 0) → EndsGoOn I
ends_go_on I before met t items fill told way its over meets flags learns =
    by meets.mine.0 meets.mine.1 meets.mine.2 meets.its.0 meets.its.1 meets.its.2
  where
    met_is : met ≡ with_lane (with_seen before met.pass.seen) t.call.lane (both_faults before.pass.faults t.pass.faults)
    met_is = meets.kept ∙ ap (λ held. record before { pass = record before.pass { held = together before.pass.held held; seen = met.pass.seen; faults = both_faults before.pass.faults t.pass.faults } }) way.pass.held

    learns_so : (p : OpenCall) → open_of (come_to (with_seen before met.pass.seen) told.told).opened t.call.lane ≡ Some p → Learns (with_seen before met.pass.seen) told.told p t.short items fill
    learns_so p is =
        let learned = subst (λ m. (q : OpenCall) → open_of (come_to m told.told).opened t.call.lane ≡ Some q → Learns m told.told q t.short items fill) met_is learns p is in
        record { filled = learned.filled; learned = learned.learned }

    by : (rest : List LogEvent) → met.pass.seen ≡ before.pass.seen ++ rest → All (λ (e : LogEvent). has before.pass.held e.lane ≡ false) rest
        → (more : List LogEvent) → met.pass.seen ≡ t.pass.seen ++ more → All (λ (e : LogEvent). has t.pass.held e.lane ≡ false) more → GoesOnByEnd I before met t told.told items fill
    by rest is none more seen others =
        subst (λ m. GoesOnByEnd I before m t told.told items fill) (sym met_is)
        (ends_looked before met.pass.seen rest is none told t way its over more seen others items flags fill learns_so (both_faults before.pass.faults t.pass.faults))
