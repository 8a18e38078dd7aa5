-- A call is done: what told all of the mount goes on by its end.
use Rattle.std.proofs.Common.{◌≡◌, ◌≢◌, ℕ, ◌+◌, ◌≤◌, All, List, [], ◌∷◌, ◌++◌, append_assoc, append-nil, length, Some, sym, subst, arith, length-append}
use Rattle.std.specs.List.{AllByRecursion}
use Rattle.std.proofs.lemmas.List.Elements.{All-head, All-tail}
use Rattle.bucket_api.specs.BucketState.{BucketState}
use Rattle.bucket_api.specs.LogEvent.{LogEvent}
use Rattle.bucket_api.specs.Passes.{PassState}
use Rattle.core_spec.proofs.Apart.{StandApart-append}
use Rattle.core_spec.proofs.Almost.{almost, whole}
use Rattle.core_spec.proofs.Beside.{all_taken}
use Rattle.core_spec.proofs.Finishing.{finish_almost, finish_beside, finish_reached}
use Rattle.core_spec.specs.Beside.{AreBeside}
use Rattle.core_spec.specs.Cores.{CoreState, Tells, come_to, done_at, kept_by, with_done, with_lane}
use Rattle.history_spec.proofs.Claiming.{accounts_happen, plans_stay}
use Rattle.history_spec.proofs.Lanes.{at_lane}
use Rattle.history_spec.proofs.WalkLaws.{walk_stays}
use Rattle.history_spec.specs.Account.{Account, Item, uses_of}
use Rattle.history_spec.specs.Claims.{StandApart, plan_taken}
use Rattle.history_spec.specs.Fits.{EndsBy, Follows, HasWalked, plan_of}
use Rattle.history_spec.specs.JournalState.{JournalState, OpenCall, after_done, first_journal, open_of, reached}
use Rattle.history_spec.specs.Laws.{Happens}
use Rattle.history_spec.specs.Observing.{seen_by}
use Rattle.mount_laws.proofs.Overlaps.{open_calls_see}
use Rattle.mount_laws.proofs.RequestLaws.{claims_cover}
use Rattle.mount_model.specs.declared.config.Config.{Config}
use Rattle.mount_model.specs.declared.journal.Fill.{Fill}
use Rattle.mount_model.specs.declared.journal.How.{How}
use Rattle.mount_rules.specs.Laws as rules
use Rattle.mount_rules.specs.Overlap as overlap
use Rattle.mount_model.specs.Observing.{Observed}
use Rattle.bucket_api.specs.Operation.{Operation}
use Rattle.mount_rules.specs.Plans.{Allows, Plan, answers_of}
use Rattle.thrift_spec.specs.Records.{AreTold}
use Rattle.thrift_spec.specs.Thrift.{EndsThrifty}

-- ---- the walk
-- it stays by events of other lanes
pub walk_along : (start : BucketState) (log more : List LogEvent) (plan : Plan) (o : OpenCall) (items : List Item) → o.front ≤ length log
    → All (λ (e : LogEvent). e.lane ≢ o.call.lane) more → HasWalked start log plan o (length log) items → HasWalked start (log ++ more) plan o (length (log ++ more)) items
walk_along start log [] plan o items front differ walk = subst (λ events. HasWalked start events plan o (length events) items) (sym (append-nil log)) walk
walk_along start log (e ∷ more) plan o items front differ walk =
    subst (λ events. HasWalked start events plan o (length events) items) (append_assoc log (e ∷ []) more)
    (walk_along start (log ++ e ∷ []) more plan o items (let long : length (log ++ e ∷ []) ≡ length log + 1 = length-append log (e ∷ []) in omega (arith, front, long))
    (All-tail (λ (x : LogEvent). x.lane ≢ o.call.lane) e more differ)
    (walk_stays start log e plan o items front walk (All-head (λ (x : LogEvent). x.lane ≢ o.call.lane) e more differ)))

-- ---- claims
-- a call under way sees what it saw at its take
pub sees_taken : (config : Config) (start : BucketState) (log : List LogEvent) (told : Account) (lane : ℕ) (o : OpenCall) → Follows config start log first_journal told
    → StandApart config start log first_journal told → open_of (reached config start log told).opened lane ≡ Some o → overlap.SeesAsTaken (reached config start log told).mount o.taken
sees_taken config start log told lane o follows apart is =
    at_lane (λ (p : OpenCall). overlap.SeesAsTaken (reached config start log told).mount p.taken) (reached config start log told).opened lane o is
    (all_taken (overlap.SeesAsTaken (reached config start log told).mount) (reached config start log told).opened
    (subst (λ (s : overlap.Shared). AllByRecursion (overlap.SeesAsTaken s.mount) s.open_calls) happens.reaches (open_calls_see happens.turns happens.happen)))
  where
    happens : Happens config start log first_journal told
    happens = accounts_happen config start log told follows apart

module _ {I : Type 0} (core : CoreState (PassState I)) (told : Account) (tells : Tells core told) (o : OpenCall)
    (found : open_of (come_to core told).opened o.call.lane ≡ Some o) (h : How) (items : List Item) (fill : Fill)
    (walk : HasWalked core.pass.origin.start core.pass.seen (plan_taken o.taken) o (length core.pass.seen) items)
    (ends : EndsBy h (plan_taken o.taken) (seen_by core.pass.origin.start core.pass.seen items)) where
  abbrev state : JournalState
  state = come_to core told

  sees : overlap.SeesAsTaken (come_to core told).mount o.taken
  sees = sees_taken core.config core.pass.origin.start core.pass.seen told o.call.lane o tells.is.follows tells.apart found

  plan_is : plan_of (come_to core told) o ≡ plan_taken o.taken
  plan_is = plans_stay state.mount o.taken sees

  walk_now : HasWalked core.pass.origin.start core.pass.seen (plan_of (come_to core told) o) o (length core.pass.seen) items
  walk_now = subst (λ (p : Plan). HasWalked core.pass.origin.start core.pass.seen p o (length core.pass.seen) items) (sym plan_is) walk

  ends_now : EndsBy h (plan_of (come_to core told) o) (seen_by core.pass.origin.start core.pass.seen items)
  ends_now = subst (λ (p : Plan). EndsBy h p (seen_by core.pass.origin.start core.pass.seen items)) (sym plan_is) ends

  covers : (seen : List Observed) (op : Operation) → Allows (plan_of (come_to core told) o (answers_of seen)) op → rules.IsCovered o.taken.claimed op
  covers seen op allows = subst (λ claimed. rules.IsCovered claimed op) sees.claimed (claims_cover o.taken.at state.mount o.taken.request seen op allows)

  module _ (beside : AreBeside core.pass.seen (come_to core told).opened (come_to core told).ended)
      (thrifty : EndsThrifty core.config core.pass.origin.start core.pass.seen (kept_by core told) o h items fill)
      (flags : AreTold core.config.implicit_dirs core.pass.origin.start core.pass.seen o.clock (kept_by core told).records items) where
    -- what it comes to
    pub end_reached : reached core.config core.pass.origin.start core.pass.seen (told ++ done_at core o.call h items fill ∷ [])
        ≡ after_done core.pass.origin.start core.pass.seen state (length core.pass.seen) h items o
    end_reached = finish_reached core told (almost core told tells) o found h items fill walk_now ends_now covers beside thrifty flags

    -- calls beside one another stay so
    pub end_beside : AreBeside core.pass.seen (reached core.config core.pass.origin.start core.pass.seen (told ++ done_at core o.call h items fill ∷ [])).opened
        (reached core.config core.pass.origin.start core.pass.seen (told ++ done_at core o.call h items fill ∷ [])).ended
    end_beside = finish_beside core told (almost core told tells) o found h items fill walk_now ends_now covers beside thrifty flags

    -- all is told by the account with the end
    pub end_told : (faults : ℕ) → Tells (with_done (with_lane core o.call.lane faults) o.call h (uses_of items) fill) (told ++ done_at core o.call h items fill ∷ [])
    end_told faults = whole (with_done (with_lane core o.call.lane faults) o.call h (uses_of items) fill) (told ++ done_at core o.call h items fill ∷ [])
        (finish_almost core told (almost core told tells) o found h items fill walk_now ends_now covers beside thrifty flags faults)
        (StandApart-append core.config core.pass.origin.start core.pass.seen first_journal told (done_at core o.call h items fill ∷ []) tells.apart tt)
