-- What a call on one thread comes to, by the rules of its request: what holds where it is refused, and where it goes by its
-- rules to their end, holds however it ends that doesn't stop short.
use Rattle.std.proofs.Common.{◌≡◌, ◌≢◌, ℕ, Bool, false, List, Option, Some, None, refl, sym, ap, subst, ◌∙◌}
use Rattle.std.specs.Option.{option_map_or}
use Rattle.std.specs.Prelude.{if◌then◌else◌, not, ◌&&◌}
use Rattle.fuse_replies.specs.Errno.{estale}
use Rattle.fuse_replies.specs.declared.reply.Reply.{Reply}
use Rattle.fuse_replies.specs.declared.reply.Reply.TheVariants.{Error, Silent}
use Rattle.fuse_requests.specs.declared.request.Request.{Request}
use Rattle.mount_model.specs.Observing.{Observed}
use Rattle.mount_model.specs.declared.config.Config.{Config}
use Rattle.mount_rules.specs.Dispatch.{early, is_idle, is_silent, reply_to, rules_of, taken_at}
use Rattle.mount_rules.specs.OneThread.{Call, Ending, Ends, IsLawful, Observes, RunState, Store, after_operations, at_state, performed, plan_at, reply_by, reply_in, short, stale}
use Rattle.mount_rules.specs.Plans.{Completes, Plan, done}
use Rattle.mount_rules.specs.Rules.{Taken}
use Rattle.mount_laws.proofs.RequestLaws.{goes_by}
use Rattle.mount_laws.proofs.Stores.{observes_none}

module _ (config : Config) (state : RunState) (request : Request) (heard : is_silent request ≡ false) where
  abbrev taken : Taken
  taken = taken_at (at_state config state) state.mount request

  abbrev plan_by : Bool → Plan
  plan_by on = if on then (rules_of request).plan taken else (λ told. done)

  idle : is_idle state.mount request ≡ false
  idle = ap (λ silent. silent && not state.mount.negotiated) heard

  module _ (P : Store → Reply → Type 0) (unasked : (errno : ℕ) → P state.store (Error errno))
      (by_rules : (seen : List Observed) → Observes ((rules_of request).plan taken) state.store seen → Completes ((rules_of request).plan taken) seen
      → P (after_operations state.store seen) ((rules_of request).reply taken state.mount seen)) where
    performed_so : (seen : List Observed) → Observes (plan_at config state request) state.store seen → Completes (plan_at config state request) seen
        → P (after_operations state.store seen) (reply_to (at_state config state) state.mount request seen)
    performed_so seen observed ends = by (early state.mount request) refl
      where
        answered : (refused : Option ℕ) → early state.mount request ≡ refused
            → reply_to (at_state config state) state.mount request seen ≡ option_map_or Error refused ((rules_of request).reply taken state.mount seen)
        answered refused is = ap (λ i. if i then Silent else option_map_or Error (early state.mount request) ((rules_of request).reply taken state.mount seen)) idle
            ∙ ap (λ e. option_map_or Error e ((rules_of request).reply taken state.mount seen)) is

        by : (refused : Option ℕ) → early state.mount request ≡ refused → P (after_operations state.store seen) (reply_to (at_state config state) state.mount request seen)
        by (Some errno) is =
            let quiet : plan_at config state request ≡ (λ told. done) = ap plan_by (goes_by state.mount request false (Some errno) idle is) in
            let none = observes_none (λ told. done) refl state.store seen (subst (λ (p : Plan). Observes p state.store seen) quiet observed) in
            subst (P (after_operations state.store seen)) (sym (answered (Some errno) is))
            (subst (λ (told : List Observed). P (after_operations state.store told) (Error errno)) (sym none) (unasked errno))
        by None is =
            let own : plan_at config state request ≡ (rules_of request).plan taken = ap plan_by (goes_by state.mount request false None idle is) in
            subst (P (after_operations state.store seen)) (sym (answered None is))
            (by_rules seen (subst (λ (p : Plan). Observes p state.store seen) own observed) (subst (λ (p : Plan). Completes p seen) own ends))

    pub of_call : (call : Call) → call.request ≡ request → IsLawful config state call → call.ending ≢ short → P (after_operations state.store call.seen) (reply_in config state call)
    of_call call is lawful = by call.ending lawful.ends
      where
        by : (ending : Ending) → Ends config state call.request call.seen ending → ending ≢ short → P (after_operations state.store call.seen) (reply_by config state call ending)
        by performed ends other = subst (λ r. P (after_operations state.store call.seen) (reply_to (at_state config state) state.mount r call.seen)) (sym is)
            (performed_so call.seen (subst (λ r. Observes (plan_at config state r) state.store call.seen) is lawful.observed) (subst (λ r. Completes (plan_at config state r) call.seen) is ends))
        by short ends other = absurd (other refl)
        by stale ends other = subst (λ (seen : List Observed). P (after_operations state.store seen) (Error estale)) (sym ends.silent) (unasked estale)
