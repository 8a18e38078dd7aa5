-- A record that was found at the take of a ticket serves a look of its call, over all that its pass has seen since.
use Rattle.std.proofs.Common.{◌≡◌, ℕ, ◌≤◌, true, false, List, [], ◌∷◌, ◌++◌, length, take, Some, refl, sym, ap, subst, ◌∙◌, arith, length-append}
use Rattle.std.specs.Prelude.{IfSome}
use Rattle.std.proofs.lemmas.List.{take-append-le}
use Rattle.bucket_api.specs.Passes.{PassState}
use Rattle.core_spec.specs.Cores.{kept_by}
use Rattle.core_spec.specs.TicketLaws.{HasGoneOn, TicketsRecall}
use Rattle.core_spec.specs.Tickets.{IsUnderWay, TicketState, call_of, seen_so_far}
use Rattle.history_spec.proofs.Agreeing.{observed_same}
use Rattle.history_spec.specs.Account.{Item, recalled}
use Rattle.history_spec.specs.Claims.{plan_taken}
use Rattle.history_spec.specs.JournalState.{OpenCall}
use Rattle.history_spec.specs.Looks.{IsLook, MayRecall}
use Rattle.history_spec.specs.Observing.{observed_at}
use Rattle.mount_model.specs.Observing.{Observed}
use Rattle.mount_rules.specs.Plans.{Allows, answers_of}
use Rattle.thrift_spec.proofs.RecalledWalks.{walk_recalls}
use Rattle.thrift_spec.specs.Recalls.{RecallsOn}
use Rattle.thrift_spec.specs.Thrift.{AllThrifty, IsThrifty}

module _ {I : Type 0} (t : TicketState (PassState I)) (moment : ℕ) (seen : Observed) (way : IsUnderWay t) (going : t.ended ≡ false)
    (is : observed_at t.core.pass.origin.start t.core.pass.seen moment ≡ Some seen) (within : moment ≤ length t.core.pass.seen)
    (allows : Allows (plan_taken (call_of t way.told).taken (answers_of (seen_so_far t way.items))) seen.op) (look : IsLook seen.op) (may : MayRecall (call_of t way.told) seen.op moment)
    (thrifty : IsThrifty t.core.pass.origin.start t.pass.seen (call_of t way.told) (kept_by t.core way.told).records (recalled moment) seen) where
  abbrev its_call : OpenCall
  its_call = call_of t way.told

  long : length t.core.pass.seen ≤ length t.pass.seen
  long = let both = ap length way.pass.seen ∙ length-append t.core.pass.seen way.pass.more in omega (arith, both)

  still : observed_at t.core.pass.origin.start t.pass.seen moment ≡ Some seen
  still =
      observed_same t.core.pass.origin.start t.pass.seen t.core.pass.seen (length t.core.pass.seen)
      (ap (take (length t.core.pass.seen)) way.pass.seen ∙ take-append-le (length t.core.pass.seen) t.core.pass.seen way.pass.more (omega arith)) moment within
      ∙ is

  on : RecallsOn t.core.pass.origin.start t.pass.seen (plan_taken its_call.taken) its_call (length t.pass.seen) way.items moment seen
  on = walk_recalls t.core.pass.origin.start t.pass.seen (plan_taken its_call.taken) its_call (length t.pass.seen) way.items moment seen way.walk still (omega (arith, within, long)) allows look may

  all_with : (items : List Item) → AllThrifty t.core.pass.origin.start t.pass.seen its_call (kept_by t.core way.told).records items
      → AllThrifty t.core.pass.origin.start t.pass.seen its_call (kept_by t.core way.told).records (items ++ recalled moment ∷ [])
  all_with [] all = (subst (λ found. IfSome found (IsThrifty t.core.pass.origin.start t.pass.seen its_call (kept_by t.core way.told).records (recalled moment))) (sym still) thrifty, tt)
  all_with (first ∷ items) all = (all.0, all_with items all.1)

  way_on : IsUnderWay t
  way_on = record {
    pass = way.pass;
    told = way.told;
    tells = way.tells;
    taken = way.taken;
    items = way.items ++ recalled moment ∷ [];
    walk = on.walk;
    looks = all_with way.items way.looks;
    ends = λ over. absurd (let never : false ≡ true = sym going ∙ over in cc);
    reads = λ over. absurd (let never : false ≡ true = sym going ∙ over in cc);
  }

  pub recalls : HasGoneOn I t t way (way.items ++ recalled moment ∷ []) (seen_so_far t way.items ++ seen ∷ [])
  unfolding way_on
  recalls = record { way_on = way_on; told = refl; items_are = refl; seen_is = on.saw }

pub tickets_recall : (I : Type 0) → TicketsRecall I
tickets_recall I t moment seen way going is within allows look may thrifty = recalls t moment seen way going is within allows look may thrifty
