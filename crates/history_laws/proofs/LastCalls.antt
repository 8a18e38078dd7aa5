-- The call that ends at the end of an account: how it was done, and what its items are.
use Rattle.std.proofs.Common.{◌≡◌, ℕ, List, [], ◌∷◌, refl, sym, subst, ◌∙◌}
use Rattle.bucket_api.specs.BucketState.{BucketState}
use Rattle.bucket_api.specs.LogEvent.{LogEvent}
use Rattle.bucket_api.specs.Operation.{Operation}
use Rattle.history_laws.specs.Ends.{CallEnd, IsLast, turn_of}
use Rattle.history_spec.proofs.Following.{Follows-rest}
use Rattle.history_spec.proofs.Walking.{Walked}
use Rattle.history_spec.specs.Account.{Account, Item, looked, made, moment_of, own_moments_of, recalled}
use Rattle.history_spec.specs.Fits.{MayBeDone, MayFollow, MayTell}
use Rattle.history_spec.specs.JournalState.{OpenCall, first_journal, reached}
use Rattle.history_spec.specs.Looks.{IsLook, MayRecall}
use Rattle.mount_laws.proofs.Keeping.{same_Some}
use Rattle.mount_model.specs.declared.config.Config.{Config}
use Rattle.mount_rules.specs.Plans.{Allows, Plan, Step, done}

pub done_last : (config : Config) (start : BucketState) (log : List LogEvent) (account : Account) (e : CallEnd) → IsLast config start log account e
    → MayBeDone start log (reached config start log account) e.call e.front e.how e.items
done_last config start log account e last = by (Follows-rest config start log first_journal account (turn_of e ∷ []) last.is.follows).0
  where
    by : MayFollow start log (reached config start log account) (turn_of e) → MayBeDone start log (reached config start log account) e.call e.front e.how e.items
    by may =
        let same : may.next.0 ≡ e.call = same_Some (sym may.next.1 ∙ last.under_way) in
        subst (λ (o : OpenCall). MayBeDone start log (reached config start log account) o e.front e.how e.items) same may.next.3

module _ (start : BucketState) (log : List LogEvent) (o : OpenCall) where
  -- where nothing is asked, there is no item
  pub no_items : (plan : Plan) → plan [] ≡ done → (items : List Item) → Walked start log o plan items → items ≡ []
  no_items plan none [] walked = refl
  no_items plan none (item ∷ items) walked = absurd (subst (λ (step : Step). Allows step walked.0.op) none walked.2)

  -- an item that tells of no look is the call's own
  pub own_made : (op : Operation) (item : Item) → MayTell o op item → (IsLook op → ⊥) → (items : List Item) → own_moments_of (item ∷ items) ≡ moment_of item ∷ own_moments_of items
  own_made op (looked moment kept) may other items = absurd (other may)
  own_made op (recalled moment) may other items = absurd (other may.0)
  own_made op (made moment) may other items = refl

  -- and so is one that tells of a look, where no record serves
  pub own_looked : (op : Operation) (item : Item) → MayTell o op item → ((moment : ℕ) → MayRecall o op moment → ⊥) → IsLook op → (items : List Item) → own_moments_of (item ∷ items) ≡ moment_of item ∷ own_moments_of items
  own_looked op (looked moment kept) may none look items = refl
  own_looked op (recalled moment) may none look items = absurd (none moment may.1)
  own_looked op (made moment) may none look items = absurd (may look)
