-- What a call looked up is as thrifty over a longer log, and whatever its flags are.
use Rattle.std.proofs.Common.{◌≡◌, ℕ, ◌≤◌, List, [], ◌∷◌, map, take, Option, sym, ap, subst, ◌∙◌}
use Rattle.std.specs.Prelude.{IfSome, None, Some}
use Rattle.std.specs.List.{AllByRecursion}
use Rattle.bucket_api.specs.BucketState.{BucketState}
use Rattle.bucket_api.specs.LogEvent.{LogEvent}
use Rattle.core_spec.proofs.Flags.{moment_unflagged}
use Rattle.core_spec.specs.Tickets.{unflagged}
use Rattle.history_spec.proofs.Agreeing.{observed_same}
use Rattle.history_spec.specs.Account.{Item, looked, made, moment_of, recalled}
use Rattle.history_spec.specs.JournalState.{OpenCall}
use Rattle.history_spec.specs.Observing.{observed_at}
use Rattle.mount_model.specs.Observing.{Observed}
use Rattle.record_spec.specs.RecordList.{RecordList}
use Rattle.thrift_spec.specs.Thrift.{AllThrifty, IsThrifty}

module _ (start : BucketState) (one other : List LogEvent) (o : OpenCall) (found : RecordList) where
  thrifty_over : (item : Item) (seen : Observed) → IsThrifty start one o found item seen → IsThrifty start other o found (unflagged item) seen
  thrifty_over (looked moment kept) seen is = is
  thrifty_over (recalled moment) seen is = is
  thrifty_over (made moment) seen is = is

  thrifty_back : (item : Item) (seen : Observed) → IsThrifty start other o found (unflagged item) seen → IsThrifty start other o found item seen
  thrifty_back (looked moment kept) seen is = is
  thrifty_back (recalled moment) seen is = is
  thrifty_back (made moment) seen is = is

  if_over : (item : Item) (seen : Option Observed) → IfSome seen (IsThrifty start one o found item) → IfSome seen (IsThrifty start other o found (unflagged item))
  if_over item None is = tt
  if_over item (Some seen) is = thrifty_over item seen is

  if_back : (item : Item) (seen : Option Observed) → IfSome seen (IsThrifty start other o found (unflagged item)) → IfSome seen (IsThrifty start other o found item)
  if_back item None is = tt
  if_back item (Some seen) is = thrifty_back item seen is

  all_over : (upto : ℕ) → take upto one ≡ take upto other → (items : List Item) → AllByRecursion (λ item. moment_of item ≤ upto) items
      → AllThrifty start one o found items → AllThrifty start other o found (map unflagged items)
  all_over upto same [] within thrifty = tt
  all_over upto same (item ∷ items) within thrifty = (
    subst (λ (seen : Option Observed). IfSome seen (IsThrifty start other o found (unflagged item)))
        (observed_same start one other upto same (moment_of item) within.0 ∙ ap (observed_at start other) (sym (moment_unflagged item)))
        (if_over item (observed_at start one (moment_of item)) thrifty.0),
    all_over upto same items within.1 thrifty.1,
  )

  all_back : (items : List Item) → AllThrifty start other o found (map unflagged items) → AllThrifty start other o found items
  all_back [] thrifty = tt
  all_back (item ∷ items) thrifty = (
    if_back item (observed_at start other (moment_of item))
        (subst (λ (m : ℕ). IfSome (observed_at start other m) (IsThrifty start other o found (unflagged item))) (moment_unflagged item) thrifty.0),
    all_back items thrifty.1,
  )

  -- over a log that is the same up to a front, with other flags
  pub thrifty_by_flags : (upto : ℕ) → take upto one ≡ take upto other → (items flagged : List Item) → map unflagged flagged ≡ map unflagged items
      → AllByRecursion (λ item. moment_of item ≤ upto) items → AllThrifty start one o found items → AllThrifty start other o found flagged
  thrifty_by_flags upto same items flagged flags within thrifty =
      all_back flagged (subst (AllThrifty start other o found) (sym flags) (all_over upto same items within thrifty))
