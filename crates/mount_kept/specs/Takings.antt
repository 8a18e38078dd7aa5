-- How a call goes by what was found at its take: look by look it is taken out, and what is left of it says which looks are the
-- call's own.
use Rattle.std.specs.Prelude.{◌≡◌, List, [], ◌∷◌, Some, None}
use Rattle.bucket_api.specs.Operation.{Operation}
use Rattle.history_spec.specs.Account.{Item, looked, made, recalled}
use Rattle.mount_kept.specs.Recalls.{found_for, found_left}
use Rattle.mount_kept.specs.declared.recall.Found.{Found}
use Rattle.mount_kept.specs.declared.recall.Recall.{Recall}
use Rattle.mount_model.specs.Observing.{Observed}

-- this is left of it: whatever is found there still was found before
abbrev pub IsLeftOf : Found → Found → Type 0
IsLeftOf rest found = (op : Operation) (r : Recall) → found_for rest op ≡ Some r → found_for found op ≡ Some r

-- what is left of it after these
abbrev pub left_after : Found → List Observed → Found
left_after found [] = found
left_after found (s ∷ seen) = left_after (found_left found s.op) seen

-- An item goes by what is left: a record that served was there, and of a look of the call's own nothing was.
abbrev pub GoesBy : Found → Item → Observed → Type 0
GoesBy found (looked moment kept) seen = found_for found seen.op ≡ None
GoesBy found (recalled moment) seen = (r : Recall) × (found_for found seen.op ≡ Some r) × (r.moment ≡ moment)
GoesBy found (made moment) seen = Unit {0}

-- each item does, of those that observed this
abbrev pub AllGoBy : Found → List Item → List Observed → Type 0
AllGoBy found [] seen = Unit {0}
AllGoBy found (item ∷ items) [] = ⊥
AllGoBy found (item ∷ items) (s ∷ seen) = GoesBy found item s × AllGoBy (found_left found s.op) items seen
