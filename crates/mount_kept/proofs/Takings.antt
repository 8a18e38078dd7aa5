-- What is left of what was found at a take, look by look.
use Rattle.std.proofs.Common.{◌≡◌, Bool, true, false, List, [], ◌∷◌, ◌++◌, length, Some, None, refl, arith}
use Rattle.std.specs.Prelude.{if◌then◌else◌}
use Rattle.bucket_api.specs.Listing.{ends_in_slash}
use Rattle.bucket_api.specs.Operation.{Operation, list, stat}
use Rattle.history_spec.specs.Account.{Item}
use Rattle.mount_kept.specs.Recalls.{found_left, is_probe}
use Rattle.mount_kept.specs.Takings.{AllGoBy, GoesBy, IsLeftOf, left_after}
use Rattle.mount_kept.specs.declared.recall.Found.{Found}
use Rattle.mount_kept.specs.declared.recall.Recall.{Recall}
use Rattle.mount_model.specs.Observing.{Observed}

-- ---- behind one operation
left_probe : (found : Found) (op : Operation) (r : Recall) → (found_left found op).probe ≡ Some r → found.probe ≡ Some r
left_probe found (list prefix slash max after) r e = by (is_probe slash max after) e
  where
    by : (b : Bool) → (if b then record found { probe = None } else found).probe ≡ Some r → found.probe ≡ Some r
    by true e = absurd (cc)
    by false e = e
left_probe found (stat name) r e = by (ends_in_slash name) e
  where
    by : (b : Bool) → (if b then record found { probe = None } else record found { stat = None }).probe ≡ Some r → found.probe ≡ Some r
    by true e = absurd (cc)
    by false e = e
left_probe found _ r e = e

left_stat : (found : Found) (op : Operation) (r : Recall) → (found_left found op).stat ≡ Some r → found.stat ≡ Some r
left_stat found (list prefix slash max after) r e = by (is_probe slash max after) e
  where
    by : (b : Bool) → (if b then record found { probe = None } else found).stat ≡ Some r → found.stat ≡ Some r
    by true e = e
    by false e = e
left_stat found (stat name) r e = by (ends_in_slash name) e
  where
    by : (b : Bool) → (if b then record found { probe = None } else record found { stat = None }).stat ≡ Some r → found.stat ≡ Some r
    by true e = e
    by false e = absurd (cc)
left_stat found _ r e = e

pub left_of : (found : Found) (made : Operation) → IsLeftOf (found_left found made) found
left_of found made (list prefix slash max after) r e = by (is_probe slash max after) e
  where
    by : (b : Bool) → (if b then (found_left found made).probe else None) ≡ Some r → (if b then found.probe else None) ≡ Some r
    by true e = left_probe found made r e
    by false e = e
left_of found made (stat name) r e = by (ends_in_slash name) e
  where
    by : (b : Bool) → (if b then (found_left found made).probe else (found_left found made).stat) ≡ Some r → (if b then found.probe else found.stat) ≡ Some r
    by true e = left_probe found made r e
    by false e = left_stat found made r e
left_of found made _ r e = e

-- ---- behind all that was observed
pub left_before : (found : Found) (seen : List Observed) → IsLeftOf (left_after found seen) found
left_before found [] op r e = e
left_before found (s ∷ seen) op r e = left_of found s.op op r (left_before (found_left found s.op) seen op r e)

pub left_more : (found : Found) (seen : List Observed) (x : Observed) → left_after found (seen ++ x ∷ []) ≡ found_left (left_after found seen) x.op
left_more found [] x = refl
left_more found (s ∷ seen) x = left_more (found_left found s.op) seen x

-- one item more, that goes by what is left
pub goes_more : (found : Found) (items : List Item) (seen : List Observed) (item : Item) (x : Observed) → length seen ≡ length items
    → AllGoBy found items seen → GoesBy (left_after found seen) item x → AllGoBy found (items ++ item ∷ []) (seen ++ x ∷ [])
goes_more found [] [] item x same all it = (it, tt)
goes_more found [] (s ∷ seen) item x same all it = absurd (omega (arith, same))
goes_more found (i ∷ items) [] item x same all it = absurd all
goes_more found (i ∷ items) (s ∷ seen) item x same all it = (all.0, goes_more (found_left found s.op) items seen item x (omega (arith, same)) all.1 it)
