-- Where a walk over names begins, so that it meets just the keys that stand after one.
use Rattle.std.specs.Prelude.{◌≡◌, ℕ, Bool, true, nat_eq, List, Option}
use Rattle.std.specs.declared.ops.Bound.{Bound}
use Rattle.std.specs.List.{starts_with}
use Rattle.std.specs.Ordering.{is_le}
use Rattle.std.specs.BTreeMap.Range.{is_from_start}
use Rattle.bucket_api.specs.Metadata.{text_cmp}
use Rattle.bucket_api.specs.Listing.{key_of, is_after}

-- of the names that begin with the prefix, those inside the bound are those whose key stands after the one asked; no name inside it is below the prefix
pub record StartsAfter (prefix : List ℕ) (slash : Bool) (after : Option (List ℕ)) (start : Bound (List ℕ)) : Type 0 where
  pub keys : (name : List ℕ) → starts_with nat_eq name prefix ≡ true → is_after after (key_of prefix slash name) ≡ is_from_start text_cmp start name
  pub from : (name : List ℕ) → is_from_start text_cmp start name ≡ true → is_le (text_cmp prefix name) ≡ true
