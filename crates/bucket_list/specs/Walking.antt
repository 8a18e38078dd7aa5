-- What is left of a walk over the keys of a listing.
use Rattle.std.specs.Prelude.{◌≡◌, ℕ, Bool, true, false, nat_eq, List, [], ◌∷◌, ◌++◌, Option, Some, None, IfSome, option_copied, ⊤}
use Rattle.std.specs.declared.cmp.Ordering.TheVariants.{Less}
use Rattle.std.specs.declared.ops.Bound.TheVariants.{Included, Unbounded}
use Rattle.std.specs.List.{AllByRecursion, starts_with}
use Rattle.std.specs.List.Sorted.{IsStrictlySortedBy}
use Rattle.std.specs.Map.{lookup, keys_of}
use Rattle.std.specs.BTreeMap.{is_at}
use Rattle.std.specs.BTreeMap.Range.{entries_between}
use Rattle.bucket_api.specs.declared.objects.Object.{Object}
use Rattle.bucket_api.specs.Metadata.{text_cmp}
use Rattle.bucket_api.specs.Listing.{keys_shown, is_prefix_key}
use Rattle.bucket_list.specs.declared.walk.Ahead.{Ahead}
use Rattle.bucket_list.specs.declared.walk.Walk.{Walk}
use Rattle.bucket_list.specs.declared.walk.Key.{Key}
use Rattle.bucket_list.specs.declared.walk.Key.TheVariants.{Name, Prefix}

-- the entries from the one ahead on, none where none is ahead
abbrev pub left_from : Option Ahead → List (List ℕ × Object) → List (List ℕ × Object)
left_from None rest = []
left_from (Some a) rest = (a.name.now, a.object.now) ∷ rest

abbrev pub entries_left : Walk → List (List ℕ × Object)
entries_left w = left_from w.ahead w.rest

-- the keys that are left to meet
abbrev pub keys_left : Walk → List (List ℕ)
keys_left w = keys_shown w.prefix.now w.slash (keys_of (entries_left w))

-- the entry begins with the prefix, and what is left agrees with all entries from any later name on
pub record IsAhead (entries : List (List ℕ × Object)) (prefix : List ℕ) (left : List (List ℕ × Object)) (a : Ahead) : Type 0 where
  pub begins : a.name.now ≡ prefix ++ a.rest.now
  pub later : (t : List ℕ) → text_cmp a.name.now t ≡ Less → entries_between text_cmp (Included t) Unbounded left ≡ entries_between text_cmp (Included t) Unbounded entries

-- what is left is in order, and is what the map has
pub record IsWalk (w : Walk) : Type 0 where
  pub ordered : IsStrictlySortedBy text_cmp (keys_of (entries_left w))
  pub found : AllByRecursion (λ e. lookup (is_at (text_cmp e.0)) w.objects.now.entries ≡ Some e.1) (entries_left w)
  pub ahead : IfSome w.ahead (IsAhead w.objects.now.entries w.prefix.now (entries_left w))

-- the walks are over one map, for one listing
pub record SameListing (v w : Walk) : Type 0 where
  pub entries : w.objects.now.entries ≡ v.objects.now.entries
  pub prefix : w.prefix.now ≡ v.prefix.now
  pub slash : w.slash ≡ v.slash

-- no entry is left, or the first does not begin with the prefix
abbrev pub Stops : List ℕ → List (List ℕ × Object) → Type 0
Stops prefix [] = ⊤
Stops prefix (e ∷ es) = starts_with nat_eq e.0 prefix ≡ false

-- the text of a key
abbrev pub key_text : Key → List ℕ
key_text (Name name object) = name.now
key_text (Prefix text object) = text

-- the object that has the key as its name
abbrev pub key_object : Key → Option Object
key_object (Name name object) = Some object.now
key_object (Prefix text object) = option_copied object

-- the key ends at a slash after the prefix
abbrev pub is_prefix : Key → Bool
is_prefix (Name name object) = false
is_prefix (Prefix text object) = true

-- the key says what the listing's definition says of its text
pub record IsKey (entries : List (List ℕ × Object)) (prefix : List ℕ) (slash : Bool) (k : Key) : Type 0 where
  pub object : key_object k ≡ lookup (is_at (text_cmp (key_text k))) entries
  pub prefix_key : is_prefix k ≡ is_prefix_key prefix slash (key_text k)
