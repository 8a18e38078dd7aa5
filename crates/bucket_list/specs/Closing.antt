-- A page that closes with the first of the keys that are left.
use Rattle.std.specs.Prelude.{ℕ, Bool, List, [], ◌∷◌, ◌++◌, Option, Some, None, option_map, option_to_list, if◌then◌else◌}
use Rattle.std.specs.Map.{lookup}
use Rattle.std.specs.BTreeMap.{is_at}
use Rattle.bucket_api.specs.declared.objects.Object.{Object}
use Rattle.bucket_api.specs.Metadata.{text_cmp}
use Rattle.bucket_api.specs.PageData.{PageData}
use Rattle.bucket_api.specs.Listing.{is_prefix_key}

-- the page with one more key, and this `next`
abbrev pub with_key : List (List ℕ × Object) → List ℕ → Bool → PageData → List ℕ → Option (List ℕ) → PageData
with_key entries prefix slash page key next = record {
  items = page.items ++ option_to_list (option_map (λ o. o.meta) (lookup (is_at (text_cmp key)) entries));
  prefixes = page.prefixes ++ (if is_prefix_key prefix slash key then key ∷ [] else []);
  next = next;
}

-- the page with the first of these keys, which is its `next` where others follow
abbrev pub closed : List (List ℕ × Object) → List ℕ → Bool → PageData → List (List ℕ) → PageData
closed entries prefix slash page [] = page
closed entries prefix slash page (key ∷ []) = with_key entries prefix slash page key None
closed entries prefix slash page (key ∷ x ∷ xs) = with_key entries prefix slash page key (Some key)
