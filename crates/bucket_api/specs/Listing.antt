-- A page of a listing, out of the list of all names. Source: Cloud Storage's "Objects: list", with
-- prefix, delimiter `/`, maxResults, and a page token that is the last key shown; an object whose
-- name ends at the delimiter is shown as an item too (includeTrailingDelimiter).
use Rattle.std.specs.Prelude.{ℕ, Bool, true, false, ◌&&◌, ◌==◌, nat_eq, nat_lt, List, [], ◌∷◌, ◌++◌, map, length, take, drop, filter, filter_map, Option, Some, None, option_map, if◌then◌else◌}
use Rattle.std.specs.List.{starts_with, last_or}
use Rattle.std.specs.Ordering.{is_lt}
use Rattle.std.specs.Map.{lookup, keys_of}
use Rattle.std.specs.BTreeMap.{is_at}
use Rattle.std.specs.BTreeSet.{insert_key}
use Rattle.bucket_api.specs.declared.objects.Object.{Object}
use Rattle.bucket_api.specs.Metadata.{text_cmp}
use Rattle.bucket_api.specs.PageData.{PageData}

-- the text up to and with its first slash, the whole of it where it has none
abbrev pub through_slash : List ℕ → List ℕ
through_slash [] = []
through_slash (b ∷ bs) = if b == 47 then 47 ∷ [] else b ∷ through_slash bs

-- the text ends in a slash
abbrev pub ends_in_slash : List ℕ → Bool
ends_in_slash [] = false
ends_in_slash (b ∷ []) = b == 47
ends_in_slash (b ∷ c ∷ bs) = ends_in_slash (c ∷ bs)

-- what a listing shows for a name that begins with the prefix: by slash, no more than up to the first slash after the prefix
abbrev pub key_of : List ℕ → Bool → List ℕ → List ℕ
key_of prefix slash name = if slash then prefix ++ through_slash (drop (length prefix) name) else name

-- the texts in the order of their bytes, each once
abbrev pub in_order : List (List ℕ) → List (List ℕ)
in_order [] = []
in_order (t ∷ ts) = insert_key text_cmp (in_order ts) t

-- the keys that a listing shows for these names, in order
abbrev pub keys_shown : List ℕ → Bool → List (List ℕ) → List (List ℕ)
keys_shown prefix slash names = in_order (map (key_of prefix slash) (filter (λ name. starts_with nat_eq name prefix) names))

-- the key stands after this one, or after none
abbrev pub is_after : Option (List ℕ) → List ℕ → Bool
is_after None key = true
is_after (Some after) key = is_lt (text_cmp after key)

-- a key of a listing by slash that stands for all names that begin with it
abbrev pub is_prefix_key : List ℕ → Bool → List ℕ → Bool
is_prefix_key prefix slash key = slash && ends_in_slash (drop (length prefix) key)

-- the page that shows these keys
abbrev pub page_showing : List (List ℕ × Object) → List ℕ → Bool → List (List ℕ) → Option (List ℕ) → PageData
page_showing entries prefix slash keys next = record {
  items = filter_map (λ key. option_map (λ o. o.meta) (lookup (is_at (text_cmp key)) entries)) keys;
  prefixes = filter (is_prefix_key prefix slash) keys;
  next = next;
}

-- the keys that stand after the one that was asked
abbrev pub keys_after : List (List ℕ × Object) → List ℕ → Bool → Option (List ℕ) → List (List ℕ)
keys_after entries prefix slash after = filter (is_after after) (keys_shown prefix slash (keys_of entries))

-- the first `max` keys after the one that was asked, and the last of them where more follow
abbrev pub page_of : List (List ℕ × Object) → List ℕ → Bool → ℕ → Option (List ℕ) → PageData
page_of entries prefix slash max after =
    let keys = keys_after entries prefix slash after in
    page_showing entries prefix slash (take max keys) (if nat_lt max (length keys) then last_or None (take max keys) else None)

-- the page without a maximum
abbrev pub whole_page : List (List ℕ × Object) → List ℕ → Bool → Option (List ℕ) → PageData
whole_page entries prefix slash after = page_showing entries prefix slash (keys_after entries prefix slash after) None
