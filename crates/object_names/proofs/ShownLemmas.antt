-- What a directory shows under each name, and that its entries are exactly that.
use Rattle.std.proofs.Common.{◌≡◌, ℕ, Bool, true, false, cond, ◌&&◌, ◌||◌, List, [], ◌∷◌, ◌++◌, length, map, drop, Option, Some, None, is_some, is_none, refl, sym, ap, subst, ◌∙◌, append_assoc}
use Rattle.std.proofs.lemmas.Bool.{false≢true}
use Rattle.std.proofs.lemmas.List.Folds.{list_any-append}
use Rattle.std.proofs.lemmas.Map.Text.{is_eq-slice_cmp}
use Rattle.std.proofs.lemmas.Slice.Eq.{bytes_eq-Decides}
use Rattle.std.proofs.Math.Seq.{drop-append_seam}
use Rattle.std.specs.Cmp.Lexicographic.{slice_cmp, nat_list_cmp_total}
use Rattle.std.specs.FinMap as map
use Rattle.std.specs.List.{list_any, filter_map, cons_option}
use Rattle.std.specs.Option.{option_map}
use Rattle.std.specs.Ordering.{nat_cmp}
use Rattle.std.specs.Str.{bytes_eq}
use Rattle.base_laws.proofs.Options.{when_true}
use Rattle.object_names.specs.Components.{name_fault, IsComponent}
use Rattle.object_names.specs.Paths.{has_suffix, bare_name, shown_of, without_end}
use Rattle.object_names.specs.ShownNames.{Listed, file_key, dir_key, first_kind, can_show, has_dir, file_kind, kind_shown, part_of, listed_parts, names_to_show, shown_map}
use Rattle.object_names.specs.declared.shown.NodeKind.{NodeKind}
use Rattle.object_names.specs.declared.shown.NodeKind.TheVariants.{Dir}
use Rattle.object_names.proofs.ComponentLemmas.{IsComponent-from_no_fault}
use Rattle.object_names.proofs.EndLemmas.{without_end-push, without_end-other, no_slash-end, shown_of-bare_name}

-- ---- tests
and_left : (a b : Bool) → (a && b) ≡ true → a ≡ true
and_left true b e = refl
and_left false b e = e

and_right : (a b : Bool) → (a && b) ≡ true → b ≡ true
and_right true b e = e
and_right false b e = absurd (false≢true e)

or_left : (a b : Bool) → a ≡ true → (a || b) ≡ true
or_left true b e = refl
or_left false b e = absurd (false≢true e)

or_right : (a b : Bool) → b ≡ true → (a || b) ≡ true
or_right true b e = refl
or_right false b e = e

-- one of two tests passes, each of which has a consequence
or_then : {P : Type 0} (a b : Bool) → (a || b) ≡ true → (a ≡ true → P) → (b ≡ true → P) → P
or_then true b e f g = f refl
or_then false b e f g = g e

is_none_true : {X : Type 0} (o : Option X) → is_none o ≡ true → o ≡ None
is_none_true None e = refl
is_none_true (Some x) e = absurd (false≢true e)

some_is : {X : Type 0} (o : Option X) (x : X) → o ≡ Some x → is_some o ≡ true
some_is o x e = ap is_some e

-- ---- lists of names
-- a name in a list is in the list's image, under what it becomes
list_any-map : (f : List ℕ → List ℕ) (name : List ℕ) (names : List (List ℕ)) → list_any (bytes_eq name) names ≡ true → list_any (bytes_eq (f name)) (map f names) ≡ true
list_any-map f name [] e = e
list_any-map f name (first ∷ names) e =
    or_then (bytes_eq name first) (list_any (bytes_eq name) names) e
    (λ t. or_left (bytes_eq (f name) (f first)) _ ((bytes_eq-Decides (f name) (f first)).1 (ap f ((bytes_eq-Decides name first).0 t))))
    (λ t. or_right (bytes_eq (f name) (f first)) _ (list_any-map f name names t))

find_at_most : (name : List ℕ) (es : List (List ℕ × NodeKind)) → is_some (map.find (slice_cmp nat_cmp) name es) ≡ list_any (bytes_eq name) (map (λ e. e.0) es)
find_at_most name [] = refl
find_at_most name (e ∷ es) =
    ap (λ b. is_some (cond b (Some e.1) (map.find (slice_cmp nat_cmp) name es))) (is_eq-slice_cmp name e.0)
    ∙ elim (bytes_eq name e.0) as (λ b. is_some (cond b (Some e.1) (map.find (slice_cmp nat_cmp) name es)) ≡ (b || list_any (bytes_eq name) (map (λ x. x.0) es))) [ true ↦ refl | false ↦ find_at_most name es ]

-- an entry in front of what is found behind it
pub find-front : (q name : List ℕ) (kind : NodeKind) (es : List (List ℕ × NodeKind))
    → map.find (slice_cmp nat_cmp) q ((name, kind) ∷ es) ≡ cond (bytes_eq q name) (Some kind) (map.find (slice_cmp nat_cmp) q es)
find-front q name kind es = ap (λ b. cond b (Some kind) (map.find (slice_cmp nat_cmp) q es)) (is_eq-slice_cmp q name)

pub cond_same : {X : Type 0} (b : Bool) (x : X) → cond b x x ≡ x
cond_same true x = refl
cond_same false x = refl

-- the name q, in front of names or not: both sides read the kind of q
front_with : (f : List ℕ → Option NodeKind) (q name : List ℕ) (rest : Bool) (kind : NodeKind) → f name ≡ Some kind
    → cond (bytes_eq q name) (Some kind) (cond rest (f q) None) ≡ cond (bytes_eq q name || rest) (f q) None
front_with f q name rest kind e =
    elim (bytes_eq q name) as (λ b. bytes_eq q name ≡ b → cond b (Some kind) (cond rest (f q) None) ≡ cond (b || rest) (f q) None) [
      | true ↦ λ t. sym e ∙ ap f (sym ((bytes_eq-Decides q name).0 t))
      | false ↦ λ t. refl
    ] refl

front_without : (f : List ℕ → Option NodeKind) (q name : List ℕ) (rest : Bool) → f name ≡ None → cond rest (f q) None ≡ cond (bytes_eq q name || rest) (f q) None
front_without f q name rest e =
    elim (bytes_eq q name) as (λ b. bytes_eq q name ≡ b → cond rest (f q) None ≡ cond (b || rest) (f q) None) [
      | true ↦ λ t. let none : f q ≡ None = ap f ((bytes_eq-Decides q name).0 t) ∙ e in ap (λ o. cond rest o None) none ∙ cond_same rest None ∙ sym none
      | false ↦ λ t. refl
    ] refl

-- what is found among names with the kinds that a function gives
find-filter_map : (f : List ℕ → Option NodeKind) (q : List ℕ) (names : List (List ℕ))
    → map.find (slice_cmp nat_cmp) q (filter_map (λ name. option_map (λ kind. (name, kind)) (f name)) names) ≡ cond (list_any (bytes_eq q) names) (f q) None
find-filter_map f q [] = refl
find-filter_map f q (name ∷ names) =
    elim (f name) as (λ o. f name ≡ o → map.find (slice_cmp nat_cmp) q (cons_option (option_map (λ kind. (name, kind)) o) (filter_map (λ x. option_map (λ kind. (x, kind)) (f x)) names)) ≡ cond (bytes_eq q name || list_any (bytes_eq q) names) (f q) None) [
      | None ↦ λ e. find-filter_map f q names ∙ front_without f q name (list_any (bytes_eq q) names) e
      | Some kind ↦ λ e. find-front q name kind _ ∙ ap (cond (bytes_eq q name) (Some kind)) (find-filter_map f q names) ∙ front_with f q name (list_any (bytes_eq q) names) kind e
    ] refl

-- ---- what is shown was listed
dir_part : (listed : Listed) (part : List ℕ) → part_of listed.prefix (dir_key listed part) ≡ part
dir_part listed part =
    ap (λ name. without_end 47 (drop (length listed.prefix) name)) (append_assoc listed.prefix part (47 ∷ []))
    ∙ ap (without_end 47) (drop-append_seam listed.prefix (part ++ 47 ∷ []))
    ∙ without_end-push 47 part

file_part : (listed : Listed) (part : List ℕ) → IsComponent part → part_of listed.prefix (file_key listed part) ≡ part
file_part listed part p = ap (without_end 47) (drop-append_seam listed.prefix part) ∙ without_end-other 47 part (no_slash-end part p)

-- a listed name leaves its part
is_listed : (listed : Listed) (name part : List ℕ) → part_of listed.prefix name ≡ part → list_any (bytes_eq name) (map (λ item. item.0) listed.items ++ listed.prefixes) ≡ true
    → list_any (bytes_eq part) (listed_parts listed) ≡ true
is_listed listed name part e t = subst (λ x. list_any (bytes_eq x) (listed_parts listed) ≡ true) e (list_any-map (part_of listed.prefix) name _ t)

among_items : (listed : Listed) (name : List ℕ) → is_some (first_kind name listed.items) ≡ true → list_any (bytes_eq name) (map (λ item. item.0) listed.items ++ listed.prefixes) ≡ true
among_items listed name e = list_any-append (bytes_eq name) (map (λ item. item.0) listed.items) listed.prefixes
    ∙ or_left (list_any (bytes_eq name) (map (λ item. item.0) listed.items)) _ (sym (find_at_most name listed.items) ∙ e)

among_prefixes : (listed : Listed) (name : List ℕ) → list_any (bytes_eq name) listed.prefixes ≡ true → list_any (bytes_eq name) (map (λ item. item.0) listed.items ++ listed.prefixes) ≡ true
among_prefixes listed name e = list_any-append (bytes_eq name) (map (λ item. item.0) listed.items) listed.prefixes
    ∙ or_right (list_any (bytes_eq name) (map (λ item. item.0) listed.items)) _ e

pub component-can_show : (listed : Listed) (part : List ℕ) → can_show listed part ≡ true → IsComponent part
component-can_show listed part e = IsComponent-from_no_fault part (is_none_true (name_fault part) (and_left (is_none (name_fault part)) _ e))

can_show-has_dir : (listed : Listed) (part : List ℕ) → has_dir listed part ≡ true → can_show listed part ≡ true
can_show-has_dir listed part e = and_left (can_show listed part) _ e

can_show-file_kind : (listed : Listed) (part : List ℕ) (kind : NodeKind) → file_kind listed part ≡ Some kind → can_show listed part ≡ true
can_show-file_kind listed part kind e = (when_true (can_show listed part) (first_kind (file_key listed part) listed.items) kind e).0

dir_listed : (listed : Listed) (part : List ℕ) → has_dir listed part ≡ true → list_any (bytes_eq part) (listed_parts listed) ≡ true
dir_listed listed part e =
    or_then (is_some (first_kind (dir_key listed part) listed.items)) (listed.implicit && list_any (bytes_eq (dir_key listed part)) listed.prefixes) (and_right (can_show listed part) _ e)
    (λ t. is_listed listed (dir_key listed part) part (dir_part listed part) (among_items listed (dir_key listed part) t))
    (λ t. is_listed listed (dir_key listed part) part (dir_part listed part) (among_prefixes listed (dir_key listed part) (and_right listed.implicit _ t)))

file_listed : (listed : Listed) (part : List ℕ) (kind : NodeKind) → file_kind listed part ≡ Some kind → list_any (bytes_eq part) (listed_parts listed) ≡ true
file_listed listed part kind e =
    let found = when_true (can_show listed part) (first_kind (file_key listed part) listed.items) kind e in
    is_listed listed (file_key listed part) part (file_part listed part (component-can_show listed part found.0))
    (among_items listed (file_key listed part) (some_is (first_kind (file_key listed part) listed.items) kind found.1))

-- a name under which something is shown is a listed part, with the suffix where it has one
pub shown_part : (listed : Listed) (shown : List ℕ) (kind : NodeKind) → kind_shown listed shown ≡ Some kind
    → (can_show listed (bare_name shown) ≡ true) × (list_any (bytes_eq (bare_name shown)) (listed_parts listed) ≡ true)
shown_part listed shown kind =
    elim (has_suffix shown) as (λ t. has_suffix shown ≡ t →
    (cond t (cond (has_dir listed (bare_name shown)) (file_kind listed (bare_name shown)) None) (cond (has_dir listed shown) (Some Dir) (file_kind listed shown)) ≡ Some kind) →
    (can_show listed (bare_name shown) ≡ true) × (list_any (bytes_eq (bare_name shown)) (listed_parts listed) ≡ true)) [
      | true ↦ λ t e. let found = when_true (has_dir listed (bare_name shown)) (file_kind listed (bare_name shown)) kind e in
          (can_show-has_dir listed (bare_name shown) found.0, dir_listed listed (bare_name shown) found.0)
      | false ↦ λ t e. let bare : shown ≡ bare_name shown = sym (without_end-other 10 shown t) in
          subst (λ part. (can_show listed part ≡ true) × (list_any (bytes_eq part) (listed_parts listed) ≡ true)) bare (unsuffixed e)
    ] refl
  where
    unsuffixed : (cond (has_dir listed shown) (Some Dir) (file_kind listed shown) ≡ Some kind) → (can_show listed shown ≡ true) × (list_any (bytes_eq shown) (listed_parts listed) ≡ true)
    unsuffixed = elim (has_dir listed shown) as (λ t. has_dir listed shown ≡ t → (cond t (Some Dir) (file_kind listed shown) ≡ Some kind) → (can_show listed shown ≡ true) × (list_any (bytes_eq shown) (listed_parts listed) ≡ true)) [
      | true ↦ λ t e. (can_show-has_dir listed shown t, dir_listed listed shown t)
      | false ↦ λ t e. (can_show-file_kind listed shown kind e, file_listed listed shown kind e)
    ] refl

pub shown_among : (listed : Listed) (shown : List ℕ) (kind : NodeKind) → kind_shown listed shown ≡ Some kind → list_any (bytes_eq shown) (names_to_show listed) ≡ true
shown_among listed shown kind e =
    list_any-append (bytes_eq shown) (listed_parts listed) (map (λ part. shown_of part true) (listed_parts listed))
    ∙ elim (has_suffix shown) as (λ t. has_suffix shown ≡ t → (list_any (bytes_eq shown) (listed_parts listed) || list_any (bytes_eq shown) (map (λ part. shown_of part true) (listed_parts listed))) ≡ true) [
      | true ↦ λ t. or_right (list_any (bytes_eq shown) (listed_parts listed)) _
          (subst (λ name. list_any (bytes_eq name) (map (λ part. shown_of part true) (listed_parts listed)) ≡ true) (ap (shown_of (bare_name shown)) (sym t) ∙ shown_of-bare_name shown)
          (list_any-map (λ part. shown_of part true) (bare_name shown) (listed_parts listed) (shown_part listed shown kind e).1))
      | false ↦ λ t. or_left (list_any (bytes_eq shown) (listed_parts listed)) _
          (subst (λ name. list_any (bytes_eq name) (listed_parts listed) ≡ true) (without_end-other 10 shown t) (shown_part listed shown kind e).1)
    ] refl

-- so it is among the names that may show something
pub names_all : (listed : Listed) (shown : List ℕ) → cond (list_any (bytes_eq shown) (names_to_show listed)) (kind_shown listed shown) None ≡ kind_shown listed shown
names_all listed shown = elim (kind_shown listed shown) as (λ o. kind_shown listed shown ≡ o → cond (list_any (bytes_eq shown) (names_to_show listed)) o None ≡ o) [
  | None ↦ λ e. cond_same (list_any (bytes_eq shown) (names_to_show listed)) None
  | Some kind ↦ λ e. ap (λ b. cond b (Some kind) None) (shown_among listed shown kind e)
] refl

-- ---- the map of what is shown answers each name
pub get-shown_map : (listed : Listed) (shown : List ℕ) → map.get (shown_map listed) shown ≡ kind_shown listed shown
get-shown_map listed shown =
    map.get-from_entries nat_list_cmp_total _ shown
    ∙ find-filter_map (kind_shown listed) shown (names_to_show listed)
    ∙ names_all listed shown
