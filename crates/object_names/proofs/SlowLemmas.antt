-- The steps of the slow program.
use Rattle.std.proofs.Common.{◌≡◌, ℕ, ◌+◌, ◌<◌, ◌≤◌, Bool, true, false, cond, ◌&&◌, ◌||◌, List, [], ◌∷◌, ◌++◌, length, take, drop, get_or, Option, Some, None, is_some, refl, sym, ap, subst, ◌∙◌, add-one}
use Rattle.std.proofs.lemmas.Bool.Decides.{same_from_decides, Decides-like}
use Rattle.std.proofs.lemmas.List.{take_more, take_all}
use Rattle.std.proofs.lemmas.List.Folds.{list_any-append}
use Rattle.std.proofs.lemmas.Slice.Eq.{bytes_eq-Decides}
use Rattle.std.proofs.lemmas.Str.{IsUtf8-append}
use Rattle.std.proofs.Math.Seq.{drop-cons}
use Rattle.std.specs.List.{list_any}
use Rattle.std.specs.Str.{bytes_eq, IsUtf8}
use Rattle.base_laws.proofs.Tests.{bytes_eq_flip}
use Rattle.object_names.specs.Paths.{has_suffix, bare_name, shown_of}
use Rattle.object_names.specs.ShownNames.{Listed, first_kind, kind_shown, names_to_show}
use Rattle.object_names.specs.declared.shown.NodeKind.{NodeKind}
use Rattle.object_names.proofs.EndLemmas.{shown_of-bare_name}
use Rattle.object_names.proofs.ShownLemmas.{component-can_show, shown_part, names_all, find-front}

-- ---- looking through the items
at_front : (name : List ℕ) (items : List (List ℕ × NodeKind)) (i : ℕ) (item : List ℕ × NodeKind) (text : List ℕ) → i < length items → item ≡ get_or items i item → text ≡ item.0
    → first_kind name (drop i items) ≡ cond (bytes_eq name text) (Some item.1) (first_kind name (drop (i + 1) items))
at_front name items i item text h e t =
    ap (first_kind name) (drop-cons items i item h)
    ∙ ap (λ n. first_kind name (get_or items i item ∷ drop n items)) (sym (add-one i))
    ∙ ap (λ first. first_kind name (first ∷ drop (i + 1) items)) (sym e)
    ∙ find-front name item.0 item.1 (drop (i + 1) items)
    ∙ ap (λ key. cond (bytes_eq name key) (Some item.1) (first_kind name (drop (i + 1) items))) (sym t)

pub first_kind-found : (name : List ℕ) (items : List (List ℕ × NodeKind)) (i : ℕ) (item : List ℕ × NodeKind) (text : List ℕ) → i < length items → item ≡ get_or items i item → text ≡ item.0
    → bytes_eq name text ≡ true → first_kind name (drop i items) ≡ Some item.1
first_kind-found name items i item text h e t same = at_front name items i item text h e t ∙ ap (λ b. cond b (Some item.1) (first_kind name (drop (i + 1) items))) same

pub first_kind-passed : (name : List ℕ) (items : List (List ℕ × NodeKind)) (i : ℕ) (item : List ℕ × NodeKind) (text : List ℕ) → i < length items → item ≡ get_or items i item → text ≡ item.0
    → bytes_eq name text ≡ false → first_kind name (drop i items) ≡ first_kind name (drop (i + 1) items)
first_kind-passed name items i item text h e t other = at_front name items i item text h e t ∙ ap (λ b. cond b (Some item.1) (first_kind name (drop (i + 1) items))) other

-- ---- what is shown is a text
pub IsUtf8-shown : (listed : Listed) (shown : List ℕ) (kind : NodeKind) → kind_shown listed shown ≡ Some kind → IsUtf8 shown
unfolding lib.Utf8.encode
IsUtf8-shown listed shown kind e = subst IsUtf8 (shown_of-bare_name shown) (with_suffix (has_suffix shown))
  where
    part : IsUtf8 (bare_name shown)
    part = (component-can_show listed (bare_name shown) (shown_part listed shown kind e).0).text

    with_suffix : (suffixed : Bool) → IsUtf8 (shown_of (bare_name shown) suffixed)
    with_suffix true = IsUtf8-append (bare_name shown) (10 ∷ []) part (10 ∷ [], (refl, refl))
    with_suffix false = part

-- ---- one name put into the map
pub puts_kind : (f : List ℕ → Option NodeKind) (old : Option NodeKind) (q shown : List ℕ) (kind : NodeKind) → f shown ≡ Some kind
    → cond (bytes_eq shown q) (Some kind) old ≡ cond (bytes_eq q shown && is_some (f shown)) (f q) old
puts_kind f old q shown kind e =
    ap (λ b. cond b (Some kind) old) (bytes_eq_flip shown q)
    ∙ elim (bytes_eq q shown) as (λ b. bytes_eq q shown ≡ b → cond b (Some kind) old ≡ cond (b && is_some (f shown)) (f q) old) [
      | true ↦ λ t. sym e ∙ ap f (sym ((bytes_eq-Decides q shown).0 t)) ∙ sym (ap (λ b. cond b (f q) old) (ap is_some e))
      | false ↦ λ t. refl
    ] refl

-- ---- the names that were put in so far
one_more : (before same : Bool) (here there : Option NodeKind) → (same ≡ true → here ≡ there) → cond (same && is_some there) here (cond before here None) ≡ cond (before || (same || false)) here None
one_more true false here there h = refl
one_more false false here there h = refl
one_more true true here None h = refl
one_more false true here None h = sym (h refl)
one_more true true here (Some kind) h = refl
one_more false true here (Some kind) h = refl

pub names_more : (f : List ℕ → Option NodeKind) (q : List ℕ) (names : List (List ℕ)) (i : ℕ) (shown : List ℕ) (old new : Option NodeKind) → i < length names → shown ≡ get_or names i shown
    → old ≡ cond (list_any (bytes_eq q) (take i names)) (f q) None → new ≡ cond (bytes_eq q shown && is_some (f shown)) (f q) old → new ≡ cond (list_any (bytes_eq q) (take (i + 1) names)) (f q) None
names_more f q names i shown old new h here was is =
    is ∙ ap (cond (bytes_eq q shown && is_some (f shown)) (f q)) was
    ∙ one_more (list_any (bytes_eq q) (take i names)) (bytes_eq q shown) (f q) (f shown) (λ t. ap f ((bytes_eq-Decides q shown).0 t))
    ∙ ap (λ b. cond b (f q) None) (sym (list_any-append (bytes_eq q) (take i names) (shown ∷ [])))
    ∙ ap (λ name. cond (list_any (bytes_eq q) (take i names ++ name ∷ [])) (f q) None) here
    ∙ ap (λ all. cond (list_any (bytes_eq q) all) (f q) None) (sym (take_more names i shown h))

-- all of them were
pub names_done : (listed : Listed) (q : List ℕ) (names : List (List ℕ)) (i : ℕ) (found : Option NodeKind) → length names ≤ i → names ≡ names_to_show listed
    → found ≡ cond (list_any (bytes_eq q) (take i names)) (kind_shown listed q) None → found ≡ kind_shown listed q
names_done listed q names i found all are is =
    is ∙ ap (λ some. cond (list_any (bytes_eq q) some) (kind_shown listed q) None) (take_all i names all ∙ are) ∙ names_all listed q
