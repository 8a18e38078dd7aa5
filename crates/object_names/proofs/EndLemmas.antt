-- A byte at the end of a name, and the suffix.
use Rattle.std.proofs.Common.{◌≡◌, ◌≢◌, ℕ, ◌-◌, Bool, true, false, cond, List, [], ◌∷◌, ◌++◌, length, take, refl, sym, ap, ◌∙◌, nat_eq, arith, length-append, ◌||◌}
use Rattle.std.proofs.lemmas.Bool.{false≢true}
use Rattle.std.proofs.lemmas.Bool.Decides.{Decides-eqb}
use Rattle.std.proofs.lemmas.List.Elements.{All-weaker}
use Rattle.std.proofs.lemmas.List.Folds.{list_any-append, list_any_none}
use Rattle.std.proofs.lemmas.Slice.Eq.{ends_is}
use Rattle.std.proofs.Math.Seq.{take-append_seam}
use Rattle.std.specs.List.{list_any}
use Rattle.object_names.specs.Components.{IsComponent}
use Rattle.object_names.proofs.ComponentLemmas.{refutes}
use Rattle.object_names.specs.Paths.{ends_in, without_end, has_suffix, bare_name, shown_of, GivesBack}

or_true : (a : Bool) → (a || true) ≡ true
or_true true = refl
or_true false = refl

-- a name that ends in the byte is what is left of it, and the byte
pub ends_in-whole : (byte : ℕ) (name : List ℕ) → ends_in byte name ≡ true → name ≡ take (length name - 1) name ++ byte ∷ []
ends_in-whole byte name = (ends_is Decides-eqb name (byte ∷ []) (ends_in byte name) refl).0

pub ends_in-push : (byte : ℕ) (name : List ℕ) → ends_in byte (name ++ byte ∷ []) ≡ true
ends_in-push byte name = (ends_is Decides-eqb (name ++ byte ∷ []) (byte ∷ []) (ends_in byte (name ++ byte ∷ [])) refl).1 name refl

-- a name without the byte does not end in it
pub ends_in-absent : (byte : ℕ) (name : List ℕ) → list_any (λ x. nat_eq x byte) name ≡ false → ends_in byte name ≡ false
ends_in-absent byte name absent =
    elim (ends_in byte name) as (λ t. ends_in byte name ≡ t → t ≡ false) [
      | true ↦ λ e. absurd (false≢true (sym absent ∙ ap (list_any (λ x. nat_eq x byte)) (ends_in-whole byte name e) ∙ has_last (take (length name - 1) name)))
      | false ↦ λ e. refl
    ] refl
  where
    has_last : (front : List ℕ) → list_any (λ x. nat_eq x byte) (front ++ byte ∷ []) ≡ true
    has_last front = list_any-append (λ x. nat_eq x byte) front (byte ∷ [])
        ∙ ap (λ t. list_any (λ x. nat_eq x byte) front || (t || false)) ((Decides-eqb byte byte).1 refl)
        ∙ or_true (list_any (λ x. nat_eq x byte) front)

pub without_end-push : (byte : ℕ) (name : List ℕ) → without_end byte (name ++ byte ∷ []) ≡ name
without_end-push byte name =
    ap (λ t. cond t (take (length (name ++ byte ∷ []) - 1) (name ++ byte ∷ [])) (name ++ byte ∷ [])) (ends_in-push byte name)
    ∙ ap (λ n. take n (name ++ byte ∷ [])) shorter
    ∙ take-append_seam name (byte ∷ [])
  where
    shorter : length (name ++ byte ∷ []) - 1 ≡ length name
    shorter = omega (arith, length-append name (byte ∷ []))

pub without_end-other : (byte : ℕ) (name : List ℕ) → ends_in byte name ≡ false → without_end byte name ≡ name
without_end-other byte name e = ap (λ t. cond t (take (length name - 1) name) name) e

-- a shown name is what is left of it, with the suffix where it had one
pub shown_of-bare_name : (shown : List ℕ) → shown_of (bare_name shown) (has_suffix shown) ≡ shown
shown_of-bare_name shown =
    elim (has_suffix shown) as (λ t. has_suffix shown ≡ t → shown_of (cond t (take (length shown - 1) shown) shown) t ≡ shown) [
      | true ↦ λ e. sym (ends_in-whole 10 shown e)
      | false ↦ λ e. refl
    ] refl

-- a component does not end in a slash, nor in the suffix
pub no_slash-end : (part : List ℕ) → IsComponent part → ends_in 47 part ≡ false
no_slash-end part p = ends_in-absent 47 part
    (list_any_none (λ x. nat_eq x 47) part (All-weaker (λ byte. byte ≢ 47) (λ byte. nat_eq byte 47 ≡ false) (λ byte. refutes _ (Decides-eqb byte 47)) part p.no_slash))

pub no_suffix : (part : List ℕ) → IsComponent part → has_suffix part ≡ false
no_suffix part p = ends_in-absent 10 part
    (list_any_none (λ x. nat_eq x 10) part (All-weaker (λ byte. (byte ≢ 0) × (byte ≢ 10) × (byte ≢ 13)) (λ byte. nat_eq byte 10 ≡ false) (λ byte n. refutes _ (Decides-eqb byte 10) n.1) part p.no_control))

-- what a component is shown as gives the component back, and whether it had the suffix
pub parts-shown_of : (part : List ℕ) (suffixed : Bool) → IsComponent part → (bare_name (shown_of part suffixed) ≡ part) × (has_suffix (shown_of part suffixed) ≡ suffixed)
parts-shown_of part true p = (without_end-push 10 part, ends_in-push 10 part)
parts-shown_of part false p = (without_end-other 10 part (no_suffix part p), no_suffix part p)

pub GivesBack-suffixed : (shown bare : List ℕ) → shown ≡ bare ++ 10 ∷ [] → GivesBack shown bare true
GivesBack-suffixed shown bare whole part had p e =
    let parts = parts-shown_of part had p in (
      sym (without_end-push 10 bare) ∙ ap bare_name (sym whole ∙ e) ∙ parts.0,
      sym (ends_in-push 10 bare) ∙ ap has_suffix (sym whole ∙ e) ∙ parts.1,
    )
