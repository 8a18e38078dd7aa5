-- What is said of a success from what holds of it, and what is left of a list behind its next item.
use Rattle.std.proofs.Common.{◌≡◌, ◌<◌, ℕ, zero, suc, ◌+◌, List, [], ◌∷◌, length, drop, get_or, map, Result, Ok, Err, OnOk, refl, sym, ap, ◌∙◌, arith}
use Rattle.std.proofs.lemmas.List.{get_or-map, length-map}

pub OnOk-then : {A E P Q : Type 0} (result : Result A E) → (P → Q) → OnOk result P → OnOk result Q
OnOk-then (Ok a) so p = so p
OnOk-then (Err e) so p = tt

pub OnOk-both : {A E P Q R : Type 0} (result : Result A E) → (P → Q → R) → OnOk result P → OnOk result Q → OnOk result R
OnOk-both (Ok a) both p q = both p q
OnOk-both (Err e) both p q = tt

pub drop_next : {X : Type 0} (xs : List X) (i : ℕ) (x d : X) → i < length xs → x ≡ get_or xs i d → drop i xs ≡ x ∷ drop (i + 1) xs
drop_next [] i x d within is = absurd (omega (arith, within))
drop_next (y ∷ xs) zero x d within is = ap (λ first. first ∷ xs) (sym is)
drop_next (y ∷ xs) (suc k) x d within is =
    let next : suc k + 1 ≡ suc (k + 1) = omega arith in drop_next xs k x d (omega (arith, within)) is ∙ ap (λ n. x ∷ drop n (y ∷ xs)) (sym next)

-- the same of a list that is seen item by item
pub drop_mapped : {X Y : Type 0} (f : X → Y) (xs : List X) (ys : List Y) (i : ℕ) (x : X) → ys ≡ map f xs → i < length xs → x ≡ get_or xs i x → drop i ys ≡ f x ∷ drop (i + 1) ys
drop_mapped f xs ys i x seen within is =
    let size : length ys ≡ length xs = ap length seen ∙ length-map xs f in
    drop_next ys i (f x) (f x) (omega (arith, within, size)) (ap f is ∙ sym (get_or-map f xs i x (f x) within) ∙ ap (λ list. get_or list i (f x)) (sym seen))
