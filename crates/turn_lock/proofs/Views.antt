-- How the seats' views change with one step, and what stays true of them.
use Rattle.std.proofs.Common.{◌≡◌, ◌≢◌, ◌⊎◌, ℕ, zero, suc, true, ◌<◌, List, [], ◌∷◌, ◌++◌, length, set, refl, sym, ap, ◌∙◌, subst, inl, inr, ⊎_elim, arith}
use mathlib.Core.Option.{some, some-injective, some-ne-none}
use mathlib.Core.Logic.{dite}
use native.Mathlib.Decide.{ℕ_discrete}
use lib.ListN.{get_elem?}
use Rattle.atomic_table.proofs.Lists.{at_set, set_here, set_else, at_longer}
use Rattle.turn_lock.specs.declared.known.Known.{Known}
use Rattle.turn_lock.specs.Rule.{holds, IsApart}

pub at_length : {A : Type 0} (l : List A) (i : ℕ) (a : A) → get_elem? l i ≡ some a → i < length l
at_length [] i a e = absurd (some-ne-none a (sym e))
at_length (x ∷ xs) zero a e = omega arith
at_length (x ∷ xs) (suc i) a e = let h = at_length xs i a e in omega arith

-- of a list with one more at its end
pub at_end : {A : Type 0} (l : List A) (a b : A) (j : ℕ) → get_elem? (l ++ a ∷ []) j ≡ some b → (get_elem? l j ≡ some b) ⊎ ((j ≡ length l) × (a ≡ b))
at_end [] a b zero e = inr (refl, some-injective a b e)
at_end [] a b (suc j) e = absurd (some-ne-none b (sym e))
at_end (x ∷ xs) a b zero e = inl e
at_end (x ∷ xs) a b (suc j) e = ⊎_elim (λ (t : get_elem? xs j ≡ some b). inl t) (λ (t : (j ≡ length xs) × (a ≡ b)). inr (ap suc t.0, t.1)) (at_end xs a b j e)

module _ {A : Type 0} (P : ℕ → A → Type 0) where
  -- what holds of each other view, and of the new one, holds of each
  pub each_set : (l : List A) (i : ℕ) (a : A) → P i a → ((j : ℕ) (b : A) → j ≢ i → get_elem? l j ≡ some b → P j b) → (j : ℕ) (b : A) → get_elem? (set l i a) j ≡ some b → P j b
  each_set l i a here others j b e = ⊎_elim (λ (t : (j ≡ i) × (a ≡ b)). subst (λ (x : ℕ × A). P x.0 x.1) (λ k. (sym t.0 k, t.1 k)) here)
      (λ (t : (j ≢ i) × (get_elem? l j ≡ some b)). others j b t.0 t.1) (at_set l i j a b e)

  pub each_end : (l : List A) (a : A) → P (length l) a → ((j : ℕ) (b : A) → get_elem? l j ≡ some b → P j b) → (j : ℕ) (b : A) → get_elem? (l ++ a ∷ []) j ≡ some b → P j b
  each_end l a here others j b e = ⊎_elim (λ (t : get_elem? l j ≡ some b). others j b t)
      (λ (t : (j ≡ length l) × (a ≡ b)). subst (λ (x : ℕ × A). P x.0 x.1) (λ k. (sym t.0 k, t.1 k)) here) (at_end l a b j e)

module _ {S E : Type 0} where
  -- each number that a later view holds, a view held that was there before
  abbrev pub Was : List (Known S E) → List (Known S E) → Type 0
  Was views later = (i : ℕ) (a : Known S E) (n : ℕ) → get_elem? later i ≡ some a → holds a n ≡ true → (b : Known S E) × (get_elem? views i ≡ some b) × (holds b n ≡ true)

  pub was_set : (views : List (Known S E)) (id : ℕ) (v w : Known S E) → get_elem? views id ≡ some v → ((n : ℕ) → holds w n ≡ true → holds v n ≡ true) → Was views (set views id w)
  was_set views id v w at fewer i a n e h = ⊎_elim
      (λ (t : (i ≡ id) × (w ≡ a)). (v, ap (get_elem? views) t.0 ∙ at, fewer n (subst (λ (x : Known S E). holds x n ≡ true) (sym t.1) h)))
      (λ (t : (i ≢ id) × (get_elem? views i ≡ some a)). (a, t.1, h)) (at_set views id i w a e)

  pub apart_was : (views later : List (Known S E)) → IsApart views → Was views later → IsApart later
  apart_was views later apart was n i j a b ei ej ha hb =
      let x = was i a n ei ha in let y = was j b n ej hb in apart n i j x.0 y.0 x.1 y.1 x.2 y.2

  pub apart_set : (views : List (Known S E)) (id : ℕ) (v w : Known S E) → get_elem? views id ≡ some v → ((n : ℕ) → holds w n ≡ true → holds v n ≡ true) → IsApart views → IsApart (set views id w)
  apart_set views id v w at fewer apart = apart_was views (set views id w) apart (was_set views id v w at fewer)

  -- the view v is cut into left and right, which hold nothing that v did not, and nothing both
  module _ (views : List (Known S E)) (id : ℕ) (v left right : Known S E) (at : get_elem? views id ≡ some v) (apart : IsApart views)
      (in_left : (n : ℕ) → holds left n ≡ true → holds v n ≡ true) (in_right : (n : ℕ) → holds right n ≡ true → holds v n ≡ true)
      (once : (n : ℕ) → holds left n ≡ true → holds right n ≡ true → ⊥) where
    not_both : (n i : ℕ) (a : Known S E) → get_elem? (set views id left) i ≡ some a → holds a n ≡ true → holds right n ≡ true → ⊥
    not_both n i a e ha hr = ⊎_elim
        (λ (t : (i ≡ id) × (left ≡ a)). once n (subst (λ (x : Known S E). holds x n ≡ true) (sym t.1) ha) hr)
        (λ (t : (i ≢ id) × (get_elem? views i ≡ some a)). t.0 (apart n i id a v t.1 at ha (in_right n hr))) (at_set views id i left a e)

    pub apart_cut : IsApart (set views id left ++ right ∷ [])
    apart_cut n i j a b ei ej ha hb = ⊎_elim
        (λ (x : get_elem? (set views id left) i ≡ some a). ⊎_elim
        (λ (y : get_elem? (set views id left) j ≡ some b). apart_set views id v left at in_left apart n i j a b x y ha hb)
        (λ (y : (j ≡ length (set views id left)) × (right ≡ b)). absurd (not_both n i a x ha (subst (λ (z : Known S E). holds z n ≡ true) (sym y.1) hb)))
        (at_end (set views id left) right b j ej))
        (λ (x : (i ≡ length (set views id left)) × (right ≡ a)). ⊎_elim
        (λ (y : get_elem? (set views id left) j ≡ some b). absurd (not_both n j b y hb (subst (λ (z : Known S E). holds z n ≡ true) (sym x.1) ha)))
        (λ (y : (j ≡ length (set views id left)) × (right ≡ b)). x.0 ∙ sym y.0)
        (at_end (set views id left) right b j ej))
        (at_end (set views id left) right a i ei)

  -- the views v and w become both, which holds nothing that neither did, and last, which holds nothing
  module _ (views : List (Known S E)) (id other : ℕ) (v w both last : Known S E) (at : get_elem? views id ≡ some v) (there : get_elem? views other ≡ some w) (apart : IsApart views)
      (in_both : (n : ℕ) → holds both n ≡ true → (holds v n ≡ true) ⊎ (holds w n ≡ true)) (in_last : (n : ℕ) → holds last n ≡ true → ⊥) where
    -- who holds a number has another index than `other`; and is id, or was there before
    abbrev Seated : ℕ → ℕ → Known S E → Type 0
    Seated n i a = (i ≢ other) × (((i ≡ id) × (holds both n ≡ true)) ⊎ ((i ≢ id) × (get_elem? views i ≡ some a)))

    seated : (n i : ℕ) (a : Known S E) → get_elem? (set (set views id both) other last) i ≡ some a → holds a n ≡ true → Seated n i a
    seated n i a e h = ⊎_elim
        (λ (t : (i ≡ other) × (last ≡ a)). absurd (in_last n (subst (λ (x : Known S E). holds x n ≡ true) (sym t.1) h)))
        (λ (t : (i ≢ other) × (get_elem? (set views id both) i ≡ some a)). (
          t.0,
          ⊎_elim
              (λ (u : (i ≡ id) × (both ≡ a)). inl (u.0, subst (λ (x : Known S E). holds x n ≡ true) (sym u.1) h))
              (λ (u : (i ≢ id) × (get_elem? views i ≡ some a)). inr u) (at_set views id i both a t.1),
        ))
        (at_set (set views id both) other i last a e)

    -- no other view holds what both does
    alone : (n j : ℕ) (b : Known S E) → holds both n ≡ true → j ≢ other → j ≢ id → get_elem? views j ≡ some b → holds b n ≡ true → ⊥
    alone n j b h not_other not_id e hb = ⊎_elim (λ (x : holds v n ≡ true). not_id (apart n j id b v e at hb x))
        (λ (x : holds w n ≡ true). not_other (apart n j other b w e there hb x)) (in_both n h)

    pub apart_joined : IsApart (set (set views id both) other last)
    apart_joined n i j a b ei ej ha hb = let x = seated n i a ei ha in let y = seated n j b ej hb in ⊎_elim
        (λ (p : (i ≡ id) × (holds both n ≡ true)). ⊎_elim
        (λ (q : (j ≡ id) × (holds both n ≡ true)). p.0 ∙ sym q.0)
        (λ (q : (j ≢ id) × (get_elem? views j ≡ some b)). absurd (alone n j b p.1 y.0 q.0 q.1 hb)) y.1)
        (λ (p : (i ≢ id) × (get_elem? views i ≡ some a)). ⊎_elim
        (λ (q : (j ≡ id) × (holds both n ≡ true)). absurd (alone n i a q.1 x.0 p.0 p.1 ha))
        (λ (q : (j ≢ id) × (get_elem? views j ≡ some b)). apart n i j a b p.1 q.1 ha hb) y.1)
        x.1

module _ {S E : Type 0} where
  -- the view at this index is of a seat that is entered
  abbrev pub EnteredAt : List (Known S E) → ℕ → Type 0
  EnteredAt views holder = (k : Known S E) × (get_elem? views holder ≡ some k) × (k.entered ≡ true)

  pub entered_else : (views : List (Known S E)) (other holder : ℕ) (u : Known S E) → holder ≢ other → EnteredAt views holder → EnteredAt (set views other u) holder
  entered_else views other holder u ne h = (h.0, set_else views other holder u ne ∙ h.1, h.2)

  pub entered_set : (views : List (Known S E)) (id holder : ℕ) (v w : Known S E) → get_elem? views id ≡ some v → w.entered ≡ v.entered → EnteredAt views holder → EnteredAt (set views id w) holder
  entered_set views id holder v w at same h = dite (ℕ_discrete holder id)
      (λ (e : holder ≡ id). let is : h.0 ≡ v = some-injective h.0 v (sym h.1 ∙ (ap (get_elem? views) e ∙ at)) in
      (w, ap (get_elem? (set views id w)) e ∙ set_here views id w (at_length views id v at), same ∙ (sym (ap (λ (k : Known S E). k.entered) is) ∙ h.2)))
      (λ (ne : holder ≢ id). entered_else views id holder w ne h)

  pub entered_end : (views : List (Known S E)) (holder : ℕ) (u : Known S E) → EnteredAt views holder → EnteredAt (views ++ u ∷ []) holder
  entered_end views holder u h = (h.0, at_longer views (u ∷ []) holder h.0 h.1, h.2)
