-- What holds of a value that is chosen, from what holds of each choice.
use Rattle.std.proofs.Common.{◌≡◌, ℕ, Bool, true, false, cond, Option, Some, None, refl, nat_eq}
use Rattle.std.proofs.lemmas.Bool.Decides.{Decides-eqb}
use Rattle.std.specs.Option.{option_map_or}

-- by a test
pub on_test : {B : Type 0} (P : B → Type 0) (test : Bool) (y n : B) → (test ≡ true → P y) → (test ≡ false → P n) → P (cond test y n)
on_test P true y n f g = f refl
on_test P false y n f g = g refl

-- by what was found
pub on_found : {A B : Type 0} (P : B → Type 0) (found : Option A) (f : A → B) (other : B)
    → (found ≡ None → P other) → ((x : A) → found ≡ Some x → P (f x)) → P (option_map_or f found other)
on_found P None f other g h = g refl
on_found P (Some x) f other g h = h x refl

-- at one number, another way to write the value there
pub where_same : {X : Type 0} (n k : ℕ) (a b c : X) → (n ≡ k → a ≡ b) → cond (nat_eq n k) a c ≡ cond (nat_eq n k) b c
where_same n k a b c same = elim (nat_eq n k) as (λ t. nat_eq n k ≡ t → cond t a c ≡ cond t b c) [
  | true ↦ λ t. same ((Decides-eqb n k).0 t)
  | false ↦ λ t. refl
] refl

-- or the value that all others have
pub where_kept : {X : Type 0} (n k : ℕ) (a c : X) → (n ≡ k → a ≡ c) → cond (nat_eq n k) a c ≡ c
where_kept n k a c same = elim (nat_eq n k) as (λ t. nat_eq n k ≡ t → cond t a c ≡ c) [
  | true ↦ λ t. same ((Decides-eqb n k).0 t)
  | false ↦ λ t. refl
] refl
