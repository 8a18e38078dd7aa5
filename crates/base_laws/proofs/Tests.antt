-- What a test says, and tests that are the same the other way round.
use Rattle.std.proofs.Common.{◌≡◌, ◌≢◌, ◌⊎◌, inl, inr, ℕ, List, Bool, true, false, refl, sym, ◌∙◌, nat_eq, nat_cmp, arith}
use Rattle.std.proofs.lemmas.Bool.{false≢true}
use Rattle.std.proofs.lemmas.Bool.Decides.{nat_tests, Decides-eqb, same_from_decides, Decides-like}
use Rattle.std.proofs.lemmas.Slice.Eq.{bytes_eq-Decides}
use Rattle.std.specs.Ordering.{is_eq}
use Rattle.std.specs.Prelude.{◌&&◌, ◌||◌}
use Rattle.std.specs.Str.{bytes_eq}

-- two tests pass that pass together
pub both_true : (a b : Bool) → (a && b) ≡ true → (a ≡ true) × (b ≡ true)
both_true true b e = (refl, e)
both_true false b e = absurd (false≢true e)

-- one of two tests passes, each of which has a consequence
pub or_then : {P : Type 0} (a b : Bool) → (a || b) ≡ true → (a ≡ true → P) → (b ≡ true → P) → P
or_then true b e f g = f refl
or_then false b e f g = g e

-- one of two things holds, each of which has a consequence
pub either_of : {A B C : Type 0} → A ⊎ B → (A → C) → (B → C) → C
either_of (inl a) f g = f a
either_of (inr b) f g = g b

-- two numbers are the same, or they aren't
pub same_or_not : (n m : ℕ) → (n ≡ m) ⊎ (n ≢ m)
same_or_not n m = elim (nat_eq n m) as (λ b. nat_eq n m ≡ b → (n ≡ m) ⊎ (n ≢ m)) [
  | true ↦ λ e. inl ((Decides-eqb n m).0 e)
  | false ↦ λ e. inr (λ p. false≢true (sym e ∙ (Decides-eqb n m).1 p))
] refl

-- the order of numbers calls those equal that the test calls equal
pub is_eq-nat_cmp : (x y : ℕ) → is_eq (nat_cmp x y) ≡ nat_eq x y
is_eq-nat_cmp x y = grind (arith, nat_tests)

pub nat_eq_flip : (x y : ℕ) → nat_eq x y ≡ nat_eq y x
nat_eq_flip x y = same_from_decides (nat_eq x y) (nat_eq y x) (Decides-eqb x y) (Decides-like (nat_eq y x) sym sym (Decides-eqb y x))

pub bytes_eq_flip : (x y : List ℕ) → bytes_eq x y ≡ bytes_eq y x
bytes_eq_flip x y = same_from_decides (bytes_eq x y) (bytes_eq y x) (bytes_eq-Decides x y) (Decides-like (bytes_eq y x) sym sym (bytes_eq-Decides y x))
