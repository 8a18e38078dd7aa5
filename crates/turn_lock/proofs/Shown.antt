-- How a seat's value follows from what its thread knows.
use Rattle.std.proofs.Common.{◌≡◌, ℕ, true, List, ◌∷◌, Option, Some, None, is_some, refl, sym, ap, ◌∙◌, subst, true≢false}
use Rattle.base_laws.proofs.Options.{same_some}
use Rattle.atomic_table.specs.Table.{rest}
use Rattle.turn_lock.specs.declared.known.Line.{Line}
use Rattle.turn_lock.specs.Book.{StandsFor}
use Rattle.turn_lock.specs.Seats.{present}

pub present-is : {S : Type 0} → (o : Option S) (h : is_some o ≡ true) → o ≡ Some (present o h)
present-is (Some x) h = refl
present-is None h = absurd (true≢false (sym h))

-- the front of a list, before its rest
pub before_rest : {B : Type 0} (l xs : List (ℕ × B)) (a : ℕ × B) → l ≡ a ∷ xs → l ≡ a ∷ rest l
before_rest l xs a e = e ∙ ap (λ ys. a ∷ ys) (sym (ap rest e))

pub same_front : {B : Type 0} (l xs ys : List (ℕ × Option B)) (n m : ℕ) (x y : B) (r : Option B) → l ≡ (n, Some x) ∷ xs → l ≡ (m, r) ∷ ys → r ≡ Some y → x ≡ y
same_front {B} l xs ys n m x y r e f g = let pairs : ◌≡◌ {A = ℕ × Option B} (n, Some x) (m, r) = cc in same_some x y (ap (λ (p : ℕ × Option B). p.1) pairs ∙ g)

pub stands_as : {S E H : Type 0} (entries : S → List E) (home : S → H) (may_make : ℕ → E → Type 0) (f f' : S) (book book' : List (Line E)) (state state' : S)
    → f ≡ f' → book ≡ book' → state ≡ state' → StandsFor entries home may_make f book state → StandsFor entries home may_make f' book' state'
stands_as {S} {E} entries home may_make f f' book book' state state' p q r =
    subst (λ (x : S × List (Line E) × S). StandsFor entries home may_make x.0 x.1 x.2) (λ k. (p k, q k, r k))
