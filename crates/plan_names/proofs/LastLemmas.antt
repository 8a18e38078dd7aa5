-- What stands last in a list.
use Rattle.std.proofs.Common.{◌≡◌, ◌-◌, List, [], ◌∷◌, length, slice_get, Some, refl, sym, ap, ◌∙◌, arith}

-- the last of a list that is not empty
abbrev pub last_of : {X : Type 0} → X → List X → X
last_of x [] = x
last_of x (y ∷ more) = last_of y more

pub last_of-get : {X : Type 0} (x : X) (xs : List X) → slice_get (x ∷ xs) (length (x ∷ xs) - 1) ≡ Some (last_of x xs)
last_of-get x [] = refl
last_of-get x (y ∷ more) =
    let further : length (x ∷ y ∷ more) - 1 ≡ length (y ∷ more) = omega arith in
    let here : length (y ∷ more) - 1 ≡ length more = omega arith in
    ap (slice_get (x ∷ y ∷ more)) further ∙ ap (slice_get (y ∷ more)) (sym here) ∙ last_of-get y more

-- what `last` gives of a list that is not empty
pub last_is : {X : Type 0} (x : X) (xs : List X) (y : X) → Some y ≡ slice_get (x ∷ xs) (length (x ∷ xs) - 1) → last_of x xs ≡ y
last_is x xs y was = let e = last_of-get x xs in cc
