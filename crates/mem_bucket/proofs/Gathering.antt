-- What a home holds that has met a list of passes.
use Rattle.std.proofs.Common.{◌≡◌, ℕ, suc, ◌<◌, List, [], ◌∷◌, length, fold, get_or, refl, ap, ◌∙◌, arith}
use Rattle.lane_spec.specs.declared.Numbers.{Numbers}
use Rattle.lane_spec.specs.Numbers.{together}

-- it depends on nothing but what each of them holds
pub same_together : {X Y : Type 0} (f : X → Numbers) (g : Y → Numbers) (held : Numbers) (xs : List X) (ys : List Y) → length xs ≡ length ys
    → ((i : ℕ) (x : X) (y : Y) → i < length ys → f (get_or xs i x) ≡ g (get_or ys i y)) → fold (λ h x. together h (f x)) held xs ≡ fold (λ h y. together h (g y)) held ys
same_together f g held [] [] long same = refl
same_together f g held [] (y ∷ ys) long same = absurd (omega arith)
same_together f g held (x ∷ xs) [] long same = absurd (omega arith)
same_together f g held (x ∷ xs) (y ∷ ys) long same =
    ap (λ h. fold (λ h x. together h (f x)) (together held h) xs) (same 0 x y (omega arith))
    ∙ same_together f g (together held (g y)) xs ys (omega arith) (λ i u v l. same (suc i) u v (omega arith))
