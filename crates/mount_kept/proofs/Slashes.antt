-- A text ends in a slash where its last byte is one.
use Rattle.std.proofs.Common.{◌≡◌, ℕ, ◌-◌, List, [], ◌∷◌, length, get_or, suc, refl, ap, ◌∙◌, arith, ◌==◌}
use Rattle.bucket_api.specs.Listing.{ends_in_slash}

pub last_byte : (text : List ℕ) → (get_or text (length text - 1) 0 == 47) ≡ ends_in_slash text
last_byte [] = refl
last_byte (b ∷ []) = refl
last_byte (b ∷ c ∷ bs) =
    let e : length (b ∷ c ∷ bs) - 1 ≡ suc (length (c ∷ bs) - 1) = omega arith in
    ap (λ at. get_or (b ∷ c ∷ bs) at 0 == 47) e ∙ last_byte (c ∷ bs)
