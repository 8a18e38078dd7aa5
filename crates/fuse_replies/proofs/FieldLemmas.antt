-- Fields that are written one after the other at a place.
use Rattle.std.proofs.Common.{◌≡◌, ◌+◌, ◌*◌, ℕ, List, ◌++◌, length, take, ap, sym, ◌∙◌, arith}
use Rattle.std.specs.List.{flat_map}
use Rattle.std.proofs.lemmas.List.{take_all}

-- once all fields are written, what stands before the place behind them are their bytes
pub fields_written : (f : ℕ → List ℕ) (size place at index : ℕ) (fields was now : List ℕ) → index ≡ length fields → at ≡ place + size * index
    → take at now ≡ take place was ++ flat_map f (take index fields) → take (place + size * length fields) now ≡ take place was ++ flat_map f fields
fields_written f size place at index fields was now past here so_far =
    ap (λ n. take n now) (sym (here ∙ ap (λ i. place + size * i) past)) ∙ so_far ∙ ap (λ (xs : List ℕ). take place was ++ flat_map f xs) (take_all index fields (omega (arith, past)))

-- text that fills an array is the array
pub fills : (count : ℕ) (bytes text : List ℕ) → length bytes ≡ count → take count bytes ≡ text → bytes ≡ text
fills count bytes text len is = sym (take_all count bytes (omega (arith, len))) ∙ is
