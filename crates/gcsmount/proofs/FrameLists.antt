-- Lists of frames, and the bytes that they are.
use Rattle.std.proofs.Common.{◌≡◌, ◌+◌, ◌++◌, ◌∷◌, [], List, ℕ, length, ap, ◌∙◌, sym, append_assoc, append-nil, length-append, get_or, refl, arith}
use Rattle.std.specs.List.{concat}
use Rattle.std.proofs.lemmas.List.Folds.{concat-append}

-- one more frame has as many more bytes
pub length-concat-push : (frames : List (List ℕ)) (frame : List ℕ)
    → length (concat (frames ++ frame ∷ [])) ≡ length (concat frames) + length frame
length-concat-push frames frame =
    ap length (concat-append frames (frame ∷ []) ∙ ap (λ last. concat frames ++ last) (append-nil frame)) ∙ length-append (concat frames) frame

-- the frame that waited longest goes over to those before it
pub split-next : (waiting before rest : List (List ℕ)) (held frame : List (List ℕ)) → waiting ≡ before ++ held → held ≡ frame ++ rest
    → waiting ≡ (before ++ frame) ++ rest
split-next waiting before rest held frame split first =
    split ∙ ap (λ later. before ++ later) first ∙ sym (append_assoc before frame rest)

-- a list of one item is that item
pub only_item : (xs : List (List ℕ)) (x : List ℕ) → length xs ≡ 1 → x ≡ get_or xs 0 x → xs ≡ x ∷ []
only_item [] x one first = absurd (let none : length {A = List ℕ} [] ≡ 0 = refl in omega arith)
only_item (y ∷ []) x one first = ap (λ item. item ∷ []) (sym first)
only_item (y ∷ z ∷ zs) x one first = absurd (omega arith)
