-- What a write of n bytes at a place leaves of a slice.
use Rattle.std.proofs.Common.{◌≡◌, ◌≤◌, ◌+◌, ◌-◌, ℕ, List, [], ◌++◌, length, take, drop, refl, ap, ◌∙◌, arith}
use Rattle.std.proofs.lemmas.List.{append-nil, append_assoc, drop-drop, drop_all, drop_at, length-append, length-drop, length-take-le, take_at, take_rest}
use borrow.Rule.Slice.PartMut.{put_mid}

-- the slice is what stood before the place, the text, and what stood behind it
written : (n place : ℕ) (out text buf : List ℕ) → place + n ≤ length out → buf ≡ text ++ drop n (take (length out - place) (drop place out))
    → put_mid place (length out - place) out buf ≡ (take place out ++ text) ++ drop (place + n) out
written n place out text buf within is =
    let none : drop (length out - place) (drop place out) ≡ [] = drop_all (length out - place) (drop place out) (omega (arith, length-drop place out)) in
    rw (none, append-nil, is, take_rest out place, drop-drop n place out, append_assoc) refl

-- the text ends where the slice's part ends
ends : (n place : ℕ) (out text : List ℕ) → place + n ≤ length out → length text ≡ n → length (take place out ++ text) ≡ place + n
ends n place out text within long = omega (arith, length-append (take place out) text, length-take-le place out (omega arith))

pub take-written : (n place : ℕ) (out text buf : List ℕ) → place + n ≤ length out → length text ≡ n → buf ≡ text ++ drop n (take (length out - place) (drop place out))
    → take (place + n) (put_mid place (length out - place) out buf) ≡ take place out ++ text
take-written n place out text buf within long is =
    ap (take (place + n)) (written n place out text buf within is) ∙ take_at (take place out ++ text) (drop (place + n) out) (place + n) (ends n place out text within long)

pub drop-written : (n place : ℕ) (out text buf : List ℕ) → place + n ≤ length out → length text ≡ n → buf ≡ text ++ drop n (take (length out - place) (drop place out))
    → drop (place + n) (put_mid place (length out - place) out buf) ≡ drop (place + n) out
drop-written n place out text buf within long is =
    ap (drop (place + n)) (written n place out text buf within is) ∙ drop_at (take place out ++ text) (drop (place + n) out) (place + n) (ends n place out text within long)
