-- What several steps over one list of bytes come to.
use Rattle.std.proofs.Common.{◌≡◌, ◌+◌, ◌<◌, ◌≤◌, ◌++◌, [], length, min, take, drop, subst, sym, ap, ◌∙◌, arith, List, ℕ, Option}
use Rattle.std.specs.Io.KnownBytes.{Appends}
use Rattle.std.proofs.KnownBytes.{Appends-trans}
use Rattle.std.proofs.Math.Seq.{take-add}
use Rattle.std.proofs.lemmas.List.{take-append-drop, drop-drop, nil_from_length}

-- The first bytes of a list were appended, and then the next ones.
pub Appends-next : (a b c : Option (List ℕ)) (at count : ℕ) (bytes : List ℕ)
    → Appends a b (take at bytes) → Appends b c (take count (drop at bytes)) → Appends a c (take (at + count) bytes)
Appends-next a b c at count bytes first next =
    subst (Appends a c) (sym (take-add at count bytes)) (Appends-trans a b c _ _ first next)

-- What is left of a list is its next bytes and what is left behind them.
pub drop-next : (at count : ℕ) (bytes : List ℕ)
    → drop at bytes ≡ take count (drop at bytes) ++ drop (at + count) bytes
drop-next at count bytes =
    sym (take-append-drop count (drop at bytes)) ∙ ap (λ rest. take count (drop at bytes) ++ rest) (drop-drop count at bytes)

-- Where as much is given as is left, as there is room for and as a piece has, nothing is given only at the end.
pub drop-given : (at count room piece : ℕ) (bytes : List ℕ)
    → count ≡ min (min (length (drop at bytes)) room) piece → 1 ≤ piece → count ≡ 0 → 0 < room → drop (at + count) bytes ≡ []
drop-given at count room piece bytes given some none roomy =
    let empty : length (drop at bytes) ≡ 0 = omega arith in
    let here : at + count ≡ at = omega arith in
    rw here (nil_from_length (drop at bytes) empty)
