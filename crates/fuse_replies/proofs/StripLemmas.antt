-- Taking pieces from the front, one after the other.
use Rattle.std.proofs.Common.{◌≡◌, ◌≢◌, ◌≤◌, ◌<◌, ◌+◌, ℕ, List, [], ◌∷◌, ◌++◌, length, take, drop, get_or, Option, Some, None, ap, sym, ◌∙◌}
use Rattle.std.specs.Borrow.{Bor}
use Rattle.std.specs.List.{flat_map}
use Rattle.std.proofs.lemmas.List.{append-nil, append_assoc, append_cancel_left, drop_more, take-append-drop, take_all, take_more}
use Rattle.std.proofs.lemmas.List.Concat.{flat_map-append, flat_map-cons}
use Rattle.fuse_replies.specs.Reading.{Strips}

-- the pieces are those before one, that one, and those after it
pieces_split : (f : ℕ → List ℕ) (xs : List ℕ) (i : ℕ) → i < length xs → flat_map f xs ≡ flat_map f (take i xs) ++ (f (get_or xs i 0) ++ flat_map f (drop (i + 1) xs))
pieces_split f xs i here =
    let parts : xs ≡ take i xs ++ (get_or xs i 0 ∷ drop (i + 1) xs) = sym (take-append-drop i xs) ∙ ap (λ (ys : List ℕ). take i xs ++ ys) (drop_more xs i 0 here) in
    ap (flat_map f) parts ∙ flat_map-append f (take i xs) (get_or xs i 0 ∷ drop (i + 1) xs) ∙ ap (λ (ys : List ℕ). flat_map f (take i xs) ++ ys) (flat_map-cons f (get_or xs i 0) (drop (i + 1) xs))

pub strip_more : (f : ℕ → List ℕ) (xs : List ℕ) (i : ℕ) (bytes rest piece after : List ℕ) → i < length xs → bytes ≡ flat_map f (take i xs) ++ rest → piece ≡ f (get_or xs i 0) → rest ≡ piece ++ after
    → bytes ≡ flat_map f (take (i + 1) xs) ++ after
strip_more f xs i bytes rest piece after here so_far is next =
    rw (take_more xs i 0 here, flat_map-append f (take i xs) (get_or xs i 0 ∷ []), flat_map-cons, append-nil, append_assoc, ← is, ← next) so_far

pub strip_none : (f : ℕ → List ℕ) (xs : List ℕ) (i : ℕ) (bytes rest piece : List ℕ) → i < length xs → bytes ≡ flat_map f (take i xs) ++ rest
    → piece ≡ f (get_or xs i 0) → ((after : List ℕ) → rest ≢ piece ++ after)
    → (after : List ℕ) → bytes ≢ flat_map f xs ++ after
strip_none f xs i bytes rest piece here so_far is none after whole =
    let others = flat_map f (drop (i + 1) xs) in
    let split : flat_map f (take i xs) ++ rest ≡ flat_map f (take i xs) ++ (f (get_or xs i 0) ++ (others ++ after)) =
    sym so_far ∙ whole ∙ ap (λ (ys : List ℕ). ys ++ after) (pieces_split f xs i here) ∙ simp append_assoc in
    none (others ++ after) (append_cancel_left (flat_map f (take i xs)) rest (f (get_or xs i 0) ++ (others ++ after)) split ∙ ap (λ (ys : List ℕ). ys ++ (others ++ after)) (sym is))

pub strip_all : (f : ℕ → List ℕ) (xs : List ℕ) (i : ℕ) (bytes rest : List ℕ) → length xs ≤ i → bytes ≡ flat_map f (take i xs) ++ rest → bytes ≡ flat_map f xs ++ rest
strip_all f xs i bytes rest past so_far = so_far ∙ ap (λ (ys : List ℕ). flat_map f ys ++ rest) (take_all i xs past)

-- what follows a front is one
pub after_front : (bytes front rest other : List ℕ) → bytes ≡ front ++ rest → bytes ≡ front ++ other → rest ≡ other
after_front bytes front rest other one two = append_cancel_left front rest other (sym one ∙ two)

pub after_front_all : (bytes front rest other : List ℕ) → bytes ≡ front ++ rest → bytes ≡ front ++ other → rest ≡ other ++ []
after_front_all bytes front rest other one two = after_front bytes front rest other one two ∙ sym (append-nil other)

-- what doesn't begin with a front doesn't begin with more
pub strips_none_then : (bytes front more : List ℕ) → ((rest : List ℕ) → bytes ≢ front ++ rest) → (rest : List ℕ) → bytes ≢ (front ++ more) ++ rest
strips_none_then bytes front more none rest whole = none (more ++ rest) (whole ∙ append_assoc front more rest)

-- one front behind the other
pub strips_then : (bytes front middle more rest : List ℕ) → bytes ≡ front ++ middle → middle ≡ more ++ rest → bytes ≡ (front ++ more) ++ rest
strips_then bytes front middle more rest one two = one ∙ ap (λ (xs : List ℕ). front ++ xs) two ∙ sym (append_assoc front more rest)

pub strips_behind : (bytes front middle more : List ℕ) (result : Option (Bor (List ℕ))) → bytes ≡ front ++ middle → Strips middle more result → Strips bytes (front ++ more) result
strips_behind bytes front middle more None one none = λ rest whole.
    none rest (after_front bytes front middle (more ++ rest) one (whole ∙ append_assoc front more rest))
strips_behind bytes front middle more (Some rest) one two = strips_then bytes front middle more rest.now one two
