-- Laws of `GoesOnBy`: a list that goes on from what was seen, with no further item of a number that was held.
use Rattle.std.proofs.Common.{◌≡◌, ℕ, Bool, true, false, cond, ◌||◌, ◌≤◌, List, [], ◌∷◌, ◌++◌, drop, get_or, length, map, All, nat_lt, refl, sym, ap, ◌∙◌, subst, append_assoc, append-nil, true≢false, arith, ltb-true, ltb-false}
use Rattle.std.proofs.lemmas.List.Elements.{All-nil, All-cons, All-head, All-tail, All-append, All-push, All-weaker, All-same, All-map}
use Rattle.std.proofs.lemmas.List.{map-append}
use Rattle.lane_spec.specs.declared.Numbers.{Numbers}
use Rattle.lane_spec.specs.Numbers.{has, HasAll, together}
use Rattle.lane_spec.specs.Going.{longer, GoesOnBy}
use Rattle.lane_spec.proofs.Held.{has-together}

all_parts : {X : Type 0} (P : X → Type 0) (xs ys : List X) → All P (xs ++ ys) → All P xs × All P ys
all_parts P [] ys h = (All-nil P, h)
all_parts P (x ∷ xs) ys h = let t = all_parts P xs ys (All-tail P x (xs ++ ys) h) in (All-cons P x xs (All-head P x (xs ++ ys) h) t.0, t.1)

-- of two beginnings of one list the shorter begins the longer
parted : {X : Type 0} (xs ys r s : List X) → xs ++ r ≡ ys ++ s → length xs ≤ length ys → (d : List X) × (ys ≡ xs ++ d) × (r ≡ d ++ s)
parted [] ys r s e h = (ys, refl, e)
parted (x ∷ xs) [] r s e h = absurd (omega arith)
parted (x ∷ xs) (y ∷ ys) r s e h = let same : x ≡ y = cc in let t = parted xs ys r s (ap (drop 1) e) (omega arith) in
    (t.0, ap (λ zs. y ∷ zs) t.1 ∙ ap (λ z. z ∷ (xs ++ t.0)) (sym same), t.2)

pub or_false : (a b : Bool) → a || b ≡ false → (a ≡ false) × (b ≡ false)
or_false true b e = absurd (true≢false e)
or_false false b e = (refl, e)

-- what a larger set lacks the smaller one lacks
pub fewer : (a b : Bool) → (a ≡ true → b ≡ true) → b ≡ false → a ≡ false
fewer true b h e = absurd (true≢false (sym (h refl) ∙ e))
fewer false b h e = refl

swapped : (a b : Bool) → a || b ≡ true → b || a ≡ true
swapped true true e = refl
swapped true false e = refl
swapped false b e = subst (λ c. c || false ≡ true) (sym e) refl

module _ {X : Type 0} (by : X → ℕ) where
  abbrev Lacks : Numbers → X → Type 0
  Lacks held x = has held (by x) ≡ false

  pub GoesOnBy-refl : (held : Numbers) (seen : List X) → GoesOnBy by held seen seen
  GoesOnBy-refl held seen = ([], sym (append-nil seen), All-nil (Lacks held))

  pub GoesOnBy-trans : (held : Numbers) (a b c : List X) → GoesOnBy by held a b → GoesOnBy by held b c → GoesOnBy by held a c
  GoesOnBy-trans held a b c g h = (g.0 ++ h.0, h.1 ∙ (ap (λ z. z ++ h.0) g.1 ∙ append_assoc a g.0 h.0), All-append (Lacks held) g.0 h.0 g.2 h.2)

  pub GoesOnBy-push : (held : Numbers) (seen book : List X) (x : X) → GoesOnBy by held seen book → has held (by x) ≡ false → GoesOnBy by held seen (book ++ x ∷ [])
  GoesOnBy-push held seen book x g lacks = (g.0 ++ x ∷ [], ap (λ z. z ++ x ∷ []) g.1 ∙ append_assoc seen g.0 (x ∷ []), All-push (Lacks held) g.0 x g.2 lacks)

  -- for fewer numbers
  pub GoesOnBy-fewer : (held fewer_held : Numbers) (seen book : List X) → ((n : ℕ) → has fewer_held n ≡ true → has held n ≡ true) → GoesOnBy by held seen book → GoesOnBy by fewer_held seen book
  GoesOnBy-fewer held less seen book h g = (g.0, g.1, All-weaker (Lacks held) (Lacks less) (λ x. fewer (has less (by x)) (has held (by x)) (h (by x))) g.0 g.2)

  -- for the numbers of both
  both_lack : (g h : Numbers) (x : X) → Lacks g x → Lacks h x → Lacks (together g h) x
  both_lack g h x a b = has-together g h (by x) ∙ (ap (λ z. z || has h (by x)) a ∙ b)

  pub all_both : (g h : Numbers) (rest : List X) → All (Lacks g) rest → All (Lacks h) rest → All (Lacks (together g h)) rest
  all_both g h rest a b = λ k d l. both_lack g h (get_or rest k d) (a k d l) (b k d l)

  -- of two lists that were seen, the longer goes on from both, and the book goes on from it
  later_longer : (g h : Numbers) (xs ys book : List X) → length xs ≤ length ys → GoesOnBy by g xs book → GoesOnBy by h ys book → GoesOnBy by g xs ys × GoesOnBy by (together g h) ys book
  later_longer g h xs ys book short a b =
      let t = parted xs ys a.0 b.0 (sym a.1 ∙ b.1) short in
      let p = all_parts (Lacks g) t.0 b.0 (All-same (Lacks g) (t.0 ++ b.0) a.0 (sym t.2) a.2) in
      ((t.0, t.1, p.0), (b.0, b.1, all_both g h b.0 p.1 b.2))

  together_comm : (g h : Numbers) (seen book : List X) → GoesOnBy by (together g h) seen book → GoesOnBy by (together h g) seen book
  together_comm g h seen book = GoesOnBy-fewer (together g h) (together h g) seen book (λ n e. has-together g h n ∙ (swapped (has h n) (has g n) (sym (has-together h g n) ∙ e)))

  longer_by : (b : Bool) (g h : Numbers) (xs ys book : List X) → nat_lt (length xs) (length ys) ≡ b → GoesOnBy by g xs book → GoesOnBy by h ys book
      → GoesOnBy by g xs (cond b ys xs) × GoesOnBy by h ys (cond b ys xs) × GoesOnBy by (together g h) (cond b ys xs) book
  longer_by true g h xs ys book is a b = let t = later_longer g h xs ys book (let l = ltb-true (length xs) (length ys) is in omega arith) a b in (t.0, GoesOnBy-refl h ys, t.1)
  longer_by false g h xs ys book is a b = let t = later_longer h g ys xs book (ltb-false (length xs) (length ys) is) b a in (GoesOnBy-refl g xs, t.0, together_comm h g xs book t.1)

  pub longer_goes_on : (g h : Numbers) (xs ys book : List X) → GoesOnBy by g xs book → GoesOnBy by h ys book
      → GoesOnBy by g xs (longer xs ys) × GoesOnBy by h ys (longer xs ys) × GoesOnBy by (together g h) (longer xs ys) book
  longer_goes_on g h xs ys book = longer_by (nat_lt (length xs) (length ys)) g h xs ys book refl

  -- who holds all numbers has seen the whole book
  none_left : (held : Numbers) (rest : List X) → HasAll held → All (Lacks held) rest → rest ≡ []
  none_left held [] all lack = refl
  none_left held (x ∷ xs) all lack = absurd (true≢false (sym (all (by x)) ∙ All-head (Lacks held) x xs lack))

  pub whole_book : (held : Numbers) (seen book : List X) → HasAll held → GoesOnBy by held seen book → book ≡ seen
  whole_book held seen book all g = g.1 ∙ (ap (λ z. seen ++ z) (none_left held g.0 all g.2) ∙ append-nil seen)

-- the same of what is made of each item, where that bears the item's number
pub GoesOnBy-map : {X Y : Type 0} (by : X → ℕ) (by' : Y → ℕ) (f : X → Y) (held : Numbers) (seen list : List X) → All (λ x. by' (f x) ≡ by x) list
    → GoesOnBy by held seen list → GoesOnBy by' held (map f seen) (map f list)
GoesOnBy-map {X} by by' f held seen list same g =
    let Same : X → Type 0 = λ x. by' (f x) ≡ by x in
    let rest = (all_parts Same seen g.0 (All-same Same (seen ++ g.0) list (sym g.1) same)).1 in (
      map f g.0,
      ap (map f) g.1 ∙ map-append f seen g.0,
      All-map (λ y. has held (by' y) ≡ false) f g.0 (λ k d l. ap (has held) (rest k d l) ∙ g.2 k d l),
    )
