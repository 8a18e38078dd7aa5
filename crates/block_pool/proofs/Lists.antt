-- Lists of blocks: what is in them, once, and how many there can be. Entries at rising positions.
use Rattle.std.proofs.Common.{◌≡◌, ◌≢◌, ℕ, zero, suc, ◌<◌, ◌≤◌, List, [], ◌∷◌, ◌++◌, ◌⊎◌, inl, inr, refl, sym, ap, subst, ◌∙◌, length, cond, arith}
use Rattle.std.proofs.lemmas.Bool.{cases_eq, lt-ltb, le-ltb}
use Rattle.block_pool.specs.Chains.{Entries, AllAbove, Rises, inserted, below}
use Rattle.block_pool.specs.Nodes.{Has, Once}

pub from_either : {A B C : Type 0} → (A → C) → (B → C) → A ⊎ B → C
from_either f g (inl a) = f a
from_either f g (inr b) = g b

-- ---- what is in a list
pub Has-left : (b : ℕ) (xs ys : List ℕ) → Has b xs → Has b (xs ++ ys)
Has-left b [] ys h = absurd h
Has-left b (x ∷ xs) ys (inl e) = inl e
Has-left b (x ∷ xs) ys (inr h) = inr (Has-left b xs ys h)

pub Has-right : (b : ℕ) (xs ys : List ℕ) → Has b ys → Has b (xs ++ ys)
Has-right b [] ys h = h
Has-right b (x ∷ xs) ys h = inr (Has-right b xs ys h)

pub Has-append : (b : ℕ) (xs ys : List ℕ) → Has b (xs ++ ys) → Has b xs ⊎ Has b ys
Has-append b [] ys h = inr h
Has-append b (x ∷ xs) ys (inl e) = inl (inl e)
Has-append b (x ∷ xs) ys (inr h) = or_later (Has-append b xs ys h)
  where
    or_later : Has b xs ⊎ Has b ys → Has b (x ∷ xs) ⊎ Has b ys
    or_later (inl h) = inl (inr h)
    or_later (inr h) = inr h

-- a list with one more block inside
pub Has-inside : (b x : ℕ) (xs ys : List ℕ) → Has b (xs ++ x ∷ ys) → (b ≡ x) ⊎ Has b (xs ++ ys)
Has-inside b x xs ys h = split (Has-append b xs (x ∷ ys) h)
  where
    split : Has b xs ⊎ Has b (x ∷ ys) → (b ≡ x) ⊎ Has b (xs ++ ys)
    split (inl h) = inr (Has-left b xs ys h)
    split (inr (inl e)) = inl e
    split (inr (inr h)) = inr (Has-right b xs ys h)

has_or_not : (b : ℕ) (xs : List ℕ) → Has b xs ⊎ (¬ (Has b xs))
has_or_not b [] = inr (λ h. h)
has_or_not b (x ∷ xs) = decide (cases_eq b x) (has_or_not b xs)
  where
    decide : (b ≡ x) ⊎ (b ≡ x → ⊥) → Has b xs ⊎ (¬ (Has b xs)) → Has b (x ∷ xs) ⊎ (¬ (Has b (x ∷ xs)))
    decide (inl e) more = inl (inl e)
    decide (inr n) (inl h) = inl (inr h)
    decide (inr n) (inr none) = inr (neither n none)
      where
        neither : (b ≡ x → ⊥) → ¬ (Has b xs) → Has b (x ∷ xs) → ⊥
        neither n none (inl e) = n e
        neither n none (inr h) = none h

-- ---- once
pub Once-append : (xs ys : List ℕ) → Once xs → Once ys → ((b : ℕ) → Has b xs → Has b ys → ⊥) → Once (xs ++ ys)
Once-append [] ys one two apart = two
Once-append (x ∷ xs) ys one two apart = (fresh, Once-append xs ys one.1 two (λ b h. apart b (inr h)))
  where
    fresh : Has x (xs ++ ys) → ⊥
    fresh h = either_of (Has-append x xs ys h)
      where
        either_of : Has x xs ⊎ Has x ys → ⊥
        either_of (inl h) = one.0 h
        either_of (inr h) = apart x (inl refl) h

pub Once-left : (xs ys : List ℕ) → Once (xs ++ ys) → Once xs
Once-left [] ys o = tt
Once-left (x ∷ xs) ys o = ((λ h. o.0 (Has-left x xs ys h)), Once-left xs ys o.1)

pub Once-right : (xs ys : List ℕ) → Once (xs ++ ys) → Once ys
Once-right [] ys o = o
Once-right (x ∷ xs) ys o = Once-right xs ys o.1

pub Once-apart : (b : ℕ) (xs ys : List ℕ) → Once (xs ++ ys) → Has b xs → Has b ys → ⊥
Once-apart b [] ys o h k = h
Once-apart b (x ∷ xs) ys o (inl e) k = o.0 (Has-right x xs ys (subst (λ n. Has n ys) e k))
Once-apart b (x ∷ xs) ys o (inr h) k = Once-apart b xs ys o.1 h k

-- ---- how many blocks there can be
-- the list without one of its blocks
minus_at : {b x : ℕ} → (b ≡ x) ⊎ (b ≡ x → ⊥) → List ℕ → List ℕ → List ℕ
minus_at (inl e) xs rest = xs
minus_at {x = x} (inr n) xs rest = x ∷ rest

minus : ℕ → List ℕ → List ℕ
minus b [] = []
minus b (x ∷ xs) = minus_at (cases_eq b x) xs (minus b xs)

length-minus_at : (b x : ℕ) (d : (b ≡ x) ⊎ (b ≡ x → ⊥)) (xs rest : List ℕ) → Has b (x ∷ xs) → (Has b xs → length xs ≡ suc (length rest))
    → suc (length xs) ≡ suc (length (minus_at d xs rest))
unfolding minus_at
length-minus_at b x (inl e) xs rest h more = refl
length-minus_at b x (inr n) xs rest (inl e) more = absurd (n e)
length-minus_at b x (inr n) xs rest (inr h) more = ap suc (more h)

length-minus : (b : ℕ) (xs : List ℕ) → Has b xs → length xs ≡ suc (length (minus b xs))
unfolding minus
length-minus b [] h = absurd h
length-minus b (x ∷ xs) h = length-minus_at b x (cases_eq b x) xs (minus b xs) h (length-minus b xs)

Has-minus_at : (b c x : ℕ) (d : (b ≡ x) ⊎ (b ≡ x → ⊥)) (xs rest : List ℕ) → ¬ (Has x xs) → Has c (minus_at d xs rest) → (Has c rest → Has c xs × (c ≢ b)) → Has c (x ∷ xs) × (c ≢ b)
unfolding minus_at
Has-minus_at b c x (inl e) xs rest fresh h more = (inr h, λ p. fresh (subst (λ n. Has n xs) (p ∙ e) h))
Has-minus_at b c x (inr n) xs rest fresh (inl e) more = (inl e, λ p. n (sym p ∙ e))
Has-minus_at b c x (inr n) xs rest fresh (inr h) more = (inr (more h).0, (more h).1)

Has-minus : (b c : ℕ) (xs : List ℕ) → Once xs → Has c (minus b xs) → Has c xs × (c ≢ b)
unfolding minus
Has-minus b c [] o h = absurd h
Has-minus b c (x ∷ xs) o h = Has-minus_at b c x (cases_eq b x) xs (minus b xs) o.0 h (Has-minus b c xs o.1)

Once-minus_at : (b x : ℕ) (d : (b ≡ x) ⊎ (b ≡ x → ⊥)) (xs rest : List ℕ) → Once (x ∷ xs) → Once rest → (Has x rest → Has x xs) → Once (minus_at d xs rest)
unfolding minus_at
Once-minus_at b x (inl e) xs rest o one more = o.1
Once-minus_at b x (inr n) xs rest o one more = ((λ h. o.0 (more h)), one)

Once-minus : (b : ℕ) (xs : List ℕ) → Once xs → Once (minus b xs)
unfolding minus
Once-minus b [] o = tt
Once-minus b (x ∷ xs) o = Once-minus_at b x (cases_eq b x) xs (minus b xs) o (Once-minus b xs o.1) (λ h. (Has-minus b x xs o.1 h).0)

-- blocks below a number, each once, are at most so many
pub length-once : (n : ℕ) (xs : List ℕ) → Once xs → ((b : ℕ) → Has b xs → b < n) → length xs ≤ n
length-once zero [] o within = omega arith
length-once zero (x ∷ xs) o within = absurd (let h = within x (inl refl) in omega arith)
length-once (suc n) xs o within = at_most n xs o within (has_or_not n xs) (length-once n)
  where
    at_most : (n : ℕ) (xs : List ℕ) → Once xs → ((b : ℕ) → Has b xs → b < suc n) → Has n xs ⊎ (¬ (Has n xs))
        → ((ys : List ℕ) → Once ys → ((b : ℕ) → Has b ys → b < n) → length ys ≤ n) → length xs ≤ suc n
    at_most n xs o within (inl h) more =
        let fewer : length (minus n xs) ≤ n = more (minus n xs) (Once-minus n xs o)
        (λ b k. let p = Has-minus n b xs o k in let q = within b p.0 in let r : b ≢ n = p.1 in omega arith) in
        omega (arith, length-minus n xs h)
    at_most n xs o within (inr none) more =
        let fewer : length xs ≤ n = more xs o (λ b k. let q = within b k in let r : b ≢ n = (λ p. none (subst (λ m. Has m xs) p k)) in omega arith) in
        omega arith

-- ---- entries at rising positions
module _ {V : Type 0} where
  pub AllAbove-right : (p : ℕ) (xs ys : Entries V) → AllAbove p (xs ++ ys) → AllAbove p ys
  AllAbove-right p [] ys a = a
  AllAbove-right p (x ∷ xs) ys a = AllAbove-right p xs ys a.1

  pub AllAbove-left : (p : ℕ) (xs ys : Entries V) → AllAbove p (xs ++ ys) → AllAbove p xs
  AllAbove-left p [] ys a = tt
  AllAbove-left p (x ∷ xs) ys a = (a.0, AllAbove-left p xs ys a.1)

  pub AllAbove-lower : (p q : ℕ) (xs : Entries V) → q ≤ p → AllAbove p xs → AllAbove q xs
  AllAbove-lower p q [] le a = tt
  AllAbove-lower p q (x ∷ xs) le a = ((let h = a.0 in omega arith), AllAbove-lower p q xs le a.1)

  pub Rises-right : (xs ys : Entries V) → Rises (xs ++ ys) → Rises ys
  Rises-right [] ys r = r
  Rises-right (x ∷ xs) ys r = Rises-right xs ys r.1

  pub Rises-left : (xs ys : Entries V) → Rises (xs ++ ys) → Rises xs
  Rises-left [] ys r = tt
  Rises-left (x ∷ xs) ys r = (AllAbove-left x.0 xs ys r.0, Rises-left xs ys r.1)

  -- entries below a position
  abbrev pub AllBelow : ℕ → Entries V → Type 0
  AllBelow p [] = Unit {0}
  AllBelow p (e ∷ es) = (e.0 < p) × AllBelow p es

  -- what comes up to an entry below a position is below it
  pub AllBelow-upto : (p : ℕ) (xs : Entries V) (y : ℕ × V) → Rises (xs ++ y ∷ []) → y.0 < p → AllBelow p (xs ++ y ∷ [])
  AllBelow-upto p [] y r lt = (lt, tt)
  AllBelow-upto p (x ∷ xs) y r lt = ((let h = (AllAbove-right x.0 xs (y ∷ []) r.0).0 in omega arith), AllBelow-upto p xs y r.1 lt)

  -- an entry goes behind those below its position and before those above it
  pub inserted_between : (xs ys : Entries V) (p : ℕ) (v : V) → AllBelow p xs → AllAbove p ys → inserted (xs ++ ys) p v ≡ xs ++ (p, v) ∷ ys
  inserted_between [] [] p v b a = refl
  inserted_between [] (y ∷ ys) p v b a = ap (λ t. cond t ((p, v) ∷ y ∷ ys) (y ∷ inserted ys p v)) (lt-ltb p y.0 a.0)
  inserted_between (x ∷ xs) ys p v b a =
      ap (λ t. cond t ((p, v) ∷ x ∷ (xs ++ ys)) (x ∷ inserted (xs ++ ys) p v)) (le-ltb p x.0 (let h = b.0 in omega arith))
      ∙ ap (λ es. x ∷ es) (inserted_between xs ys p v b.1 a)

  -- entries at or above a position
  abbrev pub AllFrom : ℕ → Entries V → Type 0
  AllFrom p [] = Unit {0}
  AllFrom p (e ∷ es) = (p ≤ e.0) × AllFrom p es

  pub AllFrom-above : (p q : ℕ) (xs : Entries V) → p ≤ q → AllAbove q xs → AllFrom p xs
  AllFrom-above p q [] le a = tt
  AllFrom-above p q (x ∷ xs) le a = ((let h = a.0 in omega arith), AllFrom-above p q xs le a.1)

  -- the entries below a position are those up to the first one that is not
  pub below_between : (xs ys : Entries V) (p : ℕ) → AllBelow p xs → AllFrom p ys → below (xs ++ ys) p ≡ xs
  below_between [] [] p b a = refl
  below_between [] (y ∷ ys) p b a =
      ap (λ t. cond t (y ∷ below ys p) (below ys p)) (le-ltb y.0 p a.0) ∙ below_between [] ys p tt a.1
  below_between (x ∷ xs) ys p b a =
      ap (λ t. cond t (x ∷ below (xs ++ ys) p) (below (xs ++ ys) p)) (lt-ltb x.0 p b.0) ∙ ap (λ es. x ∷ es) (below_between xs ys p b.1 a)

  -- positions still rise with an entry more between
  pub Rises-between : (xs ys : Entries V) (p : ℕ) (v : V) → Rises (xs ++ ys) → AllBelow p xs → AllAbove p ys → Rises (xs ++ (p, v) ∷ ys)
  Rises-between [] ys p v r b a = (a, r)
  Rises-between (x ∷ xs) ys p v r b a = (above xs ys r.0 b.0, Rises-between xs ys p v r.1 b.1 a)
    where
      above : (xs ys : Entries V) → AllAbove x.0 (xs ++ ys) → x.0 < p → AllAbove x.0 (xs ++ (p, v) ∷ ys)
      above [] ys h lt = (lt, h)
      above (z ∷ xs) ys h lt = (h.0, above xs ys h.1 lt)
