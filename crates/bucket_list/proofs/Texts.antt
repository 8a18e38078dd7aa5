-- The order of texts that begin alike.
use Rattle.std.proofs.Common.{◌≡◌, ◌≢◌, refl, sym, ap, ◌∙◌, ℕ, suc, ◌<◌, ◌≤◌, List, [], ◌∷◌, ◌++◌, length, drop, get_or, arith, Bool, true, false, eqb, eq-eqb, true≢false}
use Rattle.std.specs.Prelude.{nat_eq, ◌==◌, if◌then◌else◌, ◌&&◌}
use Rattle.std.specs.declared.cmp.Ordering.{Ordering}
use Rattle.std.specs.declared.cmp.Ordering.TheVariants.{Less, Equal, Greater}
use Rattle.std.specs.Ordering.{nat_cmp, is_le, ordering_then}
use Rattle.std.specs.Cmp.{nat_cmp_is, tied_itself, nat_cmp_total}
use Rattle.std.specs.List.{starts_with}
use Rattle.std.proofs.lemmas.Map.Lookups.{exact_unsigned}
use Rattle.bucket_api.specs.Metadata.{text_cmp}
use Rattle.bucket_api.specs.Listing.{through_slash, ends_in_slash}
use Rattle.bucket_list.specs.Slash.{NoSlash}

nat_less : (a b : ℕ) → nat_cmp a b ≡ Less → a < b
nat_less a b e = grind arith

nat_greater : (a b : ℕ) → nat_cmp a b ≡ Greater → b < a
nat_greater a b e = grind arith

less_nat : (a b : ℕ) → a < b → nat_cmp a b ≡ Less
less_nat a b h = sym (nat_cmp_is a b Less h)

same_nat : (a : ℕ) → nat_cmp a a ≡ Equal
same_nat a = tied_itself nat_cmp_total a

not_eqb : (a b : ℕ) → a ≢ b → eqb a b ≡ false
not_eqb a b h = grind arith

-- ---- texts with the same front

-- the front does not count
pub cmp_front : (p x y : List ℕ) → text_cmp (p ++ x) (p ++ y) ≡ text_cmp x y
cmp_front [] x y = refl
cmp_front (a ∷ p) x y = ap (λ r. ordering_then r (text_cmp (p ++ x) (p ++ y))) (same_nat a) ∙ cmp_front p x y

-- a front is not above what it begins
pub le_front : (p r : List ℕ) → is_le (text_cmp p (p ++ r)) ≡ true
le_front [] [] = refl
le_front [] (b ∷ r) = refl
le_front (a ∷ p) r = ap (λ o. is_le (ordering_then o (text_cmp p (p ++ r)))) (same_nat a) ∙ le_front p r

-- what is put together begins with its front
pub starts_front : (p r : List ℕ) → starts_with nat_eq (p ++ r) p ≡ true
starts_front [] r = refl
starts_front (a ∷ p) r = ap (λ b. b && starts_with nat_eq (p ++ r) p) (eq-eqb a a refl) ∙ starts_front p r

-- a text that begins with a front is put together of it and the rest
pub starts_split : (p m : List ℕ) → starts_with nat_eq m p ≡ true → m ≡ p ++ drop (length p) m
starts_split [] m h = refl
starts_split (a ∷ p) [] h = cc
starts_split (a ∷ p) (b ∷ m) h = by (nat_eq a b) refl h (starts_split p m)
  where
    by : (t : Bool) → nat_eq a b ≡ t → (t && starts_with nat_eq m p) ≡ true → (starts_with nat_eq m p ≡ true → m ≡ p ++ drop (length p) m) → b ∷ m ≡ a ∷ (p ++ drop (length p) m)
    by true e h later = let same : a ≡ b = grind arith in let rest : m ≡ p ++ drop (length p) m = later h in cc
    by false e h later = cc

-- a text that is not below a front and does not begin with it is above all that begin with it
pub above_front : (p m : List ℕ) → is_le (text_cmp p m) ≡ true → starts_with nat_eq m p ≡ false → (r : List ℕ) → text_cmp (p ++ r) m ≡ Less
above_front [] m le none r = cc
above_front (a ∷ p) [] le none r = cc
above_front (a ∷ p) (b ∷ m) le none r = by (nat_cmp a b) refl le (above_front p m)
  where
    by : (o : Ordering) → nat_cmp a b ≡ o → is_le (ordering_then o (text_cmp p m)) ≡ true
        → (is_le (text_cmp p m) ≡ true → starts_with nat_eq m p ≡ false → (r : List ℕ) → text_cmp (p ++ r) m ≡ Less) → ordering_then (nat_cmp a b) (text_cmp (p ++ r) m) ≡ Less
    by Less e le later = ap (λ o. ordering_then o (text_cmp (p ++ r) m)) e
    by Equal e le later =
        let same : nat_eq a b ≡ true = eq-eqb a b (exact_unsigned a b e) in
        let none' : starts_with nat_eq m p ≡ false = sym (ap (λ t. t && starts_with nat_eq m p) same) ∙ none in
        ap (λ o. ordering_then o (text_cmp (p ++ r) m)) e ∙ later le none' r
    by Greater e le later = cc

-- ---- texts round a slash

-- the texts that begin with a front and a slash are below the front with the byte after the slash
pub slash_below : (q s : List ℕ) → text_cmp (q ++ 47 ∷ s) (q ++ 48 ∷ []) ≡ Less
slash_below q s = cmp_front q (47 ∷ s) (48 ∷ [])

-- a text that is not below a front with a slash begins with it, or is not below the front with the byte after the slash
pub past_slash : (q m : List ℕ) → is_le (text_cmp (q ++ 47 ∷ []) m) ≡ true → starts_with nat_eq m (q ++ 47 ∷ []) ≡ false → is_le (text_cmp (q ++ 48 ∷ []) m) ≡ true
past_slash [] [] le none = cc
past_slash [] (b ∷ m) le none = by (nat_cmp 47 b) refl le
  where
    at : (o : Ordering) → nat_cmp 48 b ≡ o → 47 < b → is_le (ordering_then o (text_cmp [] m)) ≡ true
    at Less e h = refl
    at Equal e h = le_front [] m
    at Greater e h = absurd (let g : b < 48 = nat_greater 48 b e in omega arith)

    by : (o : Ordering) → nat_cmp 47 b ≡ o → is_le (ordering_then o (text_cmp [] m)) ≡ true → is_le (ordering_then (nat_cmp 48 b) (text_cmp [] m)) ≡ true
    by Less e le = at (nat_cmp 48 b) refl (nat_less 47 b e)
    by Equal e le = let same : nat_eq 47 b ≡ true = eq-eqb 47 b (exact_unsigned 47 b e) in let yes : (nat_eq 47 b && true) ≡ true = ap (λ t. t && true) same in absurd (true≢false (sym yes ∙ none))
    by Greater e le = cc
past_slash (a ∷ q) [] le none = cc
past_slash (a ∷ q) (b ∷ m) le none = by (nat_cmp a b) refl le (past_slash q m)
  where
    by : (o : Ordering) → nat_cmp a b ≡ o → is_le (ordering_then o (text_cmp (q ++ 47 ∷ []) m)) ≡ true
        → (is_le (text_cmp (q ++ 47 ∷ []) m) ≡ true → starts_with nat_eq m (q ++ 47 ∷ []) ≡ false → is_le (text_cmp (q ++ 48 ∷ []) m) ≡ true)
        → is_le (ordering_then (nat_cmp a b) (text_cmp (q ++ 48 ∷ []) m)) ≡ true
    by Less e le later = ap (λ o. is_le (ordering_then o (text_cmp (q ++ 48 ∷ []) m))) e
    by Equal e le later =
        let same : nat_eq a b ≡ true = eq-eqb a b (exact_unsigned a b e) in
        let none' : starts_with nat_eq m (q ++ 47 ∷ []) ≡ false = sym (ap (λ t. t && starts_with nat_eq m (q ++ 47 ∷ [])) same) ∙ none in
        ap (λ o. is_le (ordering_then o (text_cmp (q ++ 48 ∷ []) m))) e ∙ later le none'
    by Greater e le later = cc

-- no byte is a slash, from each place
pub NoSlash-at : (bytes : List ℕ) → ((i : ℕ) → i < length bytes → get_or bytes i 0 ≢ 47) → NoSlash bytes
NoSlash-at [] h = tt
NoSlash-at (b ∷ bs) h = (not_eqb b 47 (h 0 (omega arith)), NoSlash-at bs (λ i lt. h (suc i) (omega arith)))

-- up to and with the first slash
pub through_at : (q s : List ℕ) → NoSlash q → through_slash (q ++ 47 ∷ s) ≡ q ++ 47 ∷ []
through_at [] s none = refl
through_at (a ∷ q) s none = ap (λ t. if t then 47 ∷ [] else a ∷ through_slash (q ++ 47 ∷ s)) none.0 ∙ ap (λ r. a ∷ r) (through_at q s none.1)

-- the whole, where there is none slash
pub through_none : (r : List ℕ) → NoSlash r → through_slash r ≡ r
through_none [] none = refl
through_none (a ∷ r) none = ap (λ t. if t then 47 ∷ [] else a ∷ through_slash r) none.0 ∙ ap (λ s. a ∷ s) (through_none r none.1)

-- a text without a slash does not end in one
pub ends_none : (r : List ℕ) → NoSlash r → ends_in_slash r ≡ false
ends_none [] none = refl
ends_none (a ∷ []) none = none.0
ends_none (a ∷ b ∷ r) none = ends_none (b ∷ r) none.1

pub ends_at : (q : List ℕ) → ends_in_slash (q ++ 47 ∷ []) ≡ true
ends_at [] = refl
ends_at (a ∷ []) = refl
ends_at (a ∷ b ∷ q) = ends_at (b ∷ q)

-- ---- keys against texts, after a front that both have

-- a key above a text without a slash is of a text above it
pub through_above : (r m : List ℕ) → NoSlash r → text_cmp r m ≡ Less → text_cmp r (through_slash m) ≡ Less
through_above [] [] none h = cc
through_above [] (b ∷ m) none h = by (b == 47)
  where
    by : (t : Bool) → text_cmp [] (if t then 47 ∷ [] else b ∷ through_slash m) ≡ Less
    by true = refl
    by false = refl
through_above (a ∷ r) [] none h = cc
through_above (a ∷ r) (b ∷ m) none h = by (nat_cmp a b) refl h (through_above r m none.1)
  where
    first : (t : Bool) → (b == 47) ≡ t → nat_cmp a b ≡ Less → text_cmp (a ∷ r) (if t then 47 ∷ [] else b ∷ through_slash m) ≡ Less
    first true slash e = let same : b ≡ 47 = grind arith in ap (λ o. ordering_then o (text_cmp r [])) (ap (λ n. nat_cmp a n) (sym same) ∙ e)
    first false slash e = ap (λ o. ordering_then o (text_cmp r (through_slash m))) e

    by : (o : Ordering) → nat_cmp a b ≡ o → ordering_then o (text_cmp r m) ≡ Less → (text_cmp r m ≡ Less → text_cmp r (through_slash m) ≡ Less) → text_cmp (a ∷ r) (through_slash (b ∷ m)) ≡ Less
    by Less e h later = first (b == 47) refl e
    by Equal e h later =
        let other : (b == 47) ≡ false = ap (λ n. n == 47) (sym (exact_unsigned a b e)) ∙ none.0 in
        ap (λ t. text_cmp (a ∷ r) (if t then 47 ∷ [] else b ∷ through_slash m)) other ∙ (ap (λ o. ordering_then o (text_cmp r (through_slash m))) e ∙ later h)
    by Greater e h later = cc

-- a text is not below its key
pub below_through : (r m : List ℕ) → text_cmp r (through_slash m) ≡ Less → text_cmp r m ≡ Less
below_through [] [] h = cc
below_through [] (b ∷ m) h = refl
below_through (a ∷ r) [] h = cc
below_through (a ∷ r) (b ∷ m) h = by (b == 47) refl h (below_through r m)
  where
    ends : (o : Ordering) → nat_cmp a 47 ≡ o → (x : List ℕ) → ordering_then o (text_cmp x []) ≡ Less → ordering_then o (text_cmp x m) ≡ Less
    ends Less e x h = refl
    ends Equal e [] h = cc
    ends Equal e (c ∷ x) h = cc
    ends Greater e x h = cc

    goes : (o : Ordering) → ordering_then o (text_cmp r (through_slash m)) ≡ Less → (text_cmp r (through_slash m) ≡ Less → text_cmp r m ≡ Less) → ordering_then o (text_cmp r m) ≡ Less
    goes Less h later = refl
    goes Equal h later = later h
    goes Greater h later = cc

    by : (t : Bool) → (b == 47) ≡ t → text_cmp (a ∷ r) (if t then 47 ∷ [] else b ∷ through_slash m) ≡ Less → (text_cmp r (through_slash m) ≡ Less → text_cmp r m ≡ Less)
        → text_cmp (a ∷ r) (b ∷ m) ≡ Less
    by true slash h later = let same : b ≡ 47 = grind arith in ap (λ n. text_cmp (a ∷ r) (n ∷ m)) same ∙ ends (nat_cmp a 47) refl r h
    by false slash h later = goes (nat_cmp a b) h later

-- a key is above all that begin with a front and a slash, where its text is not below the front with the byte after the slash
pub through_past : (q s m : List ℕ) → NoSlash q → is_le (text_cmp (q ++ 48 ∷ []) m) ≡ true → text_cmp (q ++ 47 ∷ s) (through_slash m) ≡ Less
through_past [] s [] none le = cc
through_past [] s (b ∷ m) none le = by (nat_cmp 48 b) refl le
  where
    big : 48 ≤ b → text_cmp (47 ∷ s) (through_slash (b ∷ m)) ≡ Less
    big h =
        let other : (b == 47) ≡ false = not_eqb b 47 (λ e. omega arith) in
        ap (λ t. text_cmp (47 ∷ s) (if t then 47 ∷ [] else b ∷ through_slash m)) other ∙ ap (λ o. ordering_then o (text_cmp s (through_slash m))) (less_nat 47 b (omega arith))

    by : (o : Ordering) → nat_cmp 48 b ≡ o → is_le (ordering_then o (text_cmp [] m)) ≡ true → text_cmp (47 ∷ s) (through_slash (b ∷ m)) ≡ Less
    by Less e le = big (let h : 48 < b = nat_less 48 b e in omega arith)
    by Equal e le = big (let h : 48 ≡ b = exact_unsigned 48 b e in omega arith)
    by Greater e le = cc
through_past (a ∷ q) s [] none le = cc
through_past (a ∷ q) s (b ∷ m) none le = by (nat_cmp a b) refl le (through_past q s m none.1)
  where
    first : (t : Bool) → (b == 47) ≡ t → nat_cmp a b ≡ Less → text_cmp (a ∷ (q ++ 47 ∷ s)) (if t then 47 ∷ [] else b ∷ through_slash m) ≡ Less
    first true slash e = let same : b ≡ 47 = grind arith in ap (λ o. ordering_then o (text_cmp (q ++ 47 ∷ s) [])) (ap (λ n. nat_cmp a n) (sym same) ∙ e)
    first false slash e = ap (λ o. ordering_then o (text_cmp (q ++ 47 ∷ s) (through_slash m))) e

    by : (o : Ordering) → nat_cmp a b ≡ o → is_le (ordering_then o (text_cmp (q ++ 48 ∷ []) m)) ≡ true
        → (is_le (text_cmp (q ++ 48 ∷ []) m) ≡ true → text_cmp (q ++ 47 ∷ s) (through_slash m) ≡ Less) → text_cmp (a ∷ (q ++ 47 ∷ s)) (through_slash (b ∷ m)) ≡ Less
    by Less e le later = first (b == 47) refl e
    by Equal e le later =
        let other : (b == 47) ≡ false = ap (λ n. n == 47) (sym (exact_unsigned a b e)) ∙ none.0 in
        ap (λ t. text_cmp (a ∷ (q ++ 47 ∷ s)) (if t then 47 ∷ [] else b ∷ through_slash m)) other ∙ (ap (λ o. ordering_then o (text_cmp (q ++ 47 ∷ s) (through_slash m))) e ∙ later le)
    by Greater e le later = cc

-- and no other key is
pub past_through : (q s m : List ℕ) → NoSlash q → text_cmp (q ++ 47 ∷ s) (through_slash m) ≡ Less → is_le (text_cmp (q ++ 48 ∷ []) m) ≡ true
past_through [] s [] none h = cc
past_through [] s (b ∷ m) none h = by (b == 47) refl h
  where
    ends : (x : List ℕ) → text_cmp x [] ≡ Less → is_le (text_cmp (48 ∷ []) (b ∷ m)) ≡ true
    ends [] h = cc
    ends (c ∷ x) h = cc

    big : (o : Ordering) → nat_cmp 48 b ≡ o → 48 ≤ b → is_le (ordering_then o (text_cmp [] m)) ≡ true
    big Less e h = refl
    big Equal e h = le_front [] m
    big Greater e h = absurd (let g : b < 48 = nat_greater 48 b e in omega arith)

    goes : (o : Ordering) → nat_cmp 47 b ≡ o → b ≢ 47 → ordering_then o (text_cmp s (through_slash m)) ≡ Less → is_le (text_cmp (48 ∷ []) (b ∷ m)) ≡ true
    goes Less e other h = big (nat_cmp 48 b) refl (let g : 47 < b = nat_less 47 b e in omega arith)
    goes Equal e other h = absurd (other (sym (exact_unsigned 47 b e)))
    goes Greater e other h = cc

    by : (t : Bool) → (b == 47) ≡ t → text_cmp (47 ∷ s) (if t then 47 ∷ [] else b ∷ through_slash m) ≡ Less → is_le (text_cmp (48 ∷ []) (b ∷ m)) ≡ true
    by true slash h = ends s h
    by false slash h = goes (nat_cmp 47 b) refl (λ e. absurd (true≢false (sym (eq-eqb b 47 e) ∙ slash))) h
past_through (a ∷ q) s [] none h = cc
past_through (a ∷ q) s (b ∷ m) none h = by (nat_cmp a b) refl (past_through q s m none.1)
  where
    above : (t : Bool) → (b == 47) ≡ t → nat_cmp a b ≡ Greater → text_cmp (a ∷ (q ++ 47 ∷ s)) (if t then 47 ∷ [] else b ∷ through_slash m) ≡ Less → ⊥
    above true slash e h =
        let same : b ≡ 47 = grind arith in
        let e' : nat_cmp a 47 ≡ Greater = ap (λ n. nat_cmp a n) (sym same) ∙ e in
        let g : Greater ≡ Less = sym (ap (λ o. ordering_then o (text_cmp (q ++ 47 ∷ s) [])) e') ∙ h in
        cc
    above false slash e h =
        let g : Greater ≡ Less = sym (ap (λ o. ordering_then o (text_cmp (q ++ 47 ∷ s) (through_slash m))) e) ∙ h in
        cc

    by : (o : Ordering) → nat_cmp a b ≡ o → (text_cmp (q ++ 47 ∷ s) (through_slash m) ≡ Less → is_le (text_cmp (q ++ 48 ∷ []) m) ≡ true)
        → is_le (ordering_then (nat_cmp a b) (text_cmp (q ++ 48 ∷ []) m)) ≡ true
    by Less e later = ap (λ o. is_le (ordering_then o (text_cmp (q ++ 48 ∷ []) m))) e
    by Equal e later =
        let other : (b == 47) ≡ false = ap (λ n. n == 47) (sym (exact_unsigned a b e)) ∙ none.0 in
        let here : text_cmp (a ∷ (q ++ 47 ∷ s)) (b ∷ through_slash m) ≡ Less = sym (ap (λ t. text_cmp (a ∷ (q ++ 47 ∷ s)) (if t then 47 ∷ [] else b ∷ through_slash m)) other) ∙ h in
        let inner : text_cmp (q ++ 47 ∷ s) (through_slash m) ≡ Less = sym (ap (λ o. ordering_then o (text_cmp (q ++ 47 ∷ s) (through_slash m))) e) ∙ here in
        ap (λ o. is_le (ordering_then o (text_cmp (q ++ 48 ∷ []) m))) e ∙ later inner
    by Greater e later = absurd (above (b == 47) refl e h)
