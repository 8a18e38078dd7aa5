-- What a step of reading tells where it gave a value.
use Rattle.std.proofs.Common.{◌≡◌, ℕ, ◌^◌, ◌<◌, ◌⊎◌, inl, inr, Bool, true, false, ◌==◌, cond, nat_lt, Option, Some, None, List, [], ◌∷◌, ◌++◌, refl, ap, ◌∙◌, arith}
use Rattle.std.specs.Prelude.{option_map, option_and_then}
use Rattle.std.proofs.lemmas.Option.{cond_some}
use Rattle.std.proofs.lemmas.Bool.Decides.{nat_tests}
use Rattle.mtime_text.specs.Spelling.{number}
use Rattle.mtime_text.specs.Reading.{after_byte, number_at, number_after}
use Rattle.mtime_text.proofs.DigitLemmas.{number_takes, number_again}

pub bind_some : {A B : Type 0} (o : Option A) (f : A → Option B) (y : B) → option_and_then f o ≡ Some y → (x : A) × (o ≡ Some x) × (f x ≡ Some y)
bind_some None f y e = absurd cc
bind_some (Some x) f y e = (x, refl, e)

pub map_some : {A B : Type 0} (o : Option A) (f : A → B) (y : B) → option_map f o ≡ Some y → (x : A) × (o ≡ Some x) × (f x ≡ y)
map_some None f y e = absurd cc
map_some (Some x) f y e = (x, refl, cc)

pub chosen : {A : Type 0} (b : Bool) (x y z : A) → cond b x y ≡ z → ((b ≡ true) × (x ≡ z)) ⊎ ((b ≡ false) × (y ≡ z))
chosen true x y z e = inl (refl, e)
chosen false x y z e = inr (refl, e)

pub same_byte : (a b : ℕ) → (a == b) ≡ true → a ≡ b
same_byte a b e = grind (arith, nat_tests)

pub is_same : (a : ℕ) → (a == a) ≡ true
is_same a = grind (arith, nat_tests)

pub below : (a b : ℕ) → nat_lt a b ≡ true → a < b
below a b e = grind (arith, nat_tests)

pub is_below : (a b : ℕ) → a < b → nat_lt a b ≡ true
is_below a b h = grind (arith, nat_tests)

pub after_takes : (test : ℕ → Bool) (text rest : List ℕ) → after_byte test text ≡ Some rest → (byte : ℕ) × (test byte ≡ true) × (text ≡ byte ∷ rest)
after_takes test [] rest e = absurd cc
after_takes test (byte ∷ bytes) rest e =
    let passed = cond_some (test byte) bytes rest e in
    (byte, passed.0, ap (λ (bs : List ℕ). byte ∷ bs) passed.1)

-- a byte and a number behind it
pub record TakesAfter (byte width : ℕ) (text : List ℕ) (n : ℕ) (rest : List ℕ) : Type 0 where
  pub parts : text ≡ byte ∷ number width n ++ rest
  pub below : n < 10 ^ width

pub number_after_takes : (byte width : ℕ) (text : List ℕ) (n : ℕ) (rest : List ℕ) → number_after byte width text ≡ Some (n, rest) → TakesAfter byte width text n rest
number_after_takes byte width text n rest e =
    let (behind, stepped, read) = bind_some (after_byte (◌==◌ byte) text) (number_at width) (n, rest) e in
    let (first, same, cut) = after_takes (◌==◌ byte) text behind stepped in
    let taken = number_takes width behind n rest read in
    let is : byte ≡ first = same_byte byte first same in
    record { parts = cut ∙ rw (← is) (ap (λ (bs : List ℕ). byte ∷ bs) taken.parts); below = taken.below }

pub number_after_again : (byte width n : ℕ) (rest : List ℕ) → n < 10 ^ width → number_after byte width (byte ∷ (number width n ++ rest)) ≡ Some (n, rest)
number_after_again byte width n rest h = rw (is_same byte) (number_again width n rest h)
