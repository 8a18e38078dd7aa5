-- Which numbers `without` and `together` have.
use Rattle.std.proofs.Common.{◌≡◌, ℕ, Bool, true, false, not, ◌&&◌, ◌||◌, ◌==◌, List, [], ◌∷◌, filter, refl, sym, ap, ◌∙◌, eqb-true}
use Rattle.std.proofs.lemmas.List.Folds.{list_any-append}
use Rattle.std.proofs.lemmas.Map.Views.{any-filter_same}
use Rattle.std.proofs.lemmas.Bool.Decides.{nat_tests}
use Rattle.std.proofs.Common.{arith}
use Rattle.lane_spec.specs.declared.Numbers.{Numbers}
use Rattle.lane_spec.specs.declared.Numbers.TheVariants.{Only, AllBut}
use Rattle.lane_spec.specs.Numbers.{lists, has, without, together}

lists-filter : (p : ℕ → Bool) (ns : List ℕ) (n : ℕ) → lists (filter p ns) n ≡ p n && lists ns n
lists-filter p ns n = any-filter_same (λ k. k == n) p (p n) (λ k e. ap p (eqb-true k n e)) ns

and_comm : (a b : Bool) → a && b ≡ b && a
and_comm true true = refl
and_comm true false = refl
and_comm false true = refl
and_comm false false = refl

-- what is left of one list, against two tests
neither : (a b : Bool) → not (not a && b) ≡ a || not b
neither true b = refl
neither false b = refl

not_both : (a b : Bool) → not (a && b) ≡ not b || not a
not_both true true = refl
not_both true false = refl
not_both false true = refl
not_both false false = refl

or_comm : (a b : Bool) → a || b ≡ b || a
or_comm true true = refl
or_comm true false = refl
or_comm false true = refl
or_comm false false = refl

not_or : (a b : Bool) → not (a || b) ≡ not b && not a
not_or true true = refl
not_or true false = refl
not_or false true = refl
not_or false false = refl

same_test : (k n : ℕ) → (n == k) ≡ (k == n)
same_test k n = grind (arith, nat_tests)

pub has-without : (held : Numbers) (n k : ℕ) → has (without held n) k ≡ has held k && not (k == n)
has-without (Only ns) n k = lists-filter (λ m. not (m == n)) ns k ∙ and_comm (not (k == n)) (lists ns k)
has-without (AllBut ns) n k = not_or (n == k) (lists ns k) ∙ ap (λ b. not (lists ns k) && not b) (same_test k n)

pub has-together : (g h : Numbers) (n : ℕ) → has (together g h) n ≡ has g n || has h n
has-together (Only ms) (Only ns) n = list_any-append (λ k. k == n) ms ns
has-together (Only ms) (AllBut ns) n = ap not (lists-filter (λ k. not (lists ms k)) ns n) ∙ neither (lists ms n) (lists ns n)
has-together (AllBut ms) (Only ns) n = ap not (lists-filter (λ k. not (lists ns k)) ms n) ∙ (neither (lists ns n) (lists ms n) ∙ or_comm (lists ns n) (not (lists ms n)))
has-together (AllBut ms) (AllBut ns) n = ap not (lists-filter (λ k. lists ns k) ms n) ∙ not_both (lists ns n) (lists ms n)

-- a number that is held, against the test for it
one_of : (b t : Bool) → (t ≡ true → b ≡ true) → (b && not t) || t ≡ b
one_of true true held = refl
one_of true false held = refl
one_of false true held = sym (held refl)
one_of false false held = refl

only-one : (n k : ℕ) → has (Only (n ∷ [])) k ≡ (k == n)
only-one n k = or_false_is (n == k) ∙ same_test k n
  where
    or_false_is : (b : Bool) → b || false ≡ b
    or_false_is true = refl
    or_false_is false = refl

-- what was split off and met again is held as before
pub has-met_again : (held : Numbers) (n : ℕ) → has held n ≡ true → (k : ℕ) → has (together (without held n) (Only (n ∷ []))) k ≡ has held k
has-met_again held n split k =
    has-together (without held n) (Only (n ∷ [])) k
    ∙ ap (λ b. b || has (Only (n ∷ [])) k) (has-without held n k)
    ∙ ap (λ b. (has held k && not (k == n)) || b) (only-one n k)
    ∙ one_of (has held k) (k == n) (λ e. ap (has held) (eqb-true k n e) ∙ split)
