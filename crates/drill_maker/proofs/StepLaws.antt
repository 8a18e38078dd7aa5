-- Steps one behind the other.
use Rattle.std.proofs.Common.{◌≡◌, refl, sym, ap, ◌∙◌, ℕ, suc, ◌+◌, ◌≤◌, ◌<◌, List, [], ◌∷◌, ◌++◌, length, get_or, drop, map, append_assoc, length-append, arith}
use Rattle.std.specs.List.{flat_map, range_with_len}
use Rattle.std.proofs.Math.Seq.{drop-cons}
use Rattle.std.proofs.lemmas.List.{append-nil, drop_all}
use Rattle.scenario.specs.Parts.{Call}
use Rattle.drill_maker.specs.Steps.{Step, call_of, numbered, with_steps}

-- uniques count on
numbered-append : (unique : ℕ) (xs ys : List Step) → numbered unique (xs ++ ys) ≡ numbered unique xs ++ numbered (unique + length xs) ys
numbered-append unique [] ys = let same : unique ≡ unique + 0 = omega arith in ap (λ (n : ℕ). numbered n ys) same
numbered-append unique (x ∷ xs) ys =
    let same : unique + 1 + length xs ≡ unique + length (x ∷ xs) = omega arith in
    ap (λ (cs : List Call). call_of unique x ∷ cs) (numbered-append (unique + 1) xs ys ∙ ap (λ (n : ℕ). numbered (unique + 1) xs ++ numbered n ys) same)

-- a call for each step
length-numbered : (unique : ℕ) (xs : List Step) → length (numbered unique xs) ≡ length xs
length-numbered unique [] = refl
length-numbered unique (x ∷ xs) = let later = length-numbered (unique + 1) xs in omega (arith, later)

-- what is added in two goes is added in one
pub with_steps-append : (calls : List Call) (xs ys : List Step) → with_steps (with_steps calls xs) ys ≡ with_steps calls (xs ++ ys)
unfolding with_steps
with_steps-append calls xs ys =
    let first = numbered (length calls + 1) xs in
    let both = length-append calls first in
    let some = length-numbered (length calls + 1) xs in
    let same : length (calls ++ first) + 1 ≡ length calls + 1 + length xs = omega (arith, both, some) in
    append_assoc calls first (numbered (length (calls ++ first) + 1) ys)
    ∙ ap (λ (n : ℕ). calls ++ (first ++ numbered n ys)) same
    ∙ ap (λ (cs : List Call). calls ++ cs) (sym (numbered-append (length calls + 1) xs ys))

-- four steps, one after the other
pub in_four : (calls one two three four : List Call) (a b c d : Step) → one ≡ with_steps calls (a ∷ []) → two ≡ with_steps one (b ∷ []) → three ≡ with_steps two (c ∷ [])
    → four ≡ with_steps three (d ∷ []) → four ≡ with_steps calls (a ∷ b ∷ c ∷ d ∷ [])
in_four calls one two three four a b c d first second third fourth =
    let two_is : two ≡ with_steps calls (a ∷ b ∷ []) = second ∙ ap (λ (cs : List Call). with_steps cs (b ∷ [])) first ∙ with_steps-append calls (a ∷ []) (b ∷ []) in
    let three_is : three ≡ with_steps calls (a ∷ b ∷ c ∷ []) = third ∙ ap (λ (cs : List Call). with_steps cs (c ∷ [])) two_is ∙ with_steps-append calls (a ∷ b ∷ []) (c ∷ []) in
    fourth ∙ ap (λ (cs : List Call). with_steps cs (d ∷ [])) three_is ∙ with_steps-append calls (a ∷ b ∷ c ∷ []) (d ∷ [])

-- the steps of one more number, and then those of the numbers behind it
pub numbers_next : (f : ℕ → List Step) (number now next : ℕ) (calls later whole : List Call) → suc next ≡ now → later ≡ with_steps calls (f number)
    → with_steps calls (flat_map f (range_with_len number now)) ≡ whole → with_steps later (flat_map f (range_with_len (number + 1) next)) ≡ whole
numbers_next f number now next calls later whole more is all =
    let rest = flat_map f (range_with_len (number + 1) next) in
    ap (λ (cs : List Call). with_steps cs rest) is
    ∙ with_steps-append calls (f number) rest
    ∙ ap (λ (n : ℕ). with_steps calls (flat_map f (range_with_len number n))) more
    ∙ all

-- the step of one more item of a list, and then those of the items behind it
pub items_next : (f : ℕ → Step) (items : List ℕ) (index : ℕ) (calls later whole : List Call) → index < length items → later ≡ with_steps calls (f (get_or items index 0) ∷ [])
    → with_steps calls (map f (drop index items)) ≡ whole → with_steps later (map f (drop (index + 1) items)) ≡ whole
items_next f items index calls later whole inside is all =
    let rest = map f (drop (index + 1) items) in
    let same : suc index ≡ index + 1 = omega arith in
    ap (λ (cs : List Call). with_steps cs rest) is
    ∙ with_steps-append calls (f (get_or items index 0) ∷ []) rest
    ∙ ap (λ (ns : List ℕ). with_steps calls (map f ns)) (sym (drop-cons items index 0 inside ∙ ap (λ (n : ℕ). get_or items index 0 ∷ drop n items) same))
    ∙ all

-- nothing more
with_steps_nil : (calls : List Call) → with_steps calls [] ≡ calls
unfolding with_steps
with_steps_nil calls = append-nil calls

-- no number is left
pub numbers_end : (f : ℕ → List Step) (number now : ℕ) (calls whole : List Call) → now ≡ 0 → with_steps calls (flat_map f (range_with_len number now)) ≡ whole → calls ≡ whole
numbers_end f number now calls whole none all =
    sym (with_steps_nil calls) ∙ ap (λ (n : ℕ). with_steps calls (flat_map f (range_with_len number n))) (sym none) ∙ all

-- no item is left
pub items_end : (f : ℕ → Step) (items : List ℕ) (index : ℕ) (calls whole : List Call) → length items ≤ index → with_steps calls (map f (drop index items)) ≡ whole → calls ≡ whole
items_end f items index calls whole past all =
    sym (with_steps_nil calls) ∙ ap (λ (ns : List ℕ). with_steps calls (map f ns)) (sym (drop_all index items past)) ∙ all

-- the calls of a lane that had none are numbered from 1
pub numbered_first : (steps : List Step) → with_steps [] steps ≡ numbered 1 steps
unfolding with_steps
numbered_first steps = refl
