-- How many members and items there are.
use Rattle.std.proofs.Common.{◌≡◌, refl, sym, ℕ, ◌+◌, List, [], ◌∷◌, ◌++◌, length, length-append, Ok, Err, arith}
use Rattle.std.specs.Prelude.{String, decimal, map}
use Rattle.std.specs.declared.alloc.Global.{Global}
use Rattle.serde_json.specs.Data.{Data, Items, no_items, item}
use Rattle.serde_json.specs.Events.{items_len, members_len}
use Rattle.serde_json.specs.declared.value.Value.{Value}
use Rattle.serde_json.specs.View.{items_view, members_view}
use Rattle.scenario.specs.Walks.{Walk, ◌>>=◌, within, through, put_last, each}

pub items_len_view : (vs : List Value) → items_len (items_view vs) ≡ length vs
items_len_view [] = refl
items_len_view (v ∷ vs) = let later = items_len_view vs in omega (arith, later)

pub members_len_view : (es : List (String Global × Value)) → members_len (members_view es) ≡ length es
members_len_view [] = refl
members_len_view (e ∷ es) = let later = members_len_view es in omega (arith, later)

pub length_mapped : {X Y : Type 0} (f : X → Y) (xs : List X) → length (map f xs) ≡ length xs
length_mapped f [] = refl
length_mapped f (x ∷ xs) = let later = length_mapped f xs in omega (arith, later)

-- a list has one more for each item that was read
through_length : {A : Type 0} (read : List A → Data → Walk A) (k : ℕ) (before : List A) (ds : Items) (xs : List A) → through (λ b d. put_last b (read b d)) k before ds ≡ Ok xs → length xs ≡ length before + items_len ds
through_length read k before no_items xs is = let same : before ≡ xs = cc is in rw (sym same) (omega arith)
through_length {A} read k before (item d ds) xs is = by (read before d) (λ x. through_length read (k + 1) (before ++ x ∷ []) ds xs) is
  where
    by : (w : Walk A) → ((x : A) → through (λ b d. put_last b (read b d)) (k + 1) (before ++ x ∷ []) ds ≡ Ok xs → length xs ≡ length (before ++ x ∷ []) + items_len ds) → (within (decimal k) (put_last before w) >>= λ next. through (λ b d. put_last b (read b d)) (k + 1) next ds) ≡ Ok xs → length xs ≡ length before + items_len (item d ds)
    by (Ok x) later read_on = let more = later x read_on in let one = length-append before (x ∷ []) in omega (arith, more, one)
    by (Err f) later read_on = absurd (cc read_on)

pub each_length : {A : Type 0} (read : List A → Data → Walk A) (vs : List Value) (xs : List A) → each read (items_view vs) ≡ Ok xs → length xs ≡ length vs
each_length read vs xs is = let all = through_length read 0 [] (items_view vs) xs is in let count = items_len_view vs in omega (arith, all, count)
