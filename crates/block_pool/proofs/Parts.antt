-- Parts of one size: one more, one of them, and one that is overwritten.
use Rattle.std.proofs.Common.{◌≡◌, ℕ, zero, suc, ◌+◌, ◌-◌, ◌*◌, ◌<◌, ◌≤◌, List, [], ◌∷◌, ◌++◌, refl, sym, ap, ◌∙◌, length, take, drop, get_or, set, arith, rules, replicate, append_assoc, length-drop}
use Rattle.std.proofs.lemmas.List.{places, same_lists, take_at, drop_at, drop-drop, take-append-drop, length-take-le, take_all, length-replicate, append-nil}
use Rattle.std.proofs.Math.Nat.{mul-le-mul_right}
use Rattle.staging_spec.specs.Content.{zeros}
use Rattle.block_pool.specs.Blocks.{parts, overwritten}

pub length-parts : (size n : ℕ) (xs : List ℕ) → length (parts size n xs) ≡ n
length-parts size zero xs = refl
length-parts size (suc n) xs = ap suc (length-parts size n (drop size xs))

-- one more
pub parts_more : (size n : ℕ) (xs ys : List ℕ) → length xs ≡ n * size → length ys ≡ size → parts size (suc n) (xs ++ ys) ≡ parts size n xs ++ ys ∷ []
parts_more size zero xs ys e f = ap (λ zs. take size (zs ++ ys) ∷ []) (none xs (e ∙ zero_times size)) ∙ ap (λ zs. zs ∷ []) (ap (take size) (sym (append-nil ys)) ∙ take_at ys [] size f)
  where
    zero_times : (n : ℕ) → 0 * n ≡ 0
    zero_times n = omega arith

    none : (xs : List ℕ) → length xs ≡ 0 → xs ≡ []
    none [] e = refl
    none (x ∷ xs) e = absurd (omega arith)
parts_more size (suc n) xs ys e f =
    let front : length (take size xs) ≡ size = length-take-le size xs (omega (arith, more n size, e)) in
    let whole : xs ++ ys ≡ take size xs ++ (drop size xs ++ ys) = ap (λ zs. zs ++ ys) (sym (take-append-drop size xs)) ∙ append_assoc (take size xs) (drop size xs) ys in
    ap (parts size (suc (suc n))) whole
    ∙ ap (λ zs. zs ∷ parts size (suc n) (drop size (take size xs ++ (drop size xs ++ ys)))) (take_at (take size xs) (drop size xs ++ ys) size front)
    ∙ ap (λ zs. take size xs ∷ parts size (suc n) zs) (drop_at (take size xs) (drop size xs ++ ys) size front)
    ∙ ap (λ zs. take size xs ∷ zs) (parts_more size n (drop size xs) ys (omega (arith, length-drop size xs, more n size, e)) f)
  where
    more : (n size : ℕ) → suc n * size ≡ size + n * size
    more n size = omega arith

-- one of them
pub part_at : (size n b : ℕ) (xs : List ℕ) → b < n → get_or (parts size n xs) b [] ≡ take size (drop (b * size) xs)
part_at size zero b xs lt = absurd (omega arith)
part_at size (suc n) zero xs lt = ap (λ k. take size (drop k xs)) (let e : 0 ≡ 0 * size = omega arith in e)
part_at size (suc n) (suc b) xs lt = part_at size n b (drop size xs) (omega arith)
    ∙ ap (take size) (drop-drop (b * size) size xs) ∙ ap (λ k. take size (drop k xs)) (let e : size + b * size ≡ suc b * size = omega arith in e)

-- one that is overwritten
front_overwritten : (size first : ℕ) (xs ys : List ℕ) → size ≤ length xs → first + length ys ≤ size → take size (overwritten xs first ys) ≡ overwritten (take size xs) first ys
front_overwritten size first xs ys le fits = same_lists _ _ (search (rules, places)) (λ k d h. grind (arith, places))

rest_overwritten : (size first : ℕ) (xs ys : List ℕ) → size ≤ length xs → first + length ys ≤ size → drop size (overwritten xs first ys) ≡ drop size xs
rest_overwritten size first xs ys le fits = same_lists _ _ (search (rules, places)) (λ k d h. grind (arith, places))

later_front : (size start : ℕ) (xs ys : List ℕ) → size ≤ start → start + length ys ≤ length xs → take size (overwritten xs start ys) ≡ take size xs
later_front size start xs ys le fits = same_lists _ _ (search (rules, places)) (λ k d h. grind (arith, places))

later_rest : (size start : ℕ) (xs ys : List ℕ) → start + length ys ≤ length (drop size xs) → drop size (overwritten xs (size + start) ys) ≡ overwritten (drop size xs) start ys
later_rest size start xs ys fits = same_lists _ _ (search (rules, places)) (λ k d h. grind (arith, places))

pub parts_overwritten : (size n b first : ℕ) (xs ys : List ℕ) → b < n → length xs ≡ n * size → first + length ys ≤ size
    → parts size n (overwritten xs (b * size + first) ys) ≡ set (parts size n xs) b (overwritten (get_or (parts size n xs) b []) first ys)
parts_overwritten size zero b first xs ys lt e fits = absurd (omega arith)
parts_overwritten size (suc n) zero first xs ys lt e fits =
    let all : suc n * size ≡ size + n * size = omega arith in
    let le : size ≤ length xs = omega arith in
    ap (λ k. parts size (suc n) (overwritten xs k ys)) (let z : 0 * size + first ≡ first = omega arith in z)
    ∙ ap (λ p. p ∷ parts size n (drop size (overwritten xs first ys))) (front_overwritten size first xs ys le fits)
    ∙ ap (λ zs. overwritten (take size xs) first ys ∷ parts size n zs) (rest_overwritten size first xs ys le fits)
parts_overwritten size (suc n) (suc b) first xs ys lt e fits =
    let all : suc n * size ≡ size + n * size = omega arith in
    let step : suc b * size + first ≡ size + (b * size + first) = omega arith in
    let rest : length (drop size xs) ≡ n * size = omega (arith, length-drop size xs) in
    let room : (b * size + first) + length ys ≤ length (drop size xs) = within n b size first (length ys) (length (drop size xs)) (omega arith) rest fits in
    let whole : (size + (b * size + first)) + length ys ≤ length xs = omega (arith, length-drop size xs) in
    ap (λ k. parts size (suc n) (overwritten xs k ys)) step
    ∙ ap (λ p. p ∷ parts size n (drop size (overwritten xs (size + (b * size + first)) ys))) (later_front size (size + (b * size + first)) xs ys (omega arith) whole)
    ∙ ap (λ zs. take size xs ∷ parts size n zs) (later_rest size (b * size + first) xs ys room)
    ∙ ap (λ zs. take size xs ∷ zs) (parts_overwritten size n b first (drop size xs) ys (omega arith) rest fits)
  where
    within : (n b size first count total : ℕ) → b < n → total ≡ n * size → first + count ≤ size → (b * size + first) + count ≤ total
    within n b size first count total lt e fits = let le : (b + 1) * size ≤ n * size = mul-le-mul_right size (omega arith) in let p : (b + 1) * size ≡ b * size + size = omega arith in omega arith

-- zeros that are appended
pub grown : (xs : List ℕ) (len less count : ℕ) → len ≡ length xs → less ≡ length xs → take (len + count) xs ++ replicate ((len + count) - less) 0 ≡ xs ++ zeros count
unfolding zeros
grown xs len less count e f =
    ap (λ zs. zs ++ replicate ((len + count) - less) 0) (take_all (len + count) xs (omega arith)) ∙ ap (λ n. xs ++ replicate n 0) (let s : (len + count) - less ≡ count = omega arith in s)

pub length-zeros : (n : ℕ) → length (zeros n) ≡ n
unfolding zeros
length-zeros n = length-replicate n 0

-- ---- the region's blocks
-- one that is read
pub read_part : (size n b first count : ℕ) (xs : List ℕ) → b < n → length xs ≡ n * size → first + count ≤ size
    → take count (drop (b * size + first) xs) ≡ take count (drop first (get_or (parts size n xs) b []))
read_part size n b first count xs lt e fits =
    ap (take count) (sym (drop-drop first (b * size) xs))
    ∙ cut_take count first size (drop (b * size) xs) fits
    ∙ ap (λ p. take count (drop first p)) (sym (part_at size n b xs lt))
  where
    cut_take : (count first size : ℕ) (xs : List ℕ) → first + count ≤ size → take count (drop first xs) ≡ take count (drop first (take size xs))
    cut_take count first size xs fits = same_lists _ _ (search (rules, places)) (λ k d h. grind (arith, places))
