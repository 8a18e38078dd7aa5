-- Contents from what stands at each place: written, resized and read.
use Rattle.std.proofs.Common.{◌≡◌, ℕ, zero, suc, ◌+◌, ◌-◌, ◌<◌, ◌≤◌, max, cond, List, [], ◌∷◌, ◌++◌, ◌⊎◌, inl, inr, refl, sym, ap, ◌∙◌, length, take, drop, get_or, map}
use Rattle.std.proofs.Common.{replicate, arith, length-append, length-drop, length-take}
use Rattle.std.proofs.lemmas.Bool.{cases_lt, lt-ltb}
use Rattle.std.proofs.lemmas.List.{ext_get_or, get_or_append_left, get_or-append_right, get_or-take, get_or-drop, get_or_past}
use Rattle.staging_spec.specs.Blocks.{numbers_from}
use Rattle.staging_spec.specs.Content.{zeros, patch, resize}
use Rattle.staging_spec.proofs.ContentLaws.{length-zeros}
use Rattle.staging_spec.specs.Overlays.{source_byte}
use Rattle.staged_file.specs.Staged.{bytes_below}
use Rattle.staged_file.specs.Steps.{Puts}

length-map_numbers : (f : ℕ → ℕ) (first count : ℕ) → length (map f (numbers_from first count)) ≡ count
length-map_numbers f first zero = refl
length-map_numbers f first (suc count) = ap suc (length-map_numbers f (first + 1) count)

get-map_numbers : (f : ℕ → ℕ) (first count k : ℕ) → k < count → get_or (map f (numbers_from first count)) k 0 ≡ f (first + k)
get-map_numbers f first zero k lt = absurd (omega arith)
get-map_numbers f first (suc count) zero lt = ap f (let e : first ≡ first + 0 = omega arith in e)
get-map_numbers f first (suc count) (suc k) lt = get-map_numbers f (first + 1) count k (omega arith) ∙ ap f (let e : (first + 1) + k ≡ first + suc k = omega arith in e)

pub length-bytes : (f : ℕ → ℕ) (size : ℕ) → length (bytes_below f size) ≡ size
length-bytes f size = length-map_numbers f 0 size

pub get-bytes : (f : ℕ → ℕ) (size k : ℕ) → k < size → get_or (bytes_below f size) k 0 ≡ f k
get-bytes f size k lt = get-map_numbers f 0 size k lt ∙ ap f (let e : 0 + k ≡ k = omega arith in e)

-- a list has the bytes that stand below a size
pub standing : (f : ℕ → ℕ) (size : ℕ) (xs : List ℕ) → length xs ≡ size → ((k : ℕ) → k < size → get_or xs k 0 ≡ f k) → bytes_below f size ≡ xs
standing f size xs e same = ext_get_or 0 (bytes_below f size) xs (length-bytes f size ∙ sym e)
    (λ k lt. let within : k < size = (let n = length-bytes f size in omega arith) in get-bytes f size k within ∙ sym (same k within))

pub bytes_same : (f g : ℕ → ℕ) (size : ℕ) → ((k : ℕ) → k < size → g k ≡ f k) → bytes_below f size ≡ bytes_below g size
bytes_same f g size same = standing f size (bytes_below g size) (length-bytes g size) (λ k lt. get-bytes g size k lt ∙ same k lt)

pub get_replicate : (x count k : ℕ) → get_or (replicate count x) k x ≡ x
get_replicate x zero k = get_or_past (replicate zero x) k x (omega arith)
get_replicate x (suc count) zero = refl
get_replicate x (suc count) (suc k) = get_replicate x count k

pub get-zeros : (count k : ℕ) → get_or (zeros count) k 0 ≡ 0
unfolding zeros
get-zeros count k = get_replicate 0 count k

-- ---- written
front : List ℕ → ℕ → List ℕ
front content first = take first content ++ zeros (first - length content)

length-front : (content : List ℕ) (first : ℕ) → length (front content first) ≡ first
unfolding front
length-front content first = length-append (take first content) (zeros (first - length content))
    ∙ (let a = length-take first content in let b = length-zeros (first - length content) in omega arith)

get-front : (was : ℕ → ℕ) (size first k : ℕ) → ((i : ℕ) → size ≤ i → was i ≡ 0) → k < first → get_or (front (bytes_below was size) first) k 0 ≡ was k
unfolding front
get-front was size first k behind lt = at (cases_lt k size)
  where
    at : (k < size) ⊎ (size ≤ k) → get_or (front (bytes_below was size) first) k 0 ≡ was k
    at (inl low) =
        let n = length-bytes was size in
        let m = length-take first (bytes_below was size) in
        get_or_append_left (take first (bytes_below was size)) (zeros (first - length (bytes_below was size))) 0 k (omega arith)
        ∙ get_or-take first (bytes_below was size) k 0 lt ∙ get-bytes was size k low
    at (inr high) =
        let n = length-bytes was size in
        let m = length-take first (bytes_below was size) in
        get_or-append_right (take first (bytes_below was size)) (zeros (first - length (bytes_below was size))) (length (take first (bytes_below was size))) k 0 refl (omega arith)
        ∙ get-zeros (first - length (bytes_below was size)) (k - length (take first (bytes_below was size))) ∙ sym (behind k high)

module _ (was now : ℕ → ℕ) (size first : ℕ) (bytes : List ℕ) (behind : (i : ℕ) → size ≤ i → was i ≡ 0) (puts : Puts was now first (first + length bytes) first bytes) where
  content : List ℕ
  content = bytes_below was size

  rest : List ℕ
  rest = drop (first + length bytes) content

  head : List ℕ
  head = front content first ++ bytes

  length-head : length head ≡ first + length bytes
  unfolding head
  length-head = length-append (front content first) bytes ∙ ap (λ n. n + length bytes) (length-front content first)

  length-rest : length rest ≡ size - (first + length bytes)
  unfolding rest content
  length-rest = length-drop (first + length bytes) (bytes_below was size) ∙ ap (λ n. n - (first + length bytes)) (length-bytes was size)

  get-head : (k : ℕ) → k < first + length bytes → get_or head k 0 ≡ now k
  unfolding head content
  get-head k lt = at (cases_lt k first)
    where
      at : (k < first) ⊎ (first ≤ k) → get_or (front (bytes_below was size) first ++ bytes) k 0 ≡ now k
      at (inl low) =
          let n = length-front (bytes_below was size) first in
          get_or_append_left (front (bytes_below was size) first) bytes 0 k (omega arith) ∙ get-front was size first k behind low ∙ sym (puts.below k low)
      at (inr high) = get_or-append_right (front (bytes_below was size) first) bytes first k 0 (length-front (bytes_below was size) first) high ∙ sym (puts.inside k high lt)

  get-rest : (k : ℕ) → first + length bytes ≤ k → k < size → get_or rest (k - (first + length bytes)) 0 ≡ now k
  unfolding rest content
  get-rest k high lt =
      get_or-drop (first + length bytes) (bytes_below was size) (k - (first + length bytes)) 0
      ∙ ap (λ n. get_or (bytes_below was size) n 0) (let e : (first + length bytes) + (k - (first + length bytes)) ≡ k = omega arith in e)
      ∙ get-bytes was size k lt ∙ sym (puts.above k high)

  joined : bytes_below now (max size (first + length bytes)) ≡ head ++ rest
  joined =
      let n = length-head in
      let m = length-rest in
      standing now (max size (first + length bytes)) (head ++ rest) (length-append head rest ∙ omega arith)
      (λ k lt. at k lt (cases_lt k (first + length bytes)))
    where
      at : (k : ℕ) → k < max size (first + length bytes) → (k < first + length bytes) ⊎ (first + length bytes ≤ k) → get_or (head ++ rest) k 0 ≡ now k
      at k lt (inl low) = let n = length-head in get_or_append_left head rest 0 k (omega arith) ∙ get-head k low
      at k lt (inr high) = get_or-append_right head rest (first + length bytes) k 0 length-head high ∙ get-rest k high (omega arith)

  patched : 0 < length bytes → head ++ rest ≡ patch content first bytes
  unfolding head rest content front
  patched some = at bytes some
    where
      at : (all : List ℕ) → 0 < length all → front (bytes_below was size) first ++ all ++ drop (first + length all) (bytes_below was size) ≡ patch (bytes_below was size) first all
      at [] some = absurd (omega arith)
      at (b ∷ bs) some = refl

  -- what stands after bytes were put at a range is the patched content
  pub bytes-written : 0 < length bytes → bytes_below now (max size (first + length bytes)) ≡ patch (bytes_below was size) first bytes
  unfolding content
  bytes-written some = joined ∙ patched some

-- ---- resized
pub bytes-resized : (was now : ℕ → ℕ) (size less : ℕ) → ((i : ℕ) → size ≤ i → was i ≡ 0) → ((i : ℕ) → i < less → now i ≡ was i) → bytes_below now less ≡ resize (bytes_below was size) less
bytes-resized was now size less behind same =
    let n = length-bytes was size in
    standing now less (resize (bytes_below was size) less)
    (length-append (take less (bytes_below was size)) (zeros (less - length (bytes_below was size)))
    ∙ (let a = length-take less (bytes_below was size) in let b = length-zeros (less - length (bytes_below was size)) in omega arith))
    (λ k lt. at k lt (cases_lt k size))
  where
    at : (k : ℕ) → k < less → (k < size) ⊎ (size ≤ k) → get_or (resize (bytes_below was size) less) k 0 ≡ now k
    at k lt (inl low) =
        let n = length-bytes was size in
        let m = length-take less (bytes_below was size) in
        get_or_append_left (take less (bytes_below was size)) (zeros (less - length (bytes_below was size))) 0 k (omega arith)
        ∙ get_or-take less (bytes_below was size) k 0 lt ∙ get-bytes was size k low ∙ sym (same k lt)
    at k lt (inr high) =
        let n = length-bytes was size in
        let m = length-take less (bytes_below was size) in
        get_or-append_right (take less (bytes_below was size)) (zeros (less - length (bytes_below was size))) (length (take less (bytes_below was size))) k 0 refl (omega arith)
        ∙ get-zeros (less - length (bytes_below was size)) (k - length (take less (bytes_below was size))) ∙ sym (same k lt ∙ behind k high)

-- ---- read
pub bytes-read : (f : ℕ → ℕ) (size first : ℕ) (out : List ℕ) → first + length out ≤ size → ((k : ℕ) → k < length out → get_or out k 0 ≡ f (first + k))
    → out ≡ take (length out) (drop first (bytes_below f size))
bytes-read f size first out le same =
    let n = length-bytes f size in
    let d = length-drop first (bytes_below f size) in
    let t = length-take (length out) (drop first (bytes_below f size)) in
    ext_get_or 0 out (take (length out) (drop first (bytes_below f size))) (omega arith)
    (λ k lt. same k lt ∙ sym (get_or-take (length out) (drop first (bytes_below f size)) k 0 lt ∙ get_or-drop first (bytes_below f size) k 0 ∙ get-bytes f size (first + k) (omega arith)))

-- ---- a source alone
source_stands : (limit : ℕ) (source : List ℕ) (k : ℕ) → k < limit → get_or source k 0 ≡ source_byte limit source k
source_stands limit source k lt = sym (ap (λ t. cond t (get_or source k 0) 0) (lt-ltb k limit lt))

pub bytes-source : (source : List ℕ) (size : ℕ) → length source ≡ size → bytes_below (source_byte size source) size ≡ source
bytes-source source size e = standing (source_byte size source) size source e (source_stands size source)
