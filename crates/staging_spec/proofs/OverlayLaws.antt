-- What is held of staged content shows it again, over the source that it stands over.
use Rattle.std.proofs.Common.{◌≡◌, ℕ, zero, suc, ◌+◌, ◌-◌, ◌*◌, ◌/◌, ◌%◌, ◌<◌, true, false, cond, ◌||◌, List, [], ◌∷◌, ◌⊎◌, inl, inr, None, Some}
use Rattle.std.proofs.Common.{refl, sym, ap, ◌∙◌, length, take, drop, get_or, map, nat_eq, arith, length-take, length-drop}
use Rattle.std.proofs.lemmas.Bool.{false≢true, cases_eq, cases_Bool, eq-eqb, ne_eqb, lt-ltb}
use Rattle.std.proofs.lemmas.List.{ext_get_or, get_or_append_left, get_or-take, get_or-drop}
use Rattle.std.specs.Map.{lookup}
use Rattle.staging_spec.specs.Blocks.{numbers_from, is_among}
use Rattle.staging_spec.specs.Content.{zeros}
use Rattle.staging_spec.specs.Staging.{Staging, staged}
use Rattle.staging_spec.specs.Overlays.{byte_in, overlay_byte, staging_over, block_in, held_of, StandsOver}

-- ---- lists made of numbers
pub length-map_numbers : (f : ℕ → ℕ) (first count : ℕ) → length (map f (numbers_from first count)) ≡ count
length-map_numbers f first zero = refl
length-map_numbers f first (suc count) = ap suc (length-map_numbers f (first + 1) count)

get-map_numbers : (f : ℕ → ℕ) (first count k : ℕ) → k < count → get_or (map f (numbers_from first count)) k 0 ≡ f (first + k)
get-map_numbers f first zero k lt = absurd (omega arith)
get-map_numbers f first (suc count) zero lt = ap f (let e : first ≡ first + 0 = omega arith in e)
get-map_numbers f first (suc count) (suc k) lt = get-map_numbers f (first + 1) count k (omega arith) ∙ ap f (let e : (first + 1) + k ≡ first + suc k = omega arith in e)

-- a list has what stands at each number below its length
standing : (f : ℕ → ℕ) (xs : List ℕ) → ((k : ℕ) → k < length xs → f k ≡ get_or xs k 0) → map f (numbers_from 0 (length xs)) ≡ xs
standing f xs same = ext_get_or 0 (map f (numbers_from 0 (length xs))) xs (length-map_numbers f 0 (length xs))
    (λ k lt.
    let within : k < length xs = (let n = length-map_numbers f 0 (length xs) in omega arith) in
    get-map_numbers f 0 (length xs) k within ∙ ap f (let e : 0 + k ≡ k = omega arith in e) ∙ same k within)

module _ (f : ℕ → List ℕ) where
  made : List ℕ → List (ℕ × List ℕ)
  made ns = map (λ n. (n, f n)) ns

  made_at : (ns : List ℕ) (n : ℕ) → is_among ns n ≡ true → lookup (nat_eq n) (made ns) ≡ Some (f n)
  unfolding made
  made_at [] n t = absurd (false≢true t)
  made_at (m ∷ ns) n t = decide (cases_eq n m) (made_at ns n)
    where
      decide : (n ≡ m) ⊎ (n ≡ m → ⊥) → (is_among ns n ≡ true → lookup (nat_eq n) (map (λ b. (b, f b)) ns) ≡ Some (f n))
          → cond (nat_eq n m) (Some (f m)) (lookup (nat_eq n) (map (λ b. (b, f b)) ns)) ≡ Some (f n)
      decide (inl e) more = ap (λ u. cond u (Some (f m)) (lookup (nat_eq n) (map (λ b. (b, f b)) ns))) (eq-eqb n m e) ∙ ap (λ k. Some (f k)) (sym e)
      decide (inr apart) more =
          ap (λ u. cond u (Some (f m)) (lookup (nat_eq n) (map (λ b. (b, f b)) ns))) (ne_eqb n m apart)
          ∙ more (sym (ap (λ u. u || is_among ns n) (ne_eqb m n (λ p. apart (sym p)))) ∙ t)

  made_not : (ns : List ℕ) (n : ℕ) → is_among ns n ≡ false → lookup (nat_eq n) (made ns) ≡ None
  unfolding made
  made_not [] n t = refl
  made_not (m ∷ ns) n t = decide (cases_eq n m) (made_not ns n)
    where
      decide : (n ≡ m) ⊎ (n ≡ m → ⊥) → (is_among ns n ≡ false → lookup (nat_eq n) (map (λ b. (b, f b)) ns) ≡ None)
          → cond (nat_eq n m) (Some (f m)) (lookup (nat_eq n) (map (λ b. (b, f b)) ns)) ≡ None
      decide (inl e) more = absurd (false≢true (sym t ∙ ap (λ u. u || is_among ns n) (eq-eqb m n (sym e))))
      decide (inr apart) more =
          ap (λ u. cond u (Some (f m)) (lookup (nat_eq n) (map (λ b. (b, f b)) ns))) (ne_eqb n m apart)
          ∙ more (sym (ap (λ u. u || is_among ns n) (ne_eqb m n (λ p. apart (sym p)))) ∙ t)

  numbers_made : (ns : List ℕ) → map (λ (b : ℕ × List ℕ). b.0) (map (λ n. (n, f n)) ns) ≡ ns
  numbers_made [] = refl
  numbers_made (n ∷ ns) = ap (λ ms. n ∷ ms) (numbers_made ns)

-- a byte of a content stands in its block
in_block : (content : List ℕ) (i : ℕ) → i < length content → get_or (block_in content (i / 65536)) (i % 65536) 0 ≡ get_or content i 0
in_block content i lt =
    let bytes = take 65536 (drop (i / 65536 * 65536) content) in
    let a = length-take 65536 (drop (i / 65536 * 65536) content) in
    let b = length-drop (i / 65536 * 65536) content in
    get_or_append_left bytes (zeros (65536 - length bytes)) 0 (i % 65536) (omega arith)
    ∙ get_or-take 65536 (drop (i / 65536 * 65536) content) (i % 65536) 0 (omega arith)
    ∙ get_or-drop (i / 65536 * 65536) content (i % 65536) 0
    ∙ ap (λ k. get_or content k 0) (let e : i / 65536 * 65536 + i % 65536 ≡ i = omega arith in e)

-- what is held shows the staged content
pub held_shows : (source : List ℕ) (staging : Staging) → StandsOver source staging → staging_over (held_of staging) source ≡ staging
unfolding made
held_shows source staging over = λ i. record { content = contents i; touched = numbers_made (block_in staging.content) staging.touched i; limit = staging.limit }
  where
    shown : (k : ℕ) → k < length staging.content → (is_among staging.touched (k / 65536) ≡ true) ⊎ (is_among staging.touched (k / 65536) ≡ false)
        → overlay_byte (held_of staging) source k ≡ get_or staging.content k 0
    shown k lt (inl t) = ap (λ b. byte_in b staging.limit source k) (made_at (block_in staging.content) staging.touched (k / 65536) t) ∙ in_block staging.content k lt
    shown k lt (inr f) = ap (λ b. byte_in b staging.limit source k) (made_not (block_in staging.content) staging.touched (k / 65536) f) ∙ sym (over.rest k lt f)

    contents : map (overlay_byte (held_of staging) source) (numbers_from 0 (length staging.content)) ≡ staging.content
    contents = standing (overlay_byte (held_of staging) source) staging.content (λ k lt. shown k lt (cases_Bool (is_among staging.touched (k / 65536))))

-- a source that is staged stands over itself
pub staged_stands : (source : List ℕ) → StandsOver source (staged source)
staged_stands source = record {
  limits = (omega arith, omega arith);
  rise = tt;
  inside = λ b t. absurd (false≢true t);
  rest = λ byte lt f. sym (ap (λ t. cond t (get_or source byte 0) 0) (lt-ltb byte (length source) lt));
}
