-- What a file's chain has is what is held of the staged content that the file shows.
use Rattle.std.proofs.Common.{◌≡◌, ℕ, ◌+◌, ◌-◌, ◌*◌, ◌/◌, ◌%◌, ◌<◌, ◌≤◌, cond, List, [], ◌∷◌, ◌⊎◌, inl, inr, Option, None, Some, is_some, refl, sym, ap, subst, ◌∙◌, length, take, drop, get_or}
use Rattle.std.proofs.Common.{map, arith, length-append, length-take, length-drop}
use Rattle.std.specs.Option.{unwrap_or}
use Rattle.std.proofs.lemmas.Bool.{cases_eq, cases_lt, eq-eqb, ne_eqb}
use Rattle.std.proofs.lemmas.List.{ext_get_or, get_or_append_left, get_or-append_right, get_or-take, get_or-drop}
use Rattle.block_pool.specs.Chains.{Entries, AllAbove, Rises, entries_of, at}
use Rattle.block_pool.specs.Pool.{Pool, IsPool}
use Rattle.staging_spec.specs.Content.{zeros}
use Rattle.staging_spec.specs.Overlays.{byte_in, block_in, held_of}
use Rattle.staging_spec.proofs.ContentLaws.{length-zeros}
use Rattle.staged_file.specs.Staged.{StagedFile, IsStaged, byte_at, bytes_below, positions, staging_of, overlay_of}
use Rattle.staged_file.proofs.Chains.{chain-rises, chain-sized, sized-at}
use Rattle.staged_file.proofs.Contents.{length-bytes, get-bytes, get-zeros}

-- ---- entries at their positions
above_at : (low : ℕ) (es : Entries (List ℕ)) (p : ℕ) (b : List ℕ) → AllAbove low es → at es p ≡ Some b → low < p
above_at low [] p b above a = absurd (let f : ◌≡◌ {A = Option (List ℕ)} None (Some b) = a in cc)
above_at low (e ∷ es) p b above a = pick (cases_eq p e.0) (above_at low es p b above.1)
  where
    pick : (p ≡ e.0) ⊎ (p ≡ e.0 → ⊥) → (at es p ≡ Some b → low < p) → low < p
    pick (inl q) more = subst (λ n. low < n) (sym q) above.0
    pick (inr n) more = more (sym (ap (λ t. cond t (Some e.1) (at es p)) (ne_eqb p e.0 n)) ∙ a)

-- entries that a function gives at each position are made of the positions
made : (f : ℕ → List ℕ) (es : Entries (List ℕ)) → Rises es → ((p : ℕ) (b : List ℕ) → at es p ≡ Some b → f p ≡ b) → map (λ p. (p, f p)) (positions es) ≡ es
made f [] rises same = refl
made f (e ∷ es) rises same =
    let first : f e.0 ≡ e.1 = same e.0 e.1 (ap (λ t. cond t (Some e.1) (at es e.0)) (eq-eqb e.0 e.0 refl)) in
    let more = made f es rises.1 (λ p b a. same p b (later p b a)) in
    λ i. (e.0, first i) ∷ more i
  where
    later : (p : ℕ) (b : List ℕ) → at es p ≡ Some b → at (e ∷ es) p ≡ Some b
    later p b a = ap (λ t. cond t (Some e.1) (at es p)) (ne_eqb p e.0 (λ q. let l = above_at e.0 es p b rises.0 a in omega arith)) ∙ a

-- ---- the block at a position
length-block_in : (content : List ℕ) (p : ℕ) → length (block_in content p) ≡ 65536
length-block_in content p =
    let bytes = take 65536 (drop (p * 65536) content) in
    let a = length-append bytes (zeros (65536 - length bytes)) in
    let b = length-zeros (65536 - length bytes) in
    let d = length-take 65536 (drop (p * 65536) content) in
    omega arith

module _ (pool : Pool) (file : StagedFile) (source : List ℕ) (valid : IsPool pool) (is : IsStaged pool.chains file) where
  content : List ℕ
  content = bytes_below (byte_at pool.chains file source) file.size

  -- a byte of a touched block stands where the block does
  stands : (p : ℕ) (b : List ℕ) (k : ℕ) → at (entries_of pool.chains file.chain) p ≡ Some b → k < 65536 → byte_at pool.chains file source (p * 65536 + k) ≡ get_or b k 0
  stands p b k a lt =
      ap (λ n. byte_in (at (entries_of pool.chains file.chain) n) file.limit source (p * 65536 + k)) (let e : (p * 65536 + k) / 65536 ≡ p = omega arith in e)
      ∙ ap (λ o. byte_in o file.limit source (p * 65536 + k)) a ∙ ap (λ n. get_or b n 0) (let e : (p * 65536 + k) % 65536 ≡ k = omega arith in e)

  block_is : (p : ℕ) (b : List ℕ) → at (entries_of pool.chains file.chain) p ≡ Some b → block_in content p ≡ b
  unfolding content
  block_is p b a = ext_get_or 0 (block_in content p) b (length-block_in content p ∙ sym sized)
      (λ k lt. let within : k < 65536 = (let n = length-block_in content p in omega arith) in byte_is k within (cases_lt (p * 65536 + k) file.size))
    where
      sized : length b ≡ 65536
      sized = sym (ap (λ o. length (unwrap_or o [])) a) ∙ sized-at (entries_of pool.chains file.chain) p (chain-sized pool file.chain valid) (ap is_some a)

      byte_is : (k : ℕ) → k < 65536 → (p * 65536 + k < file.size) ⊎ (file.size ≤ p * 65536 + k) → get_or (block_in content p) k 0 ≡ get_or b k 0
      byte_is k lt (inl low) =
          let n = length-bytes (byte_at pool.chains file source) file.size in
          let t = length-take 65536 (drop (p * 65536) content) in
          let d = length-drop (p * 65536) content in
          get_or_append_left (take 65536 (drop (p * 65536) content)) (zeros (65536 - length (take 65536 (drop (p * 65536) content)))) 0 k (omega arith)
          ∙ get_or-take 65536 (drop (p * 65536) content) k 0 lt ∙ get_or-drop (p * 65536) content k 0
          ∙ get-bytes (byte_at pool.chains file source) file.size (p * 65536 + k) low ∙ stands p b k a lt
      byte_is k lt (inr high) =
          let n = length-bytes (byte_at pool.chains file source) file.size in
          let t = length-take 65536 (drop (p * 65536) content) in
          let d = length-drop (p * 65536) content in
          get_or-append_right (take 65536 (drop (p * 65536) content)) (zeros (65536 - length (take 65536 (drop (p * 65536) content))))
          (length (take 65536 (drop (p * 65536) content))) k 0 refl (omega arith)
          ∙ get-zeros (65536 - length (take 65536 (drop (p * 65536) content))) (k - length (take 65536 (drop (p * 65536) content)))
          ∙ sym (is.behind source (p * 65536 + k) high) ∙ stands p b k a lt

  pub held_is : held_of (staging_of pool.chains file source) ≡ overlay_of pool.chains file
  unfolding content
  held_is = λ i. record {
    blocks = made (block_in content) (entries_of pool.chains file.chain) (chain-rises pool file.chain valid) block_is i;
    size = length-bytes (byte_at pool.chains file source) file.size i;
    limit = file.limit;
  }
