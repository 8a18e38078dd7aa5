-- Bytes of a content that are copied out of its blocks, block by block.
use Rattle.std.proofs.Common.{◌≡◌, ℕ, ◌+◌, ◌-◌, ◌*◌, ◌/◌, ◌%◌, ◌<◌, ◌≤◌, List, ◌++◌, IsSome, sym, ap, ◌∙◌, length, take, drop, append_assoc, length-append, arith}
use Rattle.std.proofs.lemmas.List.{take-take, drop-take, drop-drop, length-take-le, length-drop, take_at}
use Rattle.std.proofs.Math.Seq.{take-add}
use Rattle.block_pool.specs.Blocks.{overwritten}
use Rattle.block_pool.specs.Chains.{Entries, ChainMap, entries_of, at}
use Rattle.block_pool.specs.Pool.{block_at}
use Rattle.cache_spec.specs.KeptFiles.{blocks_of}
use Rattle.file_cache.specs.declared.stored_file.StoredFile.{StoredFile}
use Rattle.file_cache.specs.Stored.{joined, content_in, IsStored, IsPart}
use Rattle.file_cache.proofs.Numbered.{at_numbered, block_part, length-joined}

module _ (chains : ChainMap (List ℕ)) (file : StoredFile) (s : IsStored chains file) where
  abbrev es : Entries (List ℕ)
  es = entries_of chains file.chain

  pub length-content_in : length (content_in chains file) ≡ file.len
  length-content_in = length-take-le file.len (joined es) (let l = length-joined es s.sized in omega (arith, s.blocks))

  pub blocks_of-content_in : blocks_of (content_in chains file) ≡ length es
  blocks_of-content_in = ap (λ n. (n + 65535) / 65536) length-content_in ∙ sym s.blocks

  -- the block of a place
  pub place_there : (place : ℕ) → place < file.len → IsSome (at es (place / 65536))
  place_there place lt = at_numbered 0 (place / 65536) (place / 65536) es s.numbered (omega (arith, s.blocks)) (omega arith)

  pub part_is : (first done count : ℕ) → (first + done) % 65536 + count ≤ 65536 → first + (done + count) ≤ file.len → 1 ≤ count
      → take count (drop ((first + done) % 65536) (block_at chains file.chain ((first + done) / 65536))) ≡ take count (drop done (drop first (content_in chains file)))
  part_is first done count fits within some =
      block_part 0 ((first + done) / 65536) ((first + done) / 65536) ((first + done) % 65536) count es s.numbered s.sized (omega (arith, s.blocks)) (omega arith) fits
      ∙ ap (λ n. take count (drop n (joined es))) (let e : (first + done) / 65536 * 65536 + (first + done) % 65536 ≡ first + done = omega arith in e)
      ∙ sym (take-take count (file.len - (first + done)) (drop (first + done) (joined es)) (omega arith))
      ∙ ap (take count) (sym (drop-take (first + done) (file.len - (first + done)) (joined es)))
      ∙ ap (λ n. take count (drop (first + done) (take n (joined es)))) (let e : (first + done) + (file.len - (first + done)) ≡ file.len = omega arith in e)
      ∙ ap (take count) (sym (drop-drop done first (content_in chains file)))

-- ---- parts behind one another
module _ (content old out : List ℕ) (done count : ℕ) (size : length out ≡ length old) (le : length old ≤ length content) (so_far : take done out ≡ take done content) where
  part_length : done + count ≤ length old → length (take count (drop done content)) ≡ count
  part_length few = length-take-le count (drop done content) (let l = length-drop done content in omega arith)

  front_length : done + count ≤ length old → length (take done out) ≡ done
  front_length few = length-take-le done out (omega arith)

  pub part_size : (new : List ℕ) → IsPart content out new done count → length new ≡ length old
  part_size new p =
      ap length p.bytes ∙ length-append (take done out) (take count (drop done content) ++ drop (done + length (take count (drop done content))) out)
      ∙ (let f = front_length (omega (arith, p.few)) in let l = part_length (omega (arith, p.few)) in
      let a = length-append (take count (drop done content)) (drop (done + length (take count (drop done content))) out) in
      let d = length-drop (done + length (take count (drop done content))) out in omega (arith, p.few))

  pub more_done : (new : List ℕ) → IsPart content out new done count → take (done + count) new ≡ take (done + count) content
  more_done new p =
      ap (take (done + count)) p.bytes
      ∙ ap (take (done + count)) (sym (append_assoc (take done out) (take count (drop done content)) (drop (done + length (take count (drop done content))) out)))
      ∙ take_at (take done out ++ take count (drop done content)) (drop (done + length (take count (drop done content))) out) (done + count)
      (length-append (take done out) (take count (drop done content)) ∙ (let f = front_length (omega (arith, p.few)) in let l = part_length (omega (arith, p.few)) in omega arith))
      ∙ ap (λ xs. xs ++ take count (drop done content)) so_far ∙ sym (take-add done count content)

-- what stands in the buffer once a part was written between its front and what comes later
pub part_put : (content out front rest part later : List ℕ) (done count : ℕ) → front ≡ take done out → rest ≡ drop done out → later ≡ drop count rest → length part ≡ count → part ≡ take count (drop done content)
    → front ++ (part ++ later) ≡ overwritten out done (take count (drop done content))
part_put content out front rest part later done count is_front is_rest is_later size is_part =
    (λ i. is_front i ++ (is_part i ++ (is_later ∙ ap (drop count) is_rest ∙ drop-drop count done out ∙ ap (λ n. drop n out) same) i))
  where
    same : done + count ≡ done + length (take count (drop done content))
    same = ap (λ n. done + n) (sym size ∙ ap length is_part)
