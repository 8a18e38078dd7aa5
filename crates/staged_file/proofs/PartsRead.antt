-- Parts of a content that are read into parts of a slice.
use Rattle.std.proofs.Common.{◌≡◌, ℕ, ◌+◌, ◌-◌, ◌*◌, ◌/◌, ◌%◌, ◌<◌, ◌≤◌, max, min, true, false, not, List, [], ◌++◌, ◌⊎◌, inl, inr, Option, None, Some, IsSome}
use Rattle.std.proofs.Common.{refl, sym, ap, ◌∙◌, length, take, drop, get_or, replicate, nat_lt, arith, length-drop, length-take-le}
use Rattle.std.proofs.lemmas.Bool.{false≢true, cases_lt, lt-ltb, and_from}
use Rattle.std.proofs.lemmas.List.{get_or_append_left, get_or-append_right, get_or-take, get_or-drop}
use Rattle.std.specs.Option.{unwrap_or}
use Rattle.block_pool.specs.Chains.{Entries, at}
use Rattle.staging_spec.specs.Blocks.{is_among}
use Rattle.staging_spec.specs.Wanted.{is_source, wanted_by_read}
use Rattle.staging_spec.specs.Slices.{Covers, Holds}
use Rattle.staging_spec.specs.Overlays.{byte_in, source_byte}
use Rattle.staged_file.specs.Staged.{shown_byte}
use Rattle.staged_file.specs.Steps.{CanRead, Reads}
use Rattle.staged_file.proofs.Contents.{get_replicate}
use Rattle.staged_file.proofs.Spans.{span_reaches}
use Rattle.staged_file.proofs.Touching.{held_byte, source_below, source_behind}

-- ---- what of the source is wanted on the way
pub CanRead-wanted : (touched : List ℕ) (limit first count base_first many block : ℕ) → Covers base_first many (wanted_by_read touched limit first count) → is_among touched block ≡ false
    → CanRead limit (max first (block * 65536)) (min (first + count) ((block + 1) * 65536)) base_first many
CanRead-wanted touched limit first count base_first many block covers none = record { there = λ i a b lt. reach i (omega arith) (omega arith) (passes i (omega arith) lt) }
  where
    passes : (i : ℕ) → i / 65536 ≡ block → i < limit → is_source touched limit i ≡ true
    passes i e lt = and_from (nat_lt i limit) (not (is_among touched (i / 65536))) (lt-ltb i limit lt) (ap (λ b. not (is_among touched b)) e ∙ ap not none)

    reach : (i : ℕ) → first ≤ i → i < first + count → is_source touched limit i ≡ true → (base_first ≤ i) × (i < base_first + many)
    reach i a b t =
        let r = span_reaches (is_source touched limit) first count i a b t in
        let c = covers r.0 in
        let d = r.1 in let e = r.2 in let f = c.0 in let g = c.1 in
        ((omega arith), (omega arith))

-- ---- out of a touched block
pub part-block : (es : Entries (List ℕ)) (limit : ℕ) (source : List ℕ) (low count k : ℕ) → IsSome (at es (low / 65536)) → low % 65536 + count ≤ 65536 → k < count
    → get_or (take count (drop (low % 65536) (unwrap_or (at es (low / 65536)) []))) k 0 ≡ shown_byte es limit source (low + k)
part-block es limit source low count k some fits lt =
    get_or-take count (drop (low % 65536) (unwrap_or (at es (low / 65536)) [])) k 0 lt ∙ get_or-drop (low % 65536) (unwrap_or (at es (low / 65536)) []) k 0
    ∙ ap (λ n. get_or (unwrap_or (at es (low / 65536)) []) n 0) (let e : low % 65536 + k ≡ (low + k) % 65536 = omega arith in e)
    ∙ given (at es (low / 65536)) some
    ∙ ap (λ n. byte_in (at es n) limit source (low + k)) (let e : low / 65536 ≡ (low + k) / 65536 = omega arith in e)
  where
    given : (o : Option (List ℕ)) → IsSome o → get_or (unwrap_or o []) ((low + k) % 65536) 0 ≡ byte_in o limit source (low + k)
    given None some = absurd (false≢true some)
    given (Some b) some = refl

-- ---- out of the source
module _ (limit low base_first kept : ℕ) (source base was : List ℕ) (holds : Holds source base_first base) (can : CanRead limit low (low + length was) base_first (length base))
    (kept_is : kept ≡ min (limit - low) (length was)) where
  kept_fits : kept ≤ length (drop (low - base_first) base)
  kept_fits = decide (cases_lt 0 kept)
    where
      decide : (0 < kept) ⊎ (kept ≤ 0) → kept ≤ length (drop (low - base_first) base)
      decide (inl lt) =
          let a = (can.there low (omega arith) (omega arith) (omega arith)).0 in
          let b = (can.there (low + kept - 1) (omega arith) (omega arith) (omega arith)).1 in
          let d = length-drop (low - base_first) base in
          omega arith
      decide (inr le) = omega arith

  pub part-source : (k : ℕ) → k < length was → get_or (take kept (drop (low - base_first) base) ++ replicate (length was - kept) 0) k 0 ≡ source_byte limit source (low + k)
  part-source k lt = decide (cases_lt k kept)
    where
      decide : (k < kept) ⊎ (kept ≤ k) → get_or (take kept (drop (low - base_first) base) ++ replicate (length was - kept) 0) k 0 ≡ source_byte limit source (low + k)
      decide (inl l) =
          let n = length-take-le kept (drop (low - base_first) base) kept_fits in
          let c = can.there (low + k) (omega arith) (omega arith) (omega arith) in
          let a = (can.there low (omega arith) (omega arith) (omega arith)).0 in
          get_or_append_left (take kept (drop (low - base_first) base)) (replicate (length was - kept) 0) 0 k (omega arith)
          ∙ get_or-take kept (drop (low - base_first) base) k 0 l ∙ get_or-drop (low - base_first) base k 0
          ∙ ap (λ n. get_or base n 0) (let e : (low - base_first) + k ≡ (low + k) - base_first = omega arith in e)
          ∙ held_byte source base_first base (low + k) holds c.0 c.1 ∙ sym (source_below limit source (low + k) (omega arith))
      decide (inr ge) =
          get_or-append_right (take kept (drop (low - base_first) base)) (replicate (length was - kept) 0) kept k 0 (length-take-le kept (drop (low - base_first) base) kept_fits) ge
          ∙ get_replicate 0 (length was - kept) (k - kept) ∙ sym (source_behind limit source (low + k) (omega arith))

-- ---- into a slice
-- a part of the slice that has the bytes of a range
pub Reads-mid : (shown : ℕ → ℕ) (first : ℕ) (xs part : List ℕ) (low high : ℕ) → first ≤ low → low ≤ high → high ≤ first + length xs → length part ≡ (high - first) - (low - first)
    → ((k : ℕ) → k < length part → get_or part k 0 ≡ shown (low + k)) → Reads shown first xs (take (low - first) xs ++ (part ++ drop ((high - first) - (low - first)) (drop (low - first) xs))) low high
Reads-mid shown first xs part low high a b c len same =
    let front : length (take (low - first) xs) ≡ low - first = length-take-le (low - first) xs (omega arith) in
    record {
      inside = λ i ge lt.
          get_or-append_right (take (low - first) xs) (part ++ drop ((high - first) - (low - first)) (drop (low - first) xs)) (low - first) (i - first) 0 front (omega arith)
          ∙ get_or_append_left part (drop ((high - first) - (low - first)) (drop (low - first) xs)) 0 ((i - first) - (low - first)) (omega arith)
          ∙ same ((i - first) - (low - first)) (omega arith) ∙ ap shown (let e : low + ((i - first) - (low - first)) ≡ i = omega arith in e);
      below = λ k lt. get_or_append_left (take (low - first) xs) (part ++ drop ((high - first) - (low - first)) (drop (low - first) xs)) 0 k (omega arith)
          ∙ get_or-take (low - first) xs k 0 (omega arith);
      above = λ k ge.
          get_or-append_right (take (low - first) xs) (part ++ drop ((high - first) - (low - first)) (drop (low - first) xs)) (low - first) k 0 front (omega arith)
          ∙ get_or-append_right part (drop ((high - first) - (low - first)) (drop (low - first) xs)) ((high - first) - (low - first)) (k - (low - first)) 0 len (omega arith)
          ∙ get_or-drop ((high - first) - (low - first)) (drop (low - first) xs) ((k - (low - first)) - ((high - first) - (low - first))) 0
          ∙ get_or-drop (low - first) xs (((high - first) - (low - first)) + ((k - (low - first)) - ((high - first) - (low - first)))) 0
          ∙ ap (λ n. get_or xs n 0) (let e : (low - first) + (((high - first) - (low - first)) + ((k - (low - first)) - ((high - first) - (low - first)))) ≡ k = omega arith in e);
    }

-- the bytes below a place have been read
pub record IsRead (shown : List ℕ → ℕ → ℕ) (first base_first : ℕ) (base out : List ℕ) (upto : ℕ) : Type 0 where
  pub bytes : (source : List ℕ) → Holds source base_first base → (i : ℕ) → first ≤ i → i < upto → get_or out (i - first) 0 ≡ shown source i

pub IsRead-none : (shown : List ℕ → ℕ → ℕ) (first base_first : ℕ) (base out : List ℕ) (upto : ℕ) → upto ≤ first → IsRead shown first base_first base out upto
IsRead-none shown first base_first base out upto le = record { bytes = λ source holds i a b. absurd (omega arith) }

pub IsRead-more : (shown : List ℕ → ℕ → ℕ) (first count base_first : ℕ) (base out other : List ℕ) (block : ℕ) → IsRead shown first base_first base out (min (first + count) (block * 65536))
    → ((source : List ℕ) → Holds source base_first base → Reads (shown source) first out other (max first (block * 65536)) (min (first + count) ((block + 1) * 65536)))
    → IsRead shown first base_first base other (min (first + count) ((block + 1) * 65536))
IsRead-more shown first count base_first base out other block far reads = record { bytes = λ source holds i a b. at source holds i a b (cases_lt i (max first (block * 65536))) }
  where
    at : (source : List ℕ) → Holds source base_first base → (i : ℕ) → first ≤ i → i < min (first + count) ((block + 1) * 65536) → (i < max first (block * 65536)) ⊎ (max first (block * 65536) ≤ i)
        → get_or other (i - first) 0 ≡ shown source i
    at source holds i a b (inl lt) = (reads source holds).below (i - first) (omega arith) ∙ far.bytes source holds i a (omega arith)
    at source holds i a b (inr ge) = (reads source holds).inside i ge b
