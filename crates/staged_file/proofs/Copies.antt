-- A copy of staged content while it is made, and while the rest of the source is filled in.
use Rattle.std.proofs.Common.{◌≡◌, ℕ, zero, suc, ◌+◌, ◌-◌, ◌*◌, ◌/◌, ◌<◌, ◌≤◌, min, Bool, true, false, cond, not, ◌&&◌, List, [], ◌∷◌, ◌++◌, ◌⊎◌, inl, inr, IsTrue, refl, sym, ap, subst, ◌∙◌}
use Rattle.std.proofs.Common.{length, take, drop, get_or, filter, nat_lt, arith, length-append, length-drop, length-take-le}
use Rattle.std.proofs.lemmas.Bool.{false≢true, cases_lt, cases_Bool, lt-ltb, le-ltb, and_from, and_left, and_right}
use Rattle.std.proofs.lemmas.List.{get_or_append_left, get_or_at, get_or-take, get_or-drop}
use Rattle.block_pool.specs.Chains.{ChainMap}
use Rattle.staging_spec.specs.Blocks.{is_among, numbers_from}
use Rattle.staging_spec.specs.Wanted.{is_source, wanted_by_flush, span}
use Rattle.staged_file.specs.Frozen.{FrozenFile, frozen_lacks, frozen_content, frozen_wanted, Copies, Fills}
use Rattle.staging_spec.specs.Slices.{Covers, Holds}
use Rattle.staged_file.specs.Staged.{StagedFile, IsStaged, byte_at, bytes_below, touched_of, staging_of}
use Rattle.staged_file.specs.Steps.{CanRead, Reads}
use Rattle.staged_file.proofs.Contents.{bytes_same, standing}
use Rattle.staged_file.proofs.PartsRead.{Reads-mid}
use Rattle.staged_file.proofs.Spans.{span_reaches}
use Rattle.staged_file.proofs.Touching.{held_byte, source_below, source_behind, untouched_byte}

-- ---- made block by block
pub Copies-none : (touched : List ℕ) (shown : List ℕ → ℕ → ℕ) (size : ℕ) (bytes : List ℕ) (told : List Bool) → length told ≡ 0 → ((i : ℕ) → get_or bytes i 0 ≡ 0)
    → Copies touched shown size bytes told 0
Copies-none touched shown size bytes told len zeros = record {
  len = len;
  told_of = λ b lt. absurd (omega arith);
  copied = λ source i a b t. absurd (omega arith);
  zeros = λ i f. zeros i;
  later = λ i le. zeros i;
}

module _ (touched : List ℕ) (shown : List ℕ → ℕ → ℕ) (size : ℕ) (bytes : List ℕ) (told : List Bool) (block : ℕ) (copies : Copies touched shown size bytes told block)
    (held : Bool) (other : List ℕ) (held_is : held ≡ is_among touched block)
    (reads : IsTrue held → (source : List ℕ) → Reads (shown source) 0 bytes other (block * 65536) (min size ((block + 1) * 65536))) (same : held ≡ false → (i : ℕ) → get_or other i 0 ≡ get_or bytes i 0) where
  told_more : (b : ℕ) → (b < block) ⊎ (block ≤ b) → b < block + 1 → get_or (told ++ held ∷ []) b false ≡ is_among touched b
  told_more b (inl lt) l = get_or_append_left told (held ∷ []) false b (let n = copies.len in omega arith) ∙ copies.told_of b lt
  told_more b (inr ge) l = get_or_at told held [] false b (let n = copies.len in omega arith) ∙ held_is ∙ ap (is_among touched) (let e : block ≡ b = omega arith in e)

  -- bytes below the block, and behind it
  below : (i : ℕ) → i < block * 65536 → get_or other i 0 ≡ get_or bytes i 0
  below i lt = decide (cases_Bool held)
    where
      decide : (held ≡ true) ⊎ (held ≡ false) → get_or other i 0 ≡ get_or bytes i 0
      decide (inl t) = (reads t []).below i (omega arith)
      decide (inr f) = same f i

  above : (i : ℕ) → (block + 1) * 65536 ≤ i → get_or other i 0 ≡ get_or bytes i 0
  above i le = decide (cases_Bool held)
    where
      decide : (held ≡ true) ⊎ (held ≡ false) → get_or other i 0 ≡ get_or bytes i 0
      decide (inl t) = (reads t []).above i (omega arith)
      decide (inr f) = same f i

  in_block : (i : ℕ) → block * 65536 ≤ i → i < (block + 1) * 65536 → i / 65536 ≡ block
  in_block i a b = omega arith

  copied_more : (source : List ℕ) (i : ℕ) → i < size → i < (block + 1) * 65536 → IsTrue (is_among touched (i / 65536)) → (i < block * 65536) ⊎ (block * 65536 ≤ i) → get_or other i 0 ≡ shown source i
  copied_more source i a b t (inl lt) = below i lt ∙ copies.copied source i a lt t
  copied_more source i a b t (inr ge) =
      ap (λ n. get_or other n 0) (let e : i ≡ i - 0 = omega arith in e)
      ∙ (reads (held_is ∙ ap (is_among touched) (sym (in_block i ge b)) ∙ t) source).inside i ge (omega arith)

  zeros_more : (i : ℕ) → is_among touched (i / 65536) ≡ false → (i < block * 65536) ⊎ (block * 65536 ≤ i) → (i < (block + 1) * 65536) ⊎ ((block + 1) * 65536 ≤ i) → get_or other i 0 ≡ 0
  zeros_more i f (inl lt) d = below i lt ∙ copies.zeros i f
  zeros_more i f (inr ge) (inr past) = above i past ∙ copies.zeros i f
  zeros_more i f (inr ge) (inl lt) = same (held_is ∙ ap (is_among touched) (sym (in_block i ge lt)) ∙ f) i ∙ copies.zeros i f

  pub Copies-more : Copies touched shown size other (told ++ held ∷ []) (block + 1)
  Copies-more = record {
    len = length-append told (held ∷ []) ∙ ap (λ n. n + 1) copies.len;
    told_of = λ b lt. told_more b (cases_lt b block) lt;
    copied = λ source i a b t. copied_more source i a b t (cases_lt i (block * 65536));
    zeros = λ i f. zeros_more i f (cases_lt i (block * 65536)) (cases_lt i ((block + 1) * 65536));
    later = λ i le. above i le ∙ copies.later i (omega arith);
  }

-- ---- the whole copy
filter_same : (p q : ℕ → Bool) (first count : ℕ) → ((i : ℕ) → i < first + count → p i ≡ q i) → filter p (numbers_from first count) ≡ filter q (numbers_from first count)
filter_same p q first zero same = refl
filter_same p q first (suc count) same =
    ap (λ t. cond t (first ∷ filter p (numbers_from (first + 1) count)) (filter p (numbers_from (first + 1) count))) (same first (omega arith))
    ∙ ap (λ ns. cond (q first) (first ∷ ns) ns) (filter_same p q (first + 1) count (λ i lt. same i (omega arith)))

module _ (chains : ChainMap (List ℕ)) (file : StagedFile) (is : IsStaged chains file) (bytes : List ℕ) (told : List Bool) (blocks limit : ℕ)
    (copies : Copies (touched_of chains file) (byte_at chains file) file.size bytes told blocks) (reach : file.size ≤ blocks * 65536) (size : length bytes ≡ file.size)
    (same_limit : limit ≡ file.limit) where
  told_byte : (i : ℕ) → i < file.size → get_or told (i / 65536) false ≡ is_among (touched_of chains file) (i / 65536)
  told_byte i lt = copies.told_of (i / 65536) (omega arith)

  lacks_same : (i : ℕ) → i < file.size → (nat_lt i limit && not (get_or told (i / 65536) false)) ≡ is_source (touched_of chains file) file.limit i
  lacks_same i lt = ap (λ l. nat_lt i l && not (get_or told (i / 65536) false)) same_limit ∙ ap (λ t. nat_lt i file.limit && not t) (told_byte i lt)

  at_byte : (source : List ℕ) (i : ℕ) → i < file.size → (is_among (touched_of chains file) (i / 65536) ≡ true) ⊎ (is_among (touched_of chains file) (i / 65536) ≡ false)
      → (i < file.limit) ⊎ (file.limit ≤ i)
      → cond (is_source (touched_of chains file) file.limit i) (get_or source i 0) (get_or bytes i 0) ≡ byte_at chains file source i
  at_byte source i lt (inl t) d =
      ap (λ u. cond u (get_or source i 0) (get_or bytes i 0)) (and_right (nat_lt i file.limit) (not (is_among (touched_of chains file) (i / 65536))) (ap not t))
      ∙ copies.copied source i lt (omega arith) t
  at_byte source i lt (inr f) (inl l) =
      ap (λ u. cond u (get_or source i 0) (get_or bytes i 0)) (and_from (nat_lt i file.limit) (not (is_among (touched_of chains file) (i / 65536))) (lt-ltb i file.limit l) (ap not f))
      ∙ sym (source_below file.limit source i l) ∙ sym (untouched_byte chains file source (i / 65536) f i refl)
  at_byte source i lt (inr f) (inr ge) =
      ap (λ u. cond u (get_or source i 0) (get_or bytes i 0)) (and_left (nat_lt i file.limit) (not (is_among (touched_of chains file) (i / 65536))) (le-ltb i file.limit ge)) ∙ copies.zeros i f
      ∙ sym (source_behind file.limit source i ge) ∙ sym (untouched_byte chains file source (i / 65536) f i refl)

  pub copied-content : (source : List ℕ) → frozen_content (record { bytes = bytes; touched = told; limit = limit }) source ≡ (staging_of chains file source).content
  copied-content source =
      ap (bytes_below (λ i. cond (nat_lt i limit && not (get_or told (i / 65536) false)) (get_or source i 0) (get_or bytes i 0))) size
      ∙ bytes_same (λ i. cond (nat_lt i limit && not (get_or told (i / 65536) false)) (get_or source i 0) (get_or bytes i 0)) (byte_at chains file source) file.size
      (λ i lt. sym (ap (λ u. cond u (get_or source i 0) (get_or bytes i 0)) (lacks_same i lt)
      ∙ at_byte source i lt (cases_Bool (is_among (touched_of chains file) (i / 65536))) (cases_lt i file.limit)))

  pub copied-wanted : frozen_wanted (record { bytes = bytes; touched = told; limit = limit }) ≡ wanted_by_flush (touched_of chains file) file.limit
  copied-wanted =
      ap (λ l. span (filter (λ i. nat_lt i limit && not (get_or told (i / 65536) false)) (numbers_from 0 l))) same_limit
      ∙ ap span
      (filter_same (λ i. nat_lt i limit && not (get_or told (i / 65536) false)) (is_source (touched_of chains file) file.limit) 0 file.limit
      (λ i lt. lacks_same i (let l = is.limits.1 in omega arith)))

-- ---- filled in
pub Fills-none : (touched : List Bool) (limit : ℕ) (source bytes : List ℕ) → Fills touched limit source bytes bytes 0
Fills-none touched limit source bytes = record { filled = λ i a b f. absurd (omega arith); held = λ i t. refl; later = λ i le. refl; past = λ i le. refl }

module _ (touched : List Bool) (limit : ℕ) (source was now other : List ℕ) (block : ℕ) (fills : Fills touched limit source was now (block * 65536)) where
  -- a block that is touched stays
  pub Fills-held : IsTrue (get_or touched block false) → Fills touched limit source was now ((block + 1) * 65536)
  Fills-held t = record {
    filled = λ i a b f. decide i a b f (cases_lt i (block * 65536));
    held = fills.held;
    later = λ i le. fills.later i (omega arith);
    past = fills.past;
  }
    where
      decide : (i : ℕ) → i < (block + 1) * 65536 → i < limit → get_or touched (i / 65536) false ≡ false → (i < block * 65536) ⊎ (block * 65536 ≤ i) → get_or now i 0 ≡ get_or source i 0
      decide i a b f (inl lt) = fills.filled i lt b f
      decide i a b f (inr ge) = absurd (false≢true (sym f ∙ ap (λ n. get_or touched n false) (let e : i / 65536 ≡ block = omega arith in e) ∙ t))

  pub Fills-more : get_or touched block false ≡ false → Reads (λ i. get_or source i 0) 0 now other (block * 65536) (min limit ((block + 1) * 65536))
      → Fills touched limit source was other ((block + 1) * 65536)
  Fills-more f reads = record {
    filled = λ i a b g. decide i a b g (cases_lt i (block * 65536));
    held = λ i t. apart i t (cases_lt i (block * 65536)) (cases_lt i ((block + 1) * 65536));
    later = λ i le. reads.above i (omega arith) ∙ fills.later i (omega arith);
    past = λ i le. reads.above i (omega arith) ∙ fills.past i le;
  }
    where
      decide : (i : ℕ) → i < (block + 1) * 65536 → i < limit → get_or touched (i / 65536) false ≡ false → (i < block * 65536) ⊎ (block * 65536 ≤ i) → get_or other i 0 ≡ get_or source i 0
      decide i a b g (inl lt) = reads.below i (omega arith) ∙ fills.filled i lt b g
      decide i a b g (inr ge) = ap (λ n. get_or other n 0) (let e : i ≡ i - 0 = omega arith in e) ∙ reads.inside i ge (omega arith)

      apart : (i : ℕ) → IsTrue (get_or touched (i / 65536) false) → (i < block * 65536) ⊎ (block * 65536 ≤ i) → (i < (block + 1) * 65536) ⊎ ((block + 1) * 65536 ≤ i)
          → get_or other i 0 ≡ get_or was i 0
      apart i t (inl lt) d = reads.below i (omega arith) ∙ fills.held i t
      apart i t (inr ge) (inr past) = reads.above i (omega arith) ∙ fills.held i t
      apart i t (inr ge) (inl lt) = absurd (false≢true (sym f ∙ ap (λ n. get_or touched n false) (let e : block ≡ i / 65536 = omega arith in e) ∙ t))

pub Fills-whole : (touched : List Bool) (limit : ℕ) (source was now : List ℕ) (upto : ℕ) → limit ≤ upto → Fills touched limit source was now upto → Fills touched limit source was now limit
Fills-whole touched limit source was now upto le fills = record { filled = λ i a b f. fills.filled i (omega arith) b f; held = fills.held; later = fills.past; past = fills.past }

pub filled-content : (touched : List Bool) (limit : ℕ) (source was now : List ℕ) → length now ≡ length was → Fills touched limit source was now limit
    → now ≡ frozen_content (record { bytes = was; touched = touched; limit = limit }) source
filled-content touched limit source was now len fills =
    sym (standing (λ i. cond (nat_lt i limit && not (get_or touched (i / 65536) false)) (get_or source i 0) (get_or was i 0)) (length was) now len
    (λ i lt. at_byte i (cases_lt i limit) (cases_Bool (get_or touched (i / 65536) false))))
  where
    at_byte : (i : ℕ) → (i < limit) ⊎ (limit ≤ i) → (get_or touched (i / 65536) false ≡ true) ⊎ (get_or touched (i / 65536) false ≡ false)
        → get_or now i 0 ≡ cond (nat_lt i limit && not (get_or touched (i / 65536) false)) (get_or source i 0) (get_or was i 0)
    at_byte i (inr ge) d = fills.past i ge ∙ sym (ap (λ u. cond u (get_or source i 0) (get_or was i 0)) (and_left (nat_lt i limit) (not (get_or touched (i / 65536) false)) (le-ltb i limit ge)))
    at_byte i (inl lt) (inl t) = fills.held i t ∙ sym (ap (λ u. cond u (get_or source i 0) (get_or was i 0)) (and_right (nat_lt i limit) (not (get_or touched (i / 65536) false)) (ap not t)))
    at_byte i (inl lt) (inr f) =
        fills.filled i lt lt f ∙ sym (ap (λ u. cond u (get_or source i 0) (get_or was i 0)) (and_from (nat_lt i limit) (not (get_or touched (i / 65536) false)) (lt-ltb i limit lt) (ap not f)))

-- what is lacked lies in the slice
pub lacked : (frozen : FrozenFile) (first count : ℕ) → Covers first count (frozen_wanted frozen) → (i : ℕ) → i < frozen.limit → get_or frozen.touched (i / 65536) false ≡ false
    → (first ≤ i) × (i < first + count)
lacked frozen first count covers i lt f =
    let t = and_from (nat_lt i frozen.limit) (not (get_or frozen.touched (i / 65536) false)) (lt-ltb i frozen.limit lt) (ap not f) in
    let r = span_reaches (frozen_lacks frozen) 0 frozen.limit i (omega arith) (omega arith) t in
    let c = covers r.0 in
    let d = r.1 in let e = r.2 in let g = c.0 in let h = c.1 in
    ((omega arith), (omega arith))

pub CanRead-lacked : (touched : List Bool) (limit block base_first count : ℕ) → ((i : ℕ) → i < limit → get_or touched (i / 65536) false ≡ false → (base_first ≤ i) × (i < base_first + count))
    → get_or touched block false ≡ false
    → CanRead limit (block * 65536) ((block + 1) * 65536) base_first count
CanRead-lacked touched limit block base_first count wanted f = record { there = λ i a b lt. wanted i lt (ap (λ n. get_or touched n false) (let e : i / 65536 ≡ block = omega arith in e) ∙ f) }

-- ---- one block is filled in
module _ (limit block base_first end : ℕ) (source base bytes part : List ℕ) (end_is : end ≡ min limit (block * 65536 + 65536)) (some : block * 65536 < limit) (reach : limit ≤ length bytes)
    (holds : Holds source base_first base)
    (can : CanRead limit (block * 65536) ((block + 1) * 65536) base_first (length base))
    (part_is : part ≡ take (end - base_first - (block * 65536 - base_first)) (drop (block * 65536 - base_first) base)) where
  part_long : length part ≡ end - block * 65536
  part_long =
      let a = (can.there (block * 65536) (omega arith) (omega arith) (omega arith)).0 in
      let b = (can.there (end - 1) (omega arith) (omega arith) (omega arith)).1 in
      let d = length-drop (block * 65536 - base_first) base in
      ap length part_is ∙ length-take-le (end - base_first - (block * 65536 - base_first)) (drop (block * 65536 - base_first) base) (omega arith) ∙ omega arith

  part_byte : (k : ℕ) → k < length part → get_or part k 0 ≡ get_or source (block * 65536 + k) 0
  part_byte k lt =
      let n = part_long in
      let a = (can.there (block * 65536) (omega arith) (omega arith) (omega arith)).0 in
      let c = can.there (block * 65536 + k) (omega arith) (omega arith) (omega arith) in
      ap (λ xs. get_or xs k 0) part_is ∙ get_or-take (end - base_first - (block * 65536 - base_first)) (drop (block * 65536 - base_first) base) k 0 (omega arith)
      ∙ get_or-drop (block * 65536 - base_first) base k 0
      ∙ ap (λ n. get_or base n 0) (let e : (block * 65536 - base_first) + k ≡ (block * 65536 + k) - base_first = omega arith in e) ∙ held_byte source base_first base (block * 65536 + k) holds c.0 c.1

  pub filled-block : Reads (λ i. get_or source i 0) 0 bytes (take (block * 65536) bytes ++ (part ++ drop (end - block * 65536) (drop (block * 65536) bytes))) (block * 65536)
      (min limit ((block + 1) * 65536))
  filled-block =
      let low : block * 65536 - 0 ≡ block * 65536 = omega arith in
      let high : end - 0 ≡ end = omega arith in
      let upto : end ≡ min limit ((block + 1) * 65536) = omega arith in
      let n = part_long in
      subst (λ n. Reads (λ i. get_or source i 0) 0 bytes (take (block * 65536) bytes ++ (part ++ drop (end - block * 65536) (drop (block * 65536) bytes))) (block * 65536) n) upto
      (subst (λ n. Reads (λ i. get_or source i 0) 0 bytes (take n bytes ++ (part ++ drop (end - n) (drop n bytes))) (block * 65536) end) low
      (subst (λ n. Reads (λ i. get_or source i 0) 0 bytes (take (block * 65536 - 0) bytes ++ (part ++ drop (n - (block * 65536 - 0)) (drop (block * 65536 - 0) bytes))) (block * 65536) end) high
      (Reads-mid (λ i. get_or source i 0) 0 bytes part (block * 65536) end (omega arith) (omega arith) (omega arith) (omega arith) part_byte)))

-- the blocks below one are filled in, over each source that the slice holds
pub record AreFilled (touched : List Bool) (limit base_first : ℕ) (base was now : List ℕ) (block : ℕ) : Type 0 where
  pub fills : (source : List ℕ) → Holds source base_first base → Fills touched limit source was now (block * 65536)

pub AreFilled-none : (touched : List Bool) (limit base_first : ℕ) (base was : List ℕ) → AreFilled touched limit base_first base was was 0
AreFilled-none touched limit base_first base was =
    record { fills = λ source holds. subst (Fills touched limit source was was) (let e : 0 ≡ 0 * 65536 = omega arith in e) (Fills-none touched limit source was) }

pub AreFilled-more : (touched : List Bool) (limit base_first : ℕ) (base was now other : List ℕ) (block : ℕ) (held : Bool) → AreFilled touched limit base_first base was now block
    → held ≡ get_or touched block false
    → (IsTrue held → other ≡ now) → (held ≡ false → (source : List ℕ) → Holds source base_first base → Reads (λ i. get_or source i 0) 0 now other (block * 65536) (min limit ((block + 1) * 65536)))
    → AreFilled touched limit base_first base was other (block + 1)
AreFilled-more touched limit base_first base was now other block true far e same reads =
    record {
      fills =
          λ source holds. subst (λ xs. Fills touched limit source was xs ((block + 1) * 65536)) (sym (same refl)) (Fills-held touched limit source was now now block (far.fills source holds) (sym e));
    }
AreFilled-more touched limit base_first base was now other block false far e same reads =
    record { fills = λ source holds. Fills-more touched limit source was now other block (far.fills source holds) (sym e) (reads refl source holds) }
