-- Writing block by block: what has been written so far, and what of the source is wanted on the way.
use Rattle.std.proofs.Common.{◌≡◌, ℕ, zero, suc, ◌+◌, ◌-◌, ◌*◌, ◌/◌, ◌<◌, ◌≤◌, max, min, Bool, true, false, cond, not, ◌&&◌, List, ◌⊎◌, inl, inr, refl, sym, ap, subst, ◌∙◌}
use Rattle.std.proofs.Common.{length, filter, nat_lt, nat_le, arith}
use Rattle.std.proofs.lemmas.Bool.{lt-ltb, le-ltb, lt-leb, and_from, and_left, and_right}
use Rattle.block_pool.specs.Chains.{ChainMap}
use Rattle.block_pool.specs.Pool.{Pool}
use Rattle.staging_spec.specs.Blocks.{block_size, block_of, numbers_from, is_among, met, put_number, touch}
use Rattle.staging_spec.specs.Staging.{needed, written}
use Rattle.staging_spec.specs.Wanted.{is_source, is_overwritten, wanted_by_write}
use Rattle.staging_spec.specs.Slices.{Covers, Holds}
use Rattle.staged_file.specs.Staged.{StagedFile, IsStaged, byte_at, touched_of, staging_of, bytes_below}
use Rattle.staged_file.specs.Steps.{Leaves, IsStep, Puts, CanTouch}
use Rattle.staged_file.proofs.Contents.{bytes-written}
use Rattle.staged_file.proofs.Positions.{new_ones, new-first, among-touch, touch-more}
use Rattle.staged_file.proofs.Spans.{span_reaches}
use Rattle.staged_file.proofs.Touching.{IsStep-then, IsStep-same, Puts-none, Puts-then}

-- ---- the blocks that a range meets
abbrev pub last_block : ℕ → ℕ → ℕ
last_block first count = (first + count - 1) / 65536

pub met-numbers : (first count : ℕ) → 0 < count → met first count ≡ numbers_from (first / 65536) (last_block first count + 1 - first / 65536)
met-numbers first zero some = absurd (omega arith)
met-numbers first (suc count) some = ap (λ n. numbers_from (first / 65536) (n / 65536 + 1 - first / 65536)) (let e : first + count ≡ first + suc count - 1 = omega arith in e)

length-numbers : (first count : ℕ) → length (numbers_from first count) ≡ count
length-numbers first zero = refl
length-numbers first (suc count) = ap suc (length-numbers (first + 1) count)

pub length-met : (first count : ℕ) → 0 < count → length (met first count) ≡ last_block first count + 1 - first / 65536
length-met first count some = ap length (met-numbers first count some) ∙ length-numbers (first / 65536) (last_block first count + 1 - first / 65536)

pub needed-new : (touched : List ℕ) (first count : ℕ) → 0 < count → needed touched first count ≡ new_ones touched (first / 65536) (last_block first count + 1 - first / 65536)
needed-new touched first count some = ap (λ ms. length (filter (λ block. not (is_among touched block)) ms)) (met-numbers first count some)

-- ---- what of the source is wanted for a block
pub not_over : (first count i : ℕ) → (i < first) ⊎ (first + count ≤ i) → is_overwritten first count i ≡ false
not_over first count i (inl lt) = and_left (nat_le first i) (nat_lt i (first + count)) (lt-leb first i lt)
not_over first count i (inr ge) = and_right (nat_le first i) (nat_lt i (first + count)) (le-ltb i (first + count) ge)

pub CanTouch-wanted : (touched : List ℕ) (limit first count base_first many block : ℕ) → 0 < count → Covers base_first many (wanted_by_write touched limit first count)
    → first / 65536 ≤ block → block ≤ last_block first count → is_among touched block ≡ false → CanTouch limit block first (first + count) base_first many
CanTouch-wanted touched limit first count base_first many block some covers low high none = record { there = λ i e lt out. reach i e (passes i e lt out) }
  where
    test : ℕ → Bool
    test = λ byte. is_source touched limit byte && not (is_overwritten first count byte)

    passes : (i : ℕ) → i / 65536 ≡ block → i < limit → (i < first) ⊎ (first + count ≤ i) → (is_source touched limit i && not (is_overwritten first count i)) ≡ true
    passes i e lt out =
        and_from (is_source touched limit i) (not (is_overwritten first count i))
        (and_from (nat_lt i limit) (not (is_among touched (i / 65536))) (lt-ltb i limit lt) (ap (λ b. not (is_among touched b)) e ∙ ap not none))
        (ap not (not_over first count i out))

    reach : (i : ℕ) → i / 65536 ≡ block → (is_source touched limit i && not (is_overwritten first count i)) ≡ true → (base_first ≤ i) × (i < base_first + many)
    reach i e t =
        let len = length-met first count some in
        let r = span_reaches (λ byte. is_source touched limit byte && not (is_overwritten first count byte)) (block_of first * block_size) (length (met first count) * block_size) i
        (omega arith) (omega arith) t in
        let c = covers r.0 in
        let a = r.1 in let b = r.2 in let d = c.0 in let f = c.1 in
        ((omega arith), (omega arith))

-- ---- what has been written so far
-- the bytes that lie below a block are written, the blocks below it that the range meets are touched, and enough are free for the others
pub record SoFar (was : Pool) (old : StagedFile) (now : Pool) (new : StagedFile) (first : ℕ) (from : List ℕ) (base_first : ℕ) (base : List ℕ) (block : ℕ) : Type 0 where
  pub step : IsStep was old now new
  pub touched : touched_of now.chains new ≡ touch (touched_of was.chains old) (numbers_from (first / 65536) (block - first / 65536))
  pub enough : new_ones (touched_of was.chains old) block (last_block first (length from) + 1 - block) ≤ now.free
  pub bytes : (source : List ℕ) → Holds source base_first base → Puts (byte_at was.chains old source) (byte_at now.chains new source) first (min (first + length from) (block * 65536)) first from

pub SoFar-none : (was : Pool) (old : StagedFile) (first : ℕ) (from : List ℕ) (base_first : ℕ) (base : List ℕ) → IsStaged was.chains old → 0 < length from
    → needed (touched_of was.chains old) first (length from) ≤ was.free → SoFar was old was old first from base_first base (first / 65536)
SoFar-none was old first from base_first base is some enough = record {
  step = IsStep-same was old is;
  touched = sym (ap (λ n. touch (touched_of was.chains old) (numbers_from (first / 65536) n)) (let e : first / 65536 - first / 65536 ≡ 0 = omega arith in e));
  enough = subst (λ n. n ≤ was.free) (needed-new (touched_of was.chains old) first (length from) some) enough;
  bytes = λ source holds. Puts-none (byte_at was.chains old source) first (min (first + length from) (first / 65536 * 65536)) first from (omega arith);
}

module _ (was : Pool) (old : StagedFile) (now : Pool) (new : StagedFile) (first : ℕ) (from : List ℕ) (base_first : ℕ) (base : List ℕ) (block : ℕ)
    (far : SoFar was old now new first from base_first base block) (low : first / 65536 ≤ block) (high : block ≤ last_block first (length from)) (some : 0 < length from) where
  -- a block from here on is touched as it was
  pub among-far : is_among (touched_of now.chains new) block ≡ is_among (touched_of was.chains old) block
  among-far = ap (λ ns. is_among ns block) far.touched ∙ among-touch (touched_of was.chains old) (first / 65536) (block - first / 65536) block (omega arith)

  peeled : new_ones (touched_of was.chains old) block (last_block first (length from) + 1 - block)
      ≡ cond (is_among (touched_of was.chains old) block) 0 1 + new_ones (touched_of was.chains old) (block + 1) (last_block first (length from) + 1 - (block + 1))
  peeled = ap (new_ones (touched_of was.chains old) block) (let e : last_block first (length from) + 1 - block ≡ suc (last_block first (length from) + 1 - (block + 1)) = omega arith in e)
      ∙ new-first (touched_of was.chains old) block (last_block first (length from) + 1 - (block + 1))

  pub free-far : is_among (touched_of now.chains new) block ≡ false → 0 < now.free
  free-far none =
      let e = far.enough in
      let p = peeled ∙ ap (λ t. cond t 0 1 + new_ones (touched_of was.chains old) (block + 1) (last_block first (length from) + 1 - (block + 1))) (sym among-far ∙ none) in
      omega arith

  pub wanted-far : Covers base_first (length base) (wanted_by_write (touched_of was.chains old) old.limit first (length from)) → is_among (touched_of now.chains new) block ≡ false
      → CanTouch new.limit block first (first + length from) base_first (length base)
  wanted-far covers none = subst (λ l. CanTouch l block first (first + length from) base_first (length base)) (sym far.step.limit)
      (CanTouch-wanted (touched_of was.chains old) old.limit first (length from) base_first (length base) block some covers low high (sym among-far ∙ none))

  module _ (after : Pool) (next : StagedFile) (step : IsStep now new after next) (touched : touched_of after.chains next ≡ put_number (touched_of now.chains new) block)
      (free : after.free + cond (is_among (touched_of now.chains new) block) 0 1 ≡ now.free)
      (bytes : (source : List ℕ) → Holds source base_first base
      → Puts (byte_at now.chains new source) (byte_at after.chains next source) (max first (block * 65536)) (min (first + length from) ((block + 1) * 65536)) first from) where
    enough : (t : Bool) → is_among (touched_of was.chains old) block ≡ t → new_ones (touched_of was.chains old) (block + 1) (last_block first (length from) + 1 - (block + 1)) ≤ after.free
    enough true e =
        let p = peeled ∙ ap (λ t. cond t 0 1 + new_ones (touched_of was.chains old) (block + 1) (last_block first (length from) + 1 - (block + 1))) e in
        let f = ap (λ t. after.free + cond t 0 1) (sym (among-far ∙ e)) ∙ free in
        let g = far.enough in omega arith
    enough false e =
        let p = peeled ∙ ap (λ t. cond t 0 1 + new_ones (touched_of was.chains old) (block + 1) (last_block first (length from) + 1 - (block + 1))) e in
        let f = ap (λ t. after.free + cond t 0 1) (sym (among-far ∙ e)) ∙ free in
        let g = far.enough in omega arith

    pub SoFar-more : SoFar was old after next first from base_first base (block + 1)
    SoFar-more = record {
      step = IsStep-then far.step step;
      touched = touched ∙ ap (λ ns. put_number ns block) far.touched
          ∙ ap (put_number (touch (touched_of was.chains old) (numbers_from (first / 65536) (block - first / 65536)))) (let e : block ≡ first / 65536 + (block - first / 65536) = omega arith in e)
          ∙ sym (touch-more (touched_of was.chains old) (first / 65536) (block - first / 65536))
          ∙ ap (λ n. touch (touched_of was.chains old) (numbers_from (first / 65536) n)) (let e : (block - first / 65536) + 1 ≡ (block + 1) - first / 65536 = omega arith in e);
      enough = enough (is_among (touched_of was.chains old) block) refl;
      bytes = λ source holds. Puts-then (byte_at was.chains old source) (byte_at now.chains new source) (byte_at after.chains next source) first (min (first + length from) (block * 65536))
          (max first (block * 65536)) (min (first + length from) ((block + 1) * 65536)) from
          (omega arith) (omega arith) (λ lt. omega arith) (far.bytes source holds) (bytes source holds);
    }

-- all is written
module _ (was : Pool) (old : StagedFile) (now : Pool) (new : StagedFile) (first : ℕ) (from : List ℕ) (base_first : ℕ) (base : List ℕ) (block : ℕ)
    (far : SoFar was old now new first from base_first base block) (all : block ≡ last_block first (length from) + 1) (some : 0 < length from) where
  pub all-touched : touched_of now.chains new ≡ touch (touched_of was.chains old) (met first (length from))
  all-touched = far.touched ∙ ap (λ n. touch (touched_of was.chains old) (numbers_from (first / 65536) (n - first / 65536))) all
      ∙ ap (touch (touched_of was.chains old)) (sym (met-numbers first (length from) some))

  pub all-bytes : (source : List ℕ) → Holds source base_first base → Puts (byte_at was.chains old source) (byte_at now.chains new source) first (first + length from) first from
  all-bytes source holds =
      subst (λ n. Puts (byte_at was.chains old source) (byte_at now.chains new source) first n first from) (let e : min (first + length from) (block * 65536) ≡ first + length from = omega arith in e)
      (far.bytes source holds)

-- ---- the call
pub IsStaged-reach : (chains : ChainMap (List ℕ)) (old mid : StagedFile) (end : ℕ) → IsStaged chains old → end ≤ 16777216 → mid ≡ record old { size = max old.size end } → IsStaged chains mid
IsStaged-reach chains old mid end is le e = subst (IsStaged chains) (sym e) (record {
  chain = is.chain;
  count = is.count;
  inside = λ b t. let i = is.inside b t in omega arith;
  behind = λ source i ge. is.behind source i (omega arith);
  limits = (is.limits.0, (let l = is.limits.1 in omega arith));
  most = (is.most.0, (let m = is.most.1 in omega arith));
})

module _ (was : Pool) (old mid : StagedFile) (now : Pool) (new : StagedFile) (first : ℕ) (from : List ℕ) (base_first : ℕ) (base : List ℕ) (is : IsStaged was.chains old) (some : 0 < length from)
    (reached : mid ≡ record old { size = max old.size (first + length from) }) (step : IsStep was mid now new) where
  pub write-leaves : Leaves was old now new
  write-leaves = let l = subst (λ m. Leaves was m now new) reached step.leaves in record { kept = l.kept; free = l.free; blocks = l.blocks; base = l.base }

  pub write-shows : touched_of now.chains new ≡ touch (touched_of was.chains mid) (met first (length from))
      → (source : List ℕ) → Puts (byte_at was.chains mid source) (byte_at now.chains new source) first (first + length from) first from
      → staging_of now.chains new source ≡ written (staging_of was.chains old source) first from
  write-shows touched source puts =
      let own : Puts (byte_at was.chains old source) (byte_at now.chains new source) first (first + length from) first from =
      subst (λ m. Puts (byte_at was.chains m source) (byte_at now.chains new source) first (first + length from) first from) reached puts in
      λ i. record {
        content = (ap (bytes_below (byte_at now.chains new source)) (step.size ∙ ap (λ m. m.size) reached)
            ∙ bytes-written (byte_at was.chains old source) (byte_at now.chains new source) old.size first from (is.behind source) own some) i;
        touched = (touched ∙ ap (λ m. touch (touched_of was.chains m) (met first (length from))) reached) i;
        limit = (step.limit ∙ ap (λ m. m.limit) reached) i;
      }
