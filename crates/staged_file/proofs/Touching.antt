-- Steps one after another, and what a block shows that is touched for a write.
use Rattle.std.proofs.Common.{◌≡◌, ◌≢◌, ℕ, ◌+◌, ◌-◌, ◌*◌, ◌/◌, ◌<◌, ◌≤◌, max, min, false, cond, List, ◌⊎◌, inl, inr, Option, Some, IsSome, IsTrue, refl}
use Rattle.std.proofs.Common.{sym, ap, subst, ◌∙◌, length, take, drop, get_or, arith, length-drop, length-take-le}
use Rattle.std.proofs.lemmas.Bool.{cases_eq, cases_lt, lt-ltb, le-ltb}
use Rattle.std.proofs.lemmas.List.{get_or-take, get_or-drop}
use Rattle.std.specs.FinMap as fin
use Rattle.block_pool.specs.Chains.{ChainMap, entries_of}
use Rattle.block_pool.specs.Pool.{Pool, Keeps}
use Rattle.staging_spec.specs.Blocks.{is_among}
use Rattle.staging_spec.specs.Slices.{Holds}
use Rattle.staging_spec.specs.Overlays.{source_byte}
use Rattle.staged_file.specs.Staged.{StagedFile, IsStaged, byte_at, touched_of}
use Rattle.staged_file.specs.Steps.{Leaves, IsStep, Puts, SameBut, Zeroes, CanPut, CanTouch}
use Rattle.staged_file.proofs.Positions.{none-among}
use Rattle.staged_file.proofs.Chains.{shown_source}

-- ---- steps
pub Keeps-then : {a b c : ChainMap (List ℕ)} {x y z : Option ℕ} → Keeps a b x y → Keeps b c y z → Keeps a c x z
Keeps-then {a = a} {b = b} {c = c} {x = x} {y = y} {z = z} one two = record {
  others = λ q s n. two.others q (there q s n) (one.apart q s n) ∙ one.others q s n;
  apart = λ q s n. two.apart q (there q s n) (one.apart q s n);
  chain = two.chain;
}
  where
    there : (q : ℕ) → IsSome (fin.get a q) → Some q ≢ x → IsSome (fin.get b q)
    there q s n = subst (λ o. IsSome o) (sym (one.others q s n)) s

pub Leaves-then : {p q r : Pool} {a b c : StagedFile} → Leaves p a q b → Leaves q b r c → Leaves p a r c
Leaves-then one two = record {
  kept = Keeps-then one.kept two.kept;
  free = two.free ∙ one.free;
  blocks = two.blocks ∙ one.blocks;
  base = two.base ∙ one.base;
}

pub IsStep-then : {p q r : Pool} {a b c : StagedFile} → IsStep p a q b → IsStep q b r c → IsStep p a r c
IsStep-then one two = record {
  staged = two.staged;
  leaves = Leaves-then one.leaves two.leaves;
  size = two.size ∙ one.size;
  limit = two.limit ∙ one.limit;
}

pub Leaves-same : (p : Pool) (a : StagedFile) → IsStaged p.chains a → Leaves p a p a
Leaves-same p a is = record {
  kept = record { others = λ q s n. refl; apart = λ q s n. n; chain = is.chain };
  free = refl;
  blocks = refl;
  base = refl;
}

pub IsStep-same : (p : Pool) (a : StagedFile) → IsStaged p.chains a → IsStep p a p a
IsStep-same p a is = record { staged = is; leaves = Leaves-same p a is; size = refl; limit = refl }

pub Puts-none : (f : ℕ → ℕ) (low high first : ℕ) (bytes : List ℕ) → high ≤ low → Puts f f low high first bytes
Puts-none f low high first bytes le = record { inside = λ i a b. absurd (omega arith); below = λ i lt. refl; above = λ i le. refl }

pub SameBut-same : (f : ℕ → ℕ) (low high : ℕ) → SameBut f f low high
SameBut-same f low high = record { below = λ i lt. refl; above = λ i le. refl }

-- bytes put at a range that alone was not as before
pub Puts-after : {f g h : ℕ → ℕ} {low high first : ℕ} {bytes : List ℕ} → SameBut f g low high → Puts g h low high first bytes → Puts f h low high first bytes
Puts-after but puts = record { inside = puts.inside; below = λ i lt. puts.below i lt ∙ but.below i lt; above = λ i le. puts.above i le ∙ but.above i le }

-- bytes of one slice put at a range and then right behind it
pub Puts-then : (f g h : ℕ → ℕ) (first mid low high : ℕ) (bytes : List ℕ) → first ≤ low → mid ≤ high → (first < low → low ≤ mid) → Puts f g first mid first bytes → Puts g h low high first bytes
    → Puts f h first high first bytes
Puts-then f g h first mid low high bytes le more joins one two = record {
  inside = λ i a b. at i a b (cases_lt i low);
  below = λ i lt. two.below i (omega arith) ∙ one.below i lt;
  above = λ i ge. two.above i ge ∙ one.above i (omega arith);
}
  where
    at : (i : ℕ) → first ≤ i → i < high → (i < low) ⊎ (low ≤ i) → h i ≡ get_or bytes (i - first) 0
    at i a b (inl lt) = two.below i lt ∙ one.inside i a (let j = joins (omega arith) in omega arith)
    at i a b (inr ge) = two.inside i ge b

-- ---- a slice that has bytes of the source
pub held_byte : (source : List ℕ) (first : ℕ) (bytes : List ℕ) (i : ℕ) → Holds source first bytes → first ≤ i → i < first + length bytes → get_or bytes (i - first) 0 ≡ get_or source i 0
held_byte source first bytes i holds le lt =
    ap (λ bs. get_or bs (i - first) 0) (sym holds) ∙ get_or-take (length bytes) (drop first source) (i - first) 0 (omega arith) ∙ get_or-drop first source (i - first) 0
    ∙ ap (λ n. get_or source n 0) (let e : first + (i - first) ≡ i = omega arith in e)

pub source_below : (limit : ℕ) (source : List ℕ) (i : ℕ) → i < limit → source_byte limit source i ≡ get_or source i 0
source_below limit source i lt = ap (λ t. cond t (get_or source i 0) 0) (lt-ltb i limit lt)

pub source_behind : (limit : ℕ) (source : List ℕ) (i : ℕ) → limit ≤ i → source_byte limit source i ≡ 0
source_behind limit source i le = ap (λ t. cond t (get_or source i 0) 0) (le-ltb i limit le)

-- ---- a block that is touched
module _ (f g h k : ℕ → ℕ) (source base : List ℕ) (limit block first end base_first lim mid from : ℕ) (order : first ≤ end)
    (lim_is : lim ≡ min limit (block * 65536 + 65536)) (mid_is : mid ≡ min lim first) (from_is : from ≡ max (block * 65536) end) (holds : Holds source base_first base)
    (can : CanTouch limit block first end base_first (length base)) (was : (i : ℕ) → i / 65536 ≡ block → f i ≡ source_byte limit source i)
    (zeroes : Zeroes f g block) (front : Puts g h (block * 65536) mid base_first base)
    (back : Puts h k from lim base_first base) where
  -- bytes outside the block
  outside : (i : ℕ) → (i / 65536 ≡ block → ⊥) → k i ≡ f i
  outside i n = at (cases_lt i (block * 65536))
    where
      at : (i < block * 65536) ⊎ (block * 65536 ≤ i) → k i ≡ f i
      at (inl lt) = back.below i (omega arith) ∙ front.below i lt ∙ zeroes.other i n
      at (inr le) = let past : block * 65536 + 65536 ≤ i = past_it (cases_lt i (block * 65536 + 65536)) in back.above i (omega arith) ∙ front.above i (omega arith) ∙ zeroes.other i n
        where
          past_it : (i < block * 65536 + 65536) ⊎ (block * 65536 + 65536 ≤ i) → block * 65536 + 65536 ≤ i
          past_it (inl lt) = absurd (n (omega arith))
          past_it (inr ge) = ge

  -- bytes of the block at and behind the limit
  behind : (i : ℕ) → i / 65536 ≡ block → limit ≤ i → k i ≡ f i
  behind i e le = back.above i (omega arith) ∙ front.above i (omega arith) ∙ zeroes.inside i e ∙ sym (source_behind limit source i le) ∙ sym (was i e)

  held : (i : ℕ) → i / 65536 ≡ block → i < limit → (i < first) ⊎ (end ≤ i) → get_or base (i - base_first) 0 ≡ f i
  held i e lt out = let c = can.there i e lt out in held_byte source base_first base i holds c.0 c.1 ∙ sym (source_below limit source i lt) ∙ sym (was i e)

  before : (i : ℕ) → i / 65536 ≡ block → i < first → (i < limit) ⊎ (limit ≤ i) → k i ≡ f i
  before i e lt (inl l) = back.below i (omega arith) ∙ front.inside i (omega arith) (omega arith) ∙ held i e l (inl lt)
  before i e lt (inr ge) = behind i e ge

  after : (i : ℕ) → i / 65536 ≡ block → end ≤ i → (i < limit) ⊎ (limit ≤ i) → k i ≡ f i
  after i e le (inl l) = back.inside i (omega arith) (omega arith) ∙ held i e l (inr le)
  after i e le (inr ge) = behind i e ge

  pub touched-bytes : SameBut f k (max first (block * 65536)) (min end ((block + 1) * 65536))
  touched-bytes = record {
    below = λ i lt. low i lt (cases_eq (i / 65536) block);
    above = λ i ge. high i ge (cases_eq (i / 65536) block);
  }
    where
      low : (i : ℕ) → i < max first (block * 65536) → (i / 65536 ≡ block) ⊎ (i / 65536 ≡ block → ⊥) → k i ≡ f i
      low i lt (inl e) = before i e (omega arith) (cases_lt i limit)
      low i lt (inr n) = outside i n

      high : (i : ℕ) → min end ((block + 1) * 65536) ≤ i → (i / 65536 ≡ block) ⊎ (i / 65536 ≡ block → ⊥) → k i ≡ f i
      high i ge (inl e) = after i e (omega arith) (cases_lt i limit)
      high i ge (inr n) = outside i n

-- what stands in a block that is not touched is the source's
pub untouched_byte : (chains : ChainMap (List ℕ)) (file : StagedFile) (source : List ℕ) (block : ℕ) → is_among (touched_of chains file) block ≡ false → (i : ℕ) → i / 65536 ≡ block
    → byte_at chains file source i ≡ source_byte file.limit source i
untouched_byte chains file source block none i e =
    shown_source (entries_of chains file.chain) file.limit source i (none-among (entries_of chains file.chain) (i / 65536) (ap (is_among (touched_of chains file)) e ∙ none))

-- bytes put out of a part of a slice are put out of the slice
pub Puts-part : (f g : ℕ → ℕ) (low high first : ℕ) (bytes : List ℕ) → low < high → first ≤ low → high ≤ first + length bytes
    → Puts f g low (low + length (take ((high - first) - (low - first)) (drop (low - first) bytes))) low (take ((high - first) - (low - first)) (drop (low - first) bytes))
    → Puts f g low high first bytes
Puts-part f g low high first bytes lt le fits puts =
    let d = length-drop (low - first) bytes in
    let len : length (take ((high - first) - (low - first)) (drop (low - first) bytes)) ≡ (high - first) - (low - first) =
    length-take-le ((high - first) - (low - first)) (drop (low - first) bytes) (omega arith) in
    record {
      inside = λ i a b. puts.inside i a (omega arith) ∙ get_or-take ((high - first) - (low - first)) (drop (low - first) bytes) (i - low) 0 (omega arith) ∙ get_or-drop (low - first) bytes (i - low) 0
          ∙ ap (λ n. get_or bytes n 0) (let e : (low - first) + (i - low) ≡ i - first = omega arith in e);
      below = puts.below;
      above = λ i ge. puts.above i (omega arith);
    }

-- what of a block is wanted can be put into it
pub CanPut-wanted : (touched : List ℕ) (size limit block first end base_first count low high : ℕ) → CanTouch limit block first end base_first count → IsTrue (is_among touched block) → limit ≤ size
    → block * 65536 ≤ low → high ≤ (block + 1) * 65536 → high ≤ limit → (high ≤ first) ⊎ (end ≤ low) → low < high → CanPut touched size low high base_first count
CanPut-wanted touched size limit block first end base_first count low high can there few a b c out lt = record {
  there = subst (λ n. IsTrue (is_among touched n)) (let e : block ≡ low / 65536 = omega arith in e) there;
  block = let e : block ≡ low / 65536 = omega arith in omega arith;
  inside = omega arith;
  within = ((at low (omega arith) (omega arith) (omega arith)).0, (let h = (at (high - 1) (omega arith) (omega arith) (omega arith)).1 in omega arith));
}
  where
    side : (i : ℕ) → low ≤ i → i < high → (high ≤ first) ⊎ (end ≤ low) → (i < first) ⊎ (end ≤ i)
    side i x y (inl l) = inl (omega arith)
    side i x y (inr r) = inr (omega arith)

    at : (i : ℕ) → i / 65536 ≡ block → low ≤ i → i < high → (base_first ≤ i) × (i < base_first + count)
    at i e x y = can.there i e (omega arith) (side i x y out)
