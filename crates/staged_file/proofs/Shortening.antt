-- Blocks cut off, the end of a block cleared, and a content of another length.
use Rattle.std.proofs.Common.{◌≡◌, ℕ, ◌+◌, ◌-◌, ◌*◌, ◌/◌, ◌%◌, ◌<◌, ◌≤◌, max, min, true, false, cond, ◌||◌, List, [], ◌∷◌, ◌⊎◌, inl, inr, Option, None, Some, IsSome, IsTrue}
use Rattle.std.proofs.Common.{refl, sym, ap, subst, ◌∙◌, length, get_or, nat_eq, nat_lt, arith}
use Rattle.std.proofs.lemmas.Bool.{false≢true, cases_eq, cases_lt, cases_Bool, lt-ltb, le-ltb, eq-eqb, ne_eqb, or_left, or_right}
use Rattle.staging_spec.specs.Blocks.{block_size, is_among, untouch}
use Rattle.staging_spec.specs.Content.{zeros}
use Rattle.staging_spec.specs.Staging.{resized}
use Rattle.staging_spec.proofs.ContentLaws.{length-zeros}
use Rattle.block_pool.specs.Chains.{Entries, entries_of, at, below}
use Rattle.block_pool.specs.Pool.{Pool, Keeps, IsPool, cut_chain, cut_head, write_block}
use Rattle.staging_spec.specs.Overlays.{byte_in, source_byte}
use Rattle.staged_file.specs.Staged.{StagedFile, IsStaged, byte_at, shown_byte, bytes_below, positions, touched_of, staging_of}
use Rattle.staged_file.specs.Steps.{Leaves, IsStep, Clears}
use Rattle.staged_file.proofs.Contents.{get-zeros, bytes-resized}
use Rattle.staged_file.proofs.Positions.{among-positions, none-among, positions-below, untouch-none}
use Rattle.staged_file.proofs.Chains.{entries-cut, at-below, at-below_none, length-below}
use Rattle.staged_file.proofs.Leaves.{IsCopied, copied-step, copied-touched, copied-bytes}

-- ---- what is left of touched blocks
pub among-untouch : (ns : List ℕ) (size b : ℕ) → IsTrue (is_among (untouch ns size) b) → (b * block_size < size) × IsTrue (is_among ns b)
among-untouch [] size b t = absurd (false≢true t)
among-untouch (n ∷ ns) size b t = step (cases_lt (n * block_size) size) (among-untouch ns size b) t
  where
    step : (n * block_size < size) ⊎ (size ≤ n * block_size) → (IsTrue (is_among (untouch ns size) b) → (b * block_size < size) × IsTrue (is_among ns b))
        → IsTrue (is_among (cond (nat_lt (n * block_size) size) (n ∷ untouch ns size) (untouch ns size)) b) → (b * block_size < size) × IsTrue (is_among (n ∷ ns) b)
    step (inl lt) more t = pick (cases_eq n b) (sym (ap (λ u. is_among (cond u (n ∷ untouch ns size) (untouch ns size)) b) (lt-ltb (n * block_size) size lt)) ∙ t)
      where
        pick : (n ≡ b) ⊎ (n ≡ b → ⊥) → (nat_eq n b || is_among (untouch ns size) b) ≡ true → (b * block_size < size) × IsTrue (is_among (n ∷ ns) b)
        pick (inl e) t = (subst (λ m. m * block_size < size) e lt, or_left (nat_eq n b) (is_among ns b) (eq-eqb n b e))
        pick (inr d) t = let m = more (sym (ap (λ u. u || is_among (untouch ns size) b) (ne_eqb n b d)) ∙ t) in (m.0, or_right (nat_eq n b) (is_among ns b) m.1)
    step (inr ge) more t =
        let m = more (sym (ap (λ u. is_among (cond u (n ∷ untouch ns size) (untouch ns size)) b) (le-ltb (n * block_size) size ge)) ∙ t) in (m.0, or_right (nat_eq n b) (is_among ns b) m.1)

-- ---- blocks are cut off
pub record IsCut (was now : Pool) (old new : StagedFile) (place len : ℕ) : Type 0 where
  pub staged : IsStaged was.chains old
  pub is : now ≡ cut_chain was old.chain new.chain place
  pub head : new.chain ≡ cut_head was.chains old.chain place
  pub kept : Keeps was.chains now.chains old.chain new.chain
  pub same : new ≡ record old { chain = new.chain; touched = old.touched - (now.free - was.free) }
  pub round : (len ≤ place * 65536) × (place * 65536 < len + 65536)

module _ (was now : Pool) (old new : StagedFile) (place len : ℕ) (cut : IsCut was now old new place len) where
  abbrev held : Entries (List ℕ)
  held = entries_of was.chains old.chain

  abbrev left : Entries (List ℕ)
  left = entries_of now.chains new.chain

  is_below : left ≡ below held place
  is_below = ap (λ p. entries_of p.chains new.chain) cut.is ∙ entries-cut was old.chain new.chain place cut.head

  cut_limit : new.limit ≡ old.limit
  cut_limit = ap (λ n. n.limit) cut.same

  cut_size : new.size ≡ old.size
  cut_size = ap (λ n. n.size) cut.same

  cut_base : new.base ≡ old.base
  cut_base = ap (λ n. n.base) cut.same

  same_test : (b : ℕ) → nat_lt b place ≡ nat_lt (b * block_size) len
  same_test b = decide (cases_lt b place)
    where
      decide : (b < place) ⊎ (place ≤ b) → nat_lt b place ≡ nat_lt (b * 65536) len
      decide (inl lt) = lt-ltb b place lt ∙ sym (lt-ltb (b * 65536) len (let r = cut.round.1 in omega arith))
      decide (inr ge) = le-ltb b place ge ∙ sym (le-ltb (b * 65536) len (let r = cut.round.0 in omega arith))

  pub cut-touched : touched_of now.chains new ≡ untouch (touched_of was.chains old) len
  cut-touched = ap positions is_below ∙ positions-below held place len same_test

  at_left : (i : ℕ) → (at left (i / 65536) ≡ at held (i / 65536)) ⊎ (at left (i / 65536) ≡ None)
  at_left i = decide (cases_lt (i / 65536) place)
    where
      decide : (i / 65536 < place) ⊎ (place ≤ i / 65536) → (at left (i / 65536) ≡ at held (i / 65536)) ⊎ (at left (i / 65536) ≡ None)
      decide (inl lt) = inl (ap (λ es. at es (i / 65536)) is_below ∙ at-below held place (i / 65536) lt)
      decide (inr ge) = inr (ap (λ es. at es (i / 65536)) is_below ∙ at-below_none held place (i / 65536) ge)

  pub cut-bytes : (source : List ℕ) (i : ℕ) → i < len → byte_at now.chains new source i ≡ byte_at was.chains old source i
  cut-bytes source i lt =
      ap (λ l. shown_byte left l source i) cut_limit
      ∙ ap (λ o. byte_in o old.limit source i) (ap (λ es. at es (i / 65536)) is_below ∙ at-below held place (i / 65536) (let r = cut.round.0 in omega arith))

  behind : (source : List ℕ) (i : ℕ) → new.size ≤ i → byte_at now.chains new source i ≡ 0
  behind source i ge = ap (λ l. shown_byte left l source i) cut_limit ∙ decide (at_left i)
    where
      decide : (at left (i / 65536) ≡ at held (i / 65536)) ⊎ (at left (i / 65536) ≡ None) → shown_byte left old.limit source i ≡ 0
      decide (inl e) = ap (λ o. byte_in o old.limit source i) e ∙ cut.staged.behind source i (let s = cut_size in omega arith)
      decide (inr e) = ap (λ o. byte_in o old.limit source i) e ∙ ap (λ t. cond t (get_or source i 0) 0) (le-ltb i old.limit (let s = cut_size in let l = cut.staged.limits.1 in omega arith))

  fewer : new.touched ≡ length left
  fewer =
      let t : new.touched ≡ old.touched - (now.free - was.free) = ap (λ n. n.touched) cut.same in
      let f : now.free ≡ (was.free + length held) - length (below held place) = ap (λ p. p.free) cut.is in
      let c = cut.staged.count in
      let l = length-below held place in
      let e = ap length is_below in
      omega arith

  pub cut-step : IsStep was old now new
  cut-step = record {
    staged = record {
      chain = cut.kept.chain;
      count = fewer;
      inside =
          λ b t. let m = among-untouch (touched_of was.chains old) len b (subst (λ ns. IsTrue (is_among ns b)) cut-touched t) in let i = cut.staged.inside b m.1 in let s = cut_size in omega arith;
      behind = behind;
      limits = ((let l = cut.staged.limits.0 in let a = cut_limit in let b = cut_base in omega arith), (let l = cut.staged.limits.1 in let a = cut_limit in let b = cut_size in omega arith));
      most = ((let m = cut.staged.most.0 in let b = cut_base in omega arith), (let m = cut.staged.most.1 in let b = cut_size in omega arith));
    };
    leaves = record {
      kept = cut.kept;
      free =
          let f : now.free ≡ (was.free + length held) - length (below held place) = ap (λ p. p.free) cut.is in
          let c = cut.staged.count in
          let l = length-below held place in
          let e = ap length is_below in
          let t = fewer in
          omega arith;
      blocks = ap (λ p. p.blocks) cut.is;
      base = cut_base;
    };
    size = cut_size;
    limit = cut_limit;
  }

-- ---- the end of a block is cleared
pub record IsCleared (was now : Pool) (old new : StagedFile) (low : ℕ) : Type 0 where
  pub staged : IsStaged was.chains old
  pub valid : IsPool was
  pub there : IsTrue (is_among (touched_of was.chains old) (low / 65536))
  pub is : now ≡ write_block was old.chain (low / 65536) (low % 65536) (zeros (65536 - low % 65536))
  pub kept : Keeps was.chains now.chains old.chain new.chain
  pub same : new ≡ old

pub zeros-fit : (low : ℕ) → low % 65536 + length (zeros (65536 - low % 65536)) ≤ 65536
zeros-fit low = let n = length-zeros (65536 - low % 65536) in omega arith

module _ (was now : Pool) (old new : StagedFile) (low : ℕ) (cleared : IsCleared was now old new low) where
  as_copied : IsCopied was now old new low (zeros (65536 - low % 65536))
  as_copied = record {
    staged = cleared.staged;
    valid = cleared.valid;
    there = cleared.there;
    block = zeros-fit low;
    tail = λ k le. get-zeros (65536 - low % 65536) k;
    is = cleared.is;
    kept = cleared.kept;
    same = cleared.same;
  }

  pub cleared-step : IsStep was old now new
  cleared-step = copied-step was now old new low (zeros (65536 - low % 65536)) as_copied

  pub cleared-touched : touched_of now.chains new ≡ touched_of was.chains old
  cleared-touched = copied-touched was now old new low (zeros (65536 - low % 65536)) as_copied

  pub cleared-bytes : (source : List ℕ) → Clears (byte_at was.chains old source) (byte_at now.chains new source) low ((low / 65536 + 1) * 65536)
  cleared-bytes source =
      let puts = copied-bytes was now old new low (zeros (65536 - low % 65536)) as_copied source in
      let n = length-zeros (65536 - low % 65536) in
      record {
        inside = λ i a b. puts.inside i a (omega arith) ∙ get-zeros (65536 - low % 65536) (i - low);
        below = puts.below;
        above = λ i ge. puts.above i (omega arith);
      }

-- ---- another length
limit_same : (o : Option (List ℕ)) (limit len : ℕ) (source : List ℕ) (i : ℕ) → i < len → byte_in o (min limit len) source i ≡ byte_in o limit source i
limit_same None limit len source i lt = decide (cases_lt i limit)
  where
    decide : (i < limit) ⊎ (limit ≤ i) → source_byte (min limit len) source i ≡ source_byte limit source i
    decide (inl l) = ap (λ t. cond t (get_or source i 0) 0) (lt-ltb i (min limit len) (omega arith) ∙ sym (lt-ltb i limit l))
    decide (inr g) = ap (λ t. cond t (get_or source i 0) 0) (le-ltb i (min limit len) (omega arith) ∙ sym (le-ltb i limit g))
limit_same (Some b) limit len source i lt = refl

limit_any : (o : Option (List ℕ)) (limit other : ℕ) (source : List ℕ) (i : ℕ) → IsSome o → byte_in o limit source i ≡ byte_in o other source i
limit_any None limit other source i some = absurd (false≢true some)
limit_any (Some b) limit other source i some = refl

-- the content is shorter
module _ (was : Pool) (old : StagedFile) (now : Pool) (file new : StagedFile) (len : ℕ) (is : IsStaged was.chains old) (lt : len < old.size) (step : IsStep was old now file)
    (touched : touched_of now.chains file ≡ untouch (touched_of was.chains old) len)
    (kept : (source : List ℕ) (i : ℕ) → i < len → byte_at now.chains file source i ≡ byte_at was.chains old source i)
    (cleared : (source : List ℕ) (i : ℕ) → len ≤ i → IsTrue (is_among (touched_of now.chains file) (i / 65536)) → byte_at now.chains file source i ≡ 0)
    (short : new ≡ record file { size = len; limit = min file.limit len }) where
  abbrev cutoff : StagedFile
  cutoff = record file { size = len; limit = min file.limit len }

  before : (source : List ℕ) (i : ℕ) → i < len → byte_at now.chains cutoff source i ≡ byte_at was.chains old source i
  before source i l = limit_same (at (entries_of now.chains file.chain) (i / 65536)) file.limit len source i l ∙ kept source i l

  after : (source : List ℕ) (i : ℕ) → len ≤ i → byte_at now.chains cutoff source i ≡ 0
  after source i ge = decide (cases_Bool (is_among (touched_of now.chains file) (i / 65536)))
    where
      decide : (is_among (touched_of now.chains file) (i / 65536) ≡ true) ⊎ (is_among (touched_of now.chains file) (i / 65536) ≡ false) → byte_at now.chains cutoff source i ≡ 0
      decide (inl t) =
          limit_any (at (entries_of now.chains file.chain) (i / 65536)) (min file.limit len) file.limit source i (sym (among-positions (entries_of now.chains file.chain) (i / 65536)) ∙ t)
          ∙ cleared source i ge t
      decide (inr f) = ap (λ o. byte_in o (min file.limit len) source i) (none-among (entries_of now.chains file.chain) (i / 65536) f)
          ∙ ap (λ t. cond t (get_or source i 0) 0) (le-ltb i (min file.limit len) (omega arith))

  pub shorter-staged : IsStaged now.chains new
  shorter-staged = subst (IsStaged now.chains) (sym short) (record {
    chain = step.staged.chain;
    count = step.staged.count;
    inside = λ b t. (among-untouch (touched_of was.chains old) len b (subst (λ ns. IsTrue (is_among ns b)) touched t)).0;
    behind = after;
    limits = ((let l = step.staged.limits.0 in omega arith), (omega arith));
    most = (step.staged.most.0, (let m = is.most.1 in omega arith));
  })

  pub shorter-leaves : Leaves was old now new
  shorter-leaves = subst (λ n. Leaves was old now n) (sym short) (record { kept = step.leaves.kept; free = step.leaves.free; blocks = step.leaves.blocks; base = step.leaves.base })

  pub shorter-shows : (source : List ℕ) → staging_of now.chains new source ≡ resized (staging_of was.chains old source) len
  shorter-shows source = ap (λ n. staging_of now.chains n source) short ∙ (λ i. record {
    content = bytes-resized (byte_at was.chains old source) (byte_at now.chains cutoff source) old.size len (is.behind source) (before source) i;
    touched = touched i;
    limit = ap (λ l. min l len) step.limit i;
  })

-- the content is longer, or as long
module _ (was : Pool) (old new : StagedFile) (len : ℕ) (is : IsStaged was.chains old) (ge : old.size ≤ len) (longer : new ≡ record old { size = max old.size len }) where
  pub longer-leaves : Leaves was old was new
  longer-leaves = subst (λ n. Leaves was old was n) (sym longer) (record {
    kept = record { others = λ q s n. refl; apart = λ q s n. n; chain = is.chain };
    free = refl;
    blocks = refl;
    base = refl;
  })

  pub longer-shows : (source : List ℕ) → staging_of was.chains new source ≡ resized (staging_of was.chains old source) len
  longer-shows source = ap (λ n. staging_of was.chains n source) longer ∙ (λ i. record {
    content = (ap (bytes_below (byte_at was.chains old source)) (let e : max old.size len ≡ len = omega arith in e)
        ∙ bytes-resized (byte_at was.chains old source) (byte_at was.chains old source) old.size len (is.behind source) (λ k l. refl)) i;
    touched = sym (untouch-none (touched_of was.chains old) len (λ b t. let h = is.inside b t in omega arith)) i;
    limit = (let l = is.limits.1 in let e : old.limit ≡ min old.limit len = omega arith in e) i;
  })
