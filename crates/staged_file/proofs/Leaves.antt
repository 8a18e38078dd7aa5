-- What the smallest changes leave: bytes copied into a touched block, and a block of zeros more.
use Rattle.std.proofs.Common.{◌≡◌, ℕ, ◌+◌, ◌-◌, ◌*◌, ◌/◌, ◌%◌, ◌<◌, ◌≤◌, false, List, [], ◌∷◌, ◌⊎◌, inl, inr, IsSome, IsTrue}
use Rattle.std.proofs.Common.{refl, sym, ap, subst, ◌∙◌, length, get_or, nat_eq, arith}
use Rattle.std.proofs.lemmas.Bool.{cases_eq, cases_lt}
use Rattle.std.proofs.lemmas.List.{length-map}
use Rattle.std.specs.Map.{set_value}
use Rattle.std.specs.Option.{unwrap_or}
use Rattle.staging_spec.specs.Blocks.{is_among, put_number, AllOver, Rise}
use Rattle.staging_spec.specs.Content.{zeros}
use Rattle.staging_spec.proofs.BlockLaws.{touched_few}
use Rattle.block_pool.specs.Blocks.{overwritten}
use Rattle.block_pool.specs.Chains.{Entries, Rises, AllAbove, entries_of, at, inserted, IsChain}
use Rattle.block_pool.specs.Pool.{Pool, Keeps, IsPool, put_block, write_block}
use Rattle.staged_file.specs.Staged.{StagedFile, IsStaged, byte_at, shown_byte, positions, touched_of}
use Rattle.staged_file.specs.Steps.{IsStep, Puts, Zeroes}
use Rattle.staged_file.proofs.Positions.{among-positions, none-among, among-either, positions-inserted, positions-held}
use Rattle.staged_file.proofs.Chains.{entries-put, entries-written, chain-rises, chain-sized, puts-set, zeroes-inserted, length-inserted, length-set_one, positions-set}

-- ---- touched blocks of a content are at most its blocks
over-positions : (low : ℕ) (es : Entries (List ℕ)) → AllAbove low es → AllOver low (positions es)
over-positions low [] above = tt
over-positions low (e ∷ es) above = (above.0, over-positions low es above.1)

rise-positions : (es : Entries (List ℕ)) → Rises es → Rise (positions es)
rise-positions [] rises = tt
rise-positions (e ∷ es) rises = (over-positions e.0 es rises.0, rise-positions es rises.1)

pub few_touched : (es : Entries (List ℕ)) (size : ℕ) → Rises es → ((b : ℕ) → IsTrue (is_among (positions es) b) → b * 65536 < size) → length es * 65536 < size + 65536
few_touched es size rises inside = subst (λ n. n * 65536 < size + 65536) (length-map es (λ e. e.0)) (touched_few (positions es) size (rise-positions es rises) inside)

-- ---- bytes are copied into a touched block
pub record IsCopied (was now : Pool) (old new : StagedFile) (low : ℕ) (part : List ℕ) : Type 0 where
  pub staged : IsStaged was.chains old
  pub valid : IsPool was
  pub there : IsTrue (is_among (touched_of was.chains old) (low / 65536))
  pub block : low % 65536 + length part ≤ 65536
  pub tail : (k : ℕ) → old.size ≤ low + k → get_or part k 0 ≡ 0
  pub is : now ≡ write_block was old.chain (low / 65536) (low % 65536) part
  pub kept : Keeps was.chains now.chains old.chain new.chain
  pub same : new ≡ old

module _ (was now : Pool) (old new : StagedFile) (low : ℕ) (part : List ℕ) (copied : IsCopied was now old new low part) where
  abbrev es : Entries (List ℕ)
  es = entries_of was.chains old.chain

  abbrev fs : Entries (List ℕ)
  fs = entries_of now.chains old.chain

  some : IsSome (at es (low / 65536))
  some = sym (among-positions es (low / 65536)) ∙ copied.there

  is_set : fs ≡ set_value (nat_eq (low / 65536)) es (overwritten (unwrap_or (at es (low / 65536)) []) (low % 65536) part)
  is_set = ap (λ p. entries_of p.chains old.chain) copied.is ∙ entries-written was old.chain (low / 65536) (low % 65536) part some

  own_bytes : (source : List ℕ) → Puts (byte_at was.chains old source) (byte_at now.chains old source) low (low + length part) low part
  own_bytes source =
      let place : (low / 65536) * 65536 + low % 65536 ≡ low = omega arith in
      subst (λ k. Puts (shown_byte es old.limit source) (shown_byte fs old.limit source) k (k + length part) k part) place
      (puts-set es fs old.limit source (low / 65536) (low % 65536) part (chain-sized was old.chain copied.valid) some copied.block is_set)

  own_touched : touched_of now.chains old ≡ touched_of was.chains old
  own_touched = ap positions is_set ∙ positions-set es (low / 65536) (overwritten (unwrap_or (at es (low / 65536)) []) (low % 65536) part)

  own_behind : (source : List ℕ) (i : ℕ) → old.size ≤ i → (i < low) ⊎ (low ≤ i) → (i < low + length part) ⊎ (low + length part ≤ i) → byte_at now.chains old source i ≡ 0
  own_behind source i le (inl lt) d = (own_bytes source).below i lt ∙ copied.staged.behind source i le
  own_behind source i le (inr ge) (inl lt) = (own_bytes source).inside i ge lt ∙ copied.tail (i - low) (omega arith)
  own_behind source i le (inr ge) (inr past) = (own_bytes source).above i past ∙ copied.staged.behind source i le

  own_step : IsStep was old now old
  own_step = record {
    staged = record {
      chain = subst (λ n. IsChain now.chains n.chain) copied.same copied.kept.chain;
      count = copied.staged.count ∙ sym (ap length is_set ∙ length-set_one es (low / 65536) (overwritten (unwrap_or (at es (low / 65536)) []) (low % 65536) part));
      inside = λ b t. copied.staged.inside b (subst (λ ns. IsTrue (is_among ns b)) own_touched t);
      behind = λ source i le. own_behind source i le (cases_lt i low) (cases_lt i (low + length part));
      limits = copied.staged.limits;
      most = copied.staged.most;
    };
    leaves = record {
      kept = subst (λ n. Keeps was.chains now.chains old.chain n.chain) copied.same copied.kept;
      free = ap (λ p. p.free + old.touched) copied.is;
      blocks = ap (λ p. p.blocks) copied.is;
      base = refl;
    };
    size = refl;
    limit = refl;
  }

  pub copied-bytes : (source : List ℕ) → Puts (byte_at was.chains old source) (byte_at now.chains new source) low (low + length part) low part
  copied-bytes source = subst (λ n. Puts (byte_at was.chains old source) (byte_at now.chains n source) low (low + length part) low part) (sym copied.same) (own_bytes source)

  pub copied-touched : touched_of now.chains new ≡ touched_of was.chains old
  copied-touched = ap (λ n. touched_of now.chains n) copied.same ∙ own_touched

  pub copied-held : put_number (touched_of was.chains old) (low / 65536) ≡ touched_of was.chains old
  copied-held = positions-held es (low / 65536) (chain-rises was old.chain copied.valid) copied.there

  pub copied-free : now.free ≡ was.free
  copied-free = ap (λ p. p.free) copied.is

  pub copied-step : IsStep was old now new
  copied-step = subst (λ n. IsStep was old now n) (sym copied.same) own_step

-- ---- a block of zeros more
pub record IsAdded (was now : Pool) (old new : StagedFile) (block : ℕ) : Type 0 where
  pub staged : IsStaged was.chains old
  pub valid : IsPool was
  pub absent : is_among (touched_of was.chains old) block ≡ false
  pub inside : block * 65536 < old.size
  pub free : 0 < was.free
  pub is : now ≡ put_block was old.chain new.chain block
  pub some : IsSome new.chain
  pub kept : Keeps was.chains now.chains old.chain new.chain
  pub same : new ≡ record old { chain = new.chain; touched = old.touched + 1 }

module _ (was now : Pool) (old new : StagedFile) (block : ℕ) (added : IsAdded was now old new block) where
  abbrev known : Entries (List ℕ)
  known = entries_of was.chains old.chain

  abbrev more : Entries (List ℕ)
  more = entries_of now.chains new.chain

  is_more : more ≡ inserted known block (zeros 65536)
  is_more = ap (λ p. entries_of p.chains new.chain) added.is ∙ entries-put was old.chain new.chain block added.some

  same_limit : new.limit ≡ old.limit
  same_limit = ap (λ n. n.limit) added.same

  same_size : new.size ≡ old.size
  same_size = ap (λ n. n.size) added.same

  same_base : new.base ≡ old.base
  same_base = ap (λ n. n.base) added.same

  one_more : new.touched ≡ old.touched + 1
  one_more = ap (λ n. n.touched) added.same

  pub added-bytes : (source : List ℕ) → Zeroes (byte_at was.chains old source) (byte_at now.chains new source) block
  added-bytes source = subst (λ l. Zeroes (shown_byte known old.limit source) (shown_byte more l source) block) (sym same_limit)
      (zeroes-inserted known more old.limit source block (none-among known block added.absent) is_more)

  pub added-touched : touched_of now.chains new ≡ put_number (touched_of was.chains old) block
  added-touched = ap positions is_more ∙ positions-inserted known block (zeros 65536) added.absent

  pub added-free : now.free + 1 ≡ was.free
  added-free = let f = added.free in let e : now.free ≡ was.free - 1 = ap (λ p. p.free) added.is in omega arith

  behind : (source : List ℕ) (i : ℕ) → new.size ≤ i → byte_at now.chains new source i ≡ 0
  behind source i le = decide (cases_eq (i / 65536) block)
    where
      decide : (i / 65536 ≡ block) ⊎ (i / 65536 ≡ block → ⊥) → byte_at now.chains new source i ≡ 0
      decide (inl e) = (added-bytes source).inside i e
      decide (inr n) = (added-bytes source).other i n ∙ added.staged.behind source i (let s = same_size in omega arith)

  pub added-step : IsStep was old now new
  added-step = record {
    staged = record {
      chain = added.kept.chain;
      count = one_more ∙ ap (λ n. n + 1) added.staged.count ∙ sym (ap length is_more ∙ length-inserted known block (zeros 65536));
      inside = λ b t. is_inside b (among-either (touched_of was.chains old) block b (subst (λ ns. IsTrue (is_among ns b)) added-touched t));
      behind = behind;
      limits = ((let l = added.staged.limits.0 in let a = same_limit in let b = same_base in omega arith), (let l = added.staged.limits.1 in let a = same_limit in let b = same_size in omega arith));
      most = ((let m = added.staged.most.0 in let b = same_base in omega arith), (let m = added.staged.most.1 in let b = same_size in omega arith));
    };
    leaves = record {
      kept = added.kept;
      free = (let f = added-free in let o = one_more in omega arith);
      blocks = ap (λ p. p.blocks) added.is;
      base = same_base;
    };
    size = same_size;
    limit = same_limit;
  }
    where
      is_inside : (b : ℕ) → (b ≡ block) ⊎ IsTrue (is_among (touched_of was.chains old) b) → b * 65536 < new.size
      is_inside b (inl e) = let i = added.inside in let s = same_size in omega arith
      is_inside b (inr t) = let i = added.staged.inside b t in let s = same_size in omega arith
