-- Contents that are put into chains of their own, block by block.
use Rattle.std.proofs.Common.{◌≡◌, ℕ, ◌+◌, ◌*◌, ◌/◌, ◌≤◌, List, [], ◌∷◌, ◌++◌, Option, None, Some, IsSome, is_some, refl, sym, ap, subst, ◌∙◌, length, take, drop, nat_eq, nat_lt, append_assoc, length-append, arith}
use Rattle.std.proofs.lemmas.List.{length-take, take_all}
use Rattle.std.proofs.Math.Seq.{take-append_seam}
use Rattle.std.specs.Map.{set_value}
use Rattle.std.specs.Option.{unwrap_or}
use Rattle.staging_spec.specs.Content.{zeros}
use Rattle.staging_spec.proofs.ContentLaws.{length-zeros}
use Rattle.block_pool.specs.Blocks.{overwritten}
use Rattle.block_pool.specs.Chains.{Entries, entries_of, without, at, inserted}
use Rattle.block_pool.specs.Pool.{Pool, Keeps, AllSized, put_block, write_block, take_chain, block_at}
use Rattle.block_pool.proofs.Lists.{AllBelow}
use Rattle.block_pool.proofs.PoolLaws.{length-overwritten}
use Rattle.block_pool.proofs.Taking.{put_entries}
use Rattle.block_pool.proofs.Totals.{Keeps-then}
use Rattle.file_cache.specs.Stored.{joined, IsNumbered, IsAppended, IsStoredAs}
use Rattle.file_cache.proofs.Numbered.{numbered_below, IsNumbered-more, inserted_behind, at_behind, set_behind, AllSized-more, length-joined, joined-more}

-- bytes for one block fit it
pub part_fits : (part bytes : List ℕ) (before : ℕ) → part ≡ take 65536 (drop before bytes) → length part ≤ 65536
part_fits part bytes before is = rw is (let l = length-take 65536 (drop before bytes) in omega arith)

-- ---- a block more
module _ (was mid : Pool) (head new : Option ℕ) (position : ℕ) (num : IsNumbered 0 (entries_of was.chains head)) (count : length (entries_of was.chains head) ≡ position)
    (put : mid ≡ put_block was head new position) (some : IsSome new) where
  all_below : AllBelow position (entries_of was.chains head)
  all_below = numbered_below 0 position (entries_of was.chains head) num (omega arith)

  block_put : entries_of mid.chains new ≡ entries_of was.chains head ++ (position, zeros 65536) ∷ []
  block_put =
      ap (λ p. entries_of p.chains new) put ∙ put_entries (without was.chains head) new (inserted (entries_of was.chains head) position (zeros 65536)) some
      ∙ inserted_behind position (entries_of was.chains head) (zeros 65536) num count

  block_is : at (entries_of mid.chains new) position ≡ Some (zeros 65536)
  block_is = ap (λ es. at es position) block_put ∙ at_behind position (entries_of was.chains head) (zeros 65536) all_below

  pub block_there : IsSome (at (entries_of mid.chains new) position)
  block_there = ap is_some block_is

  pub IsAppended-written : (now : Pool) (bytes : List ℕ) → 1 ≤ was.free → Keeps was.chains mid.chains head new → now ≡ write_block mid new position 0 bytes → Keeps mid.chains now.chains new new
      → IsAppended was now head new position bytes
  IsAppended-written now bytes free first write second = record {
    entries = written;
    kept = Keeps-then was.chains mid.chains now.chains head new new first second;
    free = omega (arith, ap (λ p. p.free) put, ap (λ p. p.free) write);
    blocks = ap (λ p. p.blocks) write ∙ ap (λ p. p.blocks) put;
  }
    where
      written : entries_of now.chains new ≡ entries_of was.chains head ++ (position, overwritten (zeros 65536) 0 bytes) ∷ []
      written =
          ap (λ p. entries_of p.chains new) write
          ∙ put_entries (without mid.chains new) new (set_value (nat_eq position) (entries_of mid.chains new) (overwritten (block_at mid.chains new position) 0 bytes)) some
          ∙ (λ i. set_value (nat_eq position) (block_put i) (overwritten (unwrap_or (block_is i) []) 0 bytes))
          ∙ set_behind position (entries_of was.chains head) (zeros 65536) (overwritten (zeros 65536) 0 bytes) all_below

-- ---- so many blocks
-- these bytes were put into a chain of so many blocks
pub record IsStoring (was now : Pool) (chain : Option ℕ) (done : List ℕ) (position : ℕ) : Type 0 where
  pub numbered : IsNumbered 0 (entries_of now.chains chain)
  pub sized : AllSized (entries_of now.chains chain)
  pub count : length (entries_of now.chains chain) ≡ position
  pub content : take (length done) (joined (entries_of now.chains chain)) ≡ done
  pub kept : Keeps was.chains now.chains None chain
  pub free : now.free + position ≡ was.free
  pub blocks : now.blocks ≡ was.blocks

pub IsStoring-none : (was now : Pool) (chain : Option ℕ) → now ≡ take_chain was chain 0 → Keeps was.chains now.chains None chain → is_some chain ≡ nat_lt 0 0 → IsStoring was now chain [] 0
IsStoring-none was now None take kept none = record {
  numbered = tt;
  sized = tt;
  count = refl;
  content = refl;
  kept = kept;
  free = omega (arith, ap (λ p. p.free) take);
  blocks = ap (λ p. p.blocks) take;
}
IsStoring-none was now (Some head) take kept none = absurd cc

pub IsStoring-more : (was now next : Pool) (chain new : Option ℕ) (done part : List ℕ) (position : ℕ) → IsStoring was now chain done position → IsAppended now next chain new position part
    → length done ≡ position * 65536 → length part ≤ 65536 → IsStoring was next new (done ++ part) (position + 1)
IsStoring-more was now next chain new done part position s a whole fits = record {
  numbered = subst (IsNumbered 0) (sym a.entries) (IsNumbered-more 0 position es block s.numbered (omega (arith, s.count)));
  sized = subst AllSized (sym a.entries) (AllSized-more position es block s.sized size);
  count = ap length a.entries ∙ length-append es ((position, block) ∷ []) ∙ ap (λ n. n + 1) s.count;
  content = ap (λ xs. take (length (done ++ part)) (joined xs)) a.entries ∙ ap (take (length (done ++ part))) bytes ∙ take-append_seam (done ++ part) (drop (length part) (zeros 65536));
  kept = Keeps-then was.chains now.chains next.chains None chain new s.kept a.kept;
  free = omega (arith, s.free, a.free);
  blocks = a.blocks ∙ s.blocks;
}
  where
    es : Entries (List ℕ)
    es = entries_of now.chains chain

    block : List ℕ
    block = overwritten (zeros 65536) 0 part

    size : length block ≡ 65536
    size = length-overwritten (zeros 65536) 0 part (let z = length-zeros 65536 in omega arith) ∙ length-zeros 65536

    all_done : joined es ≡ done
    all_done = sym (take_all (length done) (joined es) (let l = length-joined es s.sized in omega (arith, s.count))) ∙ s.content

    bytes : joined (es ++ (position, block) ∷ []) ≡ (done ++ part) ++ drop (length part) (zeros 65536)
    bytes =
        joined-more position es block ∙ ap (λ xs. xs ++ block) all_done
        ∙ ap (λ n. done ++ (part ++ drop n (zeros 65536))) (let e : 0 + length part ≡ length part = omega arith in e)
        ∙ sym (append_assoc done part (drop (length part) (zeros 65536)))

pub stored_as : (was now : Pool) (chain : Option ℕ) (bytes : List ℕ) → IsStoring was now chain bytes ((length bytes + 65535) / 65536) → 1 ≤ length bytes
    → IsStoredAs was now (record { chain = chain; len = length bytes }) bytes
stored_as was now chain bytes s some = record {
  stored = record { there = s.kept.chain; numbered = s.numbered; sized = s.sized; blocks = s.count; some = some };
  content = s.content;
  kept = s.kept;
  free = s.free;
  blocks = s.blocks;
}
