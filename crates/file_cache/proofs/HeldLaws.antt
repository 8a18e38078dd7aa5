-- What holds of the parts of the cache after a use, and where a file goes, is put, or finds no memory for its key.
use Rattle.std.proofs.Common.{◌≡◌, ℕ, ◌+◌, ◌-◌, ◌≤◌, List, [], ◌∷◌, length, take, slice_get, Option, Some, None, option_map, refl, sym, ap, subst, ◌∙◌, arith}
use Rattle.std.proofs.lemmas.List.{map-append, take_all, take-map, length-map}
use Rattle.std.specs.Map.{lookup_entry, remove_entry}
use Rattle.std.specs.Option.{option_map_or}
use Rattle.block_pool.specs.Chains.{entries_of}
use Rattle.block_pool.specs.Pool.{Pool, Keeps, give_chain}
use Rattle.cache_spec.specs.declared.file_key.FileKey.{FileKey}
use Rattle.cache_spec.specs.KeptFiles.{same_file, blocks_of, blocks_in, content_of, IsCache}
use Rattle.cache_spec.proofs.KeptLaws.{blocks_in-used, length-within, entry_absent}
use Rattle.lru.specs.LruCache.{LruCache, lru_cache, put_entries, promoted}
use Rattle.file_cache.specs.declared.stored_file.StoredFile.{StoredFile}
use Rattle.file_cache.specs.Stored.{content_in, IsStoredAs, StoredFiles, contents_in, AllStored}
use Rattle.file_cache.specs.Kept.{IsHeld, but_last}
use Rattle.file_cache.proofs.CacheLaws.{split_last, blocks_in-push}
use Rattle.file_cache.proofs.Contents.{AllKept, files_kept, none_empty_chain, contents_in-promoted, all_stored-promoted, AreSplit, all_stored-split, none_empty_content, entry-map}
use Rattle.file_cache.proofs.Reading.{blocks_of-content_in}

module _ (files : StoredFiles) (cap : ℕ) (region : Pool) (blocks : ℕ) (h : IsHeld files cap region blocks) where
  pub IsCache-held : IsCache blocks (contents_in region.chains files)
  IsCache-held = record { within = omega (arith, h.all); none_empty = none_empty_content region.chains files h.stored }

  pub IsHeld-promoted : (key : FileKey) → IsHeld (promoted (same_file key) files) cap region blocks
  IsHeld-promoted key = record {
    stored = all_stored-promoted region.chains (same_file key) files h.stored;
    all = ap (λ n. region.free + n) (ap blocks_in (contents_in-promoted region.chains files key) ∙ blocks_in-used key (contents_in region.chains files)) ∙ h.all;
    size = h.size;
    unbounded = h.unbounded;
  }

  -- ---- the last file goes
  module _ (last : FileKey × StoredFile) (is : slice_get files (length files - 1) ≡ Some last) where
    pub last_split : AreSplit region.chains (but_last files) last
    last_split = all_stored-split region.chains (but_last files) last (subst (AllStored region.chains) (split_last files last is) h.stored)

    last_blocks : blocks_in (contents_in region.chains files) ≡ blocks_in (contents_in region.chains (but_last files)) + length (entries_of region.chains last.1.chain)
    last_blocks =
        ap (λ fs. blocks_in (contents_in region.chains fs)) (split_last files last is)
        ∙ ap blocks_in (map-append (λ (file : FileKey × StoredFile). (file.0, content_in region.chains file.1)) (but_last files) (last ∷ []))
        ∙ blocks_in-push (contents_in region.chains (but_last files)) (last.0, content_in region.chains last.1)
        ∙ ap (λ n. blocks_in (contents_in region.chains (but_last files)) + n) (blocks_of-content_in region.chains last.1 last_split.stored)

    module _ (now : Pool) (given : now ≡ give_chain region last.1.chain) (kept : Keeps region.chains now.chains last.1.chain None) where
      others_kept : AllKept region.chains now.chains last.1.chain None kept (but_last files)
      others_kept = files_kept region.chains now.chains last.1.chain None kept (but_last files) last_split.front last_split.apart

      pub IsHeld-dropped : IsHeld (but_last files) cap now blocks
      IsHeld-dropped = record {
        stored = others_kept.stored;
        all = omega (arith, ap blocks_in others_kept.contents, ap (λ p. p.free) given, last_blocks, h.all);
        size = ap (λ p. p.blocks) given ∙ h.size;
        unbounded = h.unbounded;
      }

      pub contents-dropped : contents_in now.chains (but_last files) ≡ but_last (contents_in region.chains files)
      contents-dropped =
          others_kept.contents
          ∙ sym (take-map (λ (file : FileKey × StoredFile). (file.0, content_in region.chains file.1)) (length files - 1) files)
          ∙ ap (λ n. take (n - 1) (contents_in region.chains files)) (sym (length-map files (λ (file : FileKey × StoredFile). (file.0, content_in region.chains file.1))))

  -- ---- a new file
  module _ (key : FileKey) (file : StoredFile) (bytes : List ℕ) (mid : Pool) (s : IsStoredAs region mid file bytes) where
    still_kept : AllKept region.chains mid.chains None file.chain s.kept files
    still_kept = files_kept region.chains mid.chains None file.chain s.kept files h.stored (none_empty_chain region.chains files h.stored)

    pub IsHeld-put : IsHeld ((key, file) ∷ files) cap mid blocks
    IsHeld-put = record {
      stored = (s.stored, still_kept.apart, still_kept.stored);
      all = omega (arith, ap blocks_in still_kept.contents, ap blocks_of s.content, s.free, h.all);
      size = s.blocks ∙ h.size;
      unbounded = h.unbounded;
    }

    pub contents-put : contents_in mid.chains ((key, file) ∷ files) ≡ (key, bytes) ∷ contents_in region.chains files
    contents-put = λ i. (key, s.content i) ∷ still_kept.contents i

    -- its blocks are given back
    module _ (now : Pool) (given : now ≡ give_chain mid file.chain) (kept : Keeps mid.chains now.chains file.chain None) where
      kept_again : AllKept mid.chains now.chains file.chain None kept files
      kept_again = files_kept mid.chains now.chains file.chain None kept files still_kept.stored still_kept.apart

      pub contents-refused : contents_in now.chains files ≡ contents_in region.chains files
      contents-refused = kept_again.contents ∙ still_kept.contents

      pub IsHeld-refused : IsHeld files cap now blocks
      IsHeld-refused = record {
        stored = kept_again.stored;
        all = omega (arith, ap blocks_in contents-refused, ap (λ p. p.free) given, blocks_of-content_in mid.chains file s.stored, ap blocks_of s.content, s.free, h.all);
        size = ap (λ p. p.blocks) given ∙ s.blocks ∙ h.size;
        unbounded = h.unbounded;
      }

-- what `put` leaves where the file isn't kept, by the copy of the key that it was handed
pub put_is : (m now : LruCache FileKey StoredFile) (region : Pool) (blocks : ℕ) (key own : FileKey) (file : StoredFile) (bytes : List ℕ) → IsHeld m.entries m.cap region blocks
    → content_of (contents_in region.chains m.entries) key ≡ None → 1 ≤ length bytes → blocks_in (contents_in region.chains m.entries) + blocks_of bytes ≤ blocks
    → own ≡ key → now ≡ lru_cache (put_entries same_file m own file) m.cap → now ≡ lru_cache ((key, file) ∷ m.entries) m.cap
put_is m now region blocks key own file bytes h none some fits same is =
    is ∙ ap (λ k. lru_cache (put_entries same_file m k file) m.cap) same
    ∙ ap (λ o. lru_cache (option_map_or (λ (e : FileKey × StoredFile). (e.0, file) ∷ remove_entry (same_file key) m.entries) o ((key, file) ∷ take (m.cap - 1) m.entries)) m.cap) absent
    ∙ ap (λ es. lru_cache ((key, file) ∷ es) m.cap) (take_all (m.cap - 1) m.entries (omega (arith, few, fits, h.unbounded)))
  where
    unmapped : {X Y : Type 0} (f : X → Y) (o : Option X) → option_map f o ≡ None → o ≡ None
    unmapped f None e = refl
    unmapped f (Some x) e = cc

    absent : lookup_entry (same_file key) m.entries ≡ None
    absent = unmapped _ (lookup_entry (same_file key) m.entries) (sym (entry-map (content_in region.chains) (same_file key) m.entries) ∙ entry_absent (contents_in region.chains m.entries) key none)

    few : length m.entries ≤ blocks_in (contents_in region.chains m.entries)
    few = subst (λ n. n ≤ blocks_in (contents_in region.chains m.entries)) (length-map m.entries (λ (file : FileKey × StoredFile). (file.0, content_in region.chains file.1)))
        (length-within (contents_in region.chains m.entries) (IsCache-held m.entries m.cap region blocks h).none_empty)
