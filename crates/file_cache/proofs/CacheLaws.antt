-- What the list of kept files is where a file goes or a fill ends.
use Rattle.std.proofs.Common.{◌≡◌, ℕ, ◌+◌, ◌-◌, ◌<◌, ◌≤◌, Bool, true, false, cond, List, [], ◌∷◌, ◌++◌, length, take, slice_get, get_or, Option, Some, None, is_some, sym, ap, ◌∙◌, refl, arith}
use Rattle.std.proofs.lemmas.List.{take_more}
use Rattle.std.proofs.lemmas.Option.{slice_get_within, get_or_from_slice_get, slice_get-get_or}
use Rattle.std.proofs.Math.Seq.{take-length}
use Rattle.std.specs.Option.{ForSome}
use Rattle.cache_spec.specs.declared.file_key.FileKey.{FileKey}
use Rattle.cache_spec.specs.KeptFiles.{KeptFiles, blocks_of, blocks_in, same_file, content_of, is_kept, used, fitting, made_room, NoneEmpty, IsCache}
use Rattle.cache_spec.proofs.KeptLaws.{fitting-last, blocks_of-within}
use Rattle.file_cache.specs.Kept.{Cache, IsPut, but_last, left_by}
use Rattle.file_cache.specs.declared.filled.Filled.{Filled}
use Rattle.file_cache.specs.declared.filled.Filled.TheVariants.{Kept, TooLarge, NoMemory}

-- ---- the last file
pub split_last : {X : Type 0} (files : List X) (last : X) → slice_get files (length files - 1) ≡ Some last → files ≡ but_last files ++ last ∷ []
split_last files last is =
    let within : length files - 1 < length files = slice_get_within files (length files - 1) last is in
    let n : length files - 1 + 1 ≡ length files = omega (arith, within) in
    sym (take-length files) ∙ ap (λ k. take k files) (sym n) ∙ take_more files (length files - 1) last within
    ∙ ap (λ x. but_last files ++ x ∷ []) (get_or_from_slice_get files (length files - 1) last last is)

some_last : (files : KeptFiles) → 1 ≤ length files → (last : FileKey × List ℕ) × (files ≡ but_last files ++ last ∷ [])
some_last [] some = absurd (omega arith)
some_last (file ∷ files) some = (
  get_or (file ∷ files) (length (file ∷ files) - 1) file,
  split_last (file ∷ files) (get_or (file ∷ files) (length (file ∷ files) - 1) file) (slice_get-get_or (file ∷ files) (length (file ∷ files) - 1) file (omega arith)),
)

pub fitting-but_last : (room : ℕ) (files : KeptFiles) → 1 ≤ length files → room < blocks_in files → fitting room (but_last files) ≡ fitting room files
fitting-but_last room files some over =
    let s = some_last files some in
    sym (fitting-last room (but_last files) s.0 (let more : room < blocks_in (but_last files ++ s.0 ∷ []) = omega (arith, over, ap blocks_in s.1) in more)) ∙ ap (fitting room) (sym s.1)

pub some_file : (files : KeptFiles) → 0 < blocks_in files → 1 ≤ length files
some_file [] above = absurd (omega arith)
some_file (file ∷ files) above = omega arith

pub blocks_in-push : (files : KeptFiles) (last : FileKey × List ℕ) → blocks_in (files ++ last ∷ []) ≡ blocks_in files + blocks_of last.1
blocks_in-push [] last = omega arith
blocks_in-push (file ∷ files) last = omega (arith, blocks_in-push files last)

-- ---- a fill
pub not_kept : (files : KeptFiles) (key : FileKey) → is_kept files key ≡ false → content_of files key ≡ None
not_kept files key = by (content_of files key)
  where
    by : (o : Option (List ℕ)) → is_some o ≡ false → o ≡ None
    by None e = refl
    by (Some content) e = cc

pub kept_fits : (blocks : ℕ) (files : KeptFiles) (key : FileKey) (content : List ℕ) → IsCache blocks files → ForSome (content_of files key) (λ kept. kept ≡ content) → is_kept files key ≡ true
    → blocks_of content ≤ blocks
kept_fits blocks files key content cache same there = by (content_of files key) refl there
  where
    by : (o : Option (List ℕ)) → content_of files key ≡ o → is_some o ≡ true → blocks_of content ≤ blocks
    by None e h = cc
    by (Some kept) e h = let within = blocks_of-within files key kept e in omega (arith, within, cache.within, ap blocks_of (same kept e))

pub fill_left : (old mid new : Cache) (key : FileKey) (content : List ℕ) (result : Filled) → IsPut mid new key content result → mid ≡ record old { files = made_room old.blocks old.files content }
    → is_kept old.files key ≡ false → new ≡ record old { files = left_by result old.blocks old.files key content }
fill_left old mid new key content Kept put is none =
    put ∙ (λ i. record (is i) { files = (key, content) ∷ (is i).files })
    ∙ ap (λ b. record old { files = cond b (used old.files key) ((key, content) ∷ made_room old.blocks old.files content) }) (sym none)
fill_left old mid new key content TooLarge put is none = absurd put
fill_left old mid new key content NoMemory put is none = put ∙ is

-- ---- tests
-- a kept file has a byte
pub some_byte : (files : KeptFiles) (key : FileKey) (content : List ℕ) → NoneEmpty files → content_of files key ≡ Some content → 1 ≤ length content
some_byte [] key content none e = absurd (let never : None ≡ Some content = e in cc)
some_byte (file ∷ files) key content none e = by (same_file key file.0) (some_byte files key content none.1) e
  where
    by : (b : Bool) → (content_of files key ≡ Some content → 1 ≤ length content) → cond b (Some file.1) (content_of files key) ≡ Some content → 1 ≤ length content
    by true rest here = let same : file.1 ≡ content = cc in omega (arith, none.0, ap length same)
    by false rest later = rest later
