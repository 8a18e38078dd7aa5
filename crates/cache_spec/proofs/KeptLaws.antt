-- Laws of the list of kept files: its blocks stay within the cache, the file used longest ago goes first, and what was put
-- is found under its own key alone.
use Rattle.std.proofs.Common.{◌≡◌, ℕ, suc, ◌+◌, ◌-◌, ◌<◌, ◌≤◌, Bool, true, false, cond, ◌&&◌, List, [], ◌∷◌, ◌++◌, Option, Some, None, refl, sym, ap, subst, ◌∙◌, is_some, nat_le, length, nat_eq, arith}
use Rattle.std.proofs.lemmas.Bool.Decides.{Decides-eqb, nat_tests}
use Rattle.std.proofs.lemmas.Slice.Eq.{bytes_eq-Decides}
use Rattle.std.specs.Option.{option_map_or}
use Rattle.std.specs.Map.{lookup, lookup_entry, remove_entry}
use Rattle.cache_spec.specs.declared.file_key.FileKey.{FileKey}
use Rattle.cache_spec.specs.KeptFiles.{KeptFiles, same_file, blocks_of, blocks_in, content_of, is_kept, used, fitting, made_room, filled, NoneEmpty, IsCache}

pub same_file-refl : (key : FileKey) → same_file key key ≡ true
same_file-refl key =
    ap (λ t. t && nat_eq key.generation key.generation) ((bytes_eq-Decides key.name key.name).1 refl) ∙ (Decides-eqb key.generation key.generation).1 refl

-- ---- what stays where room is made
pub blocks_in-fitting : (room : ℕ) (files : KeptFiles) → blocks_in (fitting room files) ≤ room
blocks_in-fitting room [] = omega arith
blocks_in-fitting room (file ∷ files) = by (nat_le (blocks_of file.1) room) refl (blocks_in-fitting (room - blocks_of file.1) files)
  where
    by : (b : Bool) → nat_le (blocks_of file.1) room ≡ b → blocks_in (fitting (room - blocks_of file.1) files) ≤ room - blocks_of file.1
        → blocks_in (cond b (file ∷ fitting (room - blocks_of file.1) files) []) ≤ room
    by true fits rest = let within : blocks_of file.1 ≤ room = grind (arith, nat_tests) in omega (arith, rest, within)
    by false fits rest = omega arith

-- where all files fit, all stay
pub fitting-all : (room : ℕ) (files : KeptFiles) → blocks_in files ≤ room → fitting room files ≡ files
fitting-all room [] within = refl
fitting-all room (file ∷ files) within =
    let fits : nat_le (blocks_of file.1) room ≡ true = grind (arith, nat_tests) in
    ap (λ b. cond b (file ∷ fitting (room - blocks_of file.1) files) []) fits ∙ ap (λ rest. file ∷ rest) (fitting-all (room - blocks_of file.1) files (omega arith))

-- where they don't, the file used longest ago goes
pub fitting-last : (room : ℕ) (files : KeptFiles) (last : FileKey × List ℕ) → room < blocks_in (files ++ last ∷ []) → fitting room (files ++ last ∷ []) ≡ fitting room files
fitting-last room [] last over = let big : nat_le (blocks_of last.1) room ≡ false = grind (arith, nat_tests) in ap (λ b. cond b (last ∷ []) []) big
fitting-last room (file ∷ files) last over = by (nat_le (blocks_of file.1) room) refl (fitting-last (room - blocks_of file.1) files last)
  where
    by : (b : Bool) → nat_le (blocks_of file.1) room ≡ b
        → (room - blocks_of file.1 < blocks_in (files ++ last ∷ []) → fitting (room - blocks_of file.1) (files ++ last ∷ []) ≡ fitting (room - blocks_of file.1) files)
        → cond b (file ∷ fitting (room - blocks_of file.1) (files ++ last ∷ [])) [] ≡ cond b (file ∷ fitting (room - blocks_of file.1) files) []
    by true fits rest = let within : blocks_of file.1 ≤ room = grind (arith, nat_tests) in ap (λ files. file ∷ files) (rest (omega (arith, over, within)))
    by false fits rest = refl

none_empty-fitting : (room : ℕ) (files : KeptFiles) → NoneEmpty files → NoneEmpty (fitting room files)
none_empty-fitting room [] none = none
none_empty-fitting room (file ∷ files) none = by (nat_le (blocks_of file.1) room) (none_empty-fitting (room - blocks_of file.1) files none.1)
  where
    by : (b : Bool) → NoneEmpty (fitting (room - blocks_of file.1) files) → NoneEmpty (cond b (file ∷ fitting (room - blocks_of file.1) files) [])
    by true rest = (none.0, rest)
    by false rest = tt

-- ---- a file that comes to the front
module _ (key : FileKey) where
  -- an entry that is found: it is the key's, and the files are it and the others
  pub record Found (files : KeptFiles) (file : FileKey × List ℕ) : Type 0 where
    pub own : same_file key file.0 ≡ true
    pub content : content_of files key ≡ Some file.1
    pub blocks : blocks_in files ≡ blocks_of file.1 + blocks_in (remove_entry (same_file key) files)
    pub others : NoneEmpty files → NoneEmpty (file ∷ remove_entry (same_file key) files)

  found_later : (first : FileKey × List ℕ) (files : KeptFiles) (file : FileKey × List ℕ) → same_file key first.0 ≡ false → Found files file → Found (first ∷ files) file
  found_later first files file other f = record {
    own = f.own;
    content = ap (λ b. cond b (Some first.1) (content_of files key)) other ∙ f.content;
    blocks = omega (arith, f.blocks, ap (λ b. blocks_in (cond b files (first ∷ remove_entry (same_file key) files))) other);
    others = λ none. let rest = f.others none.1 in (rest.0, rw other (none.0, rest.1));
  }

  pub found : (files : KeptFiles) (file : FileKey × List ℕ) → lookup_entry (same_file key) files ≡ Some file → Found files file
  found [] file = λ e. absurd (nothing e)
    where
      nothing : None ≡ Some file → ⊥
      nothing same = cc
  found (first ∷ files) file = by (same_file key first.0) refl (found files file)
    where
      by : (b : Bool) → same_file key first.0 ≡ b → (lookup_entry (same_file key) files ≡ Some file → Found files file)
          → cond b (Some first) (lookup_entry (same_file key) files) ≡ Some file → Found (first ∷ files) file
      by true own rest e = let same : first ≡ file = cc in here same
        where
          here : first ≡ file → Found (first ∷ files) file
          here same = record {
            own = ap (λ f. same_file key f.0) (sym same) ∙ own;
            content = ap (λ b. cond b (Some first.1) (content_of files key)) own ∙ ap (λ f. Some f.1) same;
            blocks = ap (λ f. blocks_of f.1 + blocks_in files) same ∙ ap (λ b. blocks_of file.1 + blocks_in (cond b files (first ∷ remove_entry (same_file key) files))) (sym own);
            others = λ none. rw own (subst (λ f. 1 ≤ length f.1) same none.0, none.1);
          }
      by false other rest e = found_later first files file other (rest e)

  used_cases : (P : KeptFiles → KeptFiles → Type 0) (files : KeptFiles) → P files files → ((file : FileKey × List ℕ) → Found files file → P files (file ∷ remove_entry (same_file key) files)) → P files (used files key)
  used_cases P files stays comes = by (lookup_entry (same_file key) files) refl
    where
      by : (o : Option (FileKey × List ℕ)) → lookup_entry (same_file key) files ≡ o → P files (option_map_or (λ file. file ∷ remove_entry (same_file key) files) o files)
      by None e = stays
      by (Some file) e = comes file (found files file e)

  -- it is found as before, and no blocks come or go
  pub content_of-used : (files : KeptFiles) → content_of (used files key) key ≡ content_of files key
  content_of-used files = used_cases (λ was now. content_of now key ≡ content_of was key) files refl
      (λ file f. ap (λ b. cond b (Some file.1) (content_of (remove_entry (same_file key) files) key)) f.own ∙ sym f.content)

  pub blocks_in-used : (files : KeptFiles) → blocks_in (used files key) ≡ blocks_in files
  blocks_in-used files = used_cases (λ was now. blocks_in now ≡ blocks_in was) files refl (λ file f. sym f.blocks)

  -- where it isn't kept nothing changes
  pub used-absent : (files : KeptFiles) → content_of files key ≡ None → used files key ≡ files
  used-absent files none = used_cases (λ was now. content_of was key ≡ None → now ≡ was) files (λ _. refl)
      (λ file f absent. let never : Some file.1 ≡ None = sym f.content ∙ absent in absurd (some_none file.1 never)) none
    where
      some_none : (content : List ℕ) → Some content ≡ None → ⊥
      some_none content same = cc

  pub IsCache-used : (capacity : ℕ) (files : KeptFiles) → IsCache capacity files → IsCache capacity (used files key)
  IsCache-used capacity files cache = used_cases (λ was now. IsCache capacity now) files cache
      (λ file f. record { within = omega (arith, f.blocks, cache.within); none_empty = f.others cache.none_empty })

-- a file that isn't kept has no entry, also among the files that stay
pub entry_absent : (files : KeptFiles) (key : FileKey) → content_of files key ≡ None → lookup_entry (same_file key) files ≡ None
entry_absent files key none = by (lookup_entry (same_file key) files) refl
  where
    some_none : (content : List ℕ) → Some content ≡ None → ⊥
    some_none content same = cc

    by : (o : Option (FileKey × List ℕ)) → lookup_entry (same_file key) files ≡ o → lookup_entry (same_file key) files ≡ None
    by None e = e
    by (Some file) e = absurd (some_none file.1 (sym (found key files file e).content ∙ none))

pub content_of-fitting : (room : ℕ) (files : KeptFiles) (key : FileKey) → content_of files key ≡ None → content_of (fitting room files) key ≡ None
content_of-fitting room [] key none = refl
content_of-fitting room (file ∷ files) key none = by (content_of-fitting (room - blocks_of file.1) files key) (nat_le (blocks_of file.1) room) (same_file key file.0) refl none
  where
    some_none : (content : List ℕ) → Some content ≡ None → ⊥
    some_none content same = cc

    by : (content_of files key ≡ None → content_of (fitting (room - blocks_of file.1) files) key ≡ None) → (fits t : Bool) → same_file key file.0 ≡ t → cond t (Some file.1) (content_of files key) ≡ None → content_of (cond fits (file ∷ fitting (room - blocks_of file.1) files) []) key ≡ None
    by later false t e rest = refl
    by later true true e rest = absurd (some_none file.1 rest)
    by later true false e rest = ap (λ t. cond t (Some file.1) (content_of (fitting (room - blocks_of file.1) files) key)) e ∙ later rest

-- ---- how many files there may be
one_block : (content : List ℕ) → 1 ≤ length content → 1 ≤ blocks_of content
one_block content some = omega arith

pub length-within : (files : KeptFiles) → NoneEmpty files → length files ≤ blocks_in files
length-within [] none = omega arith
length-within (file ∷ files) none = omega (arith, one_block file.1 none.0, length-within files none.1)

-- a kept file fits
pub blocks_of-within : (files : KeptFiles) (key : FileKey) (content : List ℕ) → content_of files key ≡ Some content → blocks_of content ≤ blocks_in files
blocks_of-within [] key content e = absurd (nothing e)
  where
    nothing : None ≡ Some content → ⊥
    nothing same = cc
blocks_of-within (file ∷ files) key content e = by (same_file key file.0) (λ later. blocks_of-within files key content later) e
  where
    by : (b : Bool) → (content_of files key ≡ Some content → blocks_of content ≤ blocks_in files) → cond b (Some file.1) (content_of files key) ≡ Some content → blocks_of content ≤ blocks_in (file ∷ files)
    by true rest here = let same : file.1 ≡ content = cc in omega (arith, ap blocks_of same)
    by false rest later = omega (arith, rest later)

-- ---- a fill
-- what was put is found
pub content_of-filled : (capacity : ℕ) (files : KeptFiles) (key : FileKey) (content : List ℕ) → content_of files key ≡ None → content_of (filled capacity files key content) key ≡ Some content
content_of-filled capacity files key content none =
    ap (λ o. content_of (cond (is_some o) (used files key) ((key, content) ∷ made_room capacity files content)) key) none
    ∙ ap (λ b. cond b (Some content) (content_of (made_room capacity files content) key)) (same_file-refl key)

-- what room is made for stays within the cache
pub IsCache-filled : (capacity : ℕ) (files : KeptFiles) (key : FileKey) (content : List ℕ) → blocks_of content ≤ capacity → 1 ≤ length content → IsCache capacity files
    → IsCache capacity (filled capacity files key content)
IsCache-filled capacity files key content fits some cache = by (is_kept files key)
  where
    by : (b : Bool) → IsCache capacity (cond b (used files key) ((key, content) ∷ made_room capacity files content))
    by true = IsCache-used key capacity files cache
    by false = record {
      within = omega (arith, blocks_in-fitting (capacity - blocks_of content) files, fits);
      none_empty = (some, none_empty-fitting (capacity - blocks_of content) files cache.none_empty);
    }
