-- What stays of stored files where chains change, and where the order of the files does.
use Rattle.std.proofs.Common.{◌≡◌, ◌≢◌, ℕ, Bool, true, false, cond, List, [], ◌∷◌, ◌++◌, Option, None, Some, is_some, option_map, refl, sym, ap, subst, ◌∙◌, length, take, map, arith}
use Rattle.std.specs.FinMap as fin
use Rattle.std.proofs.lemmas.Map.Made.{lookup-map_values}
use Rattle.std.specs.Map.{lookup, lookup_entry, remove_entry}
use Rattle.std.specs.Option.{option_map_or, unwrap_or}
use Rattle.block_pool.specs.Chains.{ChainMap, entries_of}
use Rattle.block_pool.specs.Pool.{Keeps}
use Rattle.cache_spec.specs.declared.file_key.FileKey.{FileKey}
use Rattle.cache_spec.specs.KeptFiles.{KeptFiles, NoneEmpty, same_file, content_of, is_kept, used}
use Rattle.lru.specs.LruCache.{promoted}
use Rattle.file_cache.specs.declared.stored_file.StoredFile.{StoredFile}
use Rattle.file_cache.specs.Stored.{joined, content_in, IsStored, StoredFiles, contents_in, NoneHas, AllStored}
use Rattle.file_cache.proofs.Reading.{length-content_in}

-- ---- another chain changed
-- a file's chain isn't empty
pub some_chain : (chains : ChainMap (List ℕ)) (len : ℕ) (chain : Option ℕ) → IsStored chains (record { chain = chain; len = len }) → (head : ℕ) × (chain ≡ Some head)
some_chain chains len None s = absurd (let few = s.blocks in let some = s.some in omega arith)
some_chain chains len (Some head) s = (head, refl)

module _ (was now : ChainMap (List ℕ)) (head new : Option ℕ) (kept : Keeps was now head new) where
  -- a file whose chain isn't the one that changed is stored as before
  pub record IsKept (file : StoredFile) : Type 0 where
    pub stored : IsStored now file
    pub apart : file.chain ≢ new
    pub content : content_in now file ≡ content_in was file

  kept_at : (own len : ℕ) → IsStored was (record { chain = Some own; len = len }) → Some own ≢ head → IsKept (record { chain = Some own; len = len })
  kept_at own len s other =
      let same : fin.get now own ≡ fin.get was own = kept.others own s.there other in
      let es : entries_of now (Some own) ≡ entries_of was (Some own) = ap (λ o. unwrap_or o []) same in
      record {
        stored = record {
          there = ap is_some same ∙ s.there;
          numbered = rw es s.numbered;
          sized = rw es s.sized;
          blocks = ap length es ∙ s.blocks;
          some = s.some;
        };
        apart = kept.apart own s.there other;
        content = ap (λ xs. take len (joined xs)) es;
      }

  pub file_kept : (len : ℕ) (chain : Option ℕ) → IsStored was (record { chain = chain; len = len }) → chain ≢ head → IsKept (record { chain = chain; len = len })
  file_kept len None s other = absurd (let few = s.blocks in let some = s.some in omega arith)
  file_kept len (Some own) s other = kept_at own len s other

  -- and so is each of a list
  pub record AllKept (files : StoredFiles) : Type 0 where
    pub stored : AllStored now files
    pub apart : NoneHas new files
    pub contents : contents_in now files ≡ contents_in was files

  pub files_kept : (files : StoredFiles) → AllStored was files → NoneHas head files → AllKept files
  files_kept [] s other = record { stored = tt; apart = tt; contents = refl }
  files_kept (file ∷ files) s other = both (file_kept file.1.len file.1.chain s.0 other.0) (files_kept files s.2 other.1)
    where
      both : IsKept file.1 → AllKept files → AllKept (file ∷ files)
      both one more = record {
        stored = (one.stored, s.1, more.stored);
        apart = (one.apart, more.apart);
        contents = λ i. (file.0, one.content i) ∷ more.contents i;
      }

-- no stored file has the empty chain
pub none_empty_chain : (chains : ChainMap (List ℕ)) (files : StoredFiles) → AllStored chains files → NoneHas None files
none_empty_chain chains [] s = tt
none_empty_chain chains (file ∷ files) s = (
  λ e. let h = some_chain chains file.1.len file.1.chain s.0 in let never : None ≡ Some h.0 = sym e ∙ h.1 in absurd (cc),
  none_empty_chain chains files s.2,
)

-- ---- another order
module _ {X Y : Type 0} (g : X → Y) (test : FileKey → Bool) where
  abbrev over : FileKey × X → FileKey × Y
  over e = (e.0, g e.1)

  pub entry-map : (es : List (FileKey × X)) → lookup_entry test (map over es) ≡ option_map over (lookup_entry test es)
  entry-map [] = refl
  entry-map (e ∷ es) = by (test e.0) (entry-map es)
    where
      by : (b : Bool) → lookup_entry test (map over es) ≡ option_map over (lookup_entry test es) → cond b (Some (over e)) (lookup_entry test (map over es)) ≡ option_map over (cond b (Some e) (lookup_entry test es))
      by true rest = refl
      by false rest = rest

  rest-map : (es : List (FileKey × X)) → remove_entry test (map over es) ≡ map over (remove_entry test es)
  rest-map [] = refl
  rest-map (e ∷ es) = by (test e.0) (rest-map es)
    where
      by : (b : Bool) → remove_entry test (map over es) ≡ map over (remove_entry test es) → cond b (map over es) (over e ∷ remove_entry test (map over es)) ≡ map over (cond b es (e ∷ remove_entry test es))
      by true rest = refl
      by false rest = ap (λ xs. over e ∷ xs) rest

  pub promoted-map : (es : List (FileKey × X)) → map over (promoted test es) ≡ promoted test (map over es)
  promoted-map es = by (lookup_entry test es) ∙ (λ i. option_map_or (λ e. e ∷ sym (rest-map es) i) (sym (entry-map es) i) (map over es))
    where
      by : (o : Option (FileKey × X)) → map over (option_map_or (λ e. e ∷ remove_entry test es) o es) ≡ option_map_or (λ e. e ∷ map over (remove_entry test es)) (option_map over o) (map over es)
      by None = refl
      by (Some e) = refl

module _ (chains : ChainMap (List ℕ)) (files : StoredFiles) (key : FileKey) where
  -- the file of a key, and its content
  content_of-contents_in : content_of (contents_in chains files) key ≡ option_map (content_in chains) (lookup (same_file key) files)
  content_of-contents_in = lookup-map_values (content_in chains) (same_file key) files

  pub content_shown : (shown : KeptFiles) (found : Option StoredFile) → contents_in chains files ≡ shown → lookup (same_file key) files ≡ found → content_of shown key ≡ option_map (content_in chains) found
  content_shown shown found is here = sym (ap (λ fs. content_of fs key) is) ∙ content_of-contents_in ∙ ap (option_map (content_in chains)) here

  pub is_kept-contents_in : is_some (lookup (same_file key) files) ≡ is_kept (contents_in chains files) key
  is_kept-contents_in = by (lookup (same_file key) files) ∙ ap is_some (sym content_of-contents_in)
    where
      by : (o : Option StoredFile) → is_some o ≡ is_some (option_map (content_in chains) o)
      by None = refl
      by (Some file) = refl

pub contents_in-promoted : (chains : ChainMap (List ℕ)) (files : StoredFiles) (key : FileKey) → contents_in chains (promoted (same_file key) files) ≡ used (contents_in chains files) key
contents_in-promoted chains files key = promoted-map (content_in chains) (same_file key) files

module _ (chains : ChainMap (List ℕ)) (test : FileKey → Bool) where
  none_has-rest : (chain : Option ℕ) (files : StoredFiles) → NoneHas chain files → NoneHas chain (remove_entry test files)
  none_has-rest chain [] none = tt
  none_has-rest chain (file ∷ files) none = by (test file.0) (none_has-rest chain files none.1)
    where
      by : (b : Bool) → NoneHas chain (remove_entry test files) → NoneHas chain (cond b files (file ∷ remove_entry test files))
      by true rest = none.1
      by false rest = (none.0, rest)

  not_has : (chain : Option ℕ) (files : StoredFiles) (one : FileKey × StoredFile) → NoneHas chain files → lookup_entry test files ≡ Some one → one.1.chain ≢ chain
  not_has chain [] one none e = absurd (let never : None ≡ Some one = e in cc)
  not_has chain (file ∷ files) one none found = by (test file.0) (not_has chain files one none.1) found
    where
      by : (b : Bool) → (lookup_entry test files ≡ Some one → one.1.chain ≢ chain) → cond b (Some file) (lookup_entry test files) ≡ Some one → one.1.chain ≢ chain
      by true rest e = let same : file ≡ one = cc in subst (λ f. f.1.chain ≢ chain) same none.0
      by false rest e = rest e

  -- a file and the others
  all_stored-found : (files : StoredFiles) (one : FileKey × StoredFile) → AllStored chains files → lookup_entry test files ≡ Some one → AllStored chains (one ∷ remove_entry test files)
  all_stored-found [] one s e = absurd (let never : None ≡ Some one = e in cc)
  all_stored-found (file ∷ files) one s found = by (test file.0) (all_stored-found files one s.2) found
    where
      by : (b : Bool) → (lookup_entry test files ≡ Some one → AllStored chains (one ∷ remove_entry test files)) → cond b (Some file) (lookup_entry test files) ≡ Some one
          → AllStored chains (one ∷ cond b files (file ∷ remove_entry test files))
      by true rest e = let same : file ≡ one = cc in subst (λ f. AllStored chains (f ∷ files)) same s
      by false rest e =
          let r = rest e in (r.0, ((λ q. not_has file.1.chain files one s.1 e (sym q)), r.1), (s.0, none_has-rest file.1.chain files s.1, r.2))

  pub all_stored-promoted : (files : StoredFiles) → AllStored chains files → AllStored chains (promoted test files)
  all_stored-promoted files s = by (lookup_entry test files) refl
    where
      by : (o : Option (FileKey × StoredFile)) → lookup_entry test files ≡ o → AllStored chains (option_map_or (λ e. e ∷ remove_entry test files) o files)
      by None e = s
      by (Some one) e = all_stored-found files one s e

  -- a file that is found is stored
  pub stored_at : (files : StoredFiles) (one : StoredFile) → AllStored chains files → lookup test files ≡ Some one → IsStored chains one
  stored_at [] one s e = absurd (let never : None ≡ Some one = e in cc)
  stored_at (file ∷ files) one s found = by (test file.0) (stored_at files one s.2) found
    where
      by : (b : Bool) → (lookup test files ≡ Some one → IsStored chains one) → cond b (Some file.1) (lookup test files) ≡ Some one → IsStored chains one
      by true rest e = let same : file.1 ≡ one = cc in subst (IsStored chains) same s.0
      by false rest e = rest e

-- ---- the last file
-- the files before the last one, and the last one
pub record AreSplit (chains : ChainMap (List ℕ)) (files : StoredFiles) (last : FileKey × StoredFile) : Type 0 where
  pub front : AllStored chains files
  pub apart : NoneHas last.1.chain files
  pub stored : IsStored chains last.1

pub all_stored-split : (chains : ChainMap (List ℕ)) (files : StoredFiles) (last : FileKey × StoredFile) → AllStored chains (files ++ last ∷ []) → AreSplit chains files last
all_stored-split chains [] last s = record { front = tt; apart = tt; stored = s.0 }
all_stored-split chains (file ∷ files) last s = by (all_stored-split chains files last s.2) (front files s.1)
  where
    front : (others : StoredFiles) → NoneHas file.1.chain (others ++ last ∷ []) → NoneHas file.1.chain others × (last.1.chain ≢ file.1.chain)
    front [] none = (tt, none.0)
    front (other ∷ others) none = let rest = front others none.1 in ((none.0, rest.0), rest.1)

    by : AreSplit chains files last → NoneHas file.1.chain files × (last.1.chain ≢ file.1.chain) → AreSplit chains (file ∷ files) last
    by rest own = record { front = (s.0, own.0, rest.front); apart = ((λ e. own.1 (sym e)), rest.apart); stored = rest.stored }

-- no content is empty
pub none_empty_content : (chains : ChainMap (List ℕ)) (files : StoredFiles) → AllStored chains files → NoneEmpty (contents_in chains files)
none_empty_content chains [] s = tt
none_empty_content chains (file ∷ files) s = (let l = length-content_in chains file.1 s.0 in let some = s.0.some in omega arith, none_empty_content chains files s.2)
