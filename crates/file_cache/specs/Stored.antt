-- Contents that stand in chains of blocks, each in a chain of its own.
use Rattle.std.specs.Prelude.{◌≡◌, ◌≢◌, ℕ, ◌+◌, ◌/◌, ◌≤◌, List, [], ◌∷◌, ◌++◌, Option, None, length, take, drop, map}
use Rattle.block_pool.specs.Blocks.{overwritten}
use Rattle.block_pool.specs.Chains.{Entries, ChainMap, entries_of, IsChain}
use Rattle.block_pool.specs.Pool.{Pool, Keeps, AllSized}
use Rattle.cache_spec.specs.KeptFiles.{KeptFiles}
use Rattle.cache_spec.specs.declared.file_key.FileKey.{FileKey}
use Rattle.staging_spec.specs.Content.{zeros}
use Rattle.file_cache.specs.declared.stored_file.StoredFile.{StoredFile}

-- the bytes of blocks, one behind the other
abbrev pub joined : Entries (List ℕ) → List ℕ
joined [] = []
joined (e ∷ es) = e.1 ++ joined es

-- the content of a file: the bytes of its chain, as far as its length
abbrev pub content_in : ChainMap (List ℕ) → StoredFile → List ℕ
content_in chains file = take file.len (joined (entries_of chains file.chain))

-- the blocks stand at this position, the next one, and so on
abbrev pub IsNumbered : {V : Type 0} → ℕ → Entries V → Type 0
IsNumbered position [] = Unit {0}
IsNumbered position (e ∷ es) = (e.0 ≡ position) × IsNumbered (position + 1) es

-- The chain of a file is the region's. Its blocks stand at 0, 1, .., as many as its length takes, and one at least.
pub record IsStored (chains : ChainMap (List ℕ)) (file : StoredFile) : Type 0 where
  pub there : IsChain chains file.chain
  pub numbered : IsNumbered 0 (entries_of chains file.chain)
  pub sized : AllSized (entries_of chains file.chain)
  pub blocks : length (entries_of chains file.chain) ≡ (file.len + 65535) / 65536
  pub some : 1 ≤ file.len

-- ---- what calls make of it
-- a chain got a block more behind its last one, which begins with these bytes
pub record IsAppended (was now : Pool) (head new : Option ℕ) (position : ℕ) (bytes : List ℕ) : Type 0 where
  pub entries : entries_of now.chains new ≡ entries_of was.chains head ++ (position, overwritten (zeros 65536) 0 bytes) ∷ []
  pub kept : Keeps was.chains now.chains head new
  pub free : now.free + 1 ≡ was.free
  pub blocks : now.blocks ≡ was.blocks

-- a content was put into a chain of its own
pub record IsStoredAs (was now : Pool) (file : StoredFile) (bytes : List ℕ) : Type 0 where
  pub stored : IsStored now.chains file
  pub content : content_in now.chains file ≡ bytes
  pub kept : Keeps was.chains now.chains None file.chain
  pub free : now.free + (length bytes + 65535) / 65536 ≡ was.free
  pub blocks : now.blocks ≡ was.blocks

-- so many bytes of a content, as far as they stand in one block, were copied out behind those that are done
pub record IsPart (content old new : List ℕ) (done count : ℕ) : Type 0 where
  pub some : 1 ≤ count
  pub few : done + count ≤ length old
  pub bytes : new ≡ overwritten old done (take count (drop done content))

-- ---- files by their keys
abbrev pub StoredFiles : Type 0
StoredFiles = List (FileKey × StoredFile)

abbrev pub contents_in : ChainMap (List ℕ) → StoredFiles → KeptFiles
contents_in chains files = map (λ file. (file.0, content_in chains file.1)) files

-- no file has this chain
abbrev pub NoneHas : Option ℕ → StoredFiles → Type 0
NoneHas chain [] = Unit {0}
NoneHas chain (file ∷ files) = (file.1.chain ≢ chain) × NoneHas chain files

-- each file is stored, and no two have one chain
abbrev pub AllStored : ChainMap (List ℕ) → StoredFiles → Type 0
AllStored chains [] = Unit {0}
AllStored chains (file ∷ files) = IsStored chains file.1 × NoneHas file.1.chain files × AllStored chains files
