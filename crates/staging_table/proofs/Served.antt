-- What is staged of a file, or what is bare where nothing is: its chain is the pool's, and has what contracts see.
use Rattle.std.proofs.Common.{◌≡◌, ℕ, ◌+◌, ◌-◌, ◌≤◌, List, Option, None, Some, refl, sym, ap, subst, ◌∙◌, nat_le, arith}
use Rattle.std.proofs.lemmas.Bool.Decides.{nat_tests}
use Rattle.std.specs.FinMap as fin
use Rattle.std.specs.Option.{option_map, option_map_or}
use Rattle.block_pool.specs.Chains.{ChainMap}
use Rattle.block_pool.specs.Pool.{Pool}
use Rattle.spare_maps.specs.SpareMaps.{Numbered}
use Rattle.staging_spec.specs.Overlays.{bare}
use Rattle.staging_spec.specs.StagedFiles.{StagedContent, overlay_at, touched_by, blocks_in, fits}
use Rattle.staging_spec.specs.Staging.{needed}
use Rattle.staged_file.specs.Staged.{StagedFile, IsStaged, touched_of, overlay_of}
use Rattle.staged_file.specs.declared.wanted.NoBlocks.{NoBlocks}
use Rattle.staging_table.specs.Stagings.{Stagings, IsStagings, IsBounded}
use Rattle.staging_table.specs.Tables.{content_of, files_of, stagings_of, HoldsStagings}
use Rattle.staging_table.specs.declared.held.Held.{Held}
use Rattle.staging_table.proofs.Mapped.{get-files}

-- a source of which no block is touched
abbrev pub bare_file : ℕ → StagedFile
bare_file size = record { chain = None; base = size; size = size; limit = size; touched = 0 }

-- What is staged of a file, which a table shows.
pub record IsServed (chains : ChainMap (List ℕ)) (table : Stagings) (node size : ℕ) (file : StagedFile) : Type 0 where
  pub staged : IsStaged chains file
  pub overlay : overlay_of chains file ≡ overlay_at table.files node size

-- as many are free as the others leave
enough : (count free others blocks : ℕ) → free + others ≡ blocks → nat_le count free ≡ nat_le (others + count) blocks
enough count free others blocks e = grind (arith, nat_tests)

module _ (pool : Pool) (held : Numbered Held) (room : ℕ) (table : Stagings) (holds : HoldsStagings pool held room) (is : stagings_of pool held.map room ≡ table) where
  pub found : (node : ℕ) → fin.get table.files node ≡ option_map (content_of pool.chains) (fin.get held.map node)
  found node = ap (λ t. fin.get t.files node) (sym is) ∙ get-files pool.chains held.map node

  -- what contracts see of a file, by what is held of it
  pub seen : (node : ℕ) {Y : Type 0} (f : StagedContent → Y) (o : Option Held) → o ≡ fin.get held.map node
      → option_map (λ file. f (content_of pool.chains file)) o ≡ option_map f (fin.get table.files node)
  seen node {Y = Y} f o e = over o ∙ ap (λ p. option_map f (option_map (content_of pool.chains) p)) e ∙ sym (ap (option_map f) (found node))
    where
      over : (o : Option Held) → option_map (λ file. f (content_of pool.chains file)) o ≡ option_map {U = Y} f (option_map (content_of pool.chains) o)
      over None = refl
      over (Some file) = refl

  pub served-held : (node size : ℕ) (file : Held) → fin.get held.map node ≡ Some file → IsServed pool.chains table node size file.staged
  served-held node size file there = record {
    staged = holds.staged node file there;
    overlay = sym (ap (λ o. option_map_or (λ staged. staged.overlay) o (bare size)) (found node ∙ ap (option_map (content_of pool.chains)) there));
  }

  pub served-bare : (node size : ℕ) (empty : StagedFile) → empty ≡ bare_file size → IsStaged pool.chains empty → fin.get held.map node ≡ None → IsServed pool.chains table node size empty
  served-bare node size empty is_bare some none = record {
    staged = some;
    overlay = ap (overlay_of pool.chains) is_bare ∙ sym (ap (λ o. option_map_or (λ staged. staged.overlay) o (bare size)) (found node ∙ ap (option_map (content_of pool.chains)) none));
  }

  pub served : (node size : ℕ) (empty file : StagedFile) → empty ≡ bare_file size → IsStaged pool.chains empty → file ≡ option_map_or (λ f. f.staged) (fin.get held.map node) empty
      → IsServed pool.chains table node size file
  served node size empty file is_bare some e = subst (IsServed pool.chains table node size) (sym e) (one (fin.get held.map node) refl)
    where
      one : (o : Option Held) → fin.get held.map node ≡ o → IsServed pool.chains table node size (option_map_or (λ f. f.staged) o empty)
      one None p = served-bare node size empty is_bare some p
      one (Some f) p = served-held node size f p

  -- a write fits exactly where the blocks that are free are enough
  pub fits_is : (node size : ℕ) (file : StagedFile) → IsServed pool.chains table node size file → (first count : ℕ)
      → nat_le (needed (touched_of pool.chains file) first count) pool.free ≡ fits table.blocks table.files (overlay_at table.files node size) first count
  fits_is node size file s first count =
      enough (needed (touched_of pool.chains file) first count) pool.free (blocks_in (files_of pool.chains held.map)) pool.blocks holds.blocks
      ∙ ap (λ t. nat_le (blocks_in t.files + needed (touched_of pool.chains file) first count) t.blocks) is
      ∙ ap (λ o. fits table.blocks table.files o first count) s.overlay

  -- what a write lacks that does not fit
  pub lack_is : (node size : ℕ) (file : StagedFile) → IsServed pool.chains table node size file → (first count : ℕ)
      → ◌≡◌ {A = NoBlocks} (record { needed = needed (touched_of pool.chains file) first count; free = pool.free })
      (record { needed = needed (touched_by (overlay_at table.files node size)) first count; free = table.blocks - blocks_in table.files })
  lack_is node size file s first count = λ i. record {
    needed = ap (λ o. needed (touched_by o) first count) s.overlay i;
    free = (left ∙ ap (λ t. t.blocks - blocks_in t.files) is) i;
  }
    where
      left : pool.free ≡ pool.blocks - blocks_in (files_of pool.chains held.map)
      left = let e = holds.blocks in omega arith

  -- what holds of every table
  pub is_table : IsStagings table
  is_table = record {
    bounded = λ node staged there. given node (fin.get held.map node) refl staged (sym (found node) ∙ there);
    few = subst (λ t. blocks_in t.files ≤ t.blocks) is (let e = holds.blocks in omega arith);
  }
    where
      given : (node : ℕ) (o : Option Held) → fin.get held.map node ≡ o → (staged : StagedContent) → option_map (content_of pool.chains) (fin.get held.map node) ≡ Some staged → IsBounded staged
      given node None p staged there = absurd (never (sym (ap (option_map (content_of pool.chains)) p) ∙ there))
        where
          never : option_map (content_of pool.chains) None ≡ Some staged → ⊥
          never e = cc
      given node (Some f) p staged there =
          subst IsBounded (same (sym (ap (option_map (content_of pool.chains)) p) ∙ there))
          (record { most = (holds.staged node f p).most.1; limit = (holds.staged node f p).limits.1 })
        where
          same : Some (content_of pool.chains f) ≡ Some staged → content_of pool.chains f ≡ staged
          same e = cc
