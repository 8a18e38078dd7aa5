-- A file that isn't kept changes nothing by being used.
use Rattle.std.proofs.Common.{◌≡◌, List, ℕ, ◌∷◌, false, Option, Some, None, refl, ap, is_some, true≢false}
use Rattle.std.specs.Map.{remove_entry}
use Rattle.std.specs.Option.{option_map_or}
use Rattle.cache_spec.proofs.KeptLaws.{entry_absent}
use Rattle.cache_spec.specs.KeptFiles.{KeptFiles, content_of, is_kept, same_file, used}
use Rattle.cache_spec.specs.declared.file_key.FileKey.{FileKey}

pub used_absent : (files : KeptFiles) (key : FileKey) → is_kept files key ≡ false → used files key ≡ files
used_absent files key not = ap (λ o. option_map_or (λ (file : FileKey × List ℕ). file ∷ remove_entry (same_file key) files) o files) (entry_absent files key (none (content_of files key) not))
  where
    none : (o : Option (List ℕ)) → is_some o ≡ false → o ≡ None
    none (Some x) e = absurd (true≢false e)
    none None e = refl
