-- What is told of the staged content of a file.
use Rattle.std.proofs.Common.{◌≡◌, Option, Some, None, refl}
use Rattle.std.specs.Prelude.{is_some, option_map}
use Rattle.mount_rules.specs.Files.{length_of}
use Rattle.mount_rules.specs.View.{Sight}
use Rattle.staging_spec.specs.StagedFiles.{StagedContent}
use Rattle.mount_laws.proofs.Keeping.{no_Some}

-- where nothing is staged the content is the source's
pub unstaged_len : (found : Option StagedContent) (file : Sight) → None ≡ option_map (λ (s : StagedContent). s.overlay.size) found → file.size ≡ length_of found file
unstaged_len None file e = refl
unstaged_len (Some staged) file e = absurd (no_Some e)

-- whether any is staged
pub is_staged : (found : Option StagedContent) → is_some found ≡ is_some (option_map (λ (s : StagedContent). s.overlay.size) found)
is_staged None = refl
is_staged (Some staged) = refl
