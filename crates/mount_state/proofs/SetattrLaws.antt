-- What a SETATTR leaves of what is staged.
use Rattle.std.proofs.Common.{◌≡◌, ℕ, List, Option, Some, None, sym, ap, ◌∙◌}
use Rattle.std.specs.Prelude.{IsSome}
use Rattle.std.specs.FinMap as fin
use Rattle.std.specs.Option.{option_map_or}
use Rattle.mount_rules.specs.Files.{source_in, with_staged}
use Rattle.mount_rules.specs.Mount.{MountModel}
use Rattle.mount_rules.specs.Requests.Setattr as setattr
use Rattle.mount_rules.specs.Requests.Setattr.{Asked}
use Rattle.mount_rules.specs.Rules.{AtTake, at_file}
use Rattle.mount_rules.specs.View.{Sight, view_of}
use Rattle.spare_maps.proofs.FinMaps.{number_put_same}
use Rattle.staging_spec.specs.Overlays.{held_of, staging_over}
use Rattle.staging_spec.specs.StagedFiles.{StagedContent, StagedFiles, overlay_at}
use Rattle.staging_spec.specs.Staging.{resized}
use Rattle.staging_table.specs.Stagings.{with_mtime, with_staging}
use Rattle.mount_state.proofs.ShowingLaws.{put_twice}
use Rattle.mount_state.proofs.WriteLaws.{size_seen}

-- staged content whose time is set at once
timed : (files : StagedFiles) (node : ℕ) (staged : StagedContent) (seconds nanos : ℕ)
    → with_mtime (fin.insert files node staged) node seconds nanos ≡ fin.insert files node (record { overlay = staged.overlay; seconds = seconds; nanos = nanos })
timed files node staged seconds nanos =
    let then_is : StagedContent → StagedFiles = λ s. fin.insert (fin.insert files node staged) node (record { overlay = s.overlay; seconds = seconds; nanos = nanos }) in
    ap (λ (found : Option StagedContent). option_map_or then_is found (fin.insert files node staged)) (number_put_same files node staged)
    ∙ put_twice files node staged (record { overlay = staged.overlay; seconds = seconds; nanos = nanos })

module _ (at : AtTake) (mount : MountModel) (node : ℕ) (asked : Asked) (second : ℕ) (now : at.second ≡ second) where
  -- the content gets another length, and then its time
  pub resized_so : (len : ℕ) (seen : Option Sight) (time : ℕ × ℕ) (first last : StagedFiles) → IsSome seen → len ≡ size_seen seen → time ≡ setattr.time_then asked second
      → ((source : List ℕ) → first ≡ with_staging mount.staged node (resized (staging_over (overlay_at mount.staged node len) source) asked.size) second)
      → last ≡ with_mtime first node time.0 time.1
      → record mount { staged = last } ≡ option_map_or (λ file. with_staged mount node (setattr.resized_by (record { at = at; view = view_of mount (at_file node) }) asked file)) seen mount
  resized_so len None time first last there is told one two = absurd cc
  resized_so len (Some file) time first last there is told one two =
      ap (λ s. record mount { staged = s })
      (two
      ∙ ap (λ f. with_mtime f node time.0 time.1) (one (source_in at.contents file))
      ∙ timed mount.staged node _ time.0 time.1
      ∙ ap (λ n. fin.insert mount.staged node (record { overlay = held_of (resized (staging_over (overlay_at mount.staged node n) (source_in at.contents file)) asked.size); seconds = time.0; nanos = time.1 })) is
      ∙ ap (λ t. fin.insert mount.staged node (record { overlay = held_of (resized (staging_over (overlay_at mount.staged node file.size) (source_in at.contents file)) asked.size); seconds = t.0; nanos = t.1 }))
      (told ∙ sym (ap (setattr.time_then asked) now)))
