-- What a WRITE leaves of what is staged, and whether there is room for it.
use Rattle.std.proofs.Common.{◌≡◌, ℕ, ◌<◌, Bool, true, false, List, [], ◌∷◌, Option, Some, None, Result, Ok, length, refl, sym, ap, subst, ◌∙◌, arith}
use Rattle.std.specs.Prelude.{not, IsSome}
use Rattle.std.specs.FinMap as fin
use Rattle.std.specs.Option.{option_map_or}
use Rattle.std.specs.Result.{OnOk}
use Rattle.mount_model.specs.declared.config.Config.{Config}
use Rattle.mount_rules.specs.Files.{overlay_of, source_in, with_staged}
use Rattle.mount_rules.specs.Mount.{MountModel}
use Rattle.mount_rules.specs.Plans.{Contents, HoldsWanted}
use Rattle.mount_rules.specs.Requests.Write as writing
use Rattle.mount_rules.specs.Rules.{AtTake, at_file}
use Rattle.mount_rules.specs.View.{Sight, View, sight_at, view_of}
use Rattle.staged_file.specs.Sources.{range_of}
use Rattle.staged_file.specs.declared.wanted.Wanted.{Wanted}
use Rattle.staging_spec.specs.Overlays.{staging_over}
use Rattle.staging_spec.specs.Slices.{Holds}
use Rattle.staging_spec.specs.StagedFiles.{StagedFiles, fits, overlay_at, touched_by}
use Rattle.staging_spec.specs.Staging.{written}
use Rattle.staging_spec.specs.Wanted.{Range, wanted_by_write}
use Rattle.staging_table.specs.Stagings.{with_staging}
use Rattle.mount_state.proofs.Given.{given_holds, given_of}

-- the bytes of the generation that is seen
abbrev pub size_seen : Option Sight → ℕ
size_seen seen = option_map_or (λ (file : Sight). file.size) seen 0

module _ (config : Config) (mount : MountModel) (node first blocks : ℕ) where
  room_at : (seen : Option Sight) (len count : ℕ) → IsSome seen → len ≡ size_seen seen → blocks ≡ config.staging_blocks
      → fits blocks mount.staged (overlay_at mount.staged node len) first count
      ≡ option_map_or (λ file. fits config.staging_blocks mount.staged (overlay_of (fin.get mount.staged node) file) first count) seen false
  room_at None len count there is same = absurd cc
  room_at (Some file) len count there is same =
      ap (λ b. fits b mount.staged (overlay_at mount.staged node len) first count) same
      ∙ ap (λ n. fits config.staging_blocks mount.staged (overlay_at mount.staged node n) first count) is

  -- one of some byte is where it doesn't fit
  pub full_unless_fits : (content : List ℕ) (len : ℕ) → 0 < length content → IsSome (sight_at mount.table node) → len ≡ size_seen (sight_at mount.table node) → blocks ≡ config.staging_blocks
      → not (fits blocks mount.staged (overlay_at mount.staged node len) first (length content)) ≡ writing.is_full config mount.staged first content (view_of mount (at_file node))
  full_unless_fits [] len some there is same = absurd (omega (arith, some))
  full_unless_fits (byte ∷ bytes) len some there is same = ap not (room_at (sight_at mount.table node) len (length (byte ∷ bytes)) there is same)

  -- so it fits, where it isn't full
  pub fits_unless_full : (content : List ℕ) (len : ℕ) → 0 < length content → IsSome (sight_at mount.table node) → len ≡ size_seen (sight_at mount.table node) → blocks ≡ config.staging_blocks
      → writing.is_full config mount.staged first content (view_of mount (at_file node)) ≡ false → fits blocks mount.staged (overlay_at mount.staged node len) first (length content) ≡ true
  fits_unless_full content len some there is same free =
      by (fits blocks mount.staged (overlay_at mount.staged node len) first (length content)) (full_unless_fits content len some there is same ∙ free)
    where
      by : (t : Bool) → not t ≡ false → t ≡ true
      by true e = refl
      by false e = sym e

-- what a call says that is Ok
pub on_ok : {T E P : Type 0} (result : Result T E) (value : T) → result ≡ Ok value → OnOk result P → P
on_ok {P = P} result value is told = subst (λ r. OnOk r P) is told

-- what is wanted, by what is staged and by the size of the source
abbrev pub range_at : StagedFiles → ℕ → ℕ → ℕ → ℕ → Range
range_at files node len first count = let overlay = overlay_at files node len in wanted_by_write (touched_by overlay) overlay.limit first count

module _ (mount : MountModel) (node first : ℕ) (content : List ℕ) (base : ℕ) (bytes : List ℕ) (wanted : Wanted) (len : ℕ) where
  holds_write : (contents : Contents) (file : Sight) → len ≡ file.size → range_of wanted ≡ range_at mount.staged node len first (length content)
      → HoldsWanted contents (writing.wanted first content (fin.get mount.staged node) (Some file)) base bytes
      → Holds (source_in contents file) base (given_of wanted.count bytes)
  holds_write contents file is found holds =
      subst (λ (r : Range). Holds (source_in contents file) base (given_of r.count bytes)) (sym found)
      (subst (λ n. Holds (source_in contents file) base (given_of (range_at mount.staged node n first (length content)).count bytes)) (sym is)
      (given_holds file.name file.source (range_at mount.staged node file.size first (length content)) contents base bytes holds))

  -- what is staged then
  pub written_so : (at : AtTake) (second : ℕ) (files : StagedFiles) (seen : Option Sight) → at.second ≡ second → 0 < length content → IsSome seen → len ≡ size_seen seen
      → range_of wanted ≡ range_at mount.staged node len first (length content)
      → HoldsWanted at.contents (writing.wanted first content (fin.get mount.staged node) seen) base bytes
      → ((source : List ℕ) → Holds source base (given_of wanted.count bytes) → files ≡ with_staging mount.staged node (written (staging_over (overlay_at mount.staged node len) source) first content) second)
      → record mount { staged = files } ≡ option_map_or (λ file. with_staged mount node (writing.staged_by at.contents at.second first content (fin.get mount.staged node) file)) seen mount
  written_so at second files None now some there is found holds written_is = absurd cc
  written_so at second files (Some file) now some there is found holds written_is =
      ap (λ s. record mount { staged = s })
      (written_is (source_in at.contents file) (holds_write at.contents file is found holds)
      ∙ ap (λ n. with_staging mount.staged node (written (staging_over (overlay_at mount.staged node n) (source_in at.contents file)) first content) second) is
      ∙ ap (λ s. with_staging mount.staged node (written (staging_over (overlay_at mount.staged node file.size) (source_in at.contents file)) first content) s) (sym now))

-- it is what the rules say of a WRITE of some byte
pub written_by_rules : (at : AtTake) (view : View) (mount : MountModel) (node first : ℕ) (content : List ℕ) → 0 < length content
    → option_map_or (λ file. with_staged mount node (writing.staged_by at.contents at.second first content view.staged file)) view.node mount
    ≡ writing.written_in (record { at = at; view = view }) mount node first content
written_by_rules at view mount node first [] some = absurd (omega (arith, some))
written_by_rules at view mount node first (byte ∷ bytes) some = refl
