-- What a READ of staged content is answered.
use Rattle.std.proofs.Common.{◌≡◌, ℕ, List, Option, Some, None, take, drop, refl, sym, ap, subst, ◌∙◌}
use Rattle.std.specs.Prelude.{IsSome}
use Rattle.std.specs.FinMap as fin
use Rattle.std.specs.Option.{option_map_or}
use Rattle.mount_rules.specs.Files.{source_in}
use Rattle.mount_rules.specs.Plans.{Contents, HoldsWanted}
use Rattle.mount_rules.specs.Requests.Read as reading
use Rattle.mount_rules.specs.View.{Sight}
use Rattle.staged_file.specs.Sources.{range_of}
use Rattle.staged_file.specs.declared.wanted.Wanted.{Wanted}
use Rattle.staging_spec.specs.Overlays.{bare, staging_over}
use Rattle.staging_spec.specs.Slices.{Holds}
use Rattle.staging_spec.specs.StagedFiles.{StagedContent, StagedFiles, overlay_at, touched_by}
use Rattle.staging_spec.specs.Wanted.{Range, wanted_by_read}
use Rattle.mount_laws.proofs.Keeping.{no_Some}
use Rattle.mount_state.specs.Spares.{Provided, buffer, provided_by, read_wants}
use Rattle.mount_state.specs.declared.prepared.Prepared.{Prepared}
use Rattle.mount_state.specs.declared.prepared.Prepared.TheVariants as prepared
use Rattle.mount_state.proofs.Given.{given_holds, given_of}

abbrev count_of : Provided → ℕ
count_of (buffer count) = count
count_of provided = 0

abbrev is_buffer : Provided → Option ℕ
is_buffer (buffer count) = Some count
is_buffer provided = None

-- a buffer is for staged content, of which it takes what is asked and there
pub record IsStagedRead (files : StagedFiles) (node first size count : ℕ) : Type 0 where
  pub staged : StagedContent
  pub there : fin.get files node ≡ Some staged
  pub asked : count ≡ (reading.asked first size staged.overlay.size).count

pub staged_read : (files : StagedFiles) (node first size count : ℕ) → read_wants first size (fin.get files node) ≡ buffer count → IsStagedRead files node first size count
staged_read files node first size count wants = by (fin.get files node) refl wants
  where
    by : (found : Option StagedContent) → fin.get files node ≡ found → read_wants first size found ≡ buffer count → IsStagedRead files node first size count
    by None is e = absurd (no_Some (ap is_buffer e))
    by (Some staged) is e = record { staged = staged; there = is; asked = sym (ap count_of e) }

-- a request that gets no buffer reads nothing that is staged
pub nothing_staged : (first size : ℕ) (found : Option StagedContent) (provided : Provided) → ((count : ℕ) → provided ≡ buffer count → ⊥) → provided ≡ read_wants first size found → found ≡ None
nothing_staged first size None provided other is = refl
nothing_staged first size (Some staged) provided other is = absurd (other (reading.asked first size staged.overlay.size).count is)

-- no buffer was prepared
pub no_buffer : (made : Prepared) → ((bytes : _) → made ≡ prepared.Buffer bytes → ⊥) → (count : ℕ) → provided_by made ≡ buffer count → ⊥
no_buffer (prepared.Buffer bytes) other count e = other bytes refl
no_buffer prepared.Nothing other count e = no_Some (ap is_buffer e)
no_buffer prepared.Room other count e = no_Some (ap is_buffer e)
no_buffer (prepared.Path text) other count e = no_Some (ap is_buffer e)
no_buffer (prepared.Name text) other count e = no_Some (ap is_buffer e)
no_buffer (prepared.Removal path) other count e = no_Some (ap is_buffer e)
no_buffer (prepared.Moving from to) other count e = no_Some (ap is_buffer e)
no_buffer (prepared.Entries row) other count e = no_Some (ap is_buffer e)
no_buffer (prepared.Target text) other count e = no_Some (ap is_buffer e)

abbrev pub range_at : StagedFiles → ℕ → ℕ → ℕ → ℕ → Range
range_at files node len first count = let overlay = overlay_at files node len in wanted_by_read (touched_by overlay) overlay.limit first count

module _ (files : StagedFiles) (node first size count len base : ℕ) (bytes : List ℕ) (wanted : Wanted) (r : IsStagedRead files node first size count) where
  overlay_is : overlay_at files node len ≡ r.staged.overlay
  overlay_is = ap (λ (found : Option StagedContent). option_map_or (λ (s : StagedContent). s.overlay) found (bare len)) r.there

  asked_range : (file : Sight) → range_at files node len first count ≡ reading.wanted_range (Some r.staged) first size file
  asked_range file =
      ap (λ o. wanted_by_read (touched_by o) o.limit first count) overlay_is
      ∙ ap (λ n. wanted_by_read (touched_by r.staged.overlay) r.staged.overlay.limit first n) r.asked

  pub bytes_read : (contents : Contents) (seen : Option Sight) (out : List ℕ) → IsSome seen → range_of wanted ≡ range_at files node len first count
      → HoldsWanted contents (reading.wanted first size (fin.get files node) seen) base bytes
      → ((source : List ℕ) → Holds source base (given_of wanted.count bytes) → out ≡ take count (drop first (staging_over (overlay_at files node len) source).content))
      → out ≡ reading.bytes contents first size (fin.get files node) seen
  bytes_read contents None out there found holds told = absurd cc
  bytes_read contents (Some file) out there found holds told =
      told (source_in contents file) held
      ∙ ap (λ o. take count (drop first (staging_over o (source_in contents file)).content)) overlay_is
      ∙ ap (λ n. take n (drop first (staging_over r.staged.overlay (source_in contents file)).content)) r.asked
      ∙ ap (λ (found : Option StagedContent). reading.bytes contents first size found (Some file)) (sym r.there)
    where
      held : Holds (source_in contents file) base (given_of wanted.count bytes)
      held =
          subst (λ (w : Range). Holds (source_in contents file) base (given_of w.count bytes)) (sym found)
          (subst (λ (w : Range). Holds (source_in contents file) base (given_of w.count bytes)) (sym (asked_range file))
          (given_holds file.name file.source (reading.wanted_range (Some r.staged) first size file) contents base bytes
          (subst (λ (found : Option StagedContent). HoldsWanted contents (reading.wanted first size found (Some file)) base bytes) r.there holds)))
