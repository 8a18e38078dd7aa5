-- What is staged of a file stands over the content of the generation that the file shows; so it stays, call after call, and
-- in no more blocks than there are.
use Rattle.std.proofs.Common.{◌≡◌, ℕ, false, List, [], Option, Some, None, refl, sym, ap, subst, ◌∙◌, length, option_map}
use Rattle.std.proofs.lemmas.Bool.{false≢true}
use Rattle.std.specs.Prelude.{IsSome, unwrap_or}
use Rattle.std.specs.FinMap as fin
use Rattle.std.specs.Option.{option_map_or}
use Rattle.mount_rules.specs.Files.{content_in, source_in, staging_in}
use Rattle.mount_rules.specs.Guards.{is_directory}
use Rattle.mount_rules.specs.Laws.{FilesHaveContent, StagedStandOver}
use Rattle.mount_rules.specs.Mount.{File, IsKeptOf, IsMount, MountModel, Node, NodeTable}
use Rattle.mount_rules.specs.OneThread.{RunState, contents_of}
use Rattle.mount_rules.specs.View.{Sight, sight_at, sight_of}
use Rattle.object_names.specs.declared.shown.NodeKind.{NodeKind}
use Rattle.object_names.specs.declared.shown.NodeKind.TheVariants.{Dir, File as RegularFile, Symlink}
use Rattle.staging_spec.proofs.OverlayLaws.{held_shows, staged_stands}
use Rattle.staging_spec.specs.Overlays.{StandsOver, bare, held_of, staging_over}
use Rattle.staging_spec.specs.StagedFiles.{StagedContent}
use Rattle.staging_spec.specs.Staging.{Staging, staged}
use Rattle.mount_laws.proofs.Children.{IsSeen, IsSeen-at}
use Rattle.mount_laws.proofs.Keeping.{same_Some}

-- ---- a file that is seen
pub record SeesFileAt (table : NodeTable) (number : ℕ) (sight : Sight) : Type 0 where
  pub node : Node
  pub there : fin.get table.nodes number ≡ Some node
  pub file : File
  pub is : node.file ≡ Some file
  pub name : sight.name ≡ node.name
  pub source : sight.source ≡ file.source
  pub size : sight.size ≡ file.size

-- of a node that has parts of a file
pub SeesFileAt-of : (table : NodeTable) (number : ℕ) (sight : Sight) → sight_at table number ≡ Some sight → (node : Node) (file : File)
    → fin.get table.nodes number ≡ Some node → node.file ≡ Some file → SeesFileAt table number sight
SeesFileAt-of table number sight seen node file there is =
    let same : sight_of number node ≡ sight = same_Some (sym (ap (option_map (sight_of number)) there) ∙ seen) in
    record {
      node = node;
      there = there;
      file = file;
      is = is;
      name = sym (ap (λ (s : Sight). s.name) same);
      source = sym (ap (λ (s : Sight). s.source) same) ∙ ap (λ f. option_map_or (λ (x : File). x.source) f 0) is;
      size = sym (ap (λ (s : Sight). s.size) same) ∙ ap (λ f. option_map_or (λ (x : File). x.size) f 0) is;
    }

-- a node that is no directory has them
kept : (kind : NodeKind) (file : Option File) → is_directory kind ≡ false → IsKeptOf kind file → IsSome file
kept Dir file is has = absurd (false≢true (sym is))
kept RegularFile file is has = has
kept Symlink file is has = has

pub SeesFileAt-seen : (mount : MountModel) (number : ℕ) (sight : Sight) → IsMount mount → sight_at mount.table number ≡ Some sight → is_directory sight.kind ≡ false
    → SeesFileAt mount.table number sight
SeesFileAt-seen mount number sight is seen other = by s.node.file refl
    (kept s.node.kind s.node.file (ap (λ (x : Sight). is_directory x.kind) s.is ∙ other) (is.files number s.node s.there))
  where
    s : IsSeen mount.table number sight
    s = IsSeen-at mount.table number sight seen

    by : (file : Option File) → s.node.file ≡ file → IsSome file → SeesFileAt mount.table number sight
    by None has some = absurd (false≢true some)
    by (Some file) has some = SeesFileAt-of mount.table number sight seen s.node file s.there has

-- ---- its content
-- a source that nothing is staged of, as it would begin
bare_shows : (source : List ℕ) → staging_over (bare (length source)) source ≡ staged source
bare_shows source = held_shows source (staged source) (staged_stands source)

module _ (state : RunState) (files : FilesHaveContent state) (number : ℕ) (sight : Sight) (at : SeesFileAt state.mount.table number sight) where
  abbrev source : List ℕ
  source = source_in (contents_of state.store) sight

  -- its source has as many bytes as the file
  pub sized : length source ≡ sight.size
  sized =
      let has = files number at.node at.file at.there at.is in
      ap (λ name. length (contents_of state.store name sight.source)) at.name
      ∙ ap (λ generation. length (contents_of state.store at.node.name generation)) at.source
      ∙ ap (λ known. length (unwrap_or known [])) has.1 ∙ has.2 ∙ sym at.size

  begins : staging_over (bare sight.size) source ≡ staged source
  begins = ap (λ n. staging_over (bare n) source) (sym sized) ∙ bare_shows source

  -- what is staged of it shows its content
  pub shows_content : (held : Option StagedContent) → (staging_in (contents_of state.store) held sight).content ≡ content_in (contents_of state.store) held sight
  shows_content None = ap (λ (s : Staging). s.content) begins
  shows_content (Some held) = refl

  -- and stands over its source
  pub stands : StagedStandOver state → StandsOver source (staging_in (contents_of state.store) (fin.get state.mount.staged number) sight)
  stands over = by (fin.get state.mount.staged number) refl
    where
      by : (held : Option StagedContent) → fin.get state.mount.staged number ≡ held → StandsOver source (staging_in (contents_of state.store) held sight)
      by None none = subst (StandsOver source) (sym begins) (staged_stands source)
      by (Some held) is =
          subst (λ (s : List ℕ). StandsOver s (staging_over held.overlay s))
          (ap (λ name. contents_of state.store name at.file.source) (sym at.name) ∙ ap (λ generation. contents_of state.store sight.name generation) (sym at.source))
          (over number at.node at.file held at.there at.is is).stands

-- what a step of staged content leaves is held so that it stands over its source again
pub holds : (source : List ℕ) (staging : Staging) → StandsOver source staging → (held : StagedContent) → held.overlay ≡ held_of staging
    → staging_over held.overlay source ≡ staging
holds source staging over held is = ap (λ o. staging_over o source) is ∙ held_shows source staging over

pub holds_over : (source : List ℕ) (staging : Staging) → StandsOver source staging → (held : StagedContent) → held.overlay ≡ held_of staging
    → StandsOver source (staging_over held.overlay source)
holds_over source staging over held is = subst (StandsOver source) (sym (holds source staging over held is)) over
