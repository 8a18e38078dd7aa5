-- One call's step of what is staged: what is put in place stands over its source, and touches no more blocks than there are.
use Rattle.std.proofs.Common.{◌≡◌, ◌≤◌, ◌+◌, ℕ, true, List, [], Option, Some, None, refl, sym, ap, subst, ◌∙◌, inl, inr, length, map, arith, nat_le}
use Rattle.std.proofs.lemmas.Bool.Decides.{nat_tests}
use Rattle.std.proofs.lemmas.List.{length-map}
use Rattle.std.specs.Prelude.{unwrap_or}
use Rattle.std.specs.FinMap as fin
use Rattle.std.specs.Option.{option_map_or}
use Rattle.bucket_api.proofs.ContentLaws.{content_of-grown}
use Rattle.bucket_api.specs.BucketState.{BucketState}
use Rattle.bucket_api.specs.Log.{content_of}
use Rattle.bucket_api.specs.LogEvent.{LogEvent}
use Rattle.mount_model.specs.declared.config.Config.{Config}
use Rattle.mount_rules.specs.Files.{overlay_of, source_in}
use Rattle.mount_rules.specs.Laws.{FilesHaveContent, StagedStandOver}
use Rattle.mount_rules.specs.Mount.{File, IsMount, Node}
use Rattle.mount_rules.specs.OneThread.{RunState, Store, at_state, contents_of}
use Rattle.mount_rules.specs.View.{Sight}
use Rattle.staging_spec.proofs.CountLaws.{resize_counts, write_counts}
use Rattle.staging_spec.proofs.FileLaws.{puts_count}
use Rattle.staging_spec.proofs.StandingLaws.{resized_stands, written_stands}
use Rattle.staging_spec.specs.Blocks.{met, touch, untouch}
use Rattle.staging_spec.specs.Overlays.{Overlay, StandsOver, staging_over}
use Rattle.staging_spec.specs.StagedFiles.{StagedContent, blocks_at, blocks_in, blocks_of, touched_by}
use Rattle.staging_spec.specs.Staging.{needed}
use Rattle.mount_laws.proofs.Keeping.{same_Some}
use Rattle.mount_laws.proofs.StagedChanges.{IsPut}
use Rattle.mount_laws.proofs.StagedContents.{SeesFileAt, SeesFileAt-of, SeesFileAt-seen, holds_over, stands}
use Rattle.mount_laws.proofs.Stores.{Grown}

-- what a file's generation holds stays so as the log grows
pub same_content : (state : RunState) (store : Store) → Grown state.store store → FilesHaveContent state → (number : ℕ) (node : Node) (file : File)
    → fin.get state.mount.table.nodes number ≡ Some node → node.file ≡ Some file
    → contents_of store node.name file.source ≡ contents_of state.store node.name file.source
same_content state store grown files number node file there is =
    let has = files number node file there is in
    let before : contents_of state.store node.name file.source ≡ has.0 = ap (λ known. unwrap_or known []) has.1 in
    let after : content_of store.start store.log node.name file.source ≡ Some has.0 =
    ap (λ (b : BucketState). content_of b store.log node.name file.source) grown.start
    ∙ ap (λ (log : List LogEvent). content_of state.store.start log node.name file.source) grown.log
    ∙ content_of-grown state.store.start state.store.log grown.more node.name file.source has.0 has.1 in
    ap (λ known. unwrap_or known []) after ∙ sym before

module _ (config : Config) (state : RunState) (is : IsMount state.mount) (files : FilesHaveContent state) (over : StagedStandOver state) where
  -- ---- what is put in place stands over its source
  abbrev StandsAt : List ℕ → StagedContent → Type 0
  StandsAt source held = StandsOver source (staging_over held.overlay source)

  module _ (number : ℕ) (held : StagedContent) (node : Node) (file : File) (there : fin.get state.mount.table.nodes number ≡ Some node) (has : node.file ≡ Some file) where
    abbrev source : List ℕ
    source = contents_of state.store node.name file.source

    -- the source of the file that is seen is the node's
    seen_source : (sight : Sight) → SeesFileAt state.mount.table number sight → source_in (contents_of state.store) sight ≡ source
    seen_source sight at =
        let same : at.node ≡ node = same_Some (sym at.there ∙ there) in
        let one : at.file ≡ file = same_Some (sym at.is ∙ ap (λ (n : Node). n.file) same ∙ has) in
        ap (λ name. contents_of state.store name sight.source) (at.name ∙ ap (λ (n : Node). n.name) same)
        ∙ ap (λ generation. contents_of state.store node.name generation) (at.source ∙ ap (λ (f : File). f.source) one)

    pub put_stands : IsPut (at_state config state) state.mount number held → StandsAt source held
    put_stands (inl w) =
        let at = SeesFileAt-of state.mount.table number w.file w.seen node file there has in
        subst (λ (s : List ℕ). StandsAt s held) (seen_source w.file at)
        (holds_over (source_in (contents_of state.store) w.file) _
        (written_stands (source_in (contents_of state.store) w.file) _ (stands state files number w.file at over) w.first w.bytes) held w.is)
    put_stands (inr (inl r)) =
        let at = SeesFileAt-of state.mount.table number r.file r.seen node file there has in
        subst (λ (s : List ℕ). StandsAt s held) (seen_source r.file at)
        (holds_over (source_in (contents_of state.store) r.file) _
        (resized_stands (source_in (contents_of state.store) r.file) _ (stands state files number r.file at over) r.size) held r.is)
    put_stands (inr (inr c)) = subst (λ (o : Overlay). StandsOver source (staging_over o source)) (sym c.is) (over number node file c.old there has c.was).stands

  -- ---- in so many blocks
  -- what a file has touched before
  touched_at : (number : ℕ) (sight : Sight) → length (touched_by (overlay_of (fin.get state.mount.staged number) sight)) ≡ blocks_at state.mount.staged number
  touched_at number sight = by (fin.get state.mount.staged number)
    where
      by : (held : Option StagedContent) → length (touched_by (overlay_of held sight)) ≡ option_map_or blocks_of held 0
      by None = refl
      by (Some held) = length-map held.overlay.blocks (λ b. b.0)

  -- of content that is held anew
  held_blocks : (number : ℕ) (held : StagedContent) (f : ℕ → ℕ × List ℕ) (touched : List ℕ) → held.overlay.blocks ≡ map f touched → blocks_of held ≡ length touched
  held_blocks number held f touched blocks = ap length blocks ∙ length-map touched f

  pub put_fits : blocks_in state.mount.staged ≤ config.staging_blocks → (number : ℕ) (held : StagedContent) → IsPut (at_state config state) state.mount number held
      → blocks_in (fin.insert state.mount.staged number held) ≤ config.staging_blocks
  put_fits few number held (inl w) =
      let at = SeesFileAt-seen state.mount number w.file is w.seen w.opened in
      let overlay = overlay_of (fin.get state.mount.staged number) w.file in
      let made : blocks_of held ≡ length (touch (touched_by overlay) (met w.first (length w.bytes))) = held_blocks number held _ _ (ap (λ (o : Overlay). o.blocks) w.is) in
      let more = write_counts (touched_by overlay) w.first (length w.bytes) (stands state files number w.file at over).rise in
      let before = touched_at number w.file in
      let counted = puts_count state.mount.staged number held in
      let room : nat_le (blocks_in state.mount.staged + needed (touched_by overlay) w.first (length w.bytes)) config.staging_blocks ≡ true = w.room in
      let fits : blocks_in state.mount.staged + needed (touched_by overlay) w.first (length w.bytes) ≤ config.staging_blocks = grind (arith, nat_tests, room) in
      omega (arith, made, more, before, counted, fits)
  put_fits few number held (inr (inl r)) =
      let overlay = overlay_of (fin.get state.mount.staged number) r.file in
      let made : blocks_of held ≡ length (untouch (touched_by overlay) r.size) = held_blocks number held _ _ (ap (λ (o : Overlay). o.blocks) r.is) in
      let less = resize_counts (touched_by overlay) r.size in
      let before = touched_at number r.file in
      let counted = puts_count state.mount.staged number held in
      omega (arith, made, less, before, counted, few)
  put_fits few number held (inr (inr c)) =
      let same : blocks_of held ≡ blocks_of c.old = ap (λ (o : Overlay). length o.blocks) c.is in
      let before : blocks_at state.mount.staged number ≡ blocks_of c.old = ap (λ o. option_map_or blocks_of o 0) c.was in
      let counted = puts_count state.mount.staged number held in
      omega (arith, same, before, counted, few)
