-- The errand of a FLUSH: it inserts what is staged, with the pairs that are kept and the staged time.
use Rattle.std.proofs.Common.{◌≡◌, ◌≤◌, ◌⊎◌, inl, inr, ℕ, false, List, [], Option, Some, None, Result, IfOk, IsSome, length, refl, sym, ap, subst, ◌∙◌, option_map}
use Rattle.std.specs.FinMap as fin
use Rattle.std.specs.Option.{option_map_or}
use Rattle.std.proofs.lemmas.Bool.{false≢true}
use Rattle.std.specs.Prelude.{is_some, option_and_then}
use Rattle.bucket_api.specs.BucketStep.{with_pair}
use Rattle.bucket_api.specs.Operation.{Operation, insert, max_content}
use Rattle.bucket_api.specs.declared.answers.Answer.{Answer}
use Rattle.bucket_api.specs.declared.objects.Pair.{Pair}
use Rattle.fuse_requests.specs.Grammar.{without_spare}
use Rattle.fuse_requests.specs.declared.request.Request.{Request}
use Rattle.fuse_requests.specs.declared.request.Request.TheVariants.{Flush, Fsync}
use Rattle.inode_spec.specs.Inodes.{file_of}
use Rattle.mount_core.proofs.ErrandLemmas.{behind_reads, flushes_so, plans_so, refusal_free, wants_flushed, wants_so}
use Rattle.mount_core.proofs.FileLemmas.{open_file}
use Rattle.mount_core.specs.Errands.{AsksAs, plan_over, wanted_of}
use Rattle.mount_core.specs.declared.errand.Errand.{Errand}
use Rattle.mount_model.specs.declared.config.Config.{Config}
use Rattle.mount_rules.specs.Dispatch.{early, plan, wants}
use Rattle.mount_rules.specs.Mount.{File, IsMount, MountModel, Node}
use Rattle.mount_rules.specs.Plans.{Step, done, without_reads}
use Rattle.mount_rules.specs.Reading.{source_of}
use Rattle.mount_rules.specs.Requests.Flush as flush
use Rattle.mount_rules.specs.Rules.{AtTake}
use Rattle.mount_rules.specs.View.{Sight, sight_of, view_of}
use Rattle.plan_files.specs.Errands.{asks_behind}
use Rattle.staged_file.proofs.Contents.{length-bytes}
use Rattle.staged_file.specs.Frozen.{FrozenFile, frozen_content}
use Rattle.staging_spec.specs.Overlays.{Overlay, overlay_byte, staging_over}
use Rattle.staging_spec.specs.StagedFiles.{StagedContent}

module _ (mount : MountModel) (number : ℕ) (node : Node) (file : File) (staged : StagedContent) (there : fin.get mount.table.nodes number ≡ Some node) (has : node.file ≡ Some file)
    (held : fin.get mount.staged number ≡ Some staged) (frozen : FrozenFile) (whole : (source : List ℕ) → frozen_content frozen source ≡ (staging_over staged.overlay source).content)
    (pairs : List Pair) (timed : pairs ≡ with_pair file.kept.meta.pairs (flush.time_pair staged.seconds staged.nanos)) where
  -- the node with what is kept of it
  abbrev kept_node : Node
  kept_node = record node { file = Some file }

  is_kept : fin.get mount.table.nodes number ≡ Some kept_node
  is_kept = there ∙ ap (λ (f : Option File). Some (record node { file = f })) has

  -- the plan by what is found of the node and of its staged content
  abbrev plan_by : AtTake → List Answer → Option Node → Option StagedContent → Step
  plan_by at answers found staged_ =
      without_reads (option_map_or (λ s. option_map_or (λ (sight : Sight). flush.after_reads (source_of sight)
      (flush.insert_of at.contents at.second (option_and_then (λ (n : Node). option_map (λ (f : File). f.kept.meta) n.file) found) s sight) answers)
      (option_map (sight_of number) found) done) staged_ done)

  -- what it inserts
  inserts : (at : AtTake) → insert node.name (frozen_content frozen (at.contents node.name file.source)) pairs (Some file.source) at.second
      ≡ flush.insert_of at.contents at.second (Some file.kept.meta) staged (sight_of number kept_node)
  inserts at =
      ap (λ (content : List ℕ). insert node.name content pairs (Some file.source) at.second) (whole (at.contents node.name file.source))
      ∙ ap (λ (ps : List Pair). insert node.name (staging_over staged.overlay (at.contents node.name file.source)).content ps (Some file.source) at.second) timed

  pub flush_asks : (at : AtTake) (fh : ℕ) (answers : List Answer)
      → asks_behind (insert node.name (frozen_content frozen (at.contents node.name file.source)) pairs (Some file.source) at.second) answers
      ≡ without_reads (flush.plan (record { at = at; view = view_of mount (flush.looks number fh) }) answers)
  flush_asks at fh answers =
      ap (λ (op : Operation). asks_behind op answers) (inserts at)
      ∙ behind_reads (source_of (sight_of number kept_node)) (flush.insert_of at.contents at.second (Some file.kept.meta) staged (sight_of number kept_node)) answers
      ∙ sym (ap (λ (found : Option Node). plan_by at answers found (fin.get mount.staged number)) is_kept ∙ ap (plan_by at answers (Some kept_node)) held)

-- staged content that has this time is there
pub record HasTime (found : Option StagedContent) (seconds nanos : ℕ) : Type 0 where
  pub staged : StagedContent
  pub is : found ≡ Some staged
  pub since : (staged.seconds ≡ seconds) × (staged.nanos ≡ nanos)

pub has_time : (found : Option StagedContent) (seconds nanos : ℕ) → ◌≡◌ {A = Option (ℕ × ℕ)} (Some (seconds, nanos)) (option_map (λ (s : StagedContent). (s.seconds, s.nanos)) found)
    → HasTime found seconds nanos
has_time None seconds nanos told = absurd cc
has_time (Some staged) seconds nanos told =
    let same : ◌≡◌ {A = ℕ × ℕ} (staged.seconds, staged.nanos) (seconds, nanos) = cc in
    record { staged = staged; is = refl; since = (ap (λ (t : ℕ × ℕ). t.0) same, ap (λ (t : ℕ × ℕ). t.1) same) }

-- nothing is staged that has no length
pub not_staged : (found : Option StagedContent) → is_some (option_map (λ (s : StagedContent). s.overlay.size) found) ≡ false → found ≡ None
not_staged None none = refl
not_staged (Some staged) none = absurd (false≢true (sym none))

-- a frozen copy is as long as the content
pub frozen_short : (frozen : FrozenFile) (overlay : Overlay) → ((source : List ℕ) → frozen_content frozen source ≡ (staging_over overlay source).content) → overlay.size ≤ max_content
    → length frozen.bytes ≤ max_content
frozen_short frozen overlay whole short =
    subst (λ n. n ≤ max_content)
    (sym (sym (length-bytes _ (length frozen.bytes)) ∙ ap length (whole []) ∙ length-bytes (overlay_byte overlay []) overlay.size)) short

-- ---- a FLUSH or an FSYNC
abbrev pub IsFlushed : Request → ℕ → Type 0
IsFlushed request node = ((fh : ℕ) × (request ≡ Flush node fh)) ⊎ ((fh : ℕ) × (request ≡ Fsync node fh))

pub flushed_there : (mount : MountModel) (request : Request) (node : ℕ) → IsFlushed request node → IsMount mount → early mount (without_spare request) ≡ None → IsSome (file_of mount.table node)
flushed_there mount request node (inl (fh, is)) valid free =
    open_file mount node (flush.looks node fh) (λ file. None) refl valid (refusal_free mount (Flush node fh) (subst (λ (r : Request). early mount (without_spare r) ≡ None) is free))
flushed_there mount request node (inr (fh, is)) valid free =
    open_file mount node (flush.looks node fh) (λ file. None) refl valid (refusal_free mount (Fsync node fh) (subst (λ (r : Request). early mount (without_spare r) ≡ None) is free))

module _ {E : Type 0} (r : Result Errand E) (config : Config) (mount : MountModel) (request : Request) (node : ℕ) where
  abbrev Plans : ℕ → Request → Type 0
  Plans second asked = IfOk r (λ errand. (at : AtTake) → at.config ≡ config → at.second ≡ second → AsksAs (plan_over errand at.contents at.second) (plan at mount (without_spare asked)))

  pub flushed_plan : (second : ℕ) → IsFlushed request node → early mount (without_spare request) ≡ None
      → IfOk r (λ errand. (at : AtTake) (handle : ℕ) → AsksAs (plan_over errand at.contents at.second) (flush.plan (record { at = at; view = view_of mount (flush.looks node handle) })))
      → IfOk r (λ errand. (at : AtTake) → at.config ≡ config → at.second ≡ second → AsksAs (plan_over errand at.contents at.second) (plan at mount (without_spare request)))
  flushed_plan second (inl (fh, is)) free asks =
      subst (Plans second) (sym is)
      (plans_so r config second mount (Flush node fh) refl (subst (λ (q : Request). early mount (without_spare q) ≡ None) is free) (flushes_so r config second mount node fh asks))
  flushed_plan second (inr (fh, is)) free asks =
      subst (Plans second) (sym is)
      (plans_so r config second mount (Fsync node fh) refl (subst (λ (q : Request). early mount (without_spare q) ≡ None) is free) (flushes_so r config second mount node fh asks))

  abbrev Wants : Request → Type 0
  Wants asked = IfOk r (λ errand. wanted_of errand ≡ wants config mount (without_spare asked))

  pub flushed_wants : IsFlushed request node → early mount (without_spare request) ≡ None
      → IfOk r (λ errand. (handle : ℕ) → wanted_of errand ≡ flush.wanted (view_of mount (flush.looks node handle))) → IfOk r (λ errand. wanted_of errand ≡ wants config mount (without_spare request))
  flushed_wants (inl (fh, is)) free wants_it =
      subst Wants (sym is)
      (wants_so r config mount (Flush node fh) refl (subst (λ (q : Request). early mount (without_spare q) ≡ None) is free) refl (wants_flushed r mount node fh wants_it))
  flushed_wants (inr (fh, is)) free wants_it =
      subst Wants (sym is)
      (wants_so r config mount (Fsync node fh) refl (subst (λ (q : Request). early mount (without_spare q) ≡ None) is free) refl (wants_flushed r mount node fh wants_it))
