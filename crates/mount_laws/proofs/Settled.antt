-- What holds all along a run of the mount on one thread: each file shows a generation that was live; what is staged of it
-- stands over the content of that, and touches no more blocks than there are.
use Rattle.std.proofs.Common.{◌≡◌, ◌≤◌, ◌++◌, ℕ, Bool, true, false, List, [], ◌∷◌, All, Some, None, refl, sym, ap, subst, ◌∙◌, ◌⊎◌, inl, inr, length, nat_cmp, arith}
use Rattle.std.proofs.Math.Seq.{take-length}
use Rattle.std.proofs.lemmas.List.{take-append-le}
use Rattle.std.proofs.lemmas.List.Elements.{All-take}
use Rattle.std.specs.FinMap as fin
use Rattle.std.specs.Prelude.{if◌then◌else◌}
use Rattle.bucket_api.specs.BucketState.{BucketState, IsBucket}
use Rattle.bucket_api.specs.LogEvent.{LogEvent}
use Rattle.bucket_api.specs.Operation.{IsAllowed}
use Rattle.inode_spec.specs.Inodes.{root}
use Rattle.mount_model.specs.declared.config.Config.{Config}
use Rattle.mount_rules.specs.Dispatch.{goes_on, rules_of, taken_at}
use Rattle.mount_rules.specs.Laws.{FilesHaveContent, Ran, StagedStandOver, StagedStayOver, StagingIsBounded, reached}
use Rattle.mount_rules.specs.Mount.{File, IsMount, MountModel, Node}
use Rattle.mount_rules.specs.OneThread.{Call, Ending, IsLawful, IsRun, RunState, at_state, contents_of, first_state, mount_by, performed, short, stale, state_after_call, state_after_calls}
use Rattle.staging_spec.proofs.FileLaws.{blocks-empty, ends_count}
use Rattle.staging_spec.specs.Overlays.{StandsOver, staging_over}
use Rattle.staging_spec.specs.StagedFiles.{StagedContent, StagedFiles, blocks_in}
use Rattle.mount_laws.proofs.Contents.{files_keep_content}
use Rattle.mount_laws.proofs.Keeping.{no_Some}
use Rattle.mount_laws.proofs.Mounts.{IsMount-first}
use Rattle.mount_laws.proofs.RequestLaws.{goes, sound, unrefused}
use Rattle.mount_laws.proofs.RunLaws.{GivesLater-call, state_after_calls-append}
use Rattle.mount_laws.proofs.StagedChanges.{IsPut, WasShown, of_request, staged_from, staged_show_the_same}
use Rattle.mount_laws.proofs.StagedSteps.{put_fits, put_stands, same_content}
use Rattle.mount_laws.proofs.Stores.{Grown, Grown-operations, Grown-then}
use Rattle.spare_maps.proofs.FinMaps.{number_put}

-- ---- one call
module _ (config : Config) (state : RunState) (call : Call) (is : IsMount state.mount) where
  -- what is staged afterwards was put there, of a file that shows the same as before
  abbrev ComesFrom : MountModel → Type 0
  ComesFrom after = (number : ℕ) (held : StagedContent) (node : Node) (file : File) → fin.get after.staged number ≡ Some held
      → fin.get after.table.nodes number ≡ Some node → node.file ≡ Some file → IsPut (at_state config state) state.mount number held × WasShown state.mount.table number node file

  same : ComesFrom state.mount
  same number held node file found there has =
      (inr (inr (record { old = held; was = found; is = refl })), record { old = node; there = there; before = file; is = has; name = refl; source = refl })

  comes_from : ComesFrom (state_after_call config state call).mount
  comes_from = by call.ending
    where
      goes_by : (on : Bool) → goes_on state.mount call.request ≡ on
          → ComesFrom (if on then (rules_of call.request).after (taken_at (at_state config state) state.mount call.request) state.mount call.seen else state.mount)
      goes_by true on = λ number held node file found there has. (
        staged_from (at_state config state) state.mount call.request call.seen (unrefused state.mount call.request on) number held found,
        staged_show_the_same (at_state config state) state.mount call.seen call.request is
            ((sound call.request).leaves (at_state config state) state.mount call.seen (goes state.mount call.request is on)) number held node file found there has,
      )
      goes_by false on = same

      by : (ending : Ending) → ComesFrom (mount_by config state call ending)
      by performed = goes_by (goes_on state.mount call.request) refl
      by short = same
      by stale = same

  -- it touches no more blocks than there are
  few_after : FilesHaveContent state → StagedStandOver state → blocks_in state.mount.staged ≤ config.staging_blocks
      → blocks_in (state_after_call config state call).mount.staged ≤ config.staging_blocks
  few_after files over few = by call.ending
    where
      fewer : (held : StagedFiles) (number : ℕ) → blocks_in held ≤ config.staging_blocks → blocks_in (fin.remove held number) ≤ config.staging_blocks
      fewer held number few = let left = ends_count held number in omega (arith, few, left)

      goes_by : (on : Bool) → goes_on state.mount call.request ≡ on
          → blocks_in (if on then (rules_of call.request).after (taken_at (at_state config state) state.mount call.request) state.mount call.seen else state.mount).staged ≤ config.staging_blocks
      goes_by true on = of_request (λ (held : StagedFiles). blocks_in held ≤ config.staging_blocks) (at_state config state) state.mount call.seen few fewer
          (put_fits config state is files over few) call.request (unrefused state.mount call.request on)
      goes_by false on = few

      by : (ending : Ending) → blocks_in (mount_by config state call ending).staged ≤ config.staging_blocks
      by performed = goes_by (goes_on state.mount call.request) refl
      by short = few
      by stale = few

pub staged_stay_over : StagedStayOver
staged_stay_over config state call is bucket allowed lawful files over number node file held there has found =
    let (put, was) = comes_from config state call is number held node file found there has in
    let after = state_after_call config state call in
    let source : contents_of after.store node.name file.source ≡ contents_of state.store was.old.name was.before.source =
    ap (λ name. contents_of after.store name file.source) was.name ∙ ap (λ generation. contents_of after.store was.old.name generation) was.source
    ∙ same_content state after.store (Grown-operations state.store call.seen) files number was.old was.before was.there was.is in
    record {
      stands = subst (λ (s : List ℕ). StandsOver s (staging_over held.overlay s)) (sym source)
          (put_stands config state is files over number held was.old was.before was.there was.is put);
    }

-- ---- a run
pub record IsSettled (config : Config) (state : RunState) : Type 0 where
  pub is : IsMount state.mount
  pub bucket : IsBucket state.store.start
  pub allowed : All (λ e. IsAllowed e.op) state.store.log
  pub files : FilesHaveContent state
  pub over : StagedStandOver state
  pub few : blocks_in state.mount.staged ≤ config.staging_blocks

-- before the first call
IsSettled-first : (config : Config) (bucket : BucketState) → IsBucket bucket → All (λ (e : LogEvent). IsAllowed e.op) [] → IsSettled config (first_state bucket)
IsSettled-first config bucket is allowed = record {
  is = IsMount-first;
  bucket = is;
  allowed = allowed;
  files = λ number node file there has. absurd (no_file number node file has (number_put fin.empty 1 root node number there));
  over = λ number node file held there has found. absurd (let none : fin.get {X = StagedContent} {R = nat_cmp} fin.empty number ≡ None = fin.get-empty nat_cmp number in no_Some (sym none ∙ found));
  few = let none = blocks-empty in omega (arith, none);
}
  where
    no_file : (number : ℕ) (node : Node) (file : File) → node.file ≡ Some file → ((number ≡ 1) × (root ≡ node)) ⊎ (fin.get {R = nat_cmp} fin.empty number ≡ Some node) → ⊥
    no_file number node file has (inl (at, one)) = no_Some (ap (λ (n : Node). n.file) one ∙ has)
    no_file number node file has (inr was) = let none : fin.get {X = Node} {R = nat_cmp} fin.empty number ≡ None = fin.get-empty nat_cmp number in no_Some (sym none ∙ was)

IsSettled-call : (config : Config) (state : RunState) (call : Call) → IsSettled config state → All (λ e. IsAllowed e.op) (state_after_call config state call).store.log → IsLawful config state call
    → IsSettled config (state_after_call config state call)
IsSettled-call config state call settled allowed lawful = record {
  is = (GivesLater-call config state call settled.is).is;
  bucket = subst IsBucket (sym (Grown-operations state.store call.seen).start) settled.bucket;
  allowed = allowed;
  files = files_keep_content config state call settled.is settled.bucket allowed lawful settled.files;
  over = staged_stay_over config state call settled.is settled.bucket allowed lawful settled.files settled.over;
  few = few_after config state call settled.is settled.files settled.over settled.few;
}

Grown-calls : (config : Config) (state : RunState) (calls : List Call) → Grown state.store (state_after_calls config state calls).store
Grown-calls config state [] = Grown-operations state.store []
Grown-calls config state (call ∷ calls) =
    Grown-then state.store (state_after_call config state call).store (state_after_calls config state (call ∷ calls)).store
    (Grown-operations state.store call.seen) (Grown-calls config (state_after_call config state call) calls)

-- what holds of all holds of the first ones
All-front : (P : LogEvent → Type 0) (xs ys : List LogEvent) → All P (xs ++ ys) → All P xs
All-front P xs ys all = subst (All P) (take-append-le (length xs) xs ys (omega arith) ∙ take-length xs) (All-take P (length xs) (xs ++ ys) all)

allowed_before : (config : Config) (state : RunState) (calls : List Call) → All (λ e. IsAllowed e.op) (state_after_calls config state calls).store.log → All (λ e. IsAllowed e.op) state.store.log
allowed_before config state calls allowed =
    let grown = Grown-calls config state calls in All-front (λ e. IsAllowed e.op) state.store.log grown.more (subst (All (λ e. IsAllowed e.op)) grown.log allowed)

IsSettled-run : (config : Config) (state : RunState) (calls : List Call) → IsSettled config state → All (λ e. IsAllowed e.op) (state_after_calls config state calls).store.log
    → IsRun config state calls → IsSettled config (state_after_calls config state calls)
IsSettled-run config state [] settled allowed run = settled
IsSettled-run config state (call ∷ calls) settled allowed run =
    IsSettled-run config (state_after_call config state call) calls
    (IsSettled-call config state call settled (allowed_before config (state_after_call config state call) calls allowed) run.0) allowed run.1

-- so is the state that any run came to
pub settled : (config : Config) (bucket : BucketState) (calls : List Call) → Ran config bucket calls → IsSettled config (reached config bucket calls)
settled config bucket calls ran =
    IsSettled-run config (first_state bucket) calls (IsSettled-first config bucket ran.start (allowed_before config (first_state bucket) calls ran.allowed)) ran.allowed ran.run

-- ---- the last call of a run
-- the first calls of a run are one, and the next ones are one from where these came to
IsRun-front : (config : Config) (state : RunState) (first next : List Call) → IsRun config state (first ++ next) → IsRun config state first × IsRun config (state_after_calls config state first) next
IsRun-front config state [] next run = (tt, run)
IsRun-front config state (call ∷ first) next run =
    let more = IsRun-front config (state_after_call config state call) first next run.1 in ((run.0, more.0), more.1)

-- the state before the last call of a run, and that call
pub record EndsWith (config : Config) (bucket : BucketState) (calls : List Call) (call : Call) : Type 0 where
  pub before : IsSettled config (reached config bucket calls)
  pub lawful : IsLawful config (reached config bucket calls) call
  pub after : reached config bucket (calls ++ call ∷ []) ≡ state_after_call config (reached config bucket calls) call

pub ends_with : (config : Config) (bucket : BucketState) (calls : List Call) (call : Call) → Ran config bucket (calls ++ call ∷ []) → EndsWith config bucket calls call
ends_with config bucket calls call ran =
    let runs = IsRun-front config (first_state bucket) calls (call ∷ []) ran.run in
    let after : reached config bucket (calls ++ call ∷ []) ≡ state_after_call config (reached config bucket calls) call =
    state_after_calls-append config (first_state bucket) calls (call ∷ []) in
    let allowed : All (λ e. IsAllowed e.op) (reached config bucket calls).store.log =
    allowed_before config (reached config bucket calls) (call ∷ []) (subst (λ (s : RunState). All (λ e. IsAllowed e.op) s.store.log) after ran.allowed) in
    record { before = settled config bucket calls (record { start = ran.start; allowed = allowed; run = runs.0 }); lawful = runs.1.0; after = after }

pub staging_is_bounded : StagingIsBounded
staging_is_bounded config bucket calls ran = (settled config bucket calls ran).few
