-- Each generation that a file shows was live at some time, with content of the file's size: so it stays, call after call.
use Rattle.std.proofs.Common.{◌≡◌, ◌++◌, ℕ, List, All, Option, Some, None, refl, sym, ap, subst, ◌∙◌, ◌⊎◌, inl, inr}
use Rattle.std.specs.FinMap as fin
use Rattle.bucket_api.proofs.ContentLaws.{content_of-grown}
use Rattle.bucket_api.specs.BucketState.{BucketState, IsBucket}
use Rattle.bucket_api.specs.LogEvent.{LogEvent}
use Rattle.bucket_api.specs.Operation.{IsAllowed}
use Rattle.mount_model.specs.declared.config.Config.{Config}
use Rattle.mount_rules.specs.Laws.{FilesHaveContent, FilesKeepContent}
use Rattle.mount_rules.specs.Mount.{File, IsMount, Node, NodeTable}
use Rattle.mount_rules.specs.OneThread.{Call, Ending, IsLawful, RunState, at_state, mount_by, performed, short, stale, state_after_call}
use Rattle.mount_laws.proofs.Keeping.{no_Some, same_Some}
use Rattle.mount_laws.proofs.RequestLaws.{nodes_from}
use Rattle.mount_laws.proofs.Sources.{IsTold, NodesFrom, NodesFrom-same, ShowsBy, WasThere, shown_of}
use Rattle.mount_laws.proofs.Stores.{Grown-operations, HasContent, tells_along}

-- ---- what a call makes of nodes
module _ (config : Config) (state : RunState) (call : Call) (is : IsMount state.mount) where
  pub nodes_of_call : IsBucket state.store.start → All (λ e. IsAllowed e.op) (state_after_call config state call).store.log → IsLawful config state call
      → NodesFrom (HasContent state.store.start (state_after_call config state call).store.log) state.mount.table (state_after_call config state call).mount.table
  nodes_of_call bucket allowed lawful = by call.ending
    where
      by : (ending : Ending) → NodesFrom (HasContent state.store.start (state_after_call config state call).store.log) state.mount.table (mount_by config state call ending).table
      by performed = nodes_from _ (at_state config state) state.mount call.request call.seen is
          (tells_along state.store.start (state_after_call config state call).store.log bucket allowed _ state.store call.seen refl refl lawful.observed)
      by short = NodesFrom-same _ state.mount.table
      by stale = NodesFrom-same _ state.mount.table

-- ---- each generation has content
-- the same of all nodes of a table
abbrev pub ShowContent : BucketState → List LogEvent → NodeTable → Type 0
ShowContent start log table = (number : ℕ) (node : Node) (shown : ℕ × ℕ) → fin.get table.nodes number ≡ Some node → shown_of node ≡ Some shown
    → HasContent start log node.name shown.0 shown.1

content_stays : (start : BucketState) (log more : List LogEvent) (name : List ℕ) (generation size : ℕ) → HasContent start log name generation size → HasContent start (log ++ more) name generation size
content_stays start log more name generation size has = (has.0, content_of-grown start log more name generation has.0 has.1, has.2)

-- what each node of a table shows has content where each was there, or shows what was told
pub show_content : (start : BucketState) (log more whole : List LogEvent) (table after : NodeTable) → whole ≡ log ++ more
    → NodesFrom (HasContent start whole) table after → ShowContent start log table → ShowContent start whole after
show_content start log more whole table after grown from show number node shown there has = by (from number node there)
  where
    by : WasThere table number node ⊎ IsTold (HasContent start whole) node → HasContent start whole node.name shown.0 shown.1
    by (inl was) =
        let before : HasContent start log was.old.name shown.0 shown.1 = show number was.old shown was.there (sym was.same.shown ∙ has) in
        subst (λ name. HasContent start whole name shown.0 shown.1) (sym was.same.name)
        (subst (λ (l : List LogEvent). HasContent start l was.old.name shown.0 shown.1) (sym grown) (content_stays start log more was.old.name shown.0 shown.1 before))
    by (inr told) = subst (ShowsBy (HasContent start whole) node.name) has told

-- files are nodes that show something
pub files_show : (state : RunState) → FilesHaveContent state → ShowContent state.store.start state.store.log state.mount.table
files_show state files number node shown there has = by node.file refl has
  where
    by : (file : Option File) → node.file ≡ file → shown_of (record node { file = file }) ≡ Some shown → HasContent state.store.start state.store.log node.name shown.0 shown.1
    by None is e = absurd (no_Some e)
    by (Some file) is e = subst (λ (s : ℕ × ℕ). HasContent state.store.start state.store.log node.name s.0 s.1) (same_Some e) (files number node file there is)

pub show_files : (start : BucketState) (log : List LogEvent) (table : NodeTable) → ShowContent start log table
    → (number : ℕ) (node : Node) (file : File) → fin.get table.nodes number ≡ Some node → node.file ≡ Some file → HasContent start log node.name file.source file.size
show_files start log table show number node file there is = show number node (file.source, file.size) there (ap (λ f. shown_of (record node { file = f })) is)

pub files_keep_content : FilesKeepContent
files_keep_content config state call is bucket allowed lawful files =
    let grown = Grown-operations state.store call.seen in
    let after : RunState = state_after_call config state call in
    let show : ShowContent state.store.start after.store.log after.mount.table =
    show_content state.store.start state.store.log grown.more after.store.log state.mount.table after.mount.table grown.log
    (nodes_of_call config state call is bucket allowed lawful) (files_show state files) in
    λ number node file there has.
    subst (λ (b : BucketState). HasContent b after.store.log node.name file.source file.size) (sym grown.start)
    (show_files state.store.start after.store.log after.mount.table show number node file there has)
