-- Whatever run came to the mount, a longer log of its bucket leaves what another writer made.
use Rattle.std.proofs.Common.{◌≡◌, ℕ, List, [], ◌∷◌, Option, Some, unwrap_or, ap, sym, subst, ◌∙◌}
use Rattle.std.specs.FinMap as fin
use Rattle.bucket_api.proofs.ContentLaws.{content_of-grown}
use Rattle.bucket_api.specs.LogEvent.{LogEvent}
use Rattle.bucket_api.specs.Operation.{Operation, IsAllowed, operation}
use Rattle.bucket_api.specs.declared.events.Mode.TheVariants as modes
use Rattle.mount_core.proofs.WalkLemmas.{leaves_more}
use Rattle.mount_core.specs.Serials.{CameTo, SerialState}
use Rattle.mount_core.specs.Stores.{Counted, LeavesBucket}
use Rattle.mount_core.specs.Walks.{left_by}
use Rattle.mount_rules.specs.Laws.{IsStagedOver}
use Rattle.mount_rules.specs.Mount.{File, Node}
use Rattle.mount_rules.specs.OneThread.{RunState, after_operation, contents_of}
use Rattle.staging_spec.specs.Overlays.{StandsOver, staging_over}
use Rattle.staging_spec.specs.StagedFiles.{StagedContent}
use Rattle.mount_core.proofs.tests.beside.make.Goals as goal

module _ (run : RunState) (before : SerialState) (op : Operation) (came : CameTo run before) where
  abbrev event : LogEvent
  event = record { lane = 1; op = op; mode = modes.Done }

  -- what a file shows holds what it held
  same_source : (number : ℕ) (node : Node) (file : File) → fin.get run.mount.table.nodes number ≡ Some node → node.file ≡ Some file
      → contents_of run.store node.name file.source ≡ contents_of (after_operation run.store op) node.name file.source
  same_source number node file there is_file =
      let f = came.files number node file there is_file in
      ap (λ (c : Option (List ℕ)). unwrap_or c []) (f.1 ∙ sym (content_of-grown run.store.start run.store.log (event ∷ []) node.name file.source f.0 f.1))

  stays_over : (number : ℕ) (node : Node) (file : File) (staged : StagedContent) → fin.get run.mount.table.nodes number ≡ Some node → node.file ≡ Some file
      → fin.get run.mount.staged number ≡ Some staged → IsStagedOver (record run { store = after_operation run.store op }) number node file staged
  stays_over number node file staged there is_file found = record {
    stands = subst (λ (source : List ℕ). StandsOver source (staging_over staged.overlay source)) (same_source number node file there is_file) (came.staged number node file staged there is_file found).stands;
  }

  came_beside : (after : Counted) → IsAllowed op → after ≡ left_by before.store op → CameTo (record run { store = after_operation run.store op }) (record before { store = after })
  came_beside after may left = record {
    mount = came.mount;
    store = subst (λ (s : Counted). LeavesBucket (after_operation run.store op) s) (sym left) (leaves_more run.store before.store op may came.store);
    files = λ number node file there is_file.
        let f = came.files number node file there is_file in
        (f.0, content_of-grown run.store.start run.store.log (event ∷ []) node.name file.source f.0 f.1, f.2);
    staged = stays_over;
    metadata = came.metadata;
  }

pub invariant_of-mount-2 : goal.invariant_of-mount-2
invariant_of-mount-2 c =
    let was = c.mount.invariant in
    let op = operation c.args.op in
    record {
      settings = was.settings;
      same = was.same;
      idle = was.idle;
      run = record was.run { store = after_operation was.run.store op };
      came = came_beside was.run _ op was.came c.make.new.self c.requires c.in_ok-make.ensures.after;
    }
