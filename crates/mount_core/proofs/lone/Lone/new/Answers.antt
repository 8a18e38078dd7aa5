-- Before its first call.
use Rattle.std.proofs.Common.{List, [], subst, sym}
use Rattle.bucket_api.specs.Scripts.{script_of}
use Rattle.logged_bucket.specs.LoggedState.{LoggedState}
use Rattle.mount_core.proofs.LoneBetween.{between_first}
use Rattle.mount_core.specs.LoneCalls.{IsBetween}
use Rattle.mount_model.specs.Journal.{entries}
use Rattle.mount_model.specs.declared.journal.JournalEntry.{JournalEntry}
use Rattle.mount_rules.specs.Mount.{first_mount}
use Rattle.mount_state.specs.Mounts.{MountState}
use Rattle.record_spec.specs.RecordList.{RecordList, empty_list}
use Rattle.mount_core.proofs.lone.Lone.new.Goals as goal

pub invariant_of-result : goal.invariant_of-result
invariant_of-result c =
    let first : MountState = record { mount = first_mount; config = c.args.config.now; promised = 0 } in
    subst (λ (m : MountState). IsBetween c.args.config.now m c.in_ok-kept.kept.records c.new-3.result (entries c.new-4.result.items) 0) (sym c.in_ok-mount.ensures.ok)
    (subst (λ (list : RecordList). IsBetween c.args.config.now first list c.new-3.result (entries c.new-4.result.items) 0) (sym c.in_ok-kept.ensures.records)
    (subst (λ (l : LoggedState). IsBetween c.args.config.now first (empty_list c.args.config.now.record_capacity) l (entries c.new-4.result.items) 0) (sym c.new-3.ensures)
    (subst (λ (items : List JournalEntry). IsBetween c.args.config.now first (empty_list c.args.config.now.record_capacity)
    (record { start = c.args.bucket; script = script_of c.args.script.items; log = [] }) (entries items) 0) (sym c.new-4.ensures.items)
    (between_first c.args.config.now c.args.bucket (script_of c.args.script.items) c.requires.config c.last.ensures.bucket))))
