-- However the notes that are left are told, all are told so; and there is room for a use of each that is left.
use Rattle.std.proofs.Common.{◌≡◌, ◌≤◌, ◌++◌, List, length}
use Rattle.mount_kept.specs.Notes.{EndsBy}
use Rattle.mount_model.specs.declared.journal.Use.{Use}
use Rattle.record_spec.specs.RecordList.{RecordList}
use Rattle.mount_kept.proofs.kept.Kept.tell.Given as goal

abbrev pub invariant-loop-note : goal.invariant-loop-note
invariant-loop-note l =
    ((more : List Use) (after : RecordList) → EndsBy l.implicit l.clock l.self.records l.note-iterator.rest.items more after → EndsBy l.implicit l.clock l.fn.self.records l.fn.notes.items (l.uses.items ++ more) after)
    × (length l.note-iterator.rest.items ≤ l.uses.spare)
    × (l.self.files ≡ l.fn.self.files)
