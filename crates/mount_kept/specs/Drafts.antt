-- What will be noted of an operation, before it is made.
use Rattle.std.specs.Prelude.{◌≡◌, ℕ, Option, Bool, true, false, Some, None}
use Rattle.bucket_api.specs.Operation.{Operation}
use Rattle.history_spec.specs.Looks.{IsLook}
use Rattle.history_spec.specs.Pasts.{key_of, written_by}
use Rattle.mount_kept.specs.Items.{note_shown}
use Rattle.mount_kept.specs.declared.draft.Draft.{Draft}
use Rattle.mount_kept.specs.declared.draft.Draft.TheVariants.{Look, Nothing, Write}
use Rattle.mount_kept.specs.declared.notes.Note.{Note}
use Rattle.mount_kept.specs.declared.notes.Note.TheVariants.{Wrote}
use Rattle.record_spec.specs.declared.records.Shown.{Shown}

-- the draft of an operation: of a look its key, and else the name that it writes
abbrev pub IsDraftOf : Operation → Draft → Type 0
IsDraftOf op (Look key) = IsLook op × (key ≡ key_of op)
IsDraftOf op (Write name) = (IsLook op → ⊥) × (written_by op ≡ Some name)
IsDraftOf op Nothing = (IsLook op → ⊥) × (written_by op ≡ None)

-- what is noted by it
abbrev pub note_from : Draft → ℕ → Option Shown → Option Note
note_from (Look key) moment shown = Some (note_shown key moment shown)
note_from (Write name) moment shown = Some (Wrote name moment)
note_from Nothing moment shown = None

-- whether it is that of a look
abbrev pub looks : Draft → Bool
looks (Look key) = true
looks draft = false
