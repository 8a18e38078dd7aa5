-- What a SETATTR asks for and changes, as the code says it.
use Rattle.mount_rules.specs.Requests.Setattr as setattr
use Rattle.plan_files.specs.declared.setting.Asked.{Asked}
use Rattle.plan_files.specs.declared.setting.Change.{Change}
use Rattle.plan_files.specs.declared.setting.Change.TheVariants as changes

abbrev pub asked_of : Asked → setattr.Asked
asked_of asked = record { valid = asked.valid; size = asked.size; seconds = asked.seconds; nanos = asked.nanos }

abbrev pub as_change : Change → setattr.Change
as_change changes.Resize = setattr.resize
as_change changes.StageTime = setattr.stage_time
as_change changes.SetTime = setattr.set_time
as_change changes.Look = setattr.look
