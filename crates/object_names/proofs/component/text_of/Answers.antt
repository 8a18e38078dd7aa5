-- Bytes are a text where they are UTF-8.
use Rattle.std.proofs.lemmas.Str.{is_utf8-from_IsUtf8}
use Rattle.object_names.proofs.ComponentLemmas.{is_utf8-not_text}
use Rattle.object_names.proofs.component.text_of.Goals as goal

pub returns-in-Ok : goal.returns-in-Ok
returns-in-Ok c = (c.in-Ok.ensures.cases.0, is_utf8-from_IsUtf8 _ c.in-Ok.ensures.cases.1)

pub returns-in-Err : goal.returns-in-Err
returns-in-Err c = is_utf8-not_text _ c.in-Err.ensures.cases.0
