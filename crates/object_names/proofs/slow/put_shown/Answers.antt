-- What is shown under one name is put in.
use Rattle.std.proofs.Common.{Some, sym, ◌∙◌, string_bytes, ap, cond}
use Rattle.std.proofs.lemmas.Map.Text.{btree_map_updates_text}
use Rattle.std.specs.BTreeMap.{get_by_text}
use Rattle.std.specs.Str.{bytes_eq}
use Rattle.object_names.specs.ShownNames.{kind_shown}
use Rattle.object_names.specs.Slow.{listed_of}
use Rattle.object_names.proofs.SlowLemmas.{IsUtf8-shown, puts_kind}
use Rattle.object_names.proofs.slow.put_shown.Goals as goal

pub returns-in_default-from_utf8 : goal.returns-in_default-from_utf8
returns-in_default-from_utf8 c =
    absurd (c.in_default-from_utf8.ensures.cases.0
    (IsUtf8-shown (listed_of c.args.source.now) c.args.shown.now c.in-Some.kind (sym c.in_ok-kind.ensures.ok ∙ c.in-Some.is)))

pub returns : goal.returns
returns c = record {
  ok = λ name.
      btree_map_updates_text (string_bytes c.in_ok-from_str.field-0) c.args.entries.now c.insert.new.self (Some c.in-Some.kind) c.in_ok-insert.ensures.updates name
      ∙ ap (λ key. cond (bytes_eq key name) (Some c.in-Some.kind) (get_by_text c.args.entries.now name)) (c.in_ok-from_str.ensures.ok ∙ c.in-Ok.ensures.cases.0)
      ∙ puts_kind (kind_shown (listed_of c.args.source.now)) (get_by_text c.args.entries.now name) name c.args.shown.now c.in-Some.kind (sym c.in_ok-kind.ensures.ok ∙ c.in-Some.is);
}
