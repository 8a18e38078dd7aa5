-- A file is put under its name, or behind the directory that hides it.
use Rattle.std.proofs.Common.{◌≡◌, ◌++◌, ◌∷◌, [], Some, None, sym, ap, ◌∙◌, string_bytes, true, false}
use Rattle.std.proofs.lemmas.Result.{on_ok_weaker}
use Rattle.std.specs.BTreeMap.{get_by_text}
use Rattle.dir_listing.specs.Steps.{is_dir_kind}
use Rattle.dir_listing.proofs.FileLemmas.{put_unhidden, put_hidden, puts_free, puts_nothing}
use Rattle.dir_listing.proofs.entries.put_file.Goals as goal

pub returns-in_default : goal.returns-in_default
returns-in_default c = let old = c.args.entries.now in let name = string_bytes c.into_string-name.result in
    let free : get_by_text old name ≡ None = ap (get_by_text c.args.entries.now) (c.into_string-name.ensures.bytes ∙ sym c.as_str.ensures.bytes) ∙ sym c.kind_at-there.ensures ∙ c.in_default.is in record {
      ok = on_ok_weaker c.put.result
          (λ puts is_dir file component no_dir has.
          put_unhidden c.args.file.shown c.args.file.kind is_dir file old c.put.new.entries name component no_dir has
          c.into_string-name.ensures.bytes (ap is_dir_kind free) (puts_free old c.put.new.entries name c.args.file.kind free puts))
          c.put.ensures.ok;
    }

pub returns-then-is_dir : goal.returns-then-is_dir
returns-then-is_dir c = let old = c.args.entries.now in let name = string_bytes c.into_string-name.result in
    let taken : get_by_text old name ≡ Some c.in-Some.there = ap (get_by_text c.args.entries.now) (c.into_string-name.ensures.bytes ∙ sym c.as_str.ensures.bytes) ∙ sym c.kind_at-there.ensures ∙ c.in-Some.is in record {
      ok = on_ok_weaker c.put_first.result
          (λ puts is_dir file component no_dir has.
          put_hidden c.args.file.shown c.args.file.kind is_dir file old c.put_first.new.entries name (string_bytes c.in_ok-hidden.hidden) component no_dir has
          c.into_string-name.ensures.bytes (ap is_dir_kind taken ∙ (sym c.is_dir.ensures ∙ c.if-is_dir.true)) c.in_ok-hidden.ensures.ok puts)
          c.put_first.ensures.ok;
    }

pub returns : goal.returns
returns c = let old = c.args.entries.now in let name = string_bytes c.into_string-name.result in
    let taken : get_by_text old name ≡ Some c.in-Some.there = ap (get_by_text c.args.entries.now) (c.into_string-name.ensures.bytes ∙ sym c.as_str.ensures.bytes) ∙ sym c.kind_at-there.ensures ∙ c.in-Some.is in record {
      ok = λ is_dir file component no_dir has.
          put_unhidden c.args.file.shown c.args.file.kind is_dir file old old name component no_dir has
          c.into_string-name.ensures.bytes (ap is_dir_kind taken ∙ (sym c.is_dir.ensures ∙ c.if-is_dir.false)) (puts_nothing old old name c.args.file.kind c.in-Some.there taken);
    }
