-- A placeholder puts its directory into the map.
use Rattle.std.proofs.Common.{Some, sym, ap, ◌∙◌, cond, ◌&&◌, string_bytes}
use Rattle.std.proofs.lemmas.Map.Text.{btree_map_updates_text}
use Rattle.std.specs.BTreeMap.{get_by_text}
use Rattle.std.specs.Str.{bytes_eq}
use Rattle.object_names.specs.declared.shown.NodeKind.TheVariants.{Dir}
use Rattle.dir_listing.specs.Steps.{is_placeholder}
use Rattle.dir_listing.proofs.entries.put_dir.Goals as goal

pub returns-in_ok-insert-in-Placeholder : goal.returns-in_ok-insert-in-Placeholder
returns-in_ok-insert-in-Placeholder c = record {
  ok = λ shown.
      btree_map_updates_text (string_bytes c.into_string.result) c.args.entries.now c.insert.new.self (Some Dir) c.in_ok-insert-in-Placeholder.ensures.updates shown
      ∙ ap (λ name. cond (bytes_eq name shown) (Some Dir) (get_by_text c.args.entries.now shown)) c.into_string.ensures.bytes
      ∙ ap (λ role. cond (is_placeholder role && bytes_eq c.args.name.text shown) (Some Dir) (get_by_text c.args.entries.now shown)) (sym c.in-Placeholder.is);
}
