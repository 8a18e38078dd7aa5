-- The kind stands under its name, and every other name has what it had.
use Rattle.std.proofs.Common.{Some, string_bytes}
use Rattle.std.proofs.lemmas.Map.Text.{btree_map_updates_text}
use Rattle.dir_listing.proofs.entries.put.Goals as goal

pub returns : goal.returns
returns c = record {
  ok = λ shown. btree_map_updates_text (string_bytes c.args.name) c.args.entries.now c.insert.new.self (Some c.args.kind) c.in_ok-insert.ensures.updates shown;
}
