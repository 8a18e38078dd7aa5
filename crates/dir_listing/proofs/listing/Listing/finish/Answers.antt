-- The entries are what is shown of the directory.
use Rattle.std.proofs.Common.{◌≡◌, ap, subst, sym, ◌∙◌}
use Rattle.std.proofs.lemmas.Result.{IfOk-weaker}
use Rattle.object_names.specs.ShownNames.{kind_shown, shown_entries, Shows}
use Rattle.object_names.specs.Slow.{items_of}
use Rattle.object_names.proofs.EntryLemmas.{Shows-map, shown_entries-from_Shows}
use Rattle.dir_listing.specs.Steps.{PutsFiles}
use Rattle.dir_listing.proofs.KeptLemmas.{shown_kept}
use Rattle.dir_listing.proofs.listing.Listing.finish.Goals as goal

-- the map has under each name what is shown under it
shows : goal.returns-clause-shows
shows c =
    IfOk-weaker c.entry_row.result (λ row. row.items ≡ items_of c.put_files.new.entries.entries) (λ row. Shows c.args.self row.items)
    (λ row e. subst (Shows c.args.self) (sym e) (Shows-map c.args.self c.put_files.new.entries c.entry_row.ensures.ordered
    (λ q. shown_kept c.self.inside.prefix c.self.inside.items.items c.self.inside.prefixes.items c.self.inside.implicit
    c.in_ok-entries.entries c.put_dirs.new.entries c.put_files.new.entries c.self.invariant
    c.in_ok-entries.ensures.dirs c.in_ok-put_dirs.ensures.ok
    (subst (λ files. PutsFiles files c.put_dirs.new.entries c.put_files.new.entries) c.in_ok-entries.ensures.files c.in_ok-put_files.ensures.ok)
    q ∙ ap (λ listed. kind_shown listed q) c.self.view_is)))
    c.entry_row.ensures.ok

pub returns-clause-shows : goal.returns-clause-shows
returns-clause-shows c = shows c

pub returns-clause-ok : goal.returns-clause-ok
returns-clause-ok c = IfOk-weaker c.entry_row.result (λ row. Shows c.args.self row.items) (λ row. row.items ≡ shown_entries c.args.self)
    (λ row. shown_entries-from_Shows c.args.self row.items) (shows c)
