-- What is shown under each name is what the entries have.
use Rattle.std.proofs.Common.{◌≡◌, ◌&&◌, cond, is_some, sym, ap, subst, ◌∙◌, arith}
use Rattle.std.proofs.lemmas.Result.{IfOk-weaker}
use Rattle.std.specs.BTreeMap.{get_by_text}
use Rattle.std.specs.Str.{bytes_eq}
use Rattle.object_names.specs.ShownNames.{Listed, kind_shown, Shows, shown_entries}
use Rattle.object_names.specs.Slow.{items_of}
use Rattle.object_names.proofs.EntryLemmas.{Shows-map, shown_entries-from_Shows}
use Rattle.object_names.proofs.SlowLemmas.{names_more, names_done}
use Rattle.object_names.proofs.slow.slow_entries.Goals as goal
use Rattle.object_names.proofs.slow.slow_entries.Goals.{In_ok-put_shown, After-drop-names-2}

listed_there : In_ok-put_shown → Listed
listed_there c = record { prefix = c.args.prefix.now; items = c.args.items.now; prefixes = c.args.prefixes.now; implicit = c.args.implicit }

listed_here : After-drop-names-2 → Listed
listed_here c = record { prefix = c.args.prefix.now; items = c.args.items.now; prefixes = c.args.prefixes.now; implicit = c.args.implicit }

pub loop-name-preserved : goal.loop-name-preserved
unfolding listed_there
loop-name-preserved c = λ q.
    names_more (kind_shown (listed_there c)) q
    c.deref-name-items.result.now c.loop-name.name-index c.name-item.result _ _
    (omega arith) c.name-item.is (c.loop-name.invariant q)
    (c.in_ok-put_shown.ensures.ok q
    ∙ ap (λ name. cond (bytes_eq q name && is_some (kind_shown (listed_there c) name)) (kind_shown (listed_there c) q) (get_by_text c.loop-name.entries q)) c.as_slice.ensures.bytes)

-- the map holds under each name what is shown under it
pub shows : goal.returns-clause-shows
unfolding listed_here
shows c = IfOk-weaker c.entry_row.result (λ row. row.items ≡ items_of c.loop-name.entries.entries) (λ row. Shows (listed_here c) row.items)
    (λ row e. subst (Shows (listed_here c)) (sym e) (Shows-map (listed_here c) c.loop-name.entries c.entry_row.ensures.ordered (λ q.
    names_done (listed_here c) q c.deref-name-items.result.now c.loop-name.name-index _ c.loop-name-test.false (c.deref-name-items.ensures.value ∙ c.in_ok-names.ensures.ok) (c.loop-name.invariant q))))
    c.entry_row.ensures.ok

pub returns-clause-shows : goal.returns-clause-shows
returns-clause-shows c = shows c

pub returns-clause-ok : goal.returns-clause-ok
unfolding listed_here
returns-clause-ok c = IfOk-weaker c.entry_row.result (λ row. Shows (listed_here c) row.items) (λ row. row.items ≡ shown_entries (listed_here c))
    (λ row. shown_entries-from_Shows (listed_here c) row.items) (shows c)
