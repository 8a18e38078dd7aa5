-- Once none is left, all were told.
use Rattle.std.proofs.Common.{◌≡◌, [], refl, sym, subst, ◌∙◌}
use Rattle.std.proofs.lemmas.List.{append-nil, nil_from_length}
use Rattle.mount_kept.specs.Notes.{EndsBy}
use Rattle.mount_kept.proofs.kept.Kept.tell.Goals as goal

pub returns-clause-ok : goal.returns-clause-ok
returns-clause-ok c =
    let none : c.loop-note.note-iterator.rest.items ≡ [] = nil_from_length c.loop-note.note-iterator.rest.items (sym c.loop-note.note-iterator.rest.ok.0 ∙ c.in-None.ensures.steps.0) in
    subst (λ uses. EndsBy c.args.implicit c.args.clock c.args.self.now.records c.args.notes.items uses c.loop-note.self.records) (append-nil c.loop-note.uses.items)
    (c.loop-note.invariant.0 [] c.loop-note.self.records (subst (λ notes. EndsBy c.args.implicit c.args.clock c.loop-note.self.records notes [] c.loop-note.self.records) (sym none) (refl, refl)))
