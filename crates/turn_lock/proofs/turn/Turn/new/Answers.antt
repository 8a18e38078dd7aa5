-- The first seat is at a table that keeps the rule.
use Rattle.std.proofs.Common.{◌≡◌, [], ◌∷◌, ◌++◌, Some, subst, sym, ap, ◌∙◌}
use Rattle.atomic_table.specs.Table.{opening}
use Rattle.turn_lock.specs.Rule.{Rule, first_known}
use Rattle.turn_lock.proofs.Kept.{starts}
use Rattle.turn_lock.proofs.turn.Turn.new.Goals as goal

pub new-requires : goal.new-requires
new-requires g c = let b = g.S.Booked in
    let first = c.of-first.result.value in
    let one : c.push_reserved.new.self.items ≡ Some first ∷ [] = c.push_reserved.ensures.items ∙ (ap (λ xs. xs ++ Some c.args.state ∷ []) c.in-Ok.ensures.items ∙ ap (λ x. Some x ∷ []) (sym c.of-first.ensures)) in
    subst (λ xs. Rule b.entries b.home b.may_make first (opening (0 ∷ 0 ∷ []) xs (first_known first))) (sym one) (starts b.entries b.home b.may_make first (ap b.entries c.of-first.ensures ∙ c.requires))
