-- Both paths are provided where they differ.
use Rattle.std.proofs.Common.{◌∙◌}
use Rattle.mount_state.specs.Moving.{names_of}
use Rattle.mount_state.specs.Spares.{moving}
use Rattle.mount_state.specs.Tables.{mount_of}
use Rattle.mount_state.proofs.MovingLaws.{wants_both, wants_nothing}
use Rattle.mount_state.proofs.tables.Tables.moving.Goals as goal

pub returns-then-are_one-clause-ok : goal.returns-then-are_one-clause-ok
returns-then-are_one-clause-ok c =
    wants_nothing (mount_of c.args.self.now) c.args.node (names_of c.args.name.now c.args.newdir c.args.newname.now) c.in-Ok.paths c.in-Ok.ensures.ok c.if-are_one.ensures

pub returns-clause-ok : goal.returns-clause-ok
returns-clause-ok c =
    let from = c.in_ok-from.ensures.ok ∙ c.as_str.ensures.value in
    let to = c.in_ok-to.ensures.ok ∙ c.as_str-2.ensures.value in
    (λ i. moving (from i) (to i))
    ∙ wants_both (mount_of c.args.self.now) c.args.node (names_of c.args.name.now c.args.newdir c.args.newname.now) c.in-Ok.paths c.in-Ok.ensures.ok c.if-are_one.ensures
