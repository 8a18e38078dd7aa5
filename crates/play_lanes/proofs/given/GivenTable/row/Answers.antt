-- The row of a lane is one that the table keeps, or there is none.
use Rattle.std.proofs.Common.{◌≡◌, ◌<◌, ◌≤◌, ◌-◌, ℕ, length, map, get_or, sym, ap, subst, ◌∙◌, arith}
use Rattle.play_lanes.proofs.RowLaws.{row_missing, row_there}
use Rattle.play_lanes.proofs.given.GivenTable.row.Goals as goal
use Rattle.play_lanes.specs.Tables.{row_of}

pub returns-in-Some : goal.returns-in-Some
returns-in-Some c =
    let rows = c.deref.ensures.value in
    let some : 1 ≤ c.args.lane = omega (arith, c.if-lane-eq0.false) in
    let within = c.in-Some.ensures.lookup.3.0 in
    let is = c.in-Some.ensures.lookup.1 in
    c.as_slice.ensures.value
    ∙ row_there (λ row. row.items) c.deref.result.now c.args.lane c.in-Some.row.now some within is
    ∙ ap (λ list. row_of (map (λ row. row.items) list) c.args.lane) rows
    ∙ ap (λ table. row_of table c.args.lane) c.self.view_is

pub returns-in-None : goal.returns-in-None
returns-in-None c =
    row_missing (λ row. row.items) c.deref.result.now c.args.lane c.in-None.ensures.lookup.3
    ∙ ap (λ list. row_of (map (λ row. row.items) list) c.args.lane) c.deref.ensures.value
    ∙ ap (λ table. row_of table c.args.lane) c.self.view_is
