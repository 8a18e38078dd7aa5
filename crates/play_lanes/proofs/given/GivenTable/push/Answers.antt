-- One more in the last row of the table, if there is one.
use Rattle.std.proofs.Common.{◌≡◌, ◌<◌, ◌-◌, ◌+◌, ℕ, length, map, refl, sym, ap, ◌∙◌, arith, vec_len}
use Rattle.std.proofs.lemmas.Bool.{false≢true}
use Rattle.play_lanes.proofs.RowLaws.{last_written, none_written}
use Rattle.play_lanes.proofs.given.GivenTable.push.Goals as goal
use Rattle.play_lanes.proofs.given.GivenTable.push.Goals.{in-Some+in_ok-push, in_default}
use Rattle.play_lanes.specs.Tables.{with_last}

pub returns : goal.returns
returns c =
    let len = c.self.inside.lanes.ok in
    elim c.match-last_mut.branch [
      | in-Some+in_ok-push w ↦
          let some : 0 < vec_len c.self.inside.lanes = w.in-Some.ensures.variant.0 refl in
          record {
            ok = ap (λ inside. map (λ row. row.items) inside.lanes.items) w.self-inside-is
                ∙ last_written (λ row. row.items) c.self.inside.lanes.items (vec_len c.self.inside.lanes - 1) w.in-Some.lane.now w.push.new.self c.args.given
                (omega (arith, some, len)) w.in-Some.ensures.value w.in_ok-push.ensures.items
                ∙ ap (λ table. with_last table c.args.given) c.self.view_is;
          }
      | in_default w ↦ record {
        ok = ap (λ inside. map (λ row. row.items) inside.lanes.items) w.self-inside-is
            ∙ none_written (λ row. row.items) c.self.inside.lanes.items c.args.given (λ some. absurd (false≢true (w.in_default.ensures.variant.1 (omega (arith, some, len)))))
            ∙ ap (λ table. with_last table c.args.given) c.self.view_is;
      }
    ]
