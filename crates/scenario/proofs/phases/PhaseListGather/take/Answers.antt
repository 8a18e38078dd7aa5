-- The lanes are those of the next phase.
use Rattle.std.proofs.Common.{rules, ◌≡◌, ap, subst, ◌∙◌, ◌+◌, ◌≤◌, [], ◌∷◌, ◌++◌, map}
use Rattle.std.specs.Prelude.{sum_by}
use Rattle.serde_json.specs.View.{view, items_view}
use Rattle.scenario.specs.Checks.{calls_of, items_of}
use Rattle.scenario.specs.Format.{phase, most_items}
use Rattle.scenario.specs.Lawful.{AreLanes}
use Rattle.scenario.specs.Told.{TellsFault}
use Rattle.scenario.specs.Walks.{put_last}
use Rattle.scenario.specs.Works.{lane_of}
use Rattle.scenario.proofs.Growing.{phases_next}
use Rattle.scenario.proofs.PhaseWalks.{phase_fault, lanes_few}
use Rattle.scenario.proofs.phases.PhaseListGather.take.Goals as goal

pub returns-in_err-take_all-clause-err : goal.returns-in_err-take_all-clause-err
returns-in_err-take_all-clause-err c =
    let self = c.args.self.now in
    let told : TellsFault c.in_err-take_all.field-0.0 (put_last self.phases.items (phase self.phases.items (view c.args.item.now))) =
    phase_fault self.phases.items (view c.args.item.now) (items_view c.in_ok-found.found.now) c.as_slice.result.now self.items (map lane_of c.new.result.items) c.in_ok-found.ensures.ok (ap (map lane_of) c.new.ensures.items) (c.as_slice.ensures.value ∙ c.requires.0) c.requires.1 c.in_err-take_all.field-0.0 c.in_err-take_all.ensures.err in
    search rules

pub returns-clause-fits : goal.returns-clause-fits
returns-clause-fits c =
    let self = c.args.self.now in
    let lanes = map lane_of c.take_all.new.all.lanes.items in
    let more = c.take_all.new.all.items in
    let counted : c.push_counts.new.counts.items ≡ c.as_slice.result.now ++ map calls_of lanes = search rules in
    phases_next self.phases.items c.push.new.self.items lanes c.as_slice.result.now c.push_counts.new.counts.items self.items more
    (c.in_ok-push.ensures.items ∙ ap (λ ls. self.phases.items ++ map lane_of ls ∷ []) c.from_vec.ensures.items)
    counted
    (c.as_slice.ensures.value ∙ c.requires.0, c.requires.1, c.requires.2, c.requires.3)
    (subst (λ k. (more ≡ k.1 + sum_by items_of lanes) × (more ≤ most_items) × AreLanes k.0 k.1 lanes) c.in_ok-take_all.ensures.kept c.in_ok-take_all.ensures.fits)
    (lanes_few c.as_slice.result.now self.items (map lane_of c.new.result.items) c.in_ok-found.found.now lanes (ap (map lane_of) c.new.ensures.items) c.in_ok-take_all.ensures.ok c.in_ok-found.ensures.few)
