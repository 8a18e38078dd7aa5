-- What the plan asks behind the first key decides whether the second one is looked for.
use Rattle.std.proofs.Common.{Bool, false, true, None, sym, ap, refl, ◌∙◌, if◌then◌else◌}
use Rattle.history_spec.specs.Pasts.{lifetime_of}
use Rattle.mount_kept.proofs.Recalling.{Asks, asks_when, both_when}
use Rattle.mount_rules.specs.Requests.Lookup as lookup
use Rattle.record_spec.specs.RecordList.{Key}
use Rattle.record_spec.specs.Steps.{found}
use Rattle.mount_kept.proofs.kept.Kept.recall_both.Goals as goal

ends : (c : goal.After-touch) (implicit : Bool) (name : Key) → Asks c.args.config.now c.args.now (lookup.plan implicit name c.args.suffixed) c.args.self.now.records c.args.directory.now c.args.path.now c.in_ok-probe.probe false
ends c implicit name = asks_when c.args.config.now c.args.now (lookup.plan implicit name c.args.suffixed) c.args.self.now.records c.args.directory.now c.args.path.now c.in_ok-probe.probe false c.in_ok-probe.ensures.ok (c.if-not-asks_for_object.ensures implicit name)

goes_on : (c : goal.After-touch-3) (implicit : Bool) (name : Key) → Asks c.args.config.now c.args.now (lookup.plan implicit name c.args.suffixed) c.args.self.now.records c.args.directory.now c.args.path.now c.in_ok-probe.probe true
goes_on c implicit name = asks_when c.args.config.now c.args.now (lookup.plan implicit name c.args.suffixed) c.args.self.now.records c.args.directory.now c.args.path.now c.in_ok-probe.probe true c.in_ok-probe.ensures.ok (c.if-not-asks_for_object.ensures implicit name)

pub returns-then-not-asks_for_object-clause-ok : goal.returns-then-not-asks_for_object-clause-ok
returns-then-not-asks_for_object-clause-ok c implicit name = both_when c.args.config.now c.args.now (lookup.plan implicit name c.args.suffixed) c.args.self.now.records c.args.directory.now c.args.path.now c.in_ok-probe.probe false None c.in_ok-probe.ensures.ok (ends c implicit name) refl

pub returns-then-not-asks_for_object-clause-kept : goal.returns-then-not-asks_for_object-clause-kept
returns-then-not-asks_for_object-clause-kept c implicit name =
    c.touch.ensures
    ∙ ap (λ more. record {
      records =
          if more then
          found (found c.args.self.now.records c.args.directory.now c.args.now (lifetime_of c.args.config.now c.args.directory.now)) c.args.path.now c.args.now (lifetime_of c.args.config.now c.args.path.now)
          else found c.args.self.now.records c.args.directory.now c.args.now (lifetime_of c.args.config.now c.args.directory.now);
      files = c.args.self.now.files;
    }) (sym (ends c implicit name))

pub returns-clause-ok : goal.returns-clause-ok
returns-clause-ok c implicit name = both_when c.args.config.now c.args.now (lookup.plan implicit name c.args.suffixed) c.args.self.now.records c.args.directory.now c.args.path.now c.in_ok-probe.probe true c.in_ok-stat.stat c.in_ok-probe.ensures.ok (goes_on c implicit name) c.in_ok-stat.ensures.ok

pub returns-clause-kept : goal.returns-clause-kept
returns-clause-kept c implicit name =
    c.touch-3.ensures
    ∙ ap (λ kept. record {
      records = found kept.records c.args.path.now c.args.now (lifetime_of c.args.config.now c.args.path.now);
      files = kept.files;
    }) c.touch-2.ensures
    ∙ ap (λ more. record {
      records =
          if more then
          found (found c.args.self.now.records c.args.directory.now c.args.now (lifetime_of c.args.config.now c.args.directory.now)) c.args.path.now c.args.now (lifetime_of c.args.config.now c.args.path.now)
          else found c.args.self.now.records c.args.directory.now c.args.now (lifetime_of c.args.config.now c.args.directory.now);
      files = c.args.self.now.files;
    }) (sym (goes_on c implicit name))
