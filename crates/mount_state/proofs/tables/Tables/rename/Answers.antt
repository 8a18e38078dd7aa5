-- What came of it is what was observed, where both paths were provided; else they are one.
use Rattle.std.proofs.Common.{refl, sym, ap, ◌∙◌, arith}
use Rattle.std.specs.Prelude.{if◌then◌else◌}
use Rattle.inode_spec.specs.Inodes.{detached}
use Rattle.mount_rules.specs.Mount.{NodeTable}
use Rattle.mount_rules.specs.Plans.{answers_of}
use Rattle.mount_rules.specs.Removing.{without_name}
use Rattle.mount_rules.specs.Requests.Rename.{came_of, directory, fault, from_of, mount_after, moved, nothing, reply_to, stale, to_of}
use Rattle.mount_state.specs.Spares.{provided_by}
use Rattle.mount_state.specs.Tables.{mount_of}
use Rattle.mount_state.proofs.MovingLaws.{are_one, leaves, replies}
use Rattle.plan_names.specs.Outcomes.{as_moved}
use Rattle.mount_state.proofs.tables.Tables.rename.Goals as goal

pub returns-in_default : goal.returns-in_default
returns-in_default c =
    let answers = answers_of c.args.seen.now.items in
    let mount = mount_of c.args.self.now in
    record {
      reply = λ names view wants. sym (ap (λ t. reply_to (if t then moved else came_of answers)) (are_one c.args.prepared c.in_default.not-Moving names view wants));
      mount = λ names view wants.
          let one = are_one c.args.prepared c.in_default.not-Moving names view wants in
          sym (ap (λ t. if t then mount else without_name (without_name mount (from_of names view)) (to_of names view)) one)
          ∙ sym (ap (λ t. mount_after names view mount (if t then moved else came_of answers)) one);
      uses = record { nodes = omega arith; handles = omega arith; staging = omega arith; numbers = omega arith; region = refl };
      no_spare = refl;
      sendable = tt;
    }

pub returns-in-Moved-clause-mount : goal.returns-in-Moved-clause-mount
returns-in-Moved-clause-mount c = λ names view wants.
    let mount = mount_of c.args.self.now in
    let from = c.as_str.ensures.bytes in
    let to = c.as_str-in-Moved.ensures.bytes in
    let table =
    c.detach-in-Moved.ensures.table
    ∙ ap (λ (t : NodeTable). detached t c.as_str-in-Moved.result.now) c.detach.ensures.table
    ∙ (λ i. detached (detached mount.table (from i)) (to i)) in
    ap (λ (t : NodeTable). record mount { table = t }) table
    ∙ leaves c.in-Moving.from c.in-Moving.to names view (sym (ap provided_by c.in-Moving.is) ∙ wants) mount (answers_of c.args.seen.now.items)
    (ap as_moved (sym c.in-Moved.is) ∙ c.outcome_of_rename.ensures ∙ ap came_of c.answers.ensures)

pub returns-in-Directory-clause-reply : goal.returns-in-Directory-clause-reply
returns-in-Directory-clause-reply c = λ names view wants.
    replies c.in-Moving.from c.in-Moving.to names view (sym (ap provided_by c.in-Moving.is) ∙ wants) (answers_of c.args.seen.now.items) directory
    (ap as_moved (sym c.in-Directory.is) ∙ c.outcome_of_rename.ensures ∙ ap came_of c.answers.ensures)

pub returns-in-Nothing-clause-reply : goal.returns-in-Nothing-clause-reply
returns-in-Nothing-clause-reply c = λ names view wants.
    replies c.in-Moving.from c.in-Moving.to names view (sym (ap provided_by c.in-Moving.is) ∙ wants) (answers_of c.args.seen.now.items) nothing
    (ap as_moved (sym c.in-Nothing.is) ∙ c.outcome_of_rename.ensures ∙ ap came_of c.answers.ensures)

pub returns-in-Stale-clause-reply : goal.returns-in-Stale-clause-reply
returns-in-Stale-clause-reply c = λ names view wants.
    replies c.in-Moving.from c.in-Moving.to names view (sym (ap provided_by c.in-Moving.is) ∙ wants) (answers_of c.args.seen.now.items) stale
    (ap as_moved (sym c.in-Stale.is) ∙ c.outcome_of_rename.ensures ∙ ap came_of c.answers.ensures)

pub returns-clause-reply : goal.returns-clause-reply
returns-clause-reply c = λ names view wants.
    replies c.in-Moving.from c.in-Moving.to names view (sym (ap provided_by c.in-Moving.is) ∙ wants) (answers_of c.args.seen.now.items) fault
    (ap as_moved (sym c.in-Fault.is) ∙ c.outcome_of_rename.ensures ∙ ap came_of c.answers.ensures)
