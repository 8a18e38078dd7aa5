-- The paths are those of two live directories.
use Rattle.std.proofs.Common.{◌≡◌, Some, rules, sym, ap, ◌∙◌}
use Rattle.mount_rules.specs.Guards.{part_refusal}
use Rattle.mount_rules.specs.Mount.{Node}
use Rattle.mount_rules.specs.Requests.Rename.{refusal}
use Rattle.mount_rules.specs.View.{child_of, current_at, sight_of}
use Rattle.mount_state.specs.Moving.{moving_view, names_of}
use Rattle.mount_state.specs.Tables.{mount_of}
use Rattle.mount_state.proofs.MovingLaws.{from_is, goes_on, new_refused, old_is, old_refused, to_is}
use Rattle.mount_state.proofs.tables.Tables.paths_of.Goals as goal

pub returns-in_err-from-clause-err : goal.returns-in_err-from-clause-err
returns-in_err-from-clause-err c =
    let mount = mount_of c.args.self.now in
    let names = names_of c.args.name.now c.args.newdir c.args.newname.now in
    let old = c.in_ok-old.old.now in
    let new = c.in_ok-new.new.now in
    let sight = sight_of c.args.node old in
    let refused : refusal names (moving_view mount c.args.node names) ≡ Some c.in_err-from.field-0.0 =
    old_refused mount c.args.node names old new c.in_ok-old.ensures.0 c.in_ok-old.ensures.1 c.in_ok-new.ensures.0 c.in_ok-new.ensures.1
    (sym c.if-not-are_directories.ensures) c.in_err-from.field-0.0
    (ap (λ part. part_refusal part sight) (sym c.strip_suffix.ensures.bare)
    ∙ c.in_err-from.ensures sight (sym (c.as_str.ensures.bytes ∙ ap (λ (n : Node). n.name) c.old.view_is))) in
    search (rules, refused)

pub returns-in_err-to-clause-err : goal.returns-in_err-to-clause-err
returns-in_err-to-clause-err c =
    let mount = mount_of c.args.self.now in
    let names = names_of c.args.name.now c.args.newdir c.args.newname.now in
    let old = c.in_ok-old.old.now in
    let new = c.in_ok-new.new.now in
    let from = sight_of c.args.node old in
    let old_free =
    ap (λ part. part_refusal part from) (sym c.strip_suffix.ensures.bare)
    ∙ (c.in_ok-from.ensures from (sym (c.as_str.ensures.bytes ∙ ap (λ (n : Node). n.name) c.old.view_is))).1 in
    let refused : refusal names (moving_view mount c.args.node names) ≡ Some c.in_err-to.field-0.0 =
    new_refused mount c.args.node names old new c.in_ok-old.ensures.0 c.in_ok-old.ensures.1 c.in_ok-new.ensures.0 c.in_ok-new.ensures.1
    (sym c.if-not-are_directories.ensures) old_free c.in_err-to.field-0.0
    (c.in_err-to.ensures (sight_of c.args.newdir new) (sym (c.as_str-2.ensures.bytes ∙ ap (λ (n : Node). n.name) c.new.view_is))) in
    search (rules, refused)

pub returns-clause-ok : goal.returns-clause-ok
returns-clause-ok c =
    let mount = mount_of c.args.self.now in
    let names = names_of c.args.name.now c.args.newdir c.args.newname.now in
    let old = c.in_ok-old.old.now in
    let new = c.in_ok-new.new.now in
    let olddir = sight_of c.args.node old in
    let from = c.in_ok-from.ensures olddir (sym (c.as_str.ensures.bytes ∙ ap (λ (n : Node). n.name) c.old.view_is)) in
    let to = c.in_ok-to.ensures (sight_of c.args.newdir new) (sym (c.as_str-2.ensures.bytes ∙ ap (λ (n : Node). n.name) c.new.view_is)) in
    let path = from.0 ∙ ap (child_of olddir) c.strip_suffix.ensures.bare in
    record {
      goes_on =
          goes_on mount c.args.node names old new c.in_ok-old.ensures.0 c.in_ok-old.ensures.1 c.in_ok-new.ensures.0 c.in_ok-new.ensures.1
          (sym c.if-not-are_directories.ensures) (ap (λ part. part_refusal part olddir) (sym c.strip_suffix.ensures.bare) ∙ from.1) to.1;
      from = path ∙ sym (from_is mount c.args.node names old new c.in_ok-old.ensures.0 c.in_ok-old.ensures.1 c.in_ok-new.ensures.0 c.in_ok-new.ensures.1);
      to = to.0 ∙ sym (to_is mount c.args.node names old new c.in_ok-old.ensures.0 c.in_ok-old.ensures.1 c.in_ok-new.ensures.0 c.in_ok-new.ensures.1);
      old =
          old_is mount c.args.node names old new c.in_ok-old.ensures.0 c.in_ok-old.ensures.1 c.in_ok-new.ensures.0 c.in_ok-new.ensures.1
          ∙ ap (current_at mount) (sym path);
    }
