-- A mount before its first request, with no spare out.
use Rattle.std.proofs.Common.{◌≡◌, false, sym, ap, subst, arith}
use Rattle.handle_table.specs.Handles.{Handles}
use Rattle.mount_rules.specs.Mount.{IsMount}
use Rattle.mount_laws.proofs.Mounts.{IsMount-first}
use Rattle.staging_table.specs.Stagings.{Stagings}
use Rattle.mount_state.proofs.mount.Mount.new.Goals as goal

pub invariant_of-result : goal.invariant_of-result
invariant_of-result c =
    let next : c.new-3.result.next ≡ 1 = ap (λ (h : Handles). h.next) c.new-3.ensures.ok in
    record {
      mount = subst IsMount
          (sym (λ i. record {
            table = (c.in_ok-nodes.ensures.ok i).table;
            handles = (c.new-3.ensures.ok i).handles;
            next_handle = (c.new-3.ensures.ok i).next;
            staged = (c.in_ok-staging.ensures.ok i).files;
            negotiated = false;
          }))
          IsMount-first;
      region = ap (λ (t : Stagings). t.blocks) c.in_ok-staging.ensures.ok;
      node_room = omega arith;
      handle_room = omega arith;
      staging_room = omega arith;
      numbers = omega (arith, next);
      bounded = omega arith;
    }
