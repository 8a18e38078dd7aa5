-- A node that is there has one more look-up.
use Rattle.std.proofs.Common.{◌+◌, ap, arith}
use Rattle.inode_spec.proofs.TableLaws.{IsTable-written}
use Rattle.inode_table.specs.Tables.{table_of}
use Rattle.inode_table.proofs.HeldLaws.{AreAtMost-put}
use Rattle.inode_table.proofs.table.InodeTable.look.Goals as goal

pub invariant_of-self : goal.invariant_of-self
invariant_of-self g c =
    let was = table_of c.self.inside.nodes c.self.inside.current c.self.inside.next in
    let room = ap (λ t. t.spare) c.self.view_is in
    let old = c.self.invariant.counts c.args.node c.value_mut-inode.result.now c.value_mut-inode.ensures.value in
    let looked = ap (λ i. i.lookups) c.look.ensures in
    record {
      table = IsTable-written was c.args.node c.value_mut-inode.result.now c.look.new.self c.self.invariant.table c.value_mut-inode.ensures.value
          (ap (λ i. i.name) c.look.ensures) (λ has. omega (arith, looked));
      counts = AreAtMost-put c.self.inside.nodes.map c.self.inside.given (c.self.inside.given + 1) (omega arith) c.self.invariant.counts c.args.node c.look.new.self
          (omega (arith, old, looked));
      numbers = omega (arith, c.self.invariant.numbers);
      bounded = omega (arith, c.self.invariant.bounded, c.requires.spare, room);
      node_room = omega (arith, c.self.invariant.node_room);
      name_room = omega (arith, c.self.invariant.name_room);
    }
