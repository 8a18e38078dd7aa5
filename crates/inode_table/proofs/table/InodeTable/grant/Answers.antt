-- A new node with one look-up was put under the next number, and is current.
use Rattle.std.proofs.Common.{◌+◌, ap, ◌∙◌, subst, sym, arith}
use Rattle.std.specs.FinMap as fin
use Rattle.inode_spec.proofs.TableLaws.{IsTable-granted}
use Rattle.inode_spec.specs.Inodes.{Inode}
use Rattle.inode_table.specs.Tables.{table_of}
use Rattle.inode_table.proofs.HeldLaws.{IsTable-of, AreAtMost, AreAtMost-put}
use Rattle.inode_table.proofs.table.InodeTable.grant.Goals as goal

pub invariant_of-self : goal.invariant_of-self
invariant_of-self g c =
    let was = table_of c.self.inside.nodes c.self.inside.current c.self.inside.next in
    let inode : Inode g.row.F.Denot = record { kind = c.args.kind; name = c.args.name; lookups = 1; file = c.args.file } in
    let room = ap (λ t. t.spare) c.self.view_is in
    let names = c.put-2.ensures.map ∙ ap (λ name. fin.insert c.self.inside.current.map name c.self.inside.next) c.requires.again in
    record {
      table = IsTable-of c.put.new.self c.put-2.new.self (c.self.inside.next + 1) _ _ c.put.ensures.map names (IsTable-granted was inode (omega arith) c.self.invariant.table);
      counts = subst (λ nodes. AreAtMost nodes (c.self.inside.given + 1)) (sym c.put.ensures.map)
          (AreAtMost-put c.self.inside.nodes.map c.self.inside.given (c.self.inside.given + 1) (omega arith) c.self.invariant.counts c.self.inside.next inode (omega arith));
      numbers = omega (arith, c.self.invariant.numbers);
      bounded = omega (arith, c.self.invariant.bounded, c.requires.spare, room);
      node_room = omega (arith, room, c.requires.spare, c.put.ensures.spare, c.self.invariant.node_room);
      name_room = omega (arith, room, c.requires.spare, c.put-2.ensures.spare, c.self.invariant.name_room);
    }
