-- A live node under its own name.
use Rattle.std.proofs.Common.{refl, sym, ap, subst, arith}
use Rattle.inode_spec.proofs.TableLaws.{IsTable-made_current}
use Rattle.inode_spec.specs.Inodes.{IsLiveUnder}
use Rattle.inode_table.specs.Tables.{table_of}
use Rattle.inode_table.proofs.HeldLaws.{IsTable-of}
use Rattle.inode_table.proofs.table.InodeTable.make_current.Goals as goal

pub invariant_of-self : goal.invariant_of-self
invariant_of-self g c =
    let was = table_of c.self.inside.nodes c.self.inside.current c.self.inside.next in
    let room = ap (λ t. t.spare) c.self.view_is in
    let live = subst (λ t. IsLiveUnder t c.args.again c.args.node) (sym (ap (λ t. t.table) c.self.view_is)) c.requires.live in
    record {
      table = IsTable-of c.self.inside.nodes c.put.new.self c.self.inside.next _ _ refl c.put.ensures.map (IsTable-made_current was c.args.node c.args.again c.self.invariant.table live);
      counts = c.self.invariant.counts;
      numbers = c.self.invariant.numbers;
      bounded = omega (arith, c.self.invariant.bounded);
      node_room = omega (arith, c.self.invariant.node_room);
      name_room = omega (arith, room, c.requires.spare, c.put.ensures.spare, c.self.invariant.name_room);
    }
