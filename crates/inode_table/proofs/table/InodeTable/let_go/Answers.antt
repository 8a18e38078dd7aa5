-- A node that is not live goes.
use Rattle.std.proofs.Common.{refl, sym, ap, ◌∙◌, subst, arith}
use Rattle.std.specs.Option.{option_copied}
use Rattle.inode_spec.proofs.TableLaws.{IsTable-removed}
use Rattle.inode_table.specs.Tables.{table_of}
use Rattle.inode_table.proofs.HeldLaws.{IsTable-of, AreAtMost, AreAtMost-taken}
use Rattle.inode_table.proofs.table.InodeTable.let_go.Goals as goal

pub invariant_of-self : goal.invariant_of-self
invariant_of-self g c =
    let was = table_of c.self.inside.nodes c.self.inside.current c.self.inside.next in
    let there = sym c.get.ensures ∙ ap option_copied c.in-Some.is in
    let dead = sym c.is_live.ensures ∙ c.if-is_live.false in
    record {
      table = IsTable-of c.remove.new.self c.self.inside.current c.self.inside.next _ _ c.remove.ensures.map refl
          (IsTable-removed was c.args.node c.in-Some.inode.now c.self.invariant.table there dead);
      counts = subst (λ nodes. AreAtMost nodes c.self.inside.given) (sym c.remove.ensures.map)
          (AreAtMost-taken c.self.inside.nodes.map c.self.inside.given c.self.inside.given (omega arith) c.self.invariant.counts c.args.node);
      numbers = c.self.invariant.numbers;
      bounded = c.self.invariant.bounded;
      node_room = omega (arith, c.remove.ensures.spare, c.self.invariant.node_room);
      name_room = c.self.invariant.name_room;
    }
