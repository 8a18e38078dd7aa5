-- A node has fewer look-ups, or none.
use Rattle.std.proofs.Common.{sym, ap, ◌∙◌, arith}
use Rattle.std.proofs.lemmas.Option.{same_Some}
use Rattle.std.specs.Option.{option_copied}
use Rattle.inode_spec.proofs.TableLaws.{IsTable-written}
use Rattle.inode_table.specs.Tables.{table_of}
use Rattle.inode_table.proofs.HeldLaws.{AreAtMost-put, IsHeldTable-spent}
use Rattle.inode_table.proofs.table.InodeTable.forget.Goals as goal

pub invariant_of-self : goal.invariant_of-self
invariant_of-self g c =
    let was = table_of c.self.inside.nodes c.self.inside.current c.self.inside.next in
    let there = c.value_mut-inode.ensures.value in
    let found = sym c.get.ensures ∙ ap option_copied c.in-Some.is in
    let same = ap (λ i. i.lookups) (same_Some c.in-Some.inode.now c.value_mut-inode.result.now (sym found ∙ there)) in
    let mine = ap (λ i. i.lookups) c.inode-then-inode-count.view_is in
    let first = ap (λ i. i.lookups) c.inode.view_is in
    let old = c.self.invariant.counts c.args.node c.value_mut-inode.result.now there in
    record {
      table = IsTable-written was c.args.node c.value_mut-inode.result.now _ c.self.invariant.table there
          (ap (λ i. i.name) c.inode-then-inode-count.view_is) (λ has. omega (arith, same, mine, first, c.if-inode-count.true));
      counts = AreAtMost-put c.self.inside.nodes.map c.self.inside.given c.self.inside.given (omega arith) c.self.invariant.counts c.args.node _ (omega (arith, old, mine));
      numbers = c.self.invariant.numbers;
      bounded = c.self.invariant.bounded;
      node_room = c.self.invariant.node_room;
      name_room = c.self.invariant.name_room;
    }

pub invariant_of-self-2 : goal.invariant_of-self-2
invariant_of-self-2 g c =
    IsHeldTable-spent c.self.inside.nodes c.self.inside.current c.self.inside.next c.self.inside.given c.self.inside.room c.self.invariant
    c.args.node c.args.held c.drop_unless_held.new.nodes c.leave.new.current c.if-node-eq-ROOT.false
    c.drop_unless_held.ensures.nodes c.drop_unless_held.ensures.spare c.leave.ensures.names c.leave.ensures.spare
