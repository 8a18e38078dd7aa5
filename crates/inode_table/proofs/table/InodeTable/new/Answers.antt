-- The root alone, without look-ups.
use Rattle.std.proofs.Common.{◌∙◌, sym, ap, subst, arith}
use Rattle.std.specs.FinMap as fin
use Rattle.inode_spec.proofs.CountLaws.{counts_decide}
use Rattle.inode_spec.proofs.TableLaws.{IsTable-first}
use Rattle.inode_spec.specs.Inodes.{root}
use Rattle.inode_table.proofs.HeldLaws.{IsTable-of, AreAtMost, AreAtMost-empty, AreAtMost-put}
use Rattle.inode_table.proofs.table.InodeTable.new.Goals as goal

pub invariant_of-result : goal.invariant_of-result
invariant_of-result g c =
    let nodes = c.put.ensures.map
    ∙ ap (λ m. fin.insert m 1 c.in_ok-root.field-0) (c.in_ok-reserve.ensures.kept ∙ c.new-nodes.ensures.map)
    ∙ ap (λ node. fin.insert fin.empty 1 node) c.in_ok-root.ensures in
    record {
      table = IsTable-of c.put.new.self c.new.result 2 _ _ nodes c.new.ensures.map IsTable-first;
      counts = subst (λ m. AreAtMost m 0) (sym nodes) (AreAtMost-put fin.empty 0 0 (omega arith) (AreAtMost-empty 0) 1 root (omega arith));
      numbers = omega arith;
      bounded = omega arith;
      node_room = omega arith;
      name_room = omega arith;
    }

pub returns-clause-counts : goal.returns-clause-counts
returns-clause-counts g c = counts_decide
