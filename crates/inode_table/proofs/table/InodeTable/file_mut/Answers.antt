-- What is written through the lent parts stands in the node under the number.
use Rattle.std.proofs.Common.{◌≡◌, Some, refl, sym, ap, ◌∙◌}
use Rattle.std.specs.Option.{ghost_name_of, option_and_then}
use Rattle.inode_spec.specs.Inodes.{Inode, Nodes, with_inode}
use Rattle.inode_table.specs.Tables.{TableState, table_of}
use Rattle.inode_table.proofs.HeldLaws.{IsHeldTable-written, put_again, file_written}
use borrow.Follows.Closed.{read_of}
use Rattle.inode_table.proofs.table.InodeTable.file_mut.Goals as goal

pub invariant_of-self-lent : goal.invariant_of-self-lent
invariant_of-self-lent g c r =
    let there = c.value_mut-inode.ensures.value in
    let old = c.value_mut-inode.result.now in
    (λ w. IsHeldTable-written _ _ _ _ _ c.self.invariant c.args.node old (record old { file = Some w }) there refl refl, IsHeldTable-written _ _ _ _ _ c.self.invariant c.args.node old old there refl refl)

pub returns : goal.returns
returns g c =
    let there = c.value_mut-inode.ensures.value in
    let old = c.value_mut-inode.result.now in
    let inside : TableState g.row.F.Denot = record { table = table_of c.self.inside.nodes c.self.inside.current c.self.inside.next; spare = c.self.inside.room } in
    let kept : record inside { table = with_inode inside.table c.args.node old } ≡ inside =
    ap (λ (m : Nodes g.row.F.Denot). record inside { table = record inside.table { nodes = m } }) (put_again inside.table.nodes c.args.node old there) in
    rw (← c.self.view_is) (
      λ i. read_of (ghost_name_of c.file_mut.result) (λ (w : g.row.F.Denot). file_written inside c.args.node old w there i) (kept i),
      record {
        writes_back = tt;
        value = c.file_mut.ensures.value ∙ sym (ap (option_and_then (λ (inode : Inode g.row.F.Denot). inode.file)) there);
      },
    )
