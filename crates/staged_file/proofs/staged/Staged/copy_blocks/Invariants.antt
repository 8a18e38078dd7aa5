-- The blocks so far are copied, up to the end of the content, and there is room for the rest.
use Rattle.std.proofs.Common.{◌≡◌, ◌≤◌, ◌*◌, min, vec_capacity, vec_len}
use Rattle.staged_file.specs.Frozen.{Copies}
use Rattle.staged_file.specs.Staged.{byte_at, touched_of}
use Rattle.staged_file.proofs.staged.Staged.copy_blocks.Given as goal

abbrev pub invariant-loop-block : goal.invariant-loop-block
invariant-loop-block l = record {
  copies : Copies (touched_of l.pool.chains l.self) (byte_at l.pool.chains l.self) l.self.size l.bytes.items l.touched.items l.block;
  len : vec_len l.bytes ≡ min l.self.size (l.block * 65536);
  room : l.self.size ≤ vec_capacity l.bytes;
  places : l.blocks ≤ vec_capacity l.touched;
}
