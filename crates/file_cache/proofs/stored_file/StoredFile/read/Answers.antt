use Rattle.std.proofs.Common.{◌≤◌, length, drop, arith}
use Rattle.std.proofs.lemmas.List.{length-drop}
use Rattle.file_cache.specs.Stored.{content_in}
use Rattle.file_cache.proofs.Reading.{length-content_in, part_size, more_done}
use Rattle.file_cache.proofs.stored_file.StoredFile.read.Goals as goal

pub loop-done-preserved : goal.loop-done-preserved
loop-done-preserved c =
    let content = drop c.args.first (content_in c.args.region.now.chains c.args.self.now) in
    let enough : length c.args.out.now ≤ length content = omega (
      arith,
      length-drop c.args.first (content_in c.args.region.now.chains c.args.self.now),
      length-content_in c.args.region.now.chains c.args.self.now c.requires.stored,
      c.requires.range,
    ) in (
      part_size content c.args.out.now c.loop-done.out c.loop-done.done c.read_part-done.result c.loop-done.invariant.0 enough c.loop-done.invariant.1 c.read_part-done.new.out c.read_part-done.ensures,
      more_done content c.args.out.now c.loop-done.out c.loop-done.done c.read_part-done.result c.loop-done.invariant.0 enough c.loop-done.invariant.1 c.read_part-done.new.out c.read_part-done.ensures,
    )
