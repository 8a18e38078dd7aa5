use Rattle.std.proofs.Common.{◌+◌, ◌/◌, ◌%◌, ◌≤◌, length, take, drop, ap, ◌∙◌, arith}
use Rattle.block_pool.specs.Pool.{block_at}
use Rattle.file_cache.specs.Stored.{content_in}
use Rattle.file_cache.proofs.Reading.{place_there, part_is, part_put}
use Rattle.file_cache.proofs.stored_file.StoredFile.read_part.Goals as goal

pub read-requires-clause-there : goal.read-requires-clause-there
read-requires-clause-there c = place_there c.args.region.now.chains c.args.self.now c.requires.stored (c.args.first + c.args.done) (omega (arith, c.requires.range, c.requires.more))

pub returns : goal.returns
returns c =
    let some : 1 ≤ c.min-count.result = omega (arith, c.min-count.ensures, c.split_at_mut-done.ensures.back_len, c.requires.more) in
    let few : c.args.done + c.min-count.result ≤ length c.args.out.now = omega (arith, c.min-count.ensures, c.split_at_mut-done.ensures.back_len, c.requires.more) in
    let fits : (c.args.first + c.args.done) % 65536 + c.min-count.result ≤ 65536 = omega (arith, c.min-count.ensures) in
    let block = block_at c.args.region.now.chains c.args.self.now.chain ((c.args.first + c.args.done) / 65536) in
    record {
      some = some;
      few = few;
      bytes = part_put (drop c.args.first (content_in c.args.region.now.chains c.args.self.now)) c.args.out.now c.split_at_mut-done.result.0.now c.split_at_mut-done.result.1.now c.read.new.out c.split_at_mut-part.result.1.now
          c.args.done c.min-count.result c.split_at_mut-done.ensures.front c.split_at_mut-done.ensures.back c.split_at_mut-part.ensures.back (c.read.auto.out ∙ c.split_at_mut-part.ensures.front_len)
          (c.read.ensures.ok ∙ ap (λ n. take n (drop ((c.args.first + c.args.done) % 65536) block)) c.split_at_mut-part.ensures.front_len
          ∙ part_is c.args.region.now.chains c.args.self.now c.requires.stored c.args.first c.args.done c.min-count.result fits (omega (arith, few, c.requires.range)) some);
    }
