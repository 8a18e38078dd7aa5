use Rattle.std.proofs.Common.{◌+◌, ◌*◌, ◌/◌, ◌<◌, min, ap, sym, subst, ◌∙◌, arith}
use Rattle.staging_spec.specs.Wanted.{IsWithin}
use Rattle.staging_spec.proofs.WantedLaws.{write_within}
use Rattle.staged_file.specs.Sources.{range_of}
use Rattle.staged_file.specs.Staged.{touched_of}
use Rattle.staged_file.proofs.BlockByBlock.{last_block}
use Rattle.staged_file.proofs.Spans.{spans-ordered}
use Rattle.staged_file.proofs.Wanting.{left, both-rests, write-whole}
use Rattle.staged_file.proofs.staged.Staged.needs_write.Goals as goal

pub wanted-requires-2 : goal.wanted-requires-2
wanted-requires-2 c =
    let some : 0 < c.args.count = (let n = c.if-count-eq0.false in omega arith) in
    spans-ordered (left (touched_of c.args.pool.now.chains c.args.self.now) c.args.self.now.limit c.args.first c.args.count some) (c.args.first / 65536 * 65536)
    ((last_block c.args.first c.args.count + 1) * 65536) c.want-2.new.span.first c.want-2.new.span.end
    (both-rests (touched_of c.args.pool.now.chains c.args.self.now) c.args.self.now.limit c.args.first c.args.count some
    c.none-span.result.first c.none-span.result.end c.want.new.span.first c.want.new.span.end c.want-2.new.span.first c.want-2.new.span.end c.min.result c.min-2.result
    (ap (λ s. s.first) c.none-span.ensures) (ap (λ s. s.end) c.none-span.ensures) (c.min.ensures ∙ ap (λ n. min n c.args.first) c.limit-limit.ensures)
    (c.min-2.ensures ∙ ap (λ n. min n ((last_block c.args.first c.args.count + 1) * 65536)) c.limit-limit.ensures)
    (c.want.ensures (left (touched_of c.args.pool.now.chains c.args.self.now) c.args.self.now.limit c.args.first c.args.count some) (c.args.first / 65536 * 65536) (c.args.first / 65536 * 65536)
    (c.args.first + c.args.count))
    (c.want-2.ensures (left (touched_of c.args.pool.now.chains c.args.self.now) c.args.self.now.limit c.args.first c.args.count some) (c.args.first / 65536 * 65536) (c.args.first + c.args.count)
    ((last_block c.args.first c.args.count + 1) * 65536)))

pub returns-clause-ok : goal.returns-clause-ok
returns-clause-ok c =
    let some : 0 < c.args.count = (let n = c.if-count-eq0.false in omega arith) in
    ap range_of c.wanted-2.ensures
    ∙ sym (write-whole (touched_of c.args.pool.now.chains c.args.self.now) c.args.self.now.limit c.args.first c.args.count some c.want-2.new.span.first c.want-2.new.span.end
    (both-rests (touched_of c.args.pool.now.chains c.args.self.now) c.args.self.now.limit c.args.first c.args.count some
    c.none-span.result.first c.none-span.result.end c.want.new.span.first c.want.new.span.end c.want-2.new.span.first c.want-2.new.span.end c.min.result c.min-2.result
    (ap (λ s. s.first) c.none-span.ensures) (ap (λ s. s.end) c.none-span.ensures) (c.min.ensures ∙ ap (λ n. min n c.args.first) c.limit-limit.ensures)
    (c.min-2.ensures ∙ ap (λ n. min n ((last_block c.args.first c.args.count + 1) * 65536)) c.limit-limit.ensures)
    (c.want.ensures (left (touched_of c.args.pool.now.chains c.args.self.now) c.args.self.now.limit c.args.first c.args.count some) (c.args.first / 65536 * 65536) (c.args.first / 65536 * 65536)
    (c.args.first + c.args.count))
    (c.want-2.ensures (left (touched_of c.args.pool.now.chains c.args.self.now) c.args.self.now.limit c.args.first c.args.count some) (c.args.first / 65536 * 65536) (c.args.first + c.args.count)
    ((last_block c.args.first c.args.count + 1) * 65536))))

pub returns-clause-within : goal.returns-clause-within
returns-clause-within c =
    subst (λ r. IsWithin r c.args.self.now.limit) (sym (returns-clause-ok c)) (write_within (touched_of c.args.pool.now.chains c.args.self.now) c.args.self.now.limit c.args.first c.args.count)
