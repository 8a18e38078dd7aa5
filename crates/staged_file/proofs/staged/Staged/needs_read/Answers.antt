use Rattle.std.proofs.Common.{◌+◌, ◌*◌, max, min, ap, sym, subst, ◌∙◌, arith}
use Rattle.staging_spec.specs.Wanted.{is_source, IsWithin}
use Rattle.staging_spec.proofs.WantedLaws.{read_within}
use Rattle.staged_file.specs.Sources.{range_of}
use Rattle.staged_file.specs.Staged.{touched_of}
use Rattle.staged_file.proofs.Spans.{spans-ordered}
use Rattle.staged_file.proofs.Wanting.{read-rest, read-start, read-whole}
use Rattle.staged_file.proofs.staged.Staged.needs_read.Goals as goal

pub loop-block-init : goal.loop-block-init
loop-block-init c =
    read-start (touched_of c.args.pool.now.chains c.args.self.now) c.args.self.now.limit c.args.first c.args.count c.min-end.result
    (c.min-end.ensures ∙ ap (λ n. min n (c.args.first + c.args.count)) c.limit.ensures)
    c.none-span.result.first c.none-span.result.end (ap (λ s. s.first) c.none-span.ensures) (ap (λ s. s.end) c.none-span.ensures)

pub loop-block-preserved : goal.loop-block-preserved
loop-block-preserved c =
    let touched = touched_of c.args.pool.now.chains c.args.self.now in
    let end = c.min-end.result in
    c.want.ensures (is_source touched c.args.self.now.limit) c.args.first (max c.args.first (min end (c.loop-block.block * 65536)))
    (max c.args.first (min end ((c.loop-block.block + 1) * 65536))) c.loop-block.invariant
    (read-rest touched c.args.self.now.limit c.args.first c.args.count end (c.min-end.ensures ∙ ap (λ n. min n (c.args.first + c.args.count)) c.limit.ensures)
    c.loop-block.block c.max-low.result c.min-high.result c.max-low.ensures c.min-high.ensures)

pub wanted-requires : goal.wanted-requires
wanted-requires c =
    spans-ordered (is_source (touched_of c.args.pool.now.chains c.args.self.now) c.args.self.now.limit) c.args.first (max c.args.first (min c.min-end.result (c.loop-block.block * 65536)))
    c.loop-block.span.first c.loop-block.span.end c.loop-block.invariant

pub returns-clause-ok : goal.returns-clause-ok
returns-clause-ok c =
    ap range_of c.wanted.ensures
    ∙ sym (read-whole (touched_of c.args.pool.now.chains c.args.self.now) c.args.self.now.limit c.args.first c.args.count c.min-end.result
    (c.min-end.ensures ∙ ap (λ n. min n (c.args.first + c.args.count)) c.limit.ensures)
    c.loop-block.block c.loop-block.span.first c.loop-block.span.end (let done = c.loop-block-test.false in let e = c.div_ceil-block-end.ensures in omega arith) c.loop-block.invariant)

pub returns-clause-within : goal.returns-clause-within
returns-clause-within c =
    subst (λ r. IsWithin r c.args.self.now.limit) (sym (returns-clause-ok c)) (read_within (touched_of c.args.pool.now.chains c.args.self.now) c.args.self.now.limit c.args.first c.args.count)
