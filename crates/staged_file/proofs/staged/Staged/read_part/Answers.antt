use Rattle.std.proofs.Common.{◌≡◌, ◌+◌, ◌/◌, ap, sym, ◌∙◌, arith}
use Rattle.staging_spec.specs.Overlays.{source_byte}
use Rattle.staged_file.proofs.Touching.{untouched_byte}
use Rattle.staged_file.proofs.staged.Staged.read_part.Goals as goal

pub returns : goal.returns
returns c source holds k lt =
    c.copy_source.ensures source holds k lt ∙ ap (λ l. source_byte l source (c.args.low + k)) c.limit.ensures
    ∙ sym (untouched_byte c.args.pool.now.chains c.args.self.now source (c.args.low / 65536) (sym c.holds.ensures ∙ c.if-holds.false) (c.args.low + k)
    (let fits = c.requires.block in let e : (c.args.low + k) / 65536 ≡ c.args.low / 65536 = omega arith in e))
