use Rattle.staged_file.proofs.Copies.{filled-block}
use Rattle.staged_file.proofs.frozen.fill_block.Goals as goal

pub returns-clause-filled : goal.returns-clause-filled
returns-clause-filled c f source holds =
    filled-block c.args.limit c.args.block c.args.base_first c.min-end.result source c.args.base.now c.args.bytes.now c.copy_from_slice.new.self c.min-end.ensures c.requires.block c.requires.bytes
    holds (c.requires.wanted f) c.copy_from_slice.ensures.after
