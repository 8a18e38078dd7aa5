-- The MKDIR has a frame.
use Rattle.drill_maker.proofs.WritableLaws.{mkdir_writable}
use Rattle.drill_maker.proofs.directory.make_directory.Goals as goal

pub ask-requires : goal.ask-requires
ask-requires c = mkdir_writable c.args.directory c.in_ok-name.name c.in_ok-name.ensures c.requires
