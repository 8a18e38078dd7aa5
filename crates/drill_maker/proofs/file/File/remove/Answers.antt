-- The request has a frame.
use Rattle.drill_maker.proofs.WritableLaws.{unlink_writable}
use Rattle.drill_maker.proofs.file.File.remove.Goals as goal

pub ask-requires : goal.ask-requires
ask-requires c = unlink_writable c.args.self.number c.in_ok-name.name c.in_ok-name.ensures c.requires.last
