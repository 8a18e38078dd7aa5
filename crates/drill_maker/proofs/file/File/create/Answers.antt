-- The request has a frame.
use Rattle.drill_maker.proofs.WritableLaws.{create_writable}
use Rattle.drill_maker.proofs.file.File.create.Goals as goal

pub ask-requires : goal.ask-requires
ask-requires c = create_writable c.args.self.number c.in_ok-name.name c.in_ok-name.ensures c.requires.last
