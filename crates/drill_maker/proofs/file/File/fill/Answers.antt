-- Four calls, one after the other.
use Rattle.std.proofs.lemmas.Result.{on_ok_weaker}
use Rattle.drill_maker.proofs.StepLaws.{in_four}
use Rattle.drill_maker.proofs.file.File.fill.Goals as goal

pub returns : goal.returns
returns c = record {
  ok = on_ok_weaker c.release.result
      (in_four c.args.lane.now c.create.new.lane c.write.new.lane c.flush.new.lane c.release.new.lane _ _ _ _ c.in_ok-create.ensures.ok c.in_ok-write.ensures.ok c.in_ok-flush.ensures.ok)
      c.release.ensures.ok;
}
