-- What is left from here is what the whole is.
use Rattle.std.proofs.Common.{◌≡◌, drop}
use Rattle.serde_json.specs.View.{items_view}
use Rattle.scenario.specs.Walks as walk
use Rattle.scenario.proofs.items.take_all.Given as goal

abbrev pub invariant-loop-position : goal.invariant-loop-position
invariant-loop-position g l = record {
  rest : walk.through (g.G.Gather.step (g.G.Gather.known l.fn.all)) l.position (g.G.Gather.made l.all) (items_view (drop l.position l.found)) ≡ walk.through (g.G.Gather.step (g.G.Gather.known l.fn.all)) 0 (g.G.Gather.made l.fn.all) (items_view l.found);
  kept : g.G.Gather.known l.all ≡ g.G.Gather.known l.fn.all;
  fits : g.G.Gather.fits l.all;
}
