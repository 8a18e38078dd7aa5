-- The fixups from here on, written into the frame so far, give the whole frame.
use Rattle.std.proofs.Common.{◌≡◌, drop, fold, length}
use Rattle.legal_spec.specs.Frames.{written_at}
use Rattle.play_lanes.proofs.given.GivenTable.frame.Given as goal
use Rattle.play_lanes.specs.Tables.{frame_in, number_in}
use Rattle.scenario.specs.declared.call.Fix.{Fix}

abbrev pub invariant-loop-fix : goal.invariant-loop-fix
invariant-loop-fix l = record {
  size : length l.frame.items ≡ length l.call.frame;
  all : fold (λ text (fix : Fix). written_at text fix.at (number_in l.self fix)) l.frame.items (drop l.fix-index l.call.fixes) ≡ frame_in l.self l.call;
}
