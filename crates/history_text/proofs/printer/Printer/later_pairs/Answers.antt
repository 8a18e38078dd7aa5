-- What `later_pairs` leaves: its loop.
use Rattle.std.proofs.Common.{◌++◌, codes, arith}
use Rattle.history_text.specs.Words.{pair_text}
use Rattle.history_text.proofs.PrintLaws.{stopped, stops_item, takes_item}
use Rattle.history_text.proofs.printer.Printer.later_pairs.Goals as goal

pub returns-in_err-next_pair : goal.returns-in_err-next_pair
returns-in_err-next_pair g c = record {
  puts = stopped _ c.from_residual.result c.from_residual.ensures.0
      (stops_item (λ p. codes "," ++ pair_text p) c.args.pairs.now c.loop-pair.pair-index c.pair-item.result c.pair-item.is (omega arith) c.loop-pair.invariant c.in_err-next_pair.ensures.puts);
}

pub loop-pair-preserved : goal.loop-pair-preserved
loop-pair-preserved g c =
    takes_item (λ p. codes "," ++ pair_text p) c.args.pairs.now c.loop-pair.pair-index c.pair-item.result c.pair-item.is (omega arith) c.loop-pair.invariant c.in_ok-next_pair.ensures.puts
