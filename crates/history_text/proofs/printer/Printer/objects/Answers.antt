-- What `objects` leaves: its loop.
use Rattle.std.proofs.Common.{ℕ, List, [], ◌∷◌, length, sym, ap, append-nil}
use Rattle.bucket_api.specs.declared.objects.Object.{Object}
use Rattle.history_text.specs.Words.{line}
use Rattle.history_text.specs.Lines.{object_line}
use Rattle.history_text.proofs.LineLaws.{objects_text}
use Rattle.history_text.proofs.PartLaws.{items_by_parts, printed_more, printed_stop, printed_all}
use Rattle.history_text.proofs.PrintLaws.{stopped, stops_as, takes_as}
use Rattle.history_text.proofs.printer.Printer.objects.Goals as goal

object_text : List ℕ × Object → List ℕ
object_text e = line (object_line e.0 e.1)

pub returns-in_err-object : goal.returns-in_err-object
unfolding object_text
returns-in_err-object g c = record {
  puts = stopped _ c.from_residual.result c.from_residual.ensures.0
      (stops_as (sym (objects_text c.args.objects.now.entries))
      (printed_stop (items_by_parts object_text) ((c.in-Some.name.now, c.in-Some.object.now) ∷ []) c.next.new.self c.in-Some.ensures.steps c.loop-name.invariant
      (stops_as (sym (append-nil (line (object_line c.in-Some.name.now c.in-Some.object.now)))) c.in_err-object.ensures.puts)));
}

pub loop-name-preserved : goal.loop-name-preserved
unfolding object_text
loop-name-preserved g c =
    printed_more (items_by_parts object_text) ((c.in-Some.name.now, c.in-Some.object.now) ∷ []) c.next.new.self c.in-Some.ensures.steps c.loop-name.invariant
    (takes_as (sym (append-nil (line (object_line c.in-Some.name.now c.in-Some.object.now)))) c.in_ok-object.ensures.puts)

pub returns : goal.returns
returns g c = record { puts = takes_as (sym (objects_text c.args.objects.now.entries)) (printed_all (ap length c.in-None.ensures.steps.0) c.loop-name.invariant) }
