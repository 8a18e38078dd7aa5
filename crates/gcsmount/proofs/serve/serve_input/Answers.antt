-- Each turn serves one more piece, and each end is one of the stream.
use Rattle.std.proofs.Common.{◌≡◌, ◌≤◌, ◌++◌, List, ℕ, length, take, drop, ap, ◌∙◌, subst, arith, length-append, length-take}
use Rattle.std.proofs.lemmas.List.{take_at}
use Rattle.gcsmount.specs.Serve.{longest_input}
use Rattle.gcsmount.specs.Serving.{ServesOn, StopsAfter}
use Rattle.mount_core.specs.Serials.{first_serial}
use Rattle.gcsmount.proofs.ServeLaws.{Progress-first, Progress-on, Streams-finished, Streams-nothing, Streams-read_fault, Streams-stopped}
use Rattle.gcsmount.proofs.serve.serve_input.Goals as goal

pub returns-in_default : goal.returns-in_default
returns-in_default g c = record {
  streams = Streams-nothing _ _ _;
}

pub returns-in_default-new : goal.returns-in_default-new
returns-in_default-new g c = record {
  streams = Streams-nothing _ _ _;
}

pub returns-in-Err : goal.returns-in-Err
returns-in-Err g c = record {
  streams = Streams-read_fault _ _ _ _ _ _ _ _ c.loop-cutter.invariant.so_far _ c.in-Err.ensures.err c.in-Err.ensures.failed;
}

pub returns-in-Ok-eq0 : goal.returns-in-Ok-eq0
returns-in-Ok-eq0 g c = record {
  streams =
      let none : c.in-Ok-eq0.field-0 ≡ 0 = omega arith in
      Streams-finished _ _ _ _ _ _ _ _ c.loop-cutter.invariant.so_far _ _ _ _ c.in-Ok-eq0.ensures.bytes none (c.in-Ok-eq0.ensures.end none) c.in-Ok-eq0.ensures.held c.end_of_input.ensures;
}

pub loop-cutter-preserved : goal.loop-cutter-preserved
loop-cutter-preserved g c =
    let so_far = c.loop-cutter.invariant.so_far in
    let count : ℕ = c.in-Ok-take_piece.count in
    let bytes : List ℕ = c.take_piece.new.buffer in
    let whole : length bytes ≡ c.loop-cutter.buffer.len = omega arith in
    let written : c.as_slice.result.now ≡ bytes = c.as_slice.ensures.value ∙ take_at bytes (drop (length bytes) c.loop-cutter.buffer.items) c.loop-cutter.buffer.len whole in
    let served = c.in-Ok-serve_taken.ensures.served c.args.config.now so_far.input so_far.put so_far.counted so_far.served in
    record {
      buffer = c.loop-cutter.invariant.buffer;
      so_far = Progress-on _ _ _ _ _ _ _ _ so_far _ _ (take count c.take_piece.new.buffer) count _ _
          c.in-Ok-take_piece.ensures.bytes (omega (arith, length-take count c.take_piece.new.buffer, c.in-Ok-take_piece.ensures.bound)) c.in-Ok-take_piece.ensures.held
          (subst (λ (buffer : List ℕ). length (so_far.input ++ take count buffer) ≤ longest_input) written served.0)
          (subst (λ (buffer : List ℕ). ServesOn c.args.config.now so_far.input so_far.put (take count buffer) c.serve_taken.new.cutter c.serve_taken.new.serial (g.W.Sink.port c.loop-cutter.sink) (g.W.Sink.port c.serve_taken.new.sink)) written served.1);
    }

pub returns-in-Err-serve_taken : goal.returns-in-Err-serve_taken
returns-in-Err-serve_taken g c = record {
  streams =
      let so_far = c.loop-cutter.invariant.so_far in
      let count : ℕ = c.in-Ok-take_piece.count in
      let bytes : List ℕ = c.take_piece.new.buffer in
      let whole : length bytes ≡ c.loop-cutter.buffer.len = omega arith in
      let written : c.as_slice.result.now ≡ bytes = c.as_slice.ensures.value ∙ take_at bytes (drop (length bytes) c.loop-cutter.buffer.items) c.loop-cutter.buffer.len whole in
      let stops = c.in-Err-serve_taken.ensures.served c.args.config.now so_far.input so_far.put so_far.counted so_far.served in
      Streams-stopped _ _ _ _ _ _ _ _ so_far _ _ _ (take count c.take_piece.new.buffer) c.in-Ok-take_piece.ensures.bytes c.in-Ok-take_piece.ensures.held
      (omega (arith, length-append so_far.input (take count c.take_piece.new.buffer), length-take count c.take_piece.new.buffer, so_far.counted, c.in-Ok-take_piece.ensures.bound))
      (subst (λ (buffer : List ℕ). StopsAfter c.args.config.now c.in-Err-serve_taken.end so_far.input so_far.put (take count buffer) (g.W.Sink.port c.loop-cutter.sink) (g.W.Sink.port c.serve_taken.new.sink)) written stops);
}

pub loop-cutter-init : goal.loop-cutter-init
loop-cutter-init g c = record {
  buffer = c.in-Ok.ensures.ok;
  so_far = Progress-first _ _ _ _ _ c.new-cutter.ensures.answer (c.in-Ok-new.ensures.ok ∙ ap (first_serial c.args.config.now) c.new.ensures);
}
