-- What serving came to leaves a good input no other end.
use Rattle.gcsmount.proofs.Completeness.{Streams-complete}
use Rattle.gcsmount.proofs.serve.serve_stream.Goals as goal

pub returns-clause-complete : goal.returns-clause-complete
returns-clause-complete g c = λ input told good source_held sink_held.
    Streams-complete _ _ _ _ _ _ input c.serve_input.ensures.streams told good source_held sink_held
