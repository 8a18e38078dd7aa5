-- From the steps of serving to its ends.
use Rattle.std.proofs.Common.{◌≡◌, ◌≤◌, ◌<◌, ◌+◌, ◌-◌, ◌++◌, ◌∷◌, inl, inr, [], List, ℕ, length, min, zero, suc, take, subst, sym, refl, ap, ◌∙◌, arith, append-nil, length-append, length-take}
use Rattle.std.specs.List.{concat}
use Rattle.std.specs.Io.KnownBytes.{Consumes, IsAtEnd, Keeps}
use Rattle.std.proofs.KnownBytes.{Appends-nil, Appends-trans, Consumes-kept, Consumes-nil, Consumes-trans}
use Rattle.std.proofs.Math.Seq.{take-append-add, take-nil}
use Rattle.io_ports.specs.Faults.{Rose}
use Rattle.bucket_api.proofs.BucketLaws.{IsBucket-empty}
use Rattle.bucket_api.specs.BucketState.{empty_bucket}
use Rattle.fuse_frames.specs.Cut.{Cuts, HasNoBadLen, IsUnfinished}
use Rattle.fuse_frames.specs.Cutter.{Cutter, fed, fresh}
use Rattle.fuse_frames.proofs.FrontLemmas.{sound_not_bad, unfinished_untold}
use Rattle.mount_model.specs.declared.config.Config.{Config}
use Rattle.mount_core.specs.Serials.{CameTo, SerialState, first_serial}
use Rattle.mount_rules.specs.OneThread.{first_state}
use Rattle.mount_core.proofs.FirstLemmas.{came_first}
use Rattle.mount_laws.proofs.ServingLaws.{BeginsServing-nothing, Serves-nil}
use Rattle.io_ports.specs.Ports.{Port}
use Rattle.gcsmount.specs.Serve.{Answered, CountsReads, CountsWrites, EndsBy, Streams, longest_input}
use Rattle.gcsmount.specs.Serving.{EndsIn, FinishesBy, HasServed, PieceEnds, Progress, ServesOn, StopsAfter}
use Rattle.gcsmount.specs.declared.serve_end.ServeEnd.{ServeEnd}
use Rattle.gcsmount.specs.declared.serve_end.ServeEnd.TheVariants.{Ended, Refused, ReadFault, WriteFault, NoMemory, TooLong}

take_take : (n m : ℕ) (xs : List ℕ) → take n (take m xs) ≡ take (min n m) xs
take_take zero m xs = ap (λ k. take k xs) (sym (let e : min zero m ≡ zero = omega arith in e))
take_take (suc n) zero xs = ap (λ k. take k xs) (sym (let e : min (suc n) zero ≡ zero = omega arith in e))
take_take (suc n) (suc m) [] = sym (take-nil (min (suc n) (suc m)))
take_take (suc n) (suc m) (x ∷ xs) =
    ap (λ rest. x ∷ rest) (take_take n m xs) ∙ ap (λ k. take k (x ∷ xs)) (let e : suc (min n m) ≡ min (suc n) (suc m) = omega arith in e)

pub take_all : (n : ℕ) (xs : List ℕ) → length xs ≤ n → take n xs ≡ xs
take_all n xs fits =
    ap (λ k. take k xs) (let e : n ≡ length xs + (n - length xs) = omega arith in e) ∙ ap (take (length xs + (n - length xs))) (sym (append-nil xs))
    ∙ take-append-add xs [] (n - length xs) ∙ ap (λ back. xs ++ back) (take-nil (n - length xs)) ∙ append-nil xs

-- the input up to the longest one, where a take passed it
pub cut_at_longest : (input buffer : List ℕ) (taken count counted : ℕ)
    → taken ≡ length input → taken ≤ longest_input → counted ≡ min (longest_input - taken) count
    → input ++ take counted buffer ≡ take longest_input (input ++ take count buffer)
cut_at_longest input buffer taken count counted is within counts =
    let rest : ℕ = longest_input - taken in
    let all : longest_input ≡ length input + rest = omega arith in
    sym (ap (λ n. take n (input ++ take count buffer)) all ∙ take-append-add input (take count buffer) rest
    ∙ ap (λ back. input ++ back) (take_take rest count buffer ∙ ap (λ n. take n buffer) (sym counts)))

-- what an end within a piece says of the stream
pub stream_ends : (config : Config) (end : ServeEnd) (cut whole put : List ℕ) → cut ≡ take longest_input whole
    → PieceEnds config end cut put → (source' : Port) → EndsBy config end source' whole put
stream_ends config end cut whole put is ends source' =
    cases end (subst (λ input. PieceEnds config end input put) is ends)
  where
    cases : (end : ServeEnd) → PieceEnds config end (take longest_input whole) put → EndsBy config end source' whole put
    cases (Refused number at) (rest, answered, placed, inl bad) = (rest, answered, placed, inl bad)
    cases (Refused number at) (rest, answered, placed, inr bad) = (rest, answered, placed, inr (inl bad))
    cases WriteFault ends = ends
    cases NoMemory ends = ends
    cases Ended ends = absurd ends
    cases ReadFault ends = absurd ends
    cases TooLong ends = absurd ends

-- a source whose count stayed counts no failed read at an end within a piece
piece_reads : (config : Config) (end : ServeEnd) (input put : List ℕ) → PieceEnds config end input put
    → (source source' : Port) → source'.faults ≡ source.faults → CountsReads end source source'
piece_reads config (Refused number at) input put ends source source' held = held
piece_reads config WriteFault input put ends source source' held = held
piece_reads config NoMemory input put ends source source' held = held
piece_reads config Ended input put ends source source' held = held
piece_reads config ReadFault input put ends source source' held = absurd ends
piece_reads config TooLong input put ends source source' held = held

-- what an end says of a sink whose count had stayed is what it says from the beginning on
writes_later : (end : ServeEnd) (sink between sink' : Port) → between.faults ≡ sink.faults → CountsWrites end between sink' → CountsWrites end sink sink'
writes_later (Refused number at) sink between sink' held writes = writes ∙ held
writes_later WriteFault sink between sink' held writes = subst (λ count. Rose count sink'.faults) held writes
writes_later NoMemory sink between sink' held writes = writes ∙ held
writes_later Ended sink between sink' held writes = writes ∙ held
writes_later ReadFault sink between sink' held writes = writes ∙ held
writes_later TooLong sink between sink' held writes = writes ∙ held

-- an end within a piece is an end of the stream, though one more byte may have been taken
pub EndsIn-stops : (config : Config) (end : ServeEnd) (input put buffer : List ℕ) (taken count counted : ℕ) (sink sink' : Port)
    → taken ≡ length input → taken ≤ longest_input → counted ≡ min (longest_input - taken) count
    → EndsIn config end input put (take counted buffer) sink sink' → StopsAfter config end input put (take count buffer) sink sink'
EndsIn-stops config end input put buffer taken count counted sink sink' is within counts ends = record {
  more = ends.more;
  appended = ends.appended;
  ends = stream_ends config end _ _ (put ++ ends.more) (cut_at_longest input buffer taken count counted is within counts) ends.ends;
  reads = piece_reads config end _ _ ends.ends;
  writes = ends.writes;
}

-- a byte past the longest input was taken
pub ServesOn-past : (config : Config) (input put buffer : List ℕ) (taken count counted : ℕ) (cutter : Cutter) (mount : SerialState) (sink sink' : Port)
    → taken ≡ length input → taken ≤ longest_input → counted ≡ min (longest_input - taken) count → count ≤ length buffer → taken + count ≤ longest_input + 1 → counted < count
    → ServesOn config input put (take counted buffer) cutter mount sink sink' → StopsAfter config TooLong input put (take count buffer) sink sink'
ServesOn-past config input put buffer taken count counted cutter mount sink sink' is within counts has bound past on =
    let long : length (input ++ take count buffer) ≡ longest_input + 1 =
    omega (arith, length-append input (take count buffer), length-take count buffer) in
    let cut = cut_at_longest input buffer taken count counted is within counts in
    record {
      more = on.more;
      appended = on.appended;
      ends = λ source'. (
        long,
        cutter.rest,
        on.on.sound,
        record {
          frames = on.on.frames;
          cut = subst (λ whole. Cuts whole on.on.frames cutter.rest) cut on.on.cut;
          to = on.on.run;
          served = on.on.served;
        },
      );
      reads = λ source source' held. held;
      writes = on.faults;
    }

-- no byte past the longest input was taken
pub ServesOn-whole : (config : Config) (input put buffer : List ℕ) (taken count counted : ℕ) (cutter : Cutter) (mount : SerialState) (sink sink' : Port)
    → taken ≡ length input → taken ≤ longest_input → counted ≡ min (longest_input - taken) count → count ≤ length buffer → count ≤ counted
    → ServesOn config input put (take counted buffer) cutter mount sink sink'
    → (length (input ++ take count buffer) ≤ longest_input) × ServesOn config input put (take count buffer) cutter mount sink sink'
ServesOn-whole config input put buffer taken count counted cutter mount sink sink' is within counts has whole on =
    let same : counted ≡ count = omega arith in
    (omega (arith, length-append input (take count buffer), length-take count buffer), subst (λ n. ServesOn config input put (take n buffer) cutter mount sink sink') same on)

-- what the cutter was fed is the input
pub HasServed-fed : (config : Config) (input put : List ℕ) (cutter : Cutter) (mount : SerialState) → HasServed config input put cutter mount → fed cutter ≡ length input
HasServed-fed config input put cutter mount so_far =
    omega (arith, so_far.given, ap (λ held. length (concat held)) so_far.none_waits, ap length so_far.cut.joined, length-append (concat so_far.frames) cutter.rest)

nothing_waits : IsUnfinished []
nothing_waits = unfinished_untold [] (let short : length {A = ℕ} [] < 4 = omega arith in short)

nothing_bad : HasNoBadLen []
nothing_bad = record { least = λ told. absurd (let none : length {A = ℕ} [] ≡ 0 = refl in omega arith); most = λ told. absurd (let none : length {A = ℕ} [] ≡ 0 = refl in omega arith) }

cuts_nothing : Cuts [] [] []
cuts_nothing = record { joined = refl; whole = λ k d none. absurd (let never : k < 0 = none in omega arith); unfinished = nothing_waits }

-- nothing was taken yet
pub Progress-first : (config : Config) (source sink : Port) (cutter : Cutter) (mount : SerialState)
    → cutter ≡ fresh → mount ≡ first_serial config empty_bucket → Progress config source source sink sink 0 cutter mount
Progress-first config source sink cutter mount new first = record {
  input = [];
  put = [];
  consumed = Consumes-nil source.bytes;
  appended = Appends-nil sink.bytes;
  counted = refl;
  within = omega arith;
  source_held = refl;
  sink_held = refl;
  served = subst (λ c. HasServed config [] [] c mount) (sym new) (record {
    frames = [];
    cut = cuts_nothing;
    sound = nothing_bad;
    none_waits = refl;
    given = refl;
    settings = ap (λ (m : SerialState). m.config) first;
    run = first_state empty_bucket;
    came = subst (CameTo (first_state empty_bucket)) (sym first) (came_first config empty_bucket IsBucket-empty);
    served = Serves-nil config (first_state empty_bucket);
  });
}

module _ (config : Config) (source amid sink between : Port) (taken : ℕ) (cutter : Cutter) (mount : SerialState) (so_far : Progress config source amid sink between taken cutter mount) where
  -- one more piece was served
  pub Progress-on : (source' sink' : Port) (piece : List ℕ) (count : ℕ) (cutter' : Cutter) (mount' : SerialState)
      → Consumes amid.bytes source'.bytes piece → length piece ≡ count → source'.faults ≡ amid.faults
      → length (so_far.input ++ piece) ≤ longest_input → ServesOn config so_far.input so_far.put piece cutter' mount' between sink'
      → Progress config source source' sink sink' (taken + count) cutter' mount'
  Progress-on source' sink' piece count cutter' mount' consumed counts held fits on = record {
    input = so_far.input ++ piece;
    put = so_far.put ++ on.more;
    consumed = Consumes-trans source.bytes amid.bytes source'.bytes so_far.input piece so_far.consumed consumed;
    appended = Appends-trans sink.bytes between.bytes sink'.bytes so_far.put on.more so_far.appended on.appended;
    counted = omega (arith, so_far.counted, length-append so_far.input piece);
    within = omega (arith, so_far.counted, length-append so_far.input piece);
    source_held = held ∙ so_far.source_held;
    sink_held = on.faults ∙ so_far.sink_held;
    served = on.on;
  }

  -- serving stopped with one more piece
  pub Streams-stopped : (end : ServeEnd) (source' sink' : Port) (piece : List ℕ)
      → Consumes amid.bytes source'.bytes piece → source'.faults ≡ amid.faults → length (so_far.input ++ piece) ≤ longest_input + 1
      → StopsAfter config end so_far.input so_far.put piece between sink' → Streams config end source source' sink sink'
  Streams-stopped end source' sink' piece consumed held fits stops = record {
    taken = so_far.input ++ piece;
    put = so_far.put ++ stops.more;
    consumed = Consumes-trans source.bytes amid.bytes source'.bytes so_far.input piece so_far.consumed consumed;
    appended = Appends-trans sink.bytes between.bytes sink'.bytes so_far.put stops.more so_far.appended stops.appended;
    bounded = fits;
    ended = stops.ends source';
    reads = stops.reads source source' (held ∙ so_far.source_held);
    writes = writes_later end sink between sink' so_far.sink_held stops.writes;
  }

  answered : Answered config so_far.input cutter.rest so_far.put
  answered = record { frames = so_far.served.frames; cut = so_far.served.cut; to = so_far.served.run; served = so_far.served.served }

  input_fits : length so_far.input ≤ longest_input
  input_fits = omega (arith, so_far.counted, so_far.within)

  -- the source failed
  pub Streams-read_fault : (source' : Port) → Keeps amid.bytes source'.bytes → Rose amid.faults source'.faults → Streams config ReadFault source source' sink between
  Streams-read_fault source' keeps rose = record {
    taken = so_far.input;
    put = so_far.put;
    consumed = Consumes-kept source.bytes amid.bytes source'.bytes so_far.input so_far.consumed keeps;
    appended = so_far.appended;
    bounded = omega (arith, input_fits);
    ended = (input_fits, cutter.rest, so_far.served.sound, answered);
    reads = subst (λ count. Rose count source'.faults) so_far.source_held rose;
    writes = so_far.sink_held;
  }

  -- the input ended
  pub Streams-finished : (end : ServeEnd) (source' : Port) (bytes : List ℕ) (count : ℕ)
      → Consumes amid.bytes source'.bytes (take count bytes) → count ≡ 0 → IsAtEnd source'.bytes → source'.faults ≡ amid.faults → FinishesBy cutter end
      → Streams config end source source' sink between
  Streams-finished end source' bytes count consumed none at_end held finish = record {
    taken = so_far.input;
    put = so_far.put;
    consumed =
        subst (Consumes source.bytes source'.bytes) (append-nil so_far.input)
        (Consumes-trans source.bytes amid.bytes source'.bytes so_far.input [] so_far.consumed (subst (λ n. Consumes amid.bytes source'.bytes (take n bytes)) none consumed));
    appended = so_far.appended;
    bounded = omega (arith, input_fits);
    ended = finished end finish;
    reads = reads_of end finish (held ∙ so_far.source_held);
    writes = writes_of end finish so_far.sink_held;
  }
    where
      reads_of : (end : ServeEnd) → FinishesBy cutter end → source'.faults ≡ source.faults → CountsReads end source source'
      reads_of Ended finish same = same
      reads_of (Refused number at) finish same = same
      reads_of ReadFault finish same = absurd finish
      reads_of WriteFault finish same = absurd finish
      reads_of NoMemory finish same = absurd finish
      reads_of TooLong finish same = absurd finish

      writes_of : (end : ServeEnd) → FinishesBy cutter end → between.faults ≡ sink.faults → CountsWrites end sink between
      writes_of Ended finish same = same
      writes_of (Refused number at) finish same = same
      writes_of ReadFault finish same = absurd finish
      writes_of WriteFault finish same = absurd finish
      writes_of NoMemory finish same = absurd finish
      writes_of TooLong finish same = absurd finish

      whole : take longest_input so_far.input ≡ so_far.input
      whole = take_all longest_input so_far.input input_fits

      finished : (end : ServeEnd) → FinishesBy cutter end → EndsBy config end source' so_far.input so_far.put
      finished Ended finish = (
        input_fits,
        at_end,
        record {
          frames = so_far.served.frames;
          cut = subst (λ rest. Cuts so_far.input so_far.served.frames rest) finish so_far.served.cut;
          to = so_far.served.run;
          served = so_far.served.served;
        },
      )
      finished (Refused number at) (inl (inl bad)) = absurd (sound_not_bad cutter.rest so_far.served.sound (inl bad.1))
      finished (Refused number at) (inl (inr bad)) = absurd (sound_not_bad cutter.rest so_far.served.sound (inr bad.1))
      finished (Refused number at) (inr (number_is, waits, at_is)) = (
        cutter.rest,
        record {
          frames = so_far.served.frames;
          cut = subst (λ input. Cuts input so_far.served.frames cutter.rest) (sym whole) so_far.served.cut;
          to = so_far.served.run;
          served = so_far.served.served;
        },
        omega (arith, at_is, so_far.served.given, ap (λ held. length (concat held)) so_far.served.none_waits),
        inr (inr (number_is, so_far.served.sound, waits, (input_fits, at_end))),
      )
      finished ReadFault finish = absurd finish
      finished WriteFault finish = absurd finish
      finished NoMemory finish = absurd finish
      finished TooLong finish = absurd finish

-- nothing was served for want of memory
pub Streams-nothing : (config : Config) (source sink : Port) → Streams config NoMemory source source sink sink
Streams-nothing config source sink = record {
  taken = [];
  put = [];
  consumed = Consumes-nil source.bytes;
  appended = Appends-nil sink.bytes;
  bounded = omega arith;
  ended = record {
    frames = [];
    rest = [];
    cut = subst (λ input. Cuts input [] []) (sym (take-nil longest_input)) cuts_nothing;
    begun = BeginsServing-nothing config (first_state empty_bucket) [];
  };
  reads = refl;
  writes = refl;
}
