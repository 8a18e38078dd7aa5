-- What serving one more piece comes to.
use Rattle.std.proofs.Common.{◌≡◌, ◌+◌, ◌++◌, inl, inr, [], List, ℕ, length, subst, sym, refl, ap, ◌∙◌, arith, append-nil, length-append, Result, Ok, Err}
use Rattle.std.specs.List.{concat}
use Rattle.std.proofs.lemmas.List.Folds.{concat-append}
use Rattle.bucket_api.specs.BucketState.{empty_bucket}
use Rattle.fuse_frames.specs.Cut.{Cuts}
use Rattle.fuse_frames.specs.Cutter.{Cutter, Fed, pending, place}
use Rattle.fuse_frames.proofs.CutLemmas.{cuts_append, cuts_exist}
use Rattle.fuse_frames.specs.declared.fault.CutFault.{CutFault}
use Rattle.fuse_frames.specs.declared.fault.CutFault.TheVariants.{NoMemory, LenBelow40, LenOver, Truncated}
use Rattle.mount_model.specs.declared.config.Config.{Config}
use Rattle.mount_core.specs.Serials.{SerialState}
use Rattle.mount_rules.specs.OneThread.{BeginsServing, Serves, first_state}
use Rattle.mount_laws.proofs.ServingLaws.{Serves-append, BeginsServing-after}
use Rattle.gcsmount.specs.Answers.{AnswersAll, AnswersSome, IsCause, LeadsTo}
use Rattle.io_ports.specs.Ports.{Port}
use Rattle.gcsmount.specs.Serve.{Answered, CountsWrites, PartlyAnswered}
use Rattle.gcsmount.specs.Serving.{HasServed, ServesPiece, PieceEnds, EndsIn, end_of, end_by}
use Rattle.gcsmount.proofs.AnswerLaws.{AnswersAll-some, AnswersSome-more}
use Rattle.gcsmount.specs.declared.answer.Stop.{Stop}
use Rattle.gcsmount.specs.declared.answer.Stop.TheVariants as stops

-- the cutter after the frames that waited were taken
abbrev pub emptied : Cutter → Cutter
emptied cutter = record cutter { given = place cutter; held = [] }

-- what a stop says of all input up to then
stop_ends : (config : Config) (stop : Stop) (input put : List ℕ) → PartlyAnswered config input put → PieceEnds config (end_by stop) input put
stop_ends config stops.WriteFault input put partly = partly
stop_ends config stops.NoMemory input put partly = partly

-- what a stop says of the sink's count of faults
stop_writes : (stop : Stop) (sink sink' : Port) → IsCause stop sink sink' → CountsWrites (end_by stop) sink sink'
stop_writes stops.WriteFault sink sink' cause = cause
stop_writes stops.NoMemory sink sink' cause = cause

module _ (config : Config) (input put : List ℕ) (old : Cutter) (mount : SerialState) (so_far : HasServed config input put old mount) (piece : List ℕ) where
  -- what was pending is what is left, since no frame waits
  pending_is : pending old ≡ old.rest
  pending_is = ap (λ held. concat held ++ old.rest) so_far.none_waits

  -- the frames that the piece makes whole follow those before it
  cut_on : (held : List (List ℕ)) (rest : List ℕ) → Cuts (pending old ++ piece) held rest → Cuts (input ++ piece) (so_far.frames ++ held) rest
  cut_on held rest cut = cuts_append piece so_far.cut (subst (λ front. Cuts (front ++ piece) held rest) pending_is cut)

  -- all replies up to and with these frames
  served_on : (held : List (List ℕ)) (mount' : SerialState) (sink sink' : Port) (all : AnswersAll mount mount' held sink sink')
      → LeadsTo (first_state empty_bucket) config (so_far.frames ++ held) (put ++ all.put) mount'
  served_on held mount' sink sink' all =
      let on = all.served so_far.run so_far.came in
      record {
        to = on.to;
        served =
            Serves-append config (first_state empty_bucket) so_far.run on.to so_far.frames held put all.put so_far.served
            (subst (λ c. Serves c so_far.run held all.put on.to) so_far.settings on.served);
        came = on.came;
      }

  -- the replies up to these frames, and a prefix of theirs
  begun_on : (held : List (List ℕ)) (sink sink' : Port) (some : AnswersSome mount held sink sink')
      → BeginsServing config (first_state empty_bucket) (so_far.frames ++ held) (put ++ some.put)
  begun_on held sink sink' some =
      BeginsServing-after config (first_state empty_bucket) so_far.run so_far.frames held put some.put so_far.served
      (subst (λ c. BeginsServing c so_far.run held some.put) so_far.settings (some.begun so_far.run so_far.came))

  -- the place behind the frames that wait is that behind all whole frames
  placed : (held : List (List ℕ)) (given : ℕ) → given ≡ old.given → given + length (concat held) ≡ length (concat (so_far.frames ++ held))
  placed held given same =
      omega (arith, same, so_far.given, ap length (concat-append so_far.frames held), length-append (concat so_far.frames) (concat held))

  answered_on : (held : List (List ℕ)) (rest : List ℕ) (mount' : SerialState) (sink sink' : Port)
      → Cuts (pending old ++ piece) held rest → (all : AnswersAll mount mount' held sink sink') → Answered config (input ++ piece) rest (put ++ all.put)
  answered_on held rest mount' sink sink' cut all =
      let on = served_on held mount' sink sink' all in
      record { frames = so_far.frames ++ held; cut = cut_on held rest cut; to = on.to; served = on.served }

  no_more : (held rest : List (List ℕ)) → held ≡ [] → rest ≡ held ++ rest
  no_more held rest none = sym (ap (λ front. front ++ rest) none)

  -- whatever feeding the piece came to, the frames that wait then are the first of those that it makes whole
  fed_cut : {U : Type 0} (r : Result U CutFault) (mid : Cutter) → Fed old piece r mid
      → (extra : List (List ℕ)) × (rest : List ℕ) × Cuts (input ++ piece) (so_far.frames ++ (mid.held ++ extra)) rest
  fed_cut (Ok u) mid fed = ([], mid.rest, cut_on (mid.held ++ []) mid.rest (subst (λ held. Cuts (pending old ++ piece) held mid.rest) (sym (append-nil mid.held)) fed.cut))
  fed_cut (Err NoMemory) mid fed =
      let later = cuts_exist (pending old ++ piece) in
      let none : mid.held ≡ [] = ap (λ (c : Cutter). c.held) fed.0 ∙ so_far.none_waits in
      (later.0, later.1, cut_on (mid.held ++ later.0) later.1 (subst (λ held. Cuts (pending old ++ piece) held later.1) (no_more mid.held later.0 none) later.2))
  fed_cut (Err (LenBelow40 at)) mid fed = ([], fed.rest, cut_on (mid.held ++ []) fed.rest (subst (λ held. Cuts (pending old ++ piece) held fed.rest) (sym (append-nil mid.held)) fed.cut))
  fed_cut (Err (LenOver at)) mid fed = ([], fed.rest, cut_on (mid.held ++ []) fed.rest (subst (λ held. Cuts (pending old ++ piece) held fed.rest) (sym (append-nil mid.held)) fed.cut))
  fed_cut (Err (Truncated at)) mid fed = absurd fed

  -- answering the frames that waited stopped
  pub EndsIn-stopped : {U : Type 0} (r : Result U CutFault) (mid : Cutter) (stop : Stop) (sink sink' : Port)
      → Fed old piece r mid → AnswersSome mount mid.held sink sink' → IsCause stop sink sink' → EndsIn config (end_by stop) input put piece sink sink'
  EndsIn-stopped r mid stop sink sink' fed some cause =
      let cut = fed_cut r mid fed in
      let begun = AnswersSome-more mount mid.held cut.0 sink sink' some in
      let partly : PartlyAnswered config (input ++ piece) (put ++ begun.put) =
      record { frames = so_far.frames ++ (mid.held ++ cut.0); rest = cut.1; cut = cut.2; begun = begun_on (mid.held ++ cut.0) sink sink' begun } in
      record { more = begun.put; appended = begun.appended; ends = stop_ends config stop (input ++ piece) (put ++ begun.put) partly; writes = stop_writes stop sink sink' cause }

  -- answering the frames that waited came to its end
  pub ServesPiece-answered : {U : Type 0} (r : Result U CutFault) (mid new : Cutter) (mount' : SerialState) (sink sink' : Port)
      → Fed old piece r mid → AnswersAll mount mount' mid.held sink sink' → new ≡ emptied mid
      → ServesPiece config input put piece new mount' sink sink' (end_of r)
  unfolding answered_on
  ServesPiece-answered (Ok u) mid new mount' sink sink' fed all is = record {
    more = all.put;
    appended = all.appended;
    on = subst (λ c. HasServed config (input ++ piece) (put ++ all.put) c mount') (sym is) (record {
      frames = so_far.frames ++ mid.held;
      cut = cut_on mid.held mid.rest fed.cut;
      sound = fed.sound;
      none_waits = refl;
      given = placed mid.held mid.given fed.given;
      settings = all.config ∙ so_far.settings;
      run = (served_on mid.held mount' sink sink' all).to;
      came = (served_on mid.held mount' sink sink' all).came;
      served = (served_on mid.held mount' sink sink' all).served;
    });
    faults = all.faults;
  }
  ServesPiece-answered {U} (Err NoMemory) mid new mount' sink sink' fed all is =
      let cut = fed_cut {U = U} (Err NoMemory) mid fed in
      let begun = AnswersSome-more mount mid.held cut.0 sink sink' (AnswersAll-some mount mount' mid.held sink sink' all) in
      record {
        more = begun.put;
        appended = begun.appended;
        ends = record { frames = so_far.frames ++ (mid.held ++ cut.0); rest = cut.1; cut = cut.2; begun = begun_on (mid.held ++ cut.0) sink sink' begun };
        writes = all.faults;
      }
  ServesPiece-answered (Err (LenBelow40 at)) mid new mount' sink sink' fed all is = record {
    more = all.put;
    appended = all.appended;
    ends = (fed.rest, answered_on mid.held fed.rest mount' sink sink' fed.cut all, fed.at ∙ placed mid.held mid.given fed.given, inl (refl, fed.bad));
    writes = all.faults;
  }
  ServesPiece-answered (Err (LenOver at)) mid new mount' sink sink' fed all is = record {
    more = all.put;
    appended = all.appended;
    ends = (fed.rest, answered_on mid.held fed.rest mount' sink sink' fed.cut all, fed.at ∙ placed mid.held mid.given fed.given, inr (refl, fed.bad));
    writes = all.faults;
  }
  ServesPiece-answered (Err (Truncated at)) mid new mount' sink sink' fed all is = absurd fed
