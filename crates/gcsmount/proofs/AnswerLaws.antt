-- What answering comes to, step by step.
use Rattle.std.proofs.Common.{◌≡◌, ◌≤◌, ◌++◌, ◌∷◌, [], List, ℕ, take, subst, sym, refl, ◌∙◌, arith, OnOk, OnErr, IfOk, IfErr, Result, Ok, Err}
use Rattle.std.proofs.KnownBytes.{Appends-nil, Appends-trans}
use Rattle.std.specs.Io.KnownBytes.{Appends}
use Rattle.io_ports.specs.Faults.{Rose}
use Rattle.io_ports.specs.Streams.{AppendsPrefix}
use Rattle.fuse_head.specs.Little.{u64_at}
use Rattle.fuse_replies.specs.declared.reply.Reply.{Reply}
use Rattle.fuse_replies.specs.Replies.{frame_of}
use Rattle.fuse_requests.specs.declared.request.Request.{Request}
use Rattle.fuse_requests.specs.Grammar.{request_of}
use Rattle.mount_core.specs.Serials.{SerialState, ServesOne}
use Rattle.mount_rules.specs.OneThread.{BeginsServing, Performs, Serves}
use Rattle.mount_laws.proofs.ServingLaws.{BeginsServing-after, BeginsServing-more, BeginsServing-nothing, BeginsServing-taken, BeginsServing-whole, Serves-append, Serves-nil, Serves-request}
use Rattle.gcsmount.specs.Answers.{Answers, AnswersAll, AnswersSome, IsCause, ServesFrames}
use Rattle.io_ports.specs.Ports.{Port}
use Rattle.gcsmount.specs.declared.answer.Stop.{Stop}
use Rattle.gcsmount.specs.declared.answer.Stop.TheVariants.{WriteFault, NoMemory}

-- nothing was put, and the sink is as it was
pub AnswersSome-nothing : (mount : SerialState) (frames : List (List ℕ)) (sink : Port) → AnswersSome mount frames sink sink
AnswersSome-nothing mount frames sink = record {
  put = [];
  appended = Appends-nil sink.bytes;
  begun = λ run came. BeginsServing-nothing mount.config run frames;
}

-- the replies to frames were handed to the sink
pub Answers-put : {U : Type 0} (mount mount' : SerialState) (frames : List (List ℕ)) (text : List ℕ) (sink sink' : Port) (r : Result U Stop)
    → mount'.config ≡ mount.config → ServesFrames mount frames text mount'
    → OnOk r (Appends sink.bytes sink'.bytes text) → OnErr r (AppendsPrefix sink.bytes sink'.bytes text)
    → IfErr r (λ stop. (stop ≡ WriteFault) × Rose sink.faults sink'.faults) → OnOk r (sink'.faults ≡ sink.faults)
    → Answers mount mount' frames sink sink' r
Answers-put mount mount' frames text sink sink' (Ok _) config served all some cause held =
    record { put = text; appended = all; config = config; served = served; faults = held }
Answers-put mount mount' frames text sink sink' (Err stop) config served all some cause held = (
  record {
    put = take some.0 text;
    appended = some.1;
    begun = λ run came. let whole = served run came in BeginsServing-taken mount.config run whole.to frames text some.0 whole.served;
  },
  subst (λ why. IsCause why sink sink') (sym cause.0) cause.1,
)

-- the frame of the reply to a request that was performed serves the frame of the request
pub Serves-written : {E : Type 0} (before after : SerialState) (frame : List ℕ) (request : Request) (reply : Reply) (r : Result (List ℕ) E)
    → request ≡ request_of frame → ServesOne before request reply after
    → IfOk r (λ text. text ≡ frame_of (u64_at frame 8) reply) → IfOk r (λ text. ServesFrames before (frame ∷ []) text after)
Serves-written before after frame request reply (Ok text) asked done is = λ run came.
    let one = done run came in
    let performs : Performs before.config run (request_of frame) reply one.left = subst (λ q. Performs before.config run q reply one.left) asked one.performs in
    record {
      to = one.left;
      served = subst (λ t. Serves before.config run (frame ∷ []) t one.left) (sym is) (Serves-request before.config run one.left frame reply performs);
      came = one.came;
    }
Serves-written before after frame request reply (Err e) asked done is = tt

-- a stop says of a sink whose count had stayed what it says from the beginning on
pub IsCause-later : (stop : Stop) (before between now : Port) → between.faults ≡ before.faults → IsCause stop between now → IsCause stop before now
IsCause-later WriteFault before between now held rose = subst (λ count. Rose count now.faults) held rose
IsCause-later NoMemory before between now held same = same ∙ held

-- no frame was answered
pub AnswersAll-nothing : (mount : SerialState) (sink : Port) → AnswersAll mount mount [] sink sink
AnswersAll-nothing mount sink = record {
  put = [];
  appended = Appends-nil sink.bytes;
  config = refl;
  served = λ run came. record { to = run; served = Serves-nil mount.config run; came = came };
  faults = refl;
}

-- some frames were answered, and then some more
pub AnswersAll-then : (mount between mount' : SerialState) (first then : List (List ℕ)) (sink amid sink' : Port)
    → AnswersAll mount between first sink amid → AnswersAll between mount' then amid sink' → AnswersAll mount mount' (first ++ then) sink sink'
AnswersAll-then mount between mount' first then sink amid sink' one two = record {
  put = one.put ++ two.put;
  appended = Appends-trans sink.bytes amid.bytes sink'.bytes one.put two.put one.appended two.appended;
  config = two.config ∙ one.config;
  served = λ run came.
      let begun = one.served run came in
      let ended = two.served begun.to begun.came in
      record {
        to = ended.to;
        served =
            Serves-append mount.config run begun.to ended.to first then one.put two.put begun.served
            (subst (λ config. Serves config begun.to then two.put ended.to) one.config ended.served);
        came = ended.came;
      };
  faults = two.faults ∙ one.faults;
}

-- some frames were answered, and then the replies to some more begun
pub AnswersSome-then : (mount between : SerialState) (first then : List (List ℕ)) (sink amid sink' : Port)
    → AnswersAll mount between first sink amid → AnswersSome between then amid sink' → AnswersSome mount (first ++ then) sink sink'
AnswersSome-then mount between first then sink amid sink' one two = record {
  put = one.put ++ two.put;
  appended = Appends-trans sink.bytes amid.bytes sink'.bytes one.put two.put one.appended two.appended;
  begun = λ run came.
      let served = one.served run came in
      BeginsServing-after mount.config run served.to first then one.put two.put served.served
      (subst (λ config. BeginsServing config served.to then two.put) one.config (two.begun served.to served.came));
}

-- replies that were begun are those to more frames, too
pub AnswersSome-more : (mount : SerialState) (first then : List (List ℕ)) (sink sink' : Port)
    → AnswersSome mount first sink sink' → AnswersSome mount (first ++ then) sink sink'
AnswersSome-more mount first then sink sink' one =
    record { put = one.put; appended = one.appended; begun = λ run came. BeginsServing-more mount.config run first then one.put (one.begun run came) }

-- among waiting frames, the first ones were answered, and then the next one stopped
pub Answers-stopped : (mount between : SerialState) (done rest waiting : List (List ℕ)) (frame : List ℕ) (sink amid sink' : Port) (stop : Stop)
    → waiting ≡ done ++ frame ∷ rest → AnswersAll mount between done sink amid
    → AnswersSome between (frame ∷ []) amid sink' → IsCause stop amid sink'
    → AnswersSome mount waiting sink sink' × IsCause stop sink sink'
Answers-stopped mount between done rest waiting frame sink amid sink' stop is one some cause = (
  subst (λ frames. AnswersSome mount frames sink sink') (sym is)
      (AnswersSome-then mount between done (frame ∷ rest) sink amid sink' one (AnswersSome-more between (frame ∷ []) rest amid sink' some)),
  IsCause-later stop sink amid sink' one.faults cause,
)

-- all replies to frames are a prefix of them
pub AnswersAll-some : (mount mount' : SerialState) (frames : List (List ℕ)) (sink sink' : Port)
    → AnswersAll mount mount' frames sink sink' → AnswersSome mount frames sink sink'
AnswersAll-some mount mount' frames sink sink' all = record {
  put = all.put;
  appended = all.appended;
  begun = λ run came. let whole = all.served run came in BeginsServing-whole mount.config run whole.to frames all.put whole.served;
}
