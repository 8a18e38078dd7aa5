-- What services of frames that follow one another come to.
use Rattle.std.proofs.Common.{◌≡◌, ◌++◌, ◌∷◌, [], List, ℕ, map, take, drop, refl, sym, ap, subst, ◌∙◌, append_assoc, append-nil}
use Rattle.std.proofs.lemmas.List.{take-append-drop}
use Rattle.fuse_replies.specs.declared.reply.Reply.{Reply}
use Rattle.fuse_replies.specs.Replies.{frame_of}
use Rattle.mount_model.specs.declared.config.Config.{Config}
use Rattle.fuse_requests.specs.declared.request.Request.{Request}
use Rattle.mount_model.specs.Observing.{Observed}
use Rattle.mount_rules.specs.OneThread.{BeginsServing, Call, Ending, IsLawful, IsRun, Performs, RunState, Serves, after_operations, asked_in, asked_of, mount_by, performed, plan_at, reply_by, reply_in, short, stale, state_after_call, state_after_calls, text_of}
use Rattle.mount_rules.specs.Plans.{MayEnd, Step, ask, done, may_read}
use Rattle.mount_laws.proofs.RunLaws.{state_after_calls-append}

IsRun-append : (config : Config) (state : RunState) (first next : List Call)
    → IsRun config state first → IsRun config (state_after_calls config state first) next → IsRun config state (first ++ next)
IsRun-append config state [] next run more = more
IsRun-append config state (call ∷ calls) next run more = (run.0, IsRun-append config (state_after_call config state call) calls next run.1 more)

text_of-append : (config : Config) (state : RunState) (first next : List Call)
    → text_of config state (first ++ next) ≡ text_of config state first ++ text_of config (state_after_calls config state first) next
text_of-append config state [] next = refl
text_of-append config state (call ∷ calls) next =
    ap (λ text. frame_of call.unique (reply_in config state call) ++ text) (text_of-append config (state_after_call config state call) calls next)
    ∙ sym (append_assoc (frame_of call.unique (reply_in config state call)) _ _)

map-append : {A B : Type 0} (f : A → B) (xs ys : List A) → map f (xs ++ ys) ≡ map f xs ++ map f ys
map-append f [] ys = refl
map-append f (x ∷ xs) ys = ap (λ rest. f x ∷ rest) (map-append f xs ys)

-- no frame is served by no reply
pub Serves-nil : (config : Config) (state : RunState) → Serves config state [] [] state
Serves-nil config state = record { calls = []; asked = refl; lawful = tt; reached = refl; told = refl }

-- one frame is served by the reply of one lawful call of its request
Serves-one : (config : Config) (state : RunState) (call : Call) (frame : List ℕ)
    → asked_of call ≡ asked_in frame → IsLawful config state call
    → Serves config state (frame ∷ []) (frame_of call.unique (reply_in config state call)) (state_after_call config state call)
Serves-one config state call frame asked lawful = record {
  calls = call ∷ [];
  asked = ap (λ one. one ∷ []) asked;
  lawful = (lawful, tt);
  reached = refl;
  told = sym (append-nil _);
}

-- some frames are served and then some more
pub Serves-append : (config : Config) (from between to : RunState) (first next : List (List ℕ)) (put more : List ℕ)
    → Serves config from first put between → Serves config between next more to → Serves config from (first ++ next) (put ++ more) to
Serves-append config from between to first next put more one two =
    let here : state_after_calls config from one.calls ≡ between = one.reached in
    record {
      calls = one.calls ++ two.calls;
      asked = map-append asked_of one.calls two.calls ∙ ap (λ front. front ++ map asked_of two.calls) one.asked
          ∙ ap (λ back. map asked_in first ++ back) two.asked ∙ sym (map-append asked_in first next);
      lawful = IsRun-append config from one.calls two.calls one.lawful (subst (λ state. IsRun config state two.calls) (sym here) two.lawful);
      reached = state_after_calls-append config from one.calls two.calls ∙ ap (λ state. state_after_calls config state two.calls) here ∙ two.reached;
      told = ap (λ front. front ++ more) one.told ∙ ap (λ back. text_of config from one.calls ++ back) two.told
          ∙ ap (λ state. text_of config from one.calls ++ text_of config state two.calls) (sym here)
          ∙ sym (text_of-append config from one.calls two.calls);
    }

-- some call of a frame is lawful in any state: one that asks nothing is performed, any other stops at once
some_call : (config : Config) (state : RunState) (frame : List ℕ) (step : Step)
    → plan_at config state (asked_in frame).1 [] ≡ step
    → (call : Call) × (asked_of call ≡ asked_in frame) × IsLawful config state call
some_call config state frame done is = (
  record { unique = (asked_in frame).0; request = (asked_in frame).1; seen = []; ending = performed },
  refl,
  record { observed = tt; ends = subst MayEnd (sym is) tt },
)
some_call config state frame (ask op) is = (
  record { unique = (asked_in frame).0; request = (asked_in frame).1; seen = []; ending = short },
  refl,
  record { observed = tt; ends = record { asks = λ none. cc; harmless = tt } },
)
some_call config state frame (may_read source next) is = (
  record { unique = (asked_in frame).0; request = (asked_in frame).1; seen = []; ending = short },
  refl,
  record { observed = tt; ends = record { asks = λ none. cc; harmless = tt } },
)

-- the frames of any requests can be served from any state
some_service : (config : Config) (state : RunState) (frames : List (List ℕ)) → (put : List ℕ) × (to : RunState) × Serves config state frames put to
some_service config state [] = ([], state, Serves-nil config state)
some_service config state (frame ∷ frames) =
    let one = some_call config state frame (plan_at config state (asked_in frame).1 []) refl in
    let rest = some_service config (state_after_call config state one.0) frames in
    (_, rest.1, Serves-append config state _ _ (frame ∷ []) frames _ _ (Serves-one config state one.0 frame one.1 one.2) rest.2)

-- nothing put is the beginning of any service
pub BeginsServing-nothing : (config : Config) (state : RunState) (frames : List (List ℕ)) → BeginsServing config state frames []
BeginsServing-nothing config state frames =
    let service = some_service config state frames in
    record { unput = service.0; to = service.1; whole = service.2 }

-- some frames are served, and the service of more begins
pub BeginsServing-after : (config : Config) (from between : RunState) (first next : List (List ℕ)) (put more : List ℕ)
    → Serves config from first put between → BeginsServing config between next more → BeginsServing config from (first ++ next) (put ++ more)
BeginsServing-after config from between first next put more one two = record {
  unput = two.unput;
  to = two.to;
  whole =
      subst (λ text. Serves config from (first ++ next) text two.to) (sym (append_assoc put more two.unput))
      (Serves-append config from between two.to first next put (more ++ two.unput) one two.whole);
}

-- a prefix of the replies to some frames is the beginning of their service
pub BeginsServing-taken : (config : Config) (from to : RunState) (frames : List (List ℕ)) (put : List ℕ) (count : ℕ)
    → Serves config from frames put to → BeginsServing config from frames (take count put)
BeginsServing-taken config from to frames put count one = record {
  unput = drop count put;
  to = to;
  whole = subst (λ text. Serves config from frames text to) (sym (take-append-drop count put)) one;
}

-- the whole replies are a beginning, too
pub BeginsServing-whole : (config : Config) (from to : RunState) (frames : List (List ℕ)) (put : List ℕ)
    → Serves config from frames put to → BeginsServing config from frames put
BeginsServing-whole config from to frames put one = record {
  unput = [];
  to = to;
  whole = subst (λ text. Serves config from frames text to) (sym (append-nil put)) one;
}

-- the beginning of a service is the beginning of a longer one
pub BeginsServing-more : (config : Config) (from : RunState) (first next : List (List ℕ)) (put : List ℕ)
    → BeginsServing config from first put → BeginsServing config from (first ++ next) put
BeginsServing-more config from first next put one =
    let service = some_service config one.to next in
    record {
      unput = one.unput ++ service.0;
      to = service.1;
      whole =
          subst (λ text. Serves config from (first ++ next) text service.1) (append_assoc put one.unput service.0)
          (Serves-append config from one.to service.1 first next (put ++ one.unput) service.0 one.whole service.2);
    }

-- ---- the number of a call decides neither its reply nor what it leaves
abbrev numbered : ℕ → Request → List Observed → Ending → Call
numbered unique request seen ending = record { unique = unique; request = request; seen = seen; ending = ending }

reply_numbered : (config : Config) (state : RunState) (one other : ℕ) (request : Request) (seen : List Observed) (told ending : Ending)
    → reply_by config state (numbered one request seen told) ending ≡ reply_by config state (numbered other request seen told) ending
reply_numbered config state one other request seen told performed = refl
reply_numbered config state one other request seen told short = refl
reply_numbered config state one other request seen told stale = refl

mount_numbered : (config : Config) (state : RunState) (one other : ℕ) (request : Request) (seen : List Observed) (told ending : Ending)
    → mount_by config state (numbered one request seen told) ending ≡ mount_by config state (numbered other request seen told) ending
mount_numbered config state one other request seen told performed = refl
mount_numbered config state one other request seen told short = refl
mount_numbered config state one other request seen told stale = refl

-- a frame whose request was performed, or ended otherwise, is served by the frame of the reply
pub Serves-request : (config : Config) (state after : RunState) (frame : List ℕ) (reply : Reply)
    → Performs config state (asked_in frame).1 reply after
    → Serves config state (frame ∷ []) (frame_of (asked_in frame).0 reply) after
Serves-request config state after frame reply one =
    let unique = (asked_in frame).0 in
    let request = (asked_in frame).1 in
    let call : Call = numbered unique request one.seen one.ending in
    let answered : reply ≡ reply_in config state call = one.answered ∙ reply_numbered config state 0 unique request one.seen one.ending one.ending in
    let left : after ≡ state_after_call config state call =
    one.left ∙ ap (λ mount. record { mount = mount; store = after_operations state.store one.seen }) (mount_numbered config state 0 unique request one.seen one.ending one.ending) in
    subst (λ text. Serves config state (frame ∷ []) text after) (ap (frame_of unique) (sym answered))
    (subst (Serves config state (frame ∷ []) (frame_of unique (reply_in config state call))) (sym left)
    (Serves-one config state call frame refl (record { observed = one.lawful.observed; ends = one.lawful.ends })))
