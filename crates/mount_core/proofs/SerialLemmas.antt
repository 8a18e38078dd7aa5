-- A request that was walked along its plan, or refused, is the next one of whatever run came to the mount.
use Rattle.std.proofs.Math.Nat.{min-le_right}
use Rattle.std.proofs.Common.{◌≡◌, ◌≢◌, ◌⊎◌, ◌≤◌, ◌+◌, ℕ, All, Bool, true, false, List, [], ◌∷◌, Option, Some, None, refl, sym, ap, subst, ◌∙◌, inl, inr}
use Rattle.std.proofs.lemmas.Bool.{false≢true}
use Rattle.std.specs.Prelude.{not, ◌&&◌, is_some, if◌then◌else◌}
use Rattle.std.specs.Option.{option_map_or}
use Rattle.bucket_api.specs.BucketState.{BucketState, IsBucket}
use Rattle.bucket_api.specs.Operation.{IsAllowed}
use Rattle.bucket_api.specs.declared.answers.Answer.{Answer}
use Rattle.bucket_api.specs.declared.answers.Answer.TheVariants.{NotFound}
use Rattle.file_metadata.specs.FileMetadata.{last_second}
use Rattle.fuse_replies.specs.Errno.{einval, enomem, enospc, enosys, eproto, estale}
use Rattle.fuse_replies.specs.declared.reply.Reply.{Reply}
use Rattle.fuse_replies.specs.declared.reply.Reply.TheVariants.{Error, Silent}
use Rattle.fuse_requests.specs.declared.request.Request.{Request}
use Rattle.fuse_requests.specs.declared.request.Request.TheVariants.{BatchForget, Forget, Interrupt, Unknown}
use Rattle.mount_core.specs.Serials.{CameTo, SerialState, ServesOne}
use Rattle.mount_core.specs.Bases.{HasRead, HoldsBase, IsGone}
use Rattle.mount_core.specs.Carrying as carrying
use Rattle.mount_core.specs.Carrying.{CarriedOut, IsUnread, StopsOnWay}
use Rattle.mount_core.specs.Errands.{AsksAs, IsListing, plan_over, wanted_of}
use Rattle.mount_core.specs.Metadatas.{GivesMetadata}
use Rattle.mount_core.specs.declared.errand.Errand.{Errand}
use Rattle.mount_core.specs.Stores.{Counted, LeavesBucket}
use Rattle.mount_core.specs.Walks.{Walks}
use Rattle.mount_core.proofs.BaseLemmas.{covers_read, holds_all, holds_read}
use Rattle.mount_core.proofs.HarmlessLemmas.{answers_fit, lists_alone}
use Rattle.mount_core.proofs.WalkLemmas.{Completes-asked, Observes-asked, Planned-observed, Walks-none, asks_first, asks_too, ends_with}
use Rattle.mount_core.proofs.MetadataLemmas.{gives_after}
use Rattle.mount_core.proofs.ToldLemmas.{tell_in_order}
use Rattle.mount_laws.proofs.Answered.{answers_tell}
use Rattle.mount_laws.proofs.Contents.{files_keep_content}
use Rattle.mount_laws.proofs.Lengths.{files_are_short}
use Rattle.mount_laws.proofs.Refusals.{full_is_refused}
use Rattle.mount_laws.proofs.RequestLaws.{harmless_while_asking, may_read_wanted}
use Rattle.mount_laws.proofs.SourceReads.{unread_is_refused}
use Rattle.mount_laws.proofs.Settled.{staged_stay_over}
use Rattle.mount_laws.specs.Observations.{EndSame, TellSame}
use Rattle.mount_model.specs.Observing.{Observed}
use Rattle.mount_model.specs.declared.config.Config.{Config}
use Rattle.mount_rules.specs.Dispatch.{early, goes_on, is_among, is_full, is_idle, is_init, is_silent, mount_after, plan, refused_at_take, reply_to, rules_of, served_opcodes, taken_at, view_in, wants}
use Rattle.mount_rules.specs.Mount.{IsMount, MountModel}
use Rattle.mount_rules.specs.Files.{FilesAreShort}
use Rattle.mount_rules.specs.Laws.{FilesHaveContent, IsRefusedFull, StagedStandOver}
use Rattle.mount_rules.specs.OneThread.{Call, Ending, IsLawful, Observes, RunState, StopsShort, after_operations, at_state, contents_of, mount_by, performed, plan_at, second_of, short, stale, state_after_call}
use Rattle.mount_rules.specs.Plans.{Completes, Contents, HoldsWanted, Plan, Source, Step, Wanted, answers_of, done, last_moment, may_read, without_reads}
use Rattle.mount_rules.specs.Reading.{given, gone, reads}
use Rattle.mount_rules.specs.Rules.{AtTake}
use Rattle.mount_rules.specs.View.{View}
use Rattle.mount_state.specs.Serving.{Serves}
use Rattle.mount_state.specs.Telling.{ToldList}
use Rattle.mount_state.specs.declared.base.Base.{Base}
use Rattle.plan_files.specs.Errands.{read_of}

-- the second of a call is a time that a file may have
pub early_second : (config : Config) → second_of config ≤ last_second
early_second config = min-le_right (config.start + 0) last_second

-- a lawful call leaves what files show as content that was live, what is staged over that, and metadata that may be given
module _ (config : Config) (run : RunState) (call : Call) (is : IsMount run.mount) (lawful : IsLawful config run call) (start : IsBucket run.store.start) where
  metadata_after : All (λ e. IsAllowed e.op) (state_after_call config run call).store.log → GivesMetadata run.mount → GivesMetadata (state_after_call config run call).mount
  metadata_after allowed gives = by call.ending
    where
      by : (ending : Ending) → GivesMetadata (mount_by config run call ending)
      by performed =
          gives_after (at_state config run) run.mount call.request call.seen is (early_second config)
          (tell_in_order (plan_at config run call.request) run.store call.seen start allowed lawful.observed) gives
      by short = gives
      by stale = gives

  came_to : (before : SerialState) → CameTo run before → (left : RunState) (after : SerialState) → left ≡ state_after_call config run call → after.mount ≡ left.mount
      → LeavesBucket left.store after.store → CameTo left after
  came_to before came left after reached mount store =
      let allowed = subst (λ (s : RunState). All (λ e. IsAllowed e.op) s.store.log) reached store.allowed in
      record {
        mount = mount;
        store = store;
        files = subst FilesHaveContent (sym reached) (files_keep_content config run call is start allowed lawful came.files);
        staged = subst StagedStandOver (sym reached) (staged_stay_over config run call is start allowed lawful came.files came.staged);
        metadata = subst (λ (s : RunState). GivesMetadata s.mount) (sym reached) (metadata_after allowed came.metadata);
      }

-- no file of a mount that a run came to is longer than a content may be
pub short_files : (run : RunState) (before : SerialState) → CameTo run before → FilesAreShort before.mount
short_files run before came = subst FilesAreShort (sym came.mount) (files_are_short run came.store.start came.store.allowed came.files)

pub gives_metadata : (run : RunState) (before : SerialState) → CameTo run before → GivesMetadata before.mount
gives_metadata run before came = subst GivesMetadata (sym came.mount) came.metadata

module _ (before : SerialState) (request : Request) (is : IsMount before.mount) where
  -- what a call of a run has from its take
  abbrev at_run : RunState → AtTake
  at_run run = at_state before.config run

  -- whatever run came to the state, the plan asks the same, reads left out, where generations hold what they do in that run
  abbrev pub AsksAlong : (Contents → Plan) → Type 0
  AsksAlong asked = (run : RunState) → CameTo run before → AsksAs (asked (contents_of run.store)) (plan (at_run run) before.mount request)

  -- an errand asks so at any take with its settings
  pub asks_along : (errand : Errand) (second : ℕ) → second ≡ second_of before.config
      → ((at : AtTake) → at.config ≡ before.config → at.second ≡ second → AsksAs (plan_over errand at.contents at.second) (plan at before.mount request))
      → AsksAlong (λ contents. plan_over errand contents second)
  asks_along errand second stamped asks run came answers =
      ap (λ n. plan_over errand (contents_of run.store) n answers) stamped ∙ asks (at_run run) refl (sym stamped) answers

  -- the request is performed so, by these observations
  abbrev call_of : List Observed → Ending → Call
  call_of seen ending = record { unique = 0; request = request; seen = seen; ending = ending }

  is_mount : (run : RunState) → CameTo run before → IsMount run.mount
  is_mount run came = subst IsMount came.mount is

  -- walked to its end
  pub served : (asked : Contents → Plan) (seen : List Observed) (after : Counted) (answer : Reply) (left : MountModel)
      → AsksAlong asked
      → ((run : RunState) → CameTo run before → Walks (asked (contents_of run.store)) before.store seen after × Completes (asked (contents_of run.store)) seen)
      → ((run : RunState) → CameTo run before → answer ≡ reply_to (at_run run) before.mount request seen)
      → ((run : RunState) → CameTo run before → left ≡ mount_after (at_run run) before.mount request seen)
      → ServesOne before request answer (record before { mount = left; store = after })
  served asked_in seen after answer left asks walked answered leaves run came =
      let asked : Plan = asked_in (contents_of run.store) in
      let same = subst (λ (m : MountModel). AsksAs asked (plan (at_run run) m request)) came.mount (asks run came) in
      let w = (walked run came).0 run.store came.store in
      let lawful : IsLawful before.config run (call_of seen performed) = record {
        observed = Observes-asked asked (plan_at before.config run request) same run.store seen w.0;
        ends = Completes-asked asked (plan_at before.config run request) same seen (walked run came).1;
      } in
      let reached : record { mount = left; store = after_operations run.store seen } ≡ state_after_call before.config run (call_of seen performed) =
      ap (λ (m : MountModel). record { mount = m; store = after_operations run.store seen })
      (leaves run came ∙ ap (λ (m : MountModel). mount_after (at_run run) m request seen) came.mount) in
      record {
        left = record { mount = left; store = after_operations run.store seen };
        performs = record {
          seen = seen;
          ending = performed;
          lawful = lawful;
          answered = answered run came ∙ ap (λ (m : MountModel). reply_to (at_run run) m request seen) came.mount;
          left = reached;
        };
        came = came_to before.config run (call_of seen performed) (is_mount run came) lawful came.store.start before came _ _ reached refl w.1;
      }

  -- stopped on the way
  module _ (errand : Errand) (second : ℕ) (after : Counted) (asks : AsksAlong (λ contents. plan_over errand contents second))
      (wanted_is : wanted_of errand ≡ wants before.config before.mount request) (w : StopsOnWay errand second before.store after) where
    module _ (run : RunState) (came : CameTo run before) where
      asked : Plan
      asked = plan_over errand (contents_of run.store) second

      mine : Plan
      mine = plan_at before.config run request

      same : AsksAs (plan_over errand (contents_of run.store) second) (plan_at before.config run request)
      same = subst (λ (m : MountModel). AsksAs (plan_over errand (contents_of run.store) second) (plan (at_run run) m request)) came.mount (asks run came)

      holds : HoldsBase (contents_of run.store) (wanted_of errand) w.base
      holds = holds_read before.config before request is run came (wanted_of errand) (sym wanted_is) w.base w.read

      walk : Observes (plan_over errand (contents_of run.store) second) run.store w.seen × LeavesBucket (after_operations run.store w.seen) after
      walk = w.walked (contents_of run.store) holds run.store came.store

      observed : Observes (plan_at before.config run request) run.store w.seen
      observed = Observes-asked (plan_over errand (contents_of run.store) second) (plan_at before.config run request) same run.store w.seen walk.0

      -- its plan asks on
      short_asking : plan_at before.config run request (answers_of w.seen) ≢ done → StopsShort before.config run request w.seen
      short_asking on =
          let planned = Planned-observed (plan_at before.config run request) run.store w.seen observed in
          record {
            asks = asks_first (plan_at before.config run request) w.seen planned on;
            harmless = harmless_while_asking (at_run run) run.mount request w.seen planned (answers_fit (plan_at before.config run request) run.store w.seen observed) on;
          }

      short_listing : IsListing errand → StopsShort before.config run request w.seen
      short_listing lists =
          let alone = lists_alone errand (contents_of run.store) second w.seen lists (Planned-observed (plan_over errand (contents_of run.store) second) run.store w.seen walk.0) in
          record { asks = asks_too (plan_over errand (contents_of run.store) second) (plan_at before.config run request) same [] alone.asks; harmless = alone.harmless }

      is_short : StopsShort before.config run request w.seen
      is_short = by w.asks_on
        where
          by : ((contents : Contents) → HoldsBase contents (wanted_of errand) w.base → plan_over errand contents second (answers_of w.seen) ≢ done) ⊎ IsListing errand
              → StopsShort before.config run request w.seen
          by (inl on) = short_asking (asks_too (plan_over errand (contents_of run.store) second) (plan_at before.config run request) same (answers_of w.seen) (on (contents_of run.store) holds))
          by (inr lists) = short_listing lists

    pub stopped : ServesOne before request (Error enomem) (record before { store = after })
    stopped run came =
        let lawful : IsLawful before.config run (call_of w.seen short) = record { observed = observed run came; ends = is_short run came } in
        record {
          left = record { mount = run.mount; store = after_operations run.store w.seen };
          performs = record { seen = w.seen; ending = short; lawful = lawful; answered = refl; left = refl };
          came = came_to before.config run (call_of w.seen short) (is_mount run came) lawful came.store.start before came _ _ refl came.mount (walk run came).1;
        }

  -- it wants bytes of a source, and memory for them was refused
  pub unread_for_memory : (wanted : Wanted) → wants before.config before.mount request ≡ Some wanted → ServesOne before request (Error enomem) before
  unread_for_memory wanted wanting run came =
      let reads = may_read_wanted before.config (at_run run) run.mount request wanted (subst (λ (m : MountModel). wants before.config m request ≡ Some wanted) came.mount wanting) in
      let lawful : IsLawful before.config run (call_of [] short) = record {
        observed = tt;
        ends = record { asks = λ e. reads_on reads.0 reads.1 (sym reads.2 ∙ e); harmless = tt };
      } in
      record {
        left = run;
        performs = record { seen = []; ending = short; lawful = lawful; answered = refl; left = refl };
        came = came;
      }
    where
      reads_on : (source : Source) (next : Step) → may_read source next ≡ done → ⊥
      reads_on source next e = cc

  -- it wants bytes of a source that is live no more
  pub unread_for_good : (wanted : Wanted) → wants before.config before.mount request ≡ Some wanted → IsGone before.store.bucket wanted → ServesOne before request (Error estale) before
  unread_for_good wanted wanting is_gone run came =
      let lawful : IsLawful before.config run (call_of [] stale) = record {
        observed = tt;
        ends = record {
          wanted = wanted;
          wants_it = subst (λ (m : MountModel). wants before.config m request ≡ Some wanted) came.mount wanting;
          gone = subst (λ (b : BucketState). IsGone b wanted) came.store.bucket is_gone;
          silent = refl;
        };
      } in
      record {
        left = run;
        performs = record { seen = []; ending = stale; lawful = lawful; answered = refl; left = refl };
        came = came;
      }

  -- stopped, on the way or at what it wants of a source
  pub stopped_so : (errand : Errand) (second : ℕ) (after : Counted) → AsksAlong (λ contents. plan_over errand contents second) → wanted_of errand ≡ wants before.config before.mount request
      → carrying.StopsShort errand second before.store after → ServesOne before request (Error enomem) (record before { store = after })
  stopped_so errand second after asks wanted_is (inl w) = stopped errand second after asks wanted_is w
  stopped_so errand second after asks wanted_is (inr u) =
      subst (λ (s : Counted). ServesOne before request (Error enomem) (record before { store = s })) (sym u.kept) (unread_for_memory u.wanted (sym wanted_is ∙ u.wants_it))

  -- what it wants is live no more: what the rules say of a read that found that is what its end says
  module _ (errand : Errand) (told : ToldList) (base : Base) (after : Counted) (wanted_is : wanted_of errand ≡ wants before.config before.mount request)
      (u : IsUnread errand before.store told base after) where
    abbrev unread_seen : List Observed
    unread_seen = record { op = read_of u.wanted; moment = last_moment told.items; answer = NotFound } ∷ []

    unread_tells : TellSame unread_seen told.items
    unread_tells = record { answers = sym u.answers; moment = refl }

    unread_served : (at : AtTake) (answer : Reply) (left : MountModel) → answer ≡ reply_to at before.mount request unread_seen → left ≡ mount_after at before.mount request unread_seen
        → ServesOne before request answer (record before { mount = left; store = after })
    unread_served at answer left answered leaves =
        let ended = unread_is_refused before.config at before.mount request u.wanted (record { op = read_of u.wanted; moment = last_moment told.items; answer = NotFound }) estale (sym wanted_is ∙ u.wants_it) refl in
        subst (λ (a : Reply). ServesOne before request a (record before { mount = left; store = after })) (sym (answered ∙ ended.answered))
        (subst (λ (m : MountModel). ServesOne before request (Error estale) (record before { mount = m; store = after })) (sym (leaves ∙ ended.left))
        (subst (λ (s : Counted). ServesOne before request (Error estale) (record before { store = s })) (sym u.kept) (unread_for_good u.wanted (sym wanted_is ∙ u.wants_it) u.gone)))

  -- ---- carried out to its end
  module _ (errand : Errand) (second : ℕ) (told : ToldList) (base : Base) (after : Counted) (wanted_is : wanted_of errand ≡ wants before.config before.mount request)
      (out : CarriedOut errand second before.store told base after) where
    -- what was read is what is wanted
    pub serves_so : (run : RunState) → CameTo run before → Serves before.config before.mount request (answers_of told.items) base
    serves_so run came = by out
      where
        by : CarriedOut errand second before.store told base after → Serves before.config before.mount request (answers_of told.items) base
        by (inl w) all = covers_read before.config before request is run came (wants before.config before.mount request) refl base
            (subst (λ (found : Option Wanted). HasRead before.store.bucket found base) wanted_is w.read)
        by (inr u) all = absurd (let never : gone ≡ given = sym (ap reads u.answers) ∙ all in cc)

    pub holds_so : (run : RunState) → CameTo run before → HoldsWanted (contents_of run.store) (wants before.config before.mount request) base.first base.bytes
    holds_so run came = by out
      where
        none : (found : Option Wanted) → base.bytes ≡ [] → HoldsWanted (contents_of run.store) found base.first base.bytes
        none None empty = tt
        none (Some wanted) empty = subst (λ (bytes : List ℕ). HoldsWanted (contents_of run.store) (Some wanted) base.first bytes) (sym empty) refl

        by : CarriedOut errand second before.store told base after → HoldsWanted (contents_of run.store) (wants before.config before.mount request) base.first base.bytes
        by (inl w) = holds_all before.config before request is run came (wants before.config before.mount request) refl base
            (subst (λ (found : Option Wanted). HasRead before.store.bucket found base) wanted_is w.read)
        by (inr u) = none (wants before.config before.mount request) u.empty

    -- its end is the request's
    pub carried_so : (run : RunState) → CameTo run before → (answer : Reply) (left : MountModel) → AsksAlong (λ contents. plan_over errand contents second)
        → ((run : RunState) → CameTo run before → answer ≡ reply_to (at_run run) before.mount request told.items)
        → ((run : RunState) → CameTo run before → left ≡ mount_after (at_run run) before.mount request told.items)
        → ServesOne before request answer (record before { mount = left; store = after })
    carried_so run came answer left asks answered leaves = by out
      where
        -- whatever it observed that told it so
        told_so : (at : AtTake) (seen : List Observed) → TellSame seen told.items → EndSame at before.mount request seen told.items
        told_so at seen tells = answers_tell at before.mount request seen told.items tells

        by : CarriedOut errand second before.store told base after → ServesOne before request answer (record before { mount = left; store = after })
        by (inl w) =
            served (λ contents. plan_over errand contents second) w.seen after answer left asks
            (λ some came_to_it.
            let holds = holds_read before.config before request is some came_to_it (wanted_of errand) (sym wanted_is) base w.read in
            (w.walked (contents_of some.store) holds, w.completes (contents_of some.store) holds))
            (λ some came_to_it. answered some came_to_it ∙ sym (told_so (at_run some) w.seen w.tells).reply)
            (λ some came_to_it. leaves some came_to_it ∙ sym (told_so (at_run some) w.seen w.tells).after)
        by (inr u) =
            let same = told_so (at_run run) (unread_seen errand told base after wanted_is u) (unread_tells errand told base after wanted_is u) in
            unread_served errand told base after wanted_is u (at_run run) answer left (answered run came ∙ sym same.reply) (leaves run came ∙ sym same.after)

-- ---- refusals
-- a request that gets no reply is never refused
silent_refusal : (request : Request) (view : View) → is_silent request ≡ true → (rules_of request).refusal view ≡ None
silent_refusal (Forget node count) view is = refl
silent_refusal (BatchForget pairs) view is = refl
silent_refusal Interrupt view is = refl
silent_refusal (Unknown opcode) view is = ap (λ (silent : Bool). if silent then None else if is_among served_opcodes opcode then Some einval else Some enosys) is
silent_refusal _ view is = absurd (false≢true is)

silent_free : (mount : MountModel) (request : Request) → is_silent request ≡ true → early mount request ≡ None
silent_free mount request is = by mount.negotiated (is_silent request) is
  where
    by : (agreed silent : Bool) → silent ≡ true
        → (if not agreed && not silent && not (is_init request) then Some eproto else (rules_of request).refusal (view_in mount request)) ≡ None
    by agreed false e = absurd (false≢true e)
    by true true e = silent_refusal request (view_in mount request) is
    by false true e = silent_refusal request (view_in mount request) is

-- what is refused doesn't wait for a version, and doesn't go on
pub refused_speaks : (mount : MountModel) (request : Request) (errno : ℕ) → early mount request ≡ Some errno → is_idle mount request ≡ false
refused_speaks mount request errno refused = by (is_silent request) refl
  where
    by : (silent : Bool) → is_silent request ≡ silent → is_idle mount request ≡ false
    by true e = absurd (let none : None ≡ Some errno = sym (silent_free mount request e) ∙ refused in cc)
    by false e = ap (λ (s : Bool). s && not mount.negotiated) e

pub refused_stops : (mount : MountModel) (request : Request) (errno : ℕ) → early mount request ≡ Some errno → goes_on mount request ≡ false
refused_stops mount request errno refused =
    ap (λ (idle : Bool). not idle && not (is_some (early mount request))) (refused_speaks mount request errno refused)
    ∙ ap (λ (error : Option ℕ). not (is_some error)) refused

-- a request that is refused asks nothing and leaves all as it was
refused : (before : SerialState) (request : Request) (errno : ℕ) → IsMount before.mount → early before.mount request ≡ Some errno → ServesOne before request (Error errno) before
refused before request errno is_mount is =
    served before request is_mount (λ contents answers. done) [] before.store (Error errno) before.mount
    (λ run came answers. ap without_reads (sym (ap (λ (p : Plan). p answers) (asks (at_state before.config run)))))
    (λ run came. (Walks-none (λ answers. done) before.store, tt)) (λ run came. sym (answers (at_state before.config run))) (λ run came. sym (leaves (at_state before.config run)))
  where
    stops : goes_on before.mount request ≡ false
    stops = refused_stops before.mount request errno is

    asks : (at : AtTake) → plan at before.mount request ≡ (λ answers. done)
    asks at = ap (λ (on : Bool). if on then (rules_of request).plan (taken_at at before.mount request) else (λ (answers : List Answer). done)) stops

    answers : (at : AtTake) → reply_to at before.mount request [] ≡ Error errno
    answers at =
        ap (λ (idle : Bool). if idle then Silent else option_map_or Error (early before.mount request) ((rules_of request).reply (taken_at at before.mount request) before.mount []))
        (refused_speaks before.mount request errno is)
        ∙ ap (λ (error : Option ℕ). option_map_or Error error ((rules_of request).reply (taken_at at before.mount request) before.mount [])) is

    leaves : (at : AtTake) → mount_after at before.mount request [] ≡ before.mount
    leaves at = ap (λ (on : Bool). if on then (rules_of request).after (taken_at at before.mount request) before.mount [] else before.mount) stops

-- one that is refused for want of blocks is performed, and observes nothing
refused_full : (before : SerialState) (request : Request) → IsMount before.mount → early before.mount request ≡ None → is_full before.config before.mount request ≡ true
    → ServesOne before request (Error enospc) before
refused_full before request is_mount free full =
    served before request is_mount asked [] before.store (Error enospc) before.mount (λ run came answers. refl)
    (λ run came. (Walks-none (asked (contents_of run.store)) before.store, ends_with (plan (at_state before.config run) before.mount request []) (refused_at run).ends))
    (λ run came. sym (refused_at run).answered) (λ run came. sym (refused_at run).left)
  where
    asked : Contents → Plan
    asked contents answers = without_reads (plan (record { config = before.config; second = second_of before.config; contents = contents }) before.mount request answers)

    refused_at : (run : RunState) → IsRefusedFull (at_state before.config run) before.mount request
    refused_at run = full_is_refused (at_state before.config run) before.mount request free full

-- what refuses a request at its take: its own rules, or want of blocks
abbrev taken_by : Option ℕ → Bool → Option ℕ
taken_by error full = option_map_or Some error (if full then Some enospc else None)

pub refused_taken : (before : SerialState) (request : Request) (errno : ℕ) → IsMount before.mount → refused_at_take before.config before.mount request ≡ Some errno
    → ServesOne before request (Error errno) before
refused_taken before request errno is_mount is = by (early before.mount request) refl (is_full before.config before.mount request) refl is
  where
    by : (error : Option ℕ) → early before.mount request ≡ error → (full : Bool) → is_full before.config before.mount request ≡ full → taken_by error full ≡ Some errno
        → ServesOne before request (Error errno) before
    by (Some e) early_is full full_is told = refused before request errno is_mount (early_is ∙ told)
    by None early_is true full_is told =
        subst (λ n. ServesOne before request (Error n) before) (let same : enospc ≡ errno = cc in same) (refused_full before request is_mount early_is full_is)
    by None early_is false full_is told = absurd (let never : None ≡ Some errno = told in cc)

-- where nothing refuses it, neither does
pub free_early : (config : Config) (mount : MountModel) (request : Request) → refused_at_take config mount request ≡ None → early mount request ≡ None
free_early config mount request free = by (early mount request) free
  where
    by : (error : Option ℕ) → taken_by error (is_full config mount request) ≡ None → error ≡ None
    by None e = refl
    by (Some errno) e = absurd (let never : Some errno ≡ None = e in cc)

pub free_full : (config : Config) (mount : MountModel) (request : Request) → refused_at_take config mount request ≡ None → is_full config mount request ≡ false
free_full config mount request free = by (early mount request) (is_full config mount request) free
  where
    by : (error : Option ℕ) (full : Bool) → taken_by error full ≡ None → full ≡ false
    by None true e = absurd (let never : Some enospc ≡ None = e in cc)
    by None false e = refl
    by (Some errno) full e = absurd (let never : Some errno ≡ None = e in cc)
