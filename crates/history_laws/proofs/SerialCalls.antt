-- A call that an account has alone: the run of the one-thread mount goes on with one that agrees.
use Rattle.std.proofs.Common.{◌≡◌, ◌≤◌, ◌<◌, ◌+◌, ℕ, zero, suc, true, false, All, List, [], ◌∷◌, ◌++◌, append_assoc, length, length-drop, length-take, take, drop, map, Some, None, refl, sym, ap, subst, ◌∙◌, ◌⊎◌, inl, inr, arith}
use Rattle.std.proofs.lemmas.List.{map-append, reverse-append}
use Rattle.std.specs.List.{AllByRecursion, filter_map}
use Rattle.std.specs.Prelude.{Contains, slice_get, unwrap_or}
use Rattle.bucket_api.specs.BucketState.{BucketState, IsBucket}
use Rattle.bucket_api.specs.BucketStep.{answer_to}
use Rattle.bucket_api.specs.Log.{event_at, state_at}
use Rattle.bucket_api.specs.LogEvent.{LogEvent}
use Rattle.bucket_api.specs.Operation.{IsAllowed}
use Rattle.bucket_api.specs.declared.events.Mode.TheVariants as modes
use Rattle.fuse_replies.specs.declared.reply.Reply.{Reply}
use Rattle.fuse_requests.specs.declared.request.Request.{Request}
use Rattle.fuse_requests.specs.declared.request.Request.TheVariants.{Flush, Fsync}
use Rattle.history_laws.proofs.Alike.{Alike}
use Rattle.history_laws.proofs.AloneWalks.{MayStillRecall, ShownFrom, never, of_record, shown_from, still, store_by}
use Rattle.history_laws.proofs.Along.{Stands, source_numbered, stands_along}
use Rattle.history_laws.proofs.Bare.{IsWithin, UpTo}
use Rattle.history_laws.proofs.BareEnds.{IsLate}
use Rattle.history_laws.proofs.ShownAgain.{AreNamed}
use Rattle.history_laws.proofs.CallPairs.{IsPair, after_pair, all_of_lane, call_taken, contains_cons, contains_where, get_some, later_own, pair_of}
use Rattle.history_laws.proofs.KnownMoments.{IsToldKnown, known_stays, not_below, walk_news}
use Rattle.history_laws.proofs.LookPlans.{plan_asks_looks}
use Rattle.history_laws.proofs.OneCalls.{OneCall, Stood, ended_mount, ended_reply, one_call}
use Rattle.history_laws.proofs.Records.{first_of}
use Rattle.history_laws.proofs.RecordsNow.{record_shows_now}
use Rattle.history_laws.proofs.SameStores.{SameStore}
use Rattle.history_laws.proofs.SourceReaders.{IsFlushing}
use Rattle.history_laws.proofs.StaleTurns.{StaleWants}
use Rattle.history_laws.proofs.ToldPasts.{AreToldPasts, told_along}
use Rattle.history_laws.proofs.Untouched.{LooksAt}
use Rattle.history_laws.proofs.WalkNews.{walk_late}
use Rattle.history_laws.specs.Agreements.{IsReadOrWrite, how_of, replies_in, request_of, told_as}
use Rattle.history_laws.specs.Apart.{OneByOne}
use Rattle.history_spec.proofs.OwnMoments.{own_between}
use Rattle.history_spec.proofs.Walking.{Walked, Walked-walks}
use Rattle.history_spec.proofs.Lanes.{open_of-first}
use Rattle.history_spec.specs.Account as account
use Rattle.history_spec.specs.Account.{Account, Item, Turn, own_moments_of}
use Rattle.history_spec.specs.Fits.{EndsBy, Follows, plan_of}
use Rattle.history_spec.specs.JournalState.{EndedCall, JournalState, OpenCall, after_turn, after_turns, at_front, ended_by, mount_by, past_of, replies_of, reply_by, with_taken}
use Rattle.history_spec.specs.Looks.{IsLook, MayRecall, keys_taken}
use Rattle.history_spec.specs.Observing.{moments_of, observed_at, own_moments, seen_by}
use Rattle.history_spec.specs.Pasts.{key_of, past_by}
use Rattle.mount_laws.proofs.Guarding.{on_open_file-none}
use Rattle.mount_laws.proofs.Keeping.{same_Some}
use Rattle.mount_laws.proofs.RequestLaws.{unrefused}
use Rattle.mount_model.specs.Observing.{Observed}
use Rattle.mount_model.specs.declared.config.Config.{Config}
use Rattle.mount_model.specs.declared.gate.CallId.{CallId}
use Rattle.mount_model.specs.declared.journal.Fill.{Fill}
use Rattle.mount_model.specs.declared.journal.How.{How}
use Rattle.mount_model.specs.declared.journal.How.TheVariants as how
use Rattle.mount_rules.specs.Dispatch.{goes_on, plan, taken_at, view_in}
use Rattle.mount_rules.specs.Guards.{is_directory}
use Rattle.mount_rules.specs.Mount.{MountModel, Node, second_at}
use Rattle.mount_rules.specs.OneThread.{Call, IsRun, RunState, at_state, bucket_of, reply_in, stale, state_after_call, state_after_calls}
use Rattle.mount_rules.specs.Plans.{answers_of, last_moment}
use Rattle.mount_rules.specs.View.{Sight}
use Rattle.record_spec.specs.RecordList.{Key}

-- ---- by how a call ended
reply_so : (start : BucketState) (log : List LogEvent) (mount : MountModel) (o : OpenCall) (h : How) (items : List Item)
    → reply_by start log mount o h items ≡ ended_reply o.taken.at mount o.taken.request h (seen_by start log items)
reply_so start log mount o how.Ok items = refl
reply_so start log mount o how.NoMemory items = refl

mount_so : (start : BucketState) (log : List LogEvent) (mount : MountModel) (o : OpenCall) (h : How) (items : List Item)
    → mount_by start log mount o h items ≡ ended_mount o.taken.at mount o.taken.request h (seen_by start log items)
mount_so start log mount o how.Ok items = refl
mount_so start log mount o how.NoMemory items = refl

-- what the calls that are done were told, in order
abbrev pub told_of : JournalState → List Reply
told_of state = map (λ (r : CallId × Reply). r.1) (replies_of state)

told_more : (state : JournalState) (e : EndedCall) → told_of (record state { ended = e ∷ state.ended }) ≡ told_of state ++ e.reply ∷ []
told_more state e =
    ap (map (λ (r : CallId × Reply). r.1)) (reverse-append ((e.call, e.reply) ∷ []) (map (λ (d : EndedCall). (d.call, d.reply)) state.ended))
    ∙ map-append (λ (r : CallId × Reply). r.1) (replies_of state) ((e.call, e.reply) ∷ [])

module _ (config : Config) (start : BucketState) (log : List LogEvent) where
  -- ---- where the account and the run stand
  abbrev pub run_at : List LogEvent → MountModel → RunState
  run_at past other = record { mount = other; store = store_by start log past }

  -- what the calls that are done tell of moments
  abbrev pub KnownIn : JournalState → List ℕ → ℕ → ℕ → Type 0
  KnownIn state = IsToldKnown start log state.front (past_of state.ended)

  -- No call is under way, and the mount stands as that of the run, over the same bucket.
  pub record StandsAlone (state : JournalState) (past : List LogEvent) (other : MountModel) : Type 0 where
    pub none : state.opened ≡ []
    pub clock : state.clock ≡ 0
    pub alike : Alike (KnownIn state) (UpTo (length past)) state.mount other
    pub same : SameStore start log state.front past
    pub own_before : (e : EndedCall) (moment : ℕ) → Contains state.ended e → Contains e.own moment → moment ≤ state.front
    pub stands : Stands start log state
    pub told : AreToldPasts start log state.front state.ended

  -- each event is the own one of a call that is done in the end
  abbrev pub OwnAll : JournalState → Account → Type 0
  OwnAll state turns = (moment : ℕ) (event : LogEvent) → event_at log moment ≡ Some event
      → (e : EndedCall) × Contains (after_turns config start log state turns).ended e × Contains e.own moment

  -- The run goes on with calls that agree with these turns.
  pub record AgreesFrom (state : JournalState) (turns : Account) (past : List LogEvent) (other : MountModel) : Type 0 where
    pub calls : List Call
    pub run : IsRun config (run_at past other) calls
    pub requests : map (λ (c : Call). c.request) calls ≡ filter_map request_of turns
    pub endings : map (λ (c : Call). told_as c.ending) calls ≡ filter_map how_of turns
    pub stale_are : AllByRecursion (λ (c : Call). c.ending ≡ stale → IsReadOrWrite c.request) calls
    pub replies : told_of (after_turns config start log state turns) ≡ told_of state ++ replies_in config (run_at past other) calls
    pub bucket : bucket_of (state_after_calls config (run_at past other) calls).store ≡ state_at start log (length log)

  -- what a call has from its take is what one of the run has
  at_same : (state : JournalState) (past : List LogEvent) (other : MountModel) (front : ℕ) → state.clock ≡ 0 → SameStore start log front past
      → at_front config start log state.clock front ≡ at_state config (run_at past other)
  at_same state past other front clock same =
      ap (λ c. record (at_front config start log state.clock front) { second = second_at config c }) clock
      ∙ ap (λ contents. record (at_state config (run_at past other)) { contents = contents }) (λ i name generation. unwrap_or (sym (same.contents name generation) i) [])

  -- a flush is of a generation that was given
  flush_numbered : IsBucket start → All (λ e. IsAllowed e.op) log → (state : JournalState) → Stands start log state → (request : Request) → IsFlushing request → goes_on state.mount request ≡ true
      → (file : Sight) → (view_in state.mount request).node ≡ Some file → 1 ≤ file.source
  flush_numbered bucket allowed state stands (Flush node fh) flushing goes file seen =
      let s = on_open_file-none node (view_in state.mount (Flush node fh)) (λ file. None) (unrefused state.mount (Flush node fh) goes) in
      source_numbered start log state stands bucket allowed node file seen (subst (λ (f : Sight). is_directory f.kind ≡ false) (same_Some (sym s.seen ∙ seen)) s.file)
  flush_numbered bucket allowed state stands (Fsync node fh) flushing goes file seen =
      let s = on_open_file-none node (view_in state.mount (Fsync node fh)) (λ file. None) (unrefused state.mount (Fsync node fh) goes) in
      source_numbered start log state stands bucket allowed node file seen (subst (λ (f : Sight). is_directory f.kind ≡ false) (same_Some (sym s.seen ∙ seen)) s.file)
  flush_numbered bucket allowed state stands _ flushing goes file seen = absurd flushing

  -- ---- one call
  module _ (bucket : IsBucket start) (allowed : All (λ e. IsAllowed e.op) log) (complete : All (λ (e : LogEvent). e.mode ≡ modes.Done) log)
      (state : JournalState) (past : List LogEvent) (other : MountModel) (so : StandsAlone state past other)
      (call : CallId) (front : ℕ) (request : Request) (ended : CallId) (behind : ℕ) (h : How) (items : List Item) (fill : Fill) (turns : Account)
      (follows : Follows config start log state (account.take call front request ∷ account.done ended behind h items fill ∷ turns)) (one : OneByOne turns) (same_call : ended ≡ call)
      (stale_wants : StaleWants config start log (after_turn config start log state (account.take call front request)) (account.done ended behind h items fill)) where
    pair : IsPair config start log state call front request ended behind h items fill turns
    pair = pair_of config start log state call front request ended behind h items fill turns so.none follows same_call

    abbrev o : OpenCall
    o = call_taken config start log state call front request

    abbrev after : JournalState
    after = after_pair config start log state call front request behind h items

    abbrev seen : List Observed
    seen = seen_by start log items

    module _ (own_all : OwnAll after turns) (within : behind ≤ length log) where
      -- the call made all that was made meanwhile
      its_own : (moment : ℕ) → state.front < moment → moment ≤ behind → Contains (own_moments_of items) moment
      its_own zero low high = absurd (omega (arith, low))
      its_own (suc k) low high = whose (own_all (suc k) event.0 event.1)
        where
          event : (x : LogEvent) × (slice_get log k ≡ Some x)
          event = get_some log k (omega (arith, high, within))

          of_these : (e : EndedCall) → Contains e.own (suc k) → (ended_by start log state.mount o h items ≡ e) ⊎ Contains state.ended e → Contains (own_moments_of items) (suc k)
          of_these e its (inl same) = subst (λ (x : EndedCall). Contains x.own (suc k)) (sym same) its
          of_these e its (inr before) = let early : suc k ≤ state.front = so.own_before e (suc k) before its in absurd (omega (arith, low, early))

          whose : (e : EndedCall) × Contains (after_turns config start log after turns).ended e × Contains e.own (suc k) → Contains (own_moments_of items) (suc k)
          whose found = by (later_own config start log after turns pair.none pair.rest one found.0 (suc k) found.1 found.2)
            where
              by : Contains after.ended found.0 ⊎ (behind < suc k) → Contains (own_moments_of items) (suc k)
              by (inl there) = of_these found.0 found.2 (contains_cons (ended_by start log state.mount o h items) state.ended found.0 there)
              by (inr late) = absurd (omega (arith, high, late))

      own_above : (moment : ℕ) → Contains (own_moments_of items) moment → (front < moment) × (moment ≤ behind)
      own_above moment there = contains_where (λ m. (front < m) × (m ≤ behind)) (own_moments log call.lane front behind) moment (own_between log call.lane front behind)
          (subst (λ moments. Contains moments moment) pair.may.walk.own there)

      -- so nothing was made before its take that no call made
      front_is : front ≡ state.front
      front_is =
          let onward : state.front ≤ front = pair.onward in
          let low : front ≤ state.front = not_below state.front front (λ below.
          let above : front < suc state.front = (own_above (suc state.front) (its_own (suc state.front) (omega arith)
          (let later : front ≤ behind = pair.later in omega (arith, below, later)))).0 in absurd (omega (arith, below, above))) in
          omega (arith, onward, low)

      -- and its lane made all since
      events : List LogEvent
      events = drop front (take behind log)

      count : front + length events ≡ behind
      unfolding events
      count = let later : front ≤ behind = pair.later in omega (arith, length-drop front (take behind log), length-take behind log, later, within)

      of_lane : AllByRecursion (λ (e : LogEvent). e.lane ≡ call.lane) events
      unfolding events
      of_lane = all_of_lane call.lane (front + 1) events (λ m low high.
          subst (λ moments. Contains moments m) pair.may.walk.own
          (its_own m (let is = front_is in omega (arith, low, is)) (let c = count in omega (arith, high, c))))

      -- ---- what records show
      all_follow : OwnAll state (account.take call front request ∷ account.done ended behind h items fill ∷ turns)
      all_follow = subst (λ s. OwnAll s turns) (sym pair.reaches) own_all

      shows : (moment : ℕ) (x : Observed) → observed_at start log moment ≡ Some x → LooksAt config.implicit_dirs x.op → IsLook x.op → MayRecall o x.op moment
          → x.answer ≡ answer_to x.op (state_at start log front)
      shows moment x is at look may =
          let its = of_record start log complete moment x is in
          record_shows_now config start log state (account.take call front request ∷ account.done ended behind h items fill ∷ turns) so.none follows (same_call, one)
          (let onward : state.front ≤ front = pair.onward in let later : front ≤ behind = pair.later in omega (arith, onward, later, within)) so.told all_follow
          o x.op its.position refl (subst (MayRecall o x.op) its.at may) x its.shown.event at look its.shown.there (sym its.shown.op) its.shown.answer
          ∙ ap (λ n. answer_to x.op (state_at start log n)) (sym front_is)

      may_recall : MayStillRecall start log complete o config.implicit_dirs front shows (plan_of (with_taken state o) o) front
      may_recall = by (keys_taken o.taken) refl
        where
          by : (keys : List Key) → keys_taken o.taken ≡ keys → MayStillRecall start log complete o config.implicit_dirs front shows (plan_of (with_taken state o) o) front
          by [] is = never (λ op moment may. let asked : Contains [] (key_of op) = subst (λ keys. Contains keys (key_of op)) is may.asked in
              let below : asked.0 < 0 = asked.1 in absurd (omega (arith, below)))
          by (key ∷ keys) is = still (plan_asks_looks o.taken.at state.mount request key (subst (λ keys. Contains keys key) (sym is) (first_of key keys))) refl

      walked : Walked start log o (plan_of (with_taken state o) o) items
      walked = Walked-walks start log o (plan_of (with_taken state o) o) items pair.may.walk.told pair.may.walk.walked

      shown : ShownFrom start log behind front (plan_of (with_taken state o) o) seen
      unfolding events
      shown = shown_from start log complete o config.implicit_dirs front shows call.lane behind items (plan_of (with_taken state o) o) front events of_lane count
          (pair.may.walk.own ∙ (let next : front + 1 ≡ suc front = omega arith in ap (λ n. moments_of call.lane n events) next)) may_recall walked

      -- ---- what is known of moments
      own_behind : (moment : ℕ) → Contains (own_moments_of items) moment → state.front < moment
      own_behind moment there =
          let above : front < moment = (own_above moment there).0 in
          let onward : state.front ≤ front = pair.onward in
          omega (arith, above, onward)

      known_later : IsWithin (KnownIn state) (KnownIn after)
      known_later = known_stays start log state.front behind (past_of state.ended) (past_by start log o.clock items)
          (let onward : state.front ≤ front = pair.onward in let later : front ≤ behind = pair.later in omega (arith, onward, later))

      late : IsLate (KnownIn state) (KnownIn after) (last_moment seen) (taken_at o.taken.at state.mount request) state.mount request (answers_of seen)
      late = walk_late (KnownIn state) (KnownIn after) o.taken.at state.mount so.alike.one_is.table.known seen request
          (walk_news start log o state.front behind items own_behind items (plan_of (with_taken state o) o) (λ item there. there) pair.may.walk.within walked)

      named : AreNamed state.mount.table
      named = λ name number node current. let its = so.stands.is.current name number current.0 in
          ap (λ (n : Node). n.name) (same_Some (sym current.1 ∙ its.there)) ∙ its.named

      -- ---- the call of the run
      at_now : at_front config start log state.clock front ≡ at_state config (run_at past other)
      at_now = at_same state past other front so.clock (subst (λ n. SameStore start log n past) (sym front_is) so.same)

      stood : Stood config start log front behind past (KnownIn state) (KnownIn after) state.mount other request h seen
      stood = record {
        alike = so.alike;
        within = known_later;
        named = named;
        late = subst (λ a. IsLate (KnownIn state) (KnownIn after) (last_moment seen) (taken_at a state.mount request) state.mount request (answers_of seen)) at_now late;
        same = subst (λ n. SameStore start log n past) (sym front_is) so.same;
        shown = subst (λ a. ShownFrom start log behind front (plan a state.mount request) seen) at_now shown;
        ends = subst (λ a. EndsBy h (plan a state.mount request) seen) at_now pair.may.ends;
        numbered = flush_numbered bucket allowed state so.stands request;
        wanted = λ content ok answered. stale_wants o (open_of-first o state.opened ended.lane (ap (λ (c : CallId). c.lane) (sym same_call))) (sym same_call) content
            (reply_so start log state.mount o h items ∙ ap (λ x. ended_reply o.taken.at state.mount request x seen) ok ∙ ap (λ a. ended_reply a state.mount request how.Ok seen) at_now ∙ answered);
      }

      pub of_run : OneCall config start log front behind past (KnownIn state) (KnownIn after) state.mount other request h seen
      of_run = one_call config start log front behind past (KnownIn state) (KnownIn after) state.mount other request h seen stood

      abbrev pub run_after : RunState
      run_after = state_after_call config (run_at past other) of_run.call

      next_run : run_after ≡ run_at of_run.log_then run_after.mount
      next_run = ap (λ s. record { mount = run_after.mount; store = s }) of_run.store

      reply_told : reply_by start log state.mount o h items ≡ reply_in config (run_at past other) of_run.call
      reply_told = reply_so start log state.mount o h items ∙ ap (λ a. ended_reply a state.mount request h seen) at_now ∙ sym of_run.reply

      pub stands_next : StandsAlone after of_run.log_then run_after.mount
      stands_next = record {
        none = pair.none;
        clock = so.clock;
        alike = subst (λ m. Alike (KnownIn after) (UpTo (length of_run.log_then)) m run_after.mount)
            (ap (λ a. ended_mount a state.mount request h seen) (sym at_now) ∙ sym (mount_so start log state.mount o h items)) of_run.alike;
        same = of_run.same;
        own_before = λ e moment there its. by e moment its (contains_cons (ended_by start log state.mount o h items) state.ended e there);
        stands = subst (Stands start log) pair.reaches
            (stands_along config start log bucket allowed state (account.take call front request ∷ account.done ended behind h items fill ∷ []) (follows.0, (follows.1.0, tt)) so.stands);
        told = subst (λ (s : JournalState). AreToldPasts start log s.front s.ended) pair.reaches
            (told_along start log config state (account.take call front request ∷ account.done ended behind h items fill ∷ []) (follows.0, (follows.1.0, tt)) so.told);
      }
        where
          by : (e : EndedCall) (moment : ℕ) → Contains e.own moment → (ended_by start log state.mount o h items ≡ e) ⊎ Contains state.ended e → moment ≤ behind
          by e moment its (inl same) = (own_above moment (subst (λ (x : EndedCall). Contains x.own moment) (sym same) its)).1
          by e moment its (inr before) =
              let early : moment ≤ state.front = so.own_before e moment before its in
              let onward : state.front ≤ front = pair.onward in
              let later : front ≤ behind = pair.later in
              omega (arith, early, onward, later)

      pub agrees_pair : AgreesFrom after turns of_run.log_then run_after.mount → AgreesFrom state (account.take call front request ∷ account.done ended behind h items fill ∷ turns) past other
      agrees_pair rest = record {
        calls = of_run.call ∷ rest.calls;
        run = (of_run.lawful, subst (λ r. IsRun config r rest.calls) (sym next_run) rest.run);
        requests = ap (λ r. r ∷ map (λ (c : Call). c.request) rest.calls) of_run.request_is ∙ ap (λ rs. request ∷ rs) rest.requests;
        endings = ap (λ e. e ∷ map (λ (c : Call). told_as c.ending) rest.calls) of_run.ending ∙ ap (λ es. h ∷ es) rest.endings;
        stale_are = (of_run.stale_is, rest.stale_are);
        replies =
            ap (λ s. told_of (after_turns config start log s turns)) pair.reaches ∙ rest.replies
            ∙ ap (λ told. told ++ replies_in config (run_at of_run.log_then run_after.mount) rest.calls) (told_more state (ended_by start log state.mount o h items))
            ∙ append_assoc (told_of state) (reply_by start log state.mount o h items ∷ []) (replies_in config (run_at of_run.log_then run_after.mount) rest.calls)
            ∙ ap (λ r. told_of state ++ r ∷ replies_in config (run_at of_run.log_then run_after.mount) rest.calls) reply_told
            ∙ ap (λ r. told_of state ++ reply_in config (run_at past other) of_run.call ∷ replies_in config r rest.calls) (sym next_run);
        bucket = ap (λ r. bucket_of (state_after_calls config r rest.calls).store) next_run ∙ rest.bucket;
      }
