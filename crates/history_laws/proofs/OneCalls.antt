-- One call of an account that is alone is one call of the one-thread mount.
use Rattle.std.proofs.Common.{◌≡◌, ◌≢◌, ◌≤◌, ℕ, true, false, List, [], ◌∷◌, ◌++◌, length, Option, Some, None, refl, sym, ap, subst, ◌∙◌, ◌⊎◌, inl, inr}
use Rattle.std.proofs.lemmas.Bool.{false≢true}
use Rattle.std.specs.List.{AllByRecursion}
use Rattle.std.specs.Prelude.{IsSome, if◌then◌else◌}
use Rattle.bucket_api.specs.BucketState.{BucketState, generation_at, metageneration_at, object_of}
use Rattle.bucket_api.specs.BucketStep.{answer_to, is_met, new_object, refused, state_after, with_new}
use Rattle.bucket_api.specs.Log.{state_at}
use Rattle.bucket_api.specs.LogEvent.{LogEvent}
use Rattle.bucket_api.specs.Operation.{Operation, insert}
use Rattle.bucket_api.specs.declared.answers.Answer.{Answer}
use Rattle.bucket_api.specs.declared.answers.Answer.TheVariants as answers
use Rattle.bucket_api.specs.declared.objects.Object.{Object}
use Rattle.fuse_replies.specs.Errno.{enomem, estale}
use Rattle.fuse_replies.specs.declared.reply.Reply.{Reply}
use Rattle.fuse_replies.specs.declared.reply.Reply.TheVariants.{Error}
use Rattle.fuse_requests.specs.declared.request.Request.{Request}
use Rattle.history_laws.proofs.Alike.{Alike, ToldAlike, after_alike, alike_later, failed_after, failed_reply, plan_alike, reply_alike, told_equal, told_then, wants_alike}
use Rattle.history_laws.proofs.AloneWalks.{ShownFrom, Unread, store_by, unread_all, unread_first, unread_none}
use Rattle.history_laws.proofs.Bare.{IsWithin, UpTo, up_to_later}
use Rattle.history_laws.proofs.BareEnds.{IsLate, late_between}
use Rattle.history_laws.proofs.ShownAgain.{AreNamed}
use Rattle.history_laws.proofs.ReadingPlans.{CameOut, behind_reads, came_out, found_gone, given, inserted, reading}
use Rattle.history_laws.proofs.SameStores.{SameStore, made_by, store_idle}
use Rattle.history_laws.proofs.SourceReaders.{Flushes, IsFlushing, ReadsFirst, ReadsNothing, content_gone, flush_refused, kind_of, plan_behind, told_behind, wanted_of}
use Rattle.history_laws.specs.Agreements.{IsReadOrWrite, told_as}
use Rattle.history_spec.specs.Fits.{EndsBy}
use Rattle.mount_laws.proofs.Guarded.{met_gone}
use Rattle.mount_model.specs.Observing.{Observed}
use Rattle.mount_model.specs.declared.config.Config.{Config}
use Rattle.mount_model.specs.declared.journal.How.{How}
use Rattle.mount_model.specs.declared.journal.How.TheVariants as how
use Rattle.mount_rules.specs.Dispatch.{goes_on, mount_after, plan, reply_to, taken_at, view_in, wants}
use Rattle.mount_rules.specs.Mount.{MountModel}
use Rattle.mount_rules.specs.OneThread.{Call, Ending, IsLawful, Observes, RunState, at_state, performed, plan_at, reply_in, short, stale, state_after_call}
use Rattle.mount_rules.specs.Plans.{IsHarmless, MayEnd, Plan, Step, Wanted, answers_of, ask, asked_by, done, last_moment, plan_after}
use Rattle.mount_rules.specs.Reading.{source_of}
use Rattle.mount_rules.specs.Rules.{AtTake}
use Rattle.mount_rules.specs.View.{Sight}

-- what a call of the account was answered that ended so, and what it left
abbrev pub ended_reply : AtTake → MountModel → Request → How → List Observed → Reply
ended_reply at mount request how.Ok seen = reply_to at mount request seen
ended_reply at mount request how.NoMemory seen = Error enomem

abbrev pub ended_mount : AtTake → MountModel → Request → How → List Observed → MountModel
ended_mount at mount request how.Ok seen = mount_after at mount request seen
ended_mount at mount request how.NoMemory seen = mount

-- an insert where another generation is live, or none, is refused and leaves the bucket as it was
record IsRefused (b : BucketState) (op : Operation) : Type 0 where
  pub generation : ℕ
  pub metageneration : ℕ
  pub answer : answer_to op b ≡ answers.Precondition generation metageneration
  pub left : state_after op b ≡ b

insert_refused : (b : BucketState) (file : Sight) (last : Step) (op : Operation) (request : Request) (flushes : Flushes request file last) → last ≡ ask op → 1 ≤ file.source
    → object_of b file.name file.source ≡ None → IsRefused b op
insert_refused b file last op request flushes is numbered away =
    subst (IsRefused b) (same_ask (sym flushes.asks ∙ is)) (record {
      generation = generation_at b file.name;
      metageneration = metageneration_at b file.name;
      answer = ap (λ met. if met then answers.Meta object.meta else refused b file.name) unmet;
      left = ap (λ met. if met then with_new b file.name object else b) unmet;
    })
  where
    object : Object
    object = new_object b file.name flushes.content flushes.pairs flushes.second

    unmet : is_met (Some file.source) (generation_at b file.name) ≡ false
    unmet = met_gone b file.name file.source numbered away

    same_ask : {x y : Operation} → ask x ≡ ask y → x ≡ y
    same_ask e = cc

module _ (config : Config) (start : BucketState) (log : List LogEvent) (front upto : ℕ) (past : List LogEvent) (Known Then : List ℕ → ℕ → ℕ → Type 0) (mount other : MountModel)
    (request : Request) where
  -- the one-thread mount, before the call
  abbrev pub run : RunState
  run = record { mount = other; store = store_by start log past }

  abbrev pub at : AtTake
  at = at_state config run

  -- The mount of an account stands as that of a run, over the same bucket; and a call of it has observed this, and ended so.
  pub record Stood (h : How) (seen : List Observed) : Type 0 where
    pub alike : Alike Known (UpTo (length past)) mount other
    pub within : IsWithin Known Then
    pub named : AreNamed mount.table
    pub late : IsLate Known Then (last_moment seen) (taken_at at mount request) mount request (answers_of seen)
    pub same : SameStore start log front past
    pub shown : ShownFrom start log upto front (plan at mount request) seen
    pub ends : EndsBy h (plan at mount request) seen
    -- a flush is of a generation that was given
    pub numbered : IsFlushing request → goes_on mount request ≡ true → (file : Sight) → (view_in mount request).node ≡ Some file → 1 ≤ file.source
    -- a READ or WRITE that is answered ESTALE wants a byte
    pub wanted : IsReadOrWrite request → h ≡ how.Ok → reply_to at mount request seen ≡ Error estale → IsSome (wants config mount request)

  -- A call of the run has the same request, and ends the same.
  pub record OneCall (h : How) (seen : List Observed) : Type 0 where
    pub call : Call
    pub request_is : call.request ≡ request
    pub lawful : IsLawful config run call
    pub ending : told_as call.ending ≡ h
    pub stale_is : call.ending ≡ stale → IsReadOrWrite call.request
    pub reply : reply_in config run call ≡ ended_reply at mount request h seen
    pub log_then : List LogEvent
    pub store : (state_after_call config run call).store ≡ store_by start log log_then
    pub alike : Alike Then (UpTo (length log_then)) (ended_mount at mount request h seen) (state_after_call config run call).mount
    pub same : SameStore start log upto log_then

  module _ (h : How) (seen : List Observed) (stood : Stood h seen) where
    planned : plan at mount request ≡ plan_at config run request
    planned = plan_alike Known (UpTo (length past)) mount other stood.alike request at

    abbrev Walked : Type 0
    Walked = Unread start log (plan at mount request) upto past

    late_told : (walked : Walked) → IsLate (UpTo (length past)) (UpTo (length walked.log_then)) (last_moment walked.told) (taken_at at other request) other request (answers_of walked.told)
    late_told walked = late_between (length past) (length walked.log_then) (last_moment walked.told) (taken_at at other request) other stood.alike.other_is.table.known
        request (answers_of walked.told) walked.late

    call_of : Walked → Ending → Call
    call_of walked ending = record { unique = 0; request = request; seen = walked.told; ending = ending }

    -- performed to its end, with this behind reads that it passes over
    performs : (walked : Walked) → ToldAlike request (answers_of seen) (answers_of walked.told) → MayEnd (plan at mount request (answers_of walked.told)) → OneCall how.Ok seen
    unfolding call_of
    performs walked tells may = record {
      call = call_of walked performed;
      request_is = refl;
      lawful = record {
        observed = subst (λ p. Observes p (store_by start log past) walked.told) planned walked.observes;
        ends = subst (λ (p : Plan). MayEnd (p (answers_of walked.told))) planned may;
      };
      ending = refl;
      stale_is = λ never. absurd (cc);
      reply = sym (reply_alike Known (UpTo (length past)) mount other stood.alike request at seen walked.told tells Then (UpTo (length walked.log_then)) stood.within
          (up_to_later (length past) (length walked.log_then) walked.grows) stood.named stood.late (late_told walked));
      log_then = walked.log_then;
      store = walked.leaves;
      alike = after_alike Known (UpTo (length past)) mount other stood.alike request at seen walked.told tells Then (UpTo (length walked.log_then)) stood.within
          (up_to_later (length past) (length walked.log_then) walked.grows) stood.named stood.late (late_told walked);
      same = walked.same;
    }

    -- short, with this
    shortens : plan at mount request [] ≢ done → (walked : Walked) → AllByRecursion (λ (o : Observed). IsHarmless o.op) walked.told → OneCall how.NoMemory seen
    unfolding call_of
    shortens asks walked harmless = record {
      call = call_of walked short;
      request_is = refl;
      lawful = record {
        observed = subst (λ p. Observes p (store_by start log past) walked.told) planned walked.observes;
        ends = record { asks = λ is. asks (ap (λ (p : Plan). p []) planned ∙ is); harmless = harmless };
      };
      ending = refl;
      stale_is = λ never. absurd (cc);
      reply = refl;
      log_then = walked.log_then;
      store = walked.leaves;
      alike = alike_later Known (UpTo (length past)) Then (UpTo (length walked.log_then)) mount other stood.within (up_to_later (length past) (length walked.log_then) walked.grows) stood.alike;
      same = walked.same;
    }

  -- ---- a plan that makes no read
  of_nothing : (h : How) (seen : List Observed) → Stood h seen → ReadsNothing at mount request → OneCall h seen
  of_nothing how.Ok seen stood none =
      let all = unread_all start log upto seen (plan at mount request) front past none stood.shown stood.same in
      performs how.Ok seen stood all.unread (told_equal request (answers_of seen) (answers_of all.unread.told) all.answers)
      (subst (λ told. MayEnd (plan at mount request told)) all.answers stood.ends)
  of_nothing how.NoMemory seen stood none =
      let all = unread_all start log upto seen (plan at mount request) front past none stood.shown stood.same in
      shortens how.NoMemory seen stood stood.ends.0 all.unread (all.harmless stood.ends.1)

  -- ---- a plan that reads a source first
  module _ (seen : List Observed) (stood : Stood how.Ok seen) (first : ReadsFirst at mount request) where
    abbrev Read : List Answer → Step
    Read = reading (source_of first.file) first.last

    -- by what was answered behind the reads, it may end, and tells what it told
    may_end : (told : List Answer) → behind_reads (answers_of seen) ≡ told → MayEnd (plan at mount request told)
    may_end told is = subst (λ (p : Plan). MayEnd (p told)) (sym first.is)
        (subst (λ told. MayEnd (Read told)) is (subst MayEnd (ap (λ (p : Plan). p (answers_of seen)) first.is ∙ plan_behind (source_of first.file) first.last (answers_of seen)) stood.ends))

    tells : (told : List Answer) → behind_reads (answers_of seen) ≡ told → ToldAlike request (answers_of seen) told
    tells told is = told_then request (answers_of seen) (behind_reads (answers_of seen)) told (told_behind request first.may (answers_of seen))
        (told_equal request (behind_reads (answers_of seen)) told is)

    asks : (op : Operation) → first.last ≡ ask op → asked_by (plan at mount request []) ≡ Some op
    asks op is = ap (λ (p : Plan). asked_by (p [])) first.is ∙ ap asked_by is

    of_given : behind_reads (answers_of seen) ≡ [] → SameStore start log upto past → OneCall how.Ok seen
    unfolding unread_none
    of_given none same = performs how.Ok seen stood (unread_none start log (plan at mount request) upto past same) (tells [] none) (may_end [] none)

    of_inserted : (op : Operation) → first.last ≡ ask op → behind_reads (answers_of seen) ≡ answer_to op (state_at start log front) ∷ [] →
        SameStore start log upto (past ++ made_by op ∷ []) → OneCall how.Ok seen
    unfolding unread_first unread_none
    of_inserted op is answered same =
        performs how.Ok seen stood
        (unread_first start log (plan at mount request) upto past op (answer_to op (state_at start log front)) (asks op is) (ap (answer_to op) (sym stood.same.bucket))
        (unread_none start log (plan_after (plan at mount request) (answer_to op (state_at start log front))) upto (past ++ made_by op ∷ []) same))
        (tells (answer_to op (state_at start log front) ∷ []) answered) (may_end (answer_to op (state_at start log front) ∷ []) answered)

    -- a flush whose source was gone at a read: the one-thread mount makes its insert, which is refused
    of_refused : Flushes request first.file first.last → behind_reads (answers_of seen) ≡ answers.NotFound ∷ []
        → object_of (state_at start log front) first.file.name first.file.source ≡ None → SameStore start log upto past → OneCall how.Ok seen
    unfolding unread_first unread_none
    of_refused flushes not_found away same =
        performs how.Ok seen stood
        (unread_first start log (plan at mount request) upto past op refusal (asks op flushes.asks) (sym (ap (answer_to op) stood.same.bucket ∙ r.answer))
        (unread_none start log (plan_after (plan at mount request) refusal) upto (past ++ made_by op ∷ [])
        (store_idle start log upto past same op (ap (state_after op) back ∙ r.left ∙ sym back))))
        (told_then request (answers_of seen) (answers.NotFound ∷ []) (refusal ∷ []) (tells (answers.NotFound ∷ []) not_found) (flush_refused request flushes.flushing r.generation r.metageneration))
        (subst (λ (p : Plan). MayEnd (p (refusal ∷ []))) (sym first.is) tt)
      where
        op : Operation
        op = insert first.file.name flushes.content flushes.pairs (Some first.file.source) flushes.second

        r : IsRefused (state_at start log front) op
        r = insert_refused (state_at start log front) first.file first.last op request flushes flushes.asks (stood.numbered flushes.flushing first.goes first.file first.seen) away

        refusal : Answer
        refusal = answers.Precondition r.generation r.metageneration

        back : state_at start log upto ≡ state_at start log front
        back = sym same.bucket ∙ stood.same.bucket

    -- a READ or WRITE whose source was gone is stale
    of_stale : IsReadOrWrite request → behind_reads (answers_of seen) ≡ answers.NotFound ∷ []
        → object_of (state_at start log front) first.file.name first.file.source ≡ None → SameStore start log upto past → OneCall how.Ok seen
    of_stale content not_found away same = by (wants config mount request) refl (stood.wanted content refl answered)
      where
        answered : reply_to at mount request seen ≡ Error estale
        answered = failed_reply Known (UpTo (length past)) mount other stood.alike request first.goes at seen Then stood.within stood.named stood.late estale
            ((tells (answers.NotFound ∷ []) not_found).reply (taken_at at mount request) stood.alike.bare ∙ (content_gone request content).reply (taken_at at mount request) stood.alike.bare)

        by : (found : Option Wanted) → wants config mount request ≡ found → IsSome found → OneCall how.Ok seen
        by None is some = absurd (false≢true some)
        by (Some wanted) is some = record {
          call = record { unique = 0; request = request; seen = []; ending = stale };
          request_is = refl;
          lawful = record {
            observed = tt;
            ends = record {
              wanted = wanted;
              wants_it = sym (wants_alike Known (UpTo (length past)) mount other stood.alike request config) ∙ is;
              gone =
                  let its = wanted_of config mount request first.file wanted content first.seen is in
                  ap (λ b. object_of b wanted.name wanted.generation) stood.same.bucket
                  ∙ ap (λ name. object_of (state_at start log front) name wanted.generation) its.name
                  ∙ ap (object_of (state_at start log front) first.file.name) its.generation ∙ away;
              silent = refl;
            };
          };
          ending = refl;
          stale_is = λ so. content;
          reply = sym answered;
          log_then = past;
          store = refl;
          alike = failed_after Known (UpTo (length past)) mount other stood.alike request first.goes at seen Then stood.within stood.named stood.late
              ((tells (answers.NotFound ∷ []) not_found).after (taken_at at mount request) stood.alike.bare ∙ (content_gone request content).after (taken_at at mount request) stood.alike.bare);
          same = same;
        }

    of_gone : IsReadOrWrite request ⊎ Flushes request first.file first.last → behind_reads (answers_of seen) ≡ answers.NotFound ∷ []
        → object_of (state_at start log front) first.file.name first.file.source ≡ None → SameStore start log upto past → OneCall how.Ok seen
    of_gone (inl content) not_found away same = of_stale content not_found away same
    of_gone (inr flushes) not_found away same = of_refused flushes not_found away same

  of_first : (h : How) (seen : List Observed) (stood : Stood h seen) (first : ReadsFirst at mount request) →
      CameOut start log (source_of first.file) first.last first.ends upto front past seen → OneCall h seen
  unfolding unread_none
  of_first how.Ok seen stood first (given none same) = of_given seen stood first none same
  of_first how.Ok seen stood first (found_gone not_found away same) = of_gone seen stood first first.which not_found away same
  of_first how.Ok seen stood first (inserted op is answered harm same) = of_inserted seen stood first op is answered same
  of_first how.NoMemory seen stood first (given none same) = shortens how.NoMemory seen stood stood.ends.0 (unread_none start log (plan at mount request) upto past same) tt
  of_first how.NoMemory seen stood first (found_gone not_found away same) = shortens how.NoMemory seen stood stood.ends.0 (unread_none start log (plan at mount request) upto past same) tt
  of_first how.NoMemory seen stood first (inserted op is answered harm same) = absurd (harm stood.ends.1)

  pub one_call : (h : How) (seen : List Observed) → Stood h seen → OneCall h seen
  one_call h seen stood = by (kind_of at mount request)
    where
      by : ReadsFirst at mount request ⊎ ReadsNothing at mount request → OneCall h seen
      by (inl first) = of_first h seen stood first
          (came_out start log (source_of first.file) first.last first.ends upto seen front past (subst (λ p. ShownFrom start log upto front p seen) first.is stood.shown) stood.same)
      by (inr none) = of_nothing h seen stood none
