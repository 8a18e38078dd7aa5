-- The reads of a request that wants bytes of a source: one that was given bytes is passed over, and one that was given none
-- ends it.
use Rattle.std.proofs.Common.{◌≡◌, ℕ, Bool, true, false, List, [], ◌∷◌, Option, Some, None, refl, sym, ap, subst, ◌∙◌, length, ◌⊎◌, inl, inr}
use Rattle.std.proofs.lemmas.Bool.{false≢true}
use Rattle.std.specs.Prelude.{if◌then◌else◌, not, ◌&&◌, is_some, option_and_then}
use Rattle.std.specs.Option.{option_map_or}
use Rattle.bucket_api.specs.declared.answers.Answer.{Answer}
use Rattle.bucket_api.specs.declared.answers.Answer.TheVariants.{Bytes, Fault, NotFound}
use Rattle.fuse_replies.specs.Errno.{eio, estale}
use Rattle.fuse_replies.specs.declared.reply.Reply.TheVariants.{Error, Silent}
use Rattle.fuse_requests.specs.declared.request.Request.{Request}
use Rattle.fuse_requests.specs.declared.request.Request.TheVariants.{Flush, Fsync, Read, Write}
use Rattle.mount_laws.proofs.Keeping.{no_Some, same_Some}
use Rattle.mount_laws.proofs.RequestLaws.{wanted_where}
use Rattle.mount_laws.specs.Observations.{ReadsArePassedOver, UnreadIsRefused, errno_unread}
use Rattle.mount_model.specs.Observing.{Observed}
use Rattle.mount_model.specs.declared.config.Config.{Config}
use Rattle.mount_rules.specs.Dispatch.{early, goes_on, is_full, is_idle, mount_after, plan, reply_to, rules_of, taken_at, view_in, wants}
use Rattle.mount_rules.specs.Mount.{MountModel}
use Rattle.mount_rules.specs.Plans.{MayEnd, Plan, Wanted, answers_of, done, last_moment}
use Rattle.mount_rules.specs.Reading.{reads}
use Rattle.mount_rules.specs.Requests.Flush as flush
use Rattle.mount_rules.specs.Requests.Read as read
use Rattle.mount_rules.specs.Requests.Write as write
use Rattle.mount_rules.specs.Rules.{AtTake, Rules, Taken}
use Rattle.mount_rules.specs.View.{Sight}
use Rattle.staging_spec.specs.StagedFiles.{StagedContent}

-- ---- by the rules of a request
-- a read that was given bytes is passed over
record PassesOver (rules : Rules) (taken : Taken) (mount : MountModel) (o : Observed) : Type 0 where
  pub asks : (answers : List Answer) → rules.plan taken (o.answer ∷ answers) ≡ rules.plan taken answers
  pub reply : (seen : List Observed) → rules.reply taken mount (o ∷ seen) ≡ rules.reply taken mount seen
  pub after : (seen : List Observed) → rules.after taken mount (o ∷ seen) ≡ rules.after taken mount seen

-- one that was given none ends the request
record EndsUnread (rules : Rules) (taken : Taken) (mount : MountModel) (o : Observed) (errno : ℕ) : Type 0 where
  pub ends : MayEnd (rules.plan taken (o.answer ∷ []))
  pub answered : rules.reply taken mount (o ∷ []) ≡ Error errno
  pub left : rules.after taken mount (o ∷ []) ≡ mount

-- which answers these are
unread_is : (a : Answer) (errno : ℕ) → errno_unread a ≡ Some errno → ((a ≡ NotFound) × (estale ≡ errno)) ⊎ ((a ≡ Fault) × (eio ≡ errno))
unread_is NotFound errno e = inl (refl, same_Some e)
unread_is Fault errno e = inr (refl, same_Some e)
unread_is _ errno e = absurd (no_Some e)

-- a plan that asks nothing more, whatever is seen
ends_either : {X : Type 0} (seen : Option X) → MayEnd (option_map_or (λ (x : X). done) seen done)
ends_either None = tt
ends_either (Some x) = tt

-- ---- READ
module _ (node fh first size : ℕ) (taken : Taken) (mount : MountModel) (o : Observed) where
  passes_read : (bytes : List ℕ) → o.answer ≡ Bytes bytes → PassesOver (read.rules node fh first size) taken mount o
  passes_read bytes told = record {
    asks = λ answers. ap (λ (a : Answer). read.plan taken.view (a ∷ answers)) told;
    reply = λ seen. ap (λ (a : Answer). read.reply_to (read.bytes taken.at.contents first size taken.view.staged taken.view.node) (reads (a ∷ answers_of seen))) told;
    after = λ seen. refl;
  }

  ends_read : (errno : ℕ) → errno_unread o.answer ≡ Some errno → EndsUnread (read.rules node fh first size) taken mount o errno
  ends_read errno e = by (unread_is o.answer errno e)
    where
      bytes : List ℕ
      bytes = read.bytes taken.at.contents first size taken.view.staged taken.view.node

      by : ((o.answer ≡ NotFound) × (estale ≡ errno)) ⊎ ((o.answer ≡ Fault) × (eio ≡ errno)) → EndsUnread (read.rules node fh first size) taken mount o errno
      by (inl (told, is)) = record {
        ends = subst (λ (a : Answer). MayEnd (read.plan taken.view (a ∷ []))) (sym told) (ends_either taken.view.node);
        answered = ap (λ (a : Answer). read.reply_to bytes (reads (a ∷ []))) told ∙ ap Error is;
        left = refl;
      }
      by (inr (told, is)) = record {
        ends = subst (λ (a : Answer). MayEnd (read.plan taken.view (a ∷ []))) (sym told) (ends_either taken.view.node);
        answered = ap (λ (a : Answer). read.reply_to bytes (reads (a ∷ []))) told ∙ ap Error is;
        left = refl;
      }

-- ---- WRITE
module _ (node fh first : ℕ) (content : List ℕ) (taken : Taken) (mount : MountModel) (o : Observed) where
  abbrev came : List Answer → write.Came
  came answers = write.came taken mount first content answers

  passes_write : (bytes : List ℕ) → o.answer ≡ Bytes bytes → PassesOver (write.rules node fh first content) taken mount o
  passes_write bytes told = record {
    asks = λ answers. ap (λ (a : Answer). write.plan taken.view (a ∷ answers)) told;
    reply = λ seen. ap (λ (a : Answer). write.reply_to (length content) (came (a ∷ answers_of seen))) told;
    after = λ seen. ap (λ (a : Answer). write.mount_after taken mount node first content (came (a ∷ answers_of seen))) told;
  }

  ends_write : (errno : ℕ) → errno_unread o.answer ≡ Some errno → EndsUnread (write.rules node fh first content) taken mount o errno
  ends_write errno e = by (unread_is o.answer errno e)
    where
      by : ((o.answer ≡ NotFound) × (estale ≡ errno)) ⊎ ((o.answer ≡ Fault) × (eio ≡ errno)) → EndsUnread (write.rules node fh first content) taken mount o errno
      by (inl (told, is)) = record {
        ends = subst (λ (a : Answer). MayEnd (write.plan taken.view (a ∷ []))) (sym told) (ends_either taken.view.node);
        answered = ap (λ (a : Answer). write.reply_to (length content) (came (a ∷ []))) told ∙ ap Error is;
        left = ap (λ (a : Answer). write.mount_after taken mount node first content (came (a ∷ []))) told;
      }
      by (inr (told, is)) = record {
        ends = subst (λ (a : Answer). MayEnd (write.plan taken.view (a ∷ []))) (sym told) (ends_either taken.view.node);
        answered = ap (λ (a : Answer). write.reply_to (length content) (came (a ∷ []))) told ∙ ap Error is;
        left = ap (λ (a : Answer). write.mount_after taken mount node first content (came (a ∷ []))) told;
      }

-- ---- FLUSH and FSYNC
module _ (node fh : ℕ) (taken : Taken) (mount : MountModel) (o : Observed) where
  -- where nothing but reads was seen, nothing was made
  left_passing : (staged : Option StagedContent) (bytes : List ℕ) (seen : List Observed) → o.answer ≡ Bytes bytes
      → flush.mount_by staged mount node (last_moment (o ∷ seen)) (flush.came_of (o.answer ∷ answers_of seen))
      ≡ flush.mount_by staged mount node (last_moment seen) (flush.came_of (answers_of seen))
  left_passing None bytes seen told = refl
  left_passing (Some staged) bytes [] told = ap (λ (a : Answer). flush.mount_after mount node o.moment (flush.came_of (a ∷ []))) told
  left_passing (Some staged) bytes (p ∷ seen) told =
      ap (λ (a : Answer). flush.mount_after mount node (last_moment (p ∷ seen)) (flush.came_of (a ∷ answers_of (p ∷ seen)))) told

  passes_flush : (bytes : List ℕ) → o.answer ≡ Bytes bytes → PassesOver (flush.rules node fh) taken mount o
  passes_flush bytes told = record {
    asks = λ answers. ap (λ (a : Answer). flush.plan taken (a ∷ answers)) told;
    reply = λ seen. ap (λ (a : Answer). flush.reply_by taken.view.staged (flush.came_of (a ∷ answers_of seen))) told;
    after = λ seen. left_passing taken.view.staged bytes seen told;
  }

  -- something is wanted of a source only where something is staged
  ends_flush : (wanted : Wanted) (errno : ℕ) → flush.wanted taken.view ≡ Some wanted → errno_unread o.answer ≡ Some errno → EndsUnread (flush.rules node fh) taken mount o errno
  ends_flush wanted errno wanting e = by taken.view.staged refl (unread_is o.answer errno e)
    where
      never : (held : Option StagedContent) → held ≡ None
          → option_and_then (λ (staged : StagedContent). option_and_then (λ (file : Sight). flush.wanted_of staged.overlay file) taken.view.node) held ≡ Some wanted → ⊥
      never held is found = no_Some (sym (ap (λ (h : Option StagedContent). option_and_then (λ (staged : StagedContent). option_and_then (λ (file : Sight). flush.wanted_of staged.overlay file) taken.view.node) h) is) ∙ found)

      quiet : (a : Answer) → flush.plan taken (a ∷ []) ≡ option_map_or (λ (staged : StagedContent). option_map_or (λ (file : Sight). done) taken.view.node done) taken.view.staged done
          → MayEnd (flush.plan taken (a ∷ []))
      quiet a is = subst MayEnd (sym is) (both taken.view.staged)
        where
          both : (held : Option StagedContent) → MayEnd (option_map_or (λ (staged : StagedContent). option_map_or (λ (file : Sight). done) taken.view.node done) held done)
          both None = tt
          both (Some staged) = ends_either taken.view.node

      by : (held : Option StagedContent) → taken.view.staged ≡ held → ((o.answer ≡ NotFound) × (estale ≡ errno)) ⊎ ((o.answer ≡ Fault) × (eio ≡ errno))
          → EndsUnread (flush.rules node fh) taken mount o errno
      by None is came = absurd (never taken.view.staged is wanting)
      by (Some staged) is (inl (told, error)) = record {
        ends = subst (λ (a : Answer). MayEnd (flush.plan taken (a ∷ []))) (sym told) (quiet NotFound refl);
        answered = ap (λ held. flush.reply_by held (flush.came_of (o.answer ∷ []))) is ∙ ap (λ (a : Answer). flush.reply_to (flush.came_of (a ∷ []))) told ∙ ap Error error;
        left = ap (λ held. flush.mount_by held mount node o.moment (flush.came_of (o.answer ∷ []))) is ∙ ap (λ (a : Answer). flush.mount_after mount node o.moment (flush.came_of (a ∷ []))) told;
      }
      by (Some staged) is (inr (told, error)) = record {
        ends = subst (λ (a : Answer). MayEnd (flush.plan taken (a ∷ []))) (sym told) (quiet Fault refl);
        answered = ap (λ held. flush.reply_by held (flush.came_of (o.answer ∷ []))) is ∙ ap (λ (a : Answer). flush.reply_to (flush.came_of (a ∷ []))) told ∙ ap Error error;
        left = ap (λ held. flush.mount_by held mount node o.moment (flush.came_of (o.answer ∷ []))) is ∙ ap (λ (a : Answer). flush.mount_after mount node o.moment (flush.came_of (a ∷ []))) told;
      }

-- ---- every request
passes : (request : Request) (taken : Taken) (mount : MountModel) (o : Observed) (wanted : Wanted) (bytes : List ℕ) → (rules_of request).wants taken.view ≡ Some wanted → o.answer ≡ Bytes bytes
    → PassesOver (rules_of request) taken mount o
passes (Read node fh first size) taken mount o wanted bytes wanting told = passes_read node fh first size taken mount o bytes told
passes (Write node fh first content) taken mount o wanted bytes wanting told = passes_write node fh first content taken mount o bytes told
passes (Flush node fh) taken mount o wanted bytes wanting told = passes_flush node fh taken mount o bytes told
passes (Fsync node fh) taken mount o wanted bytes wanting told = passes_flush node fh taken mount o bytes told
passes _ taken mount o wanted bytes wanting told = absurd (no_Some wanting)

ends : (request : Request) (taken : Taken) (mount : MountModel) (o : Observed) (wanted : Wanted) (errno : ℕ) → (rules_of request).wants taken.view ≡ Some wanted → errno_unread o.answer ≡ Some errno
    → EndsUnread (rules_of request) taken mount o errno
ends (Read node fh first size) taken mount o wanted errno wanting unread = ends_read node fh first size taken mount o errno unread
ends (Write node fh first content) taken mount o wanted errno wanting unread = ends_write node fh first content taken mount o errno unread
ends (Flush node fh) taken mount o wanted errno wanting unread = ends_flush node fh taken mount o wanted errno wanting unread
ends (Fsync node fh) taken mount o wanted errno wanting unread = ends_flush node fh taken mount o wanted errno wanting unread
ends _ taken mount o wanted errno wanting unread = absurd (no_Some wanting)

-- one that wants bytes goes by its rules
record Wants (mount : MountModel) (request : Request) (wanted : Wanted) : Type 0 where
  pub goes : goes_on mount request ≡ true
  pub wants_it : (rules_of request).wants (view_in mount request) ≡ Some wanted

wants_by : (config : Config) (mount : MountModel) (request : Request) (wanted : Wanted) → wants config mount request ≡ Some wanted → Wants mount request wanted
wants_by config mount request wanted = by (goes_on mount request) refl
  where
    by : (on : Bool) → goes_on mount request ≡ on → (if on then (if is_full config mount request then None else (rules_of request).wants (view_in mount request)) else None) ≡ Some wanted
        → Wants mount request wanted
    by true goes found = record { goes = goes; wants_it = wanted_where (is_full config mount request) _ wanted found }
    by false goes found = absurd (no_Some found)

module _ (at : AtTake) (mount : MountModel) (request : Request) (on : goes_on mount request ≡ true) where
  abbrev taken : Taken
  taken = taken_at at mount request

  plan_on : plan at mount request ≡ (rules_of request).plan taken
  plan_on = ap (λ (b : Bool). if b then (rules_of request).plan taken else (λ (answers : List Answer). done)) on

  reply_on : (seen : List Observed) → reply_to at mount request seen ≡ (rules_of request).reply taken mount seen
  reply_on seen = by (is_idle mount request) (early mount request) on
    where
      by : (idle : Bool) (errno : Option ℕ) → (not idle && not (is_some errno)) ≡ true
          → (if idle then Silent else option_map_or Error errno ((rules_of request).reply taken mount seen)) ≡ (rules_of request).reply taken mount seen
      by true errno e = absurd (false≢true e)
      by false (Some errno) e = absurd (false≢true e)
      by false None e = refl

  after_on : (seen : List Observed) → mount_after at mount request seen ≡ (rules_of request).after taken mount seen
  after_on seen = ap (λ (b : Bool). if b then (rules_of request).after taken mount seen else mount) on

pub reads_are_passed_over : ReadsArePassedOver
reads_are_passed_over config at mount request wanted o bytes wanting told =
    let w = wants_by config mount request wanted wanting in
    let p = passes request (taken_at at mount request) mount o wanted bytes w.wants_it told in
    let planned = plan_on at mount request w.goes in
    record {
      asks = λ answers. ap (λ (f : Plan). f (o.answer ∷ answers)) planned ∙ p.asks answers ∙ sym (ap (λ (f : Plan). f answers) planned);
      ends = λ seen. record {
        reply = reply_on at mount request w.goes (o ∷ seen) ∙ p.reply seen ∙ sym (reply_on at mount request w.goes seen);
        after = after_on at mount request w.goes (o ∷ seen) ∙ p.after seen ∙ sym (after_on at mount request w.goes seen);
      };
    }

pub unread_is_refused : UnreadIsRefused
unread_is_refused config at mount request wanted o errno wanting unread =
    let w = wants_by config mount request wanted wanting in
    let p = ends request (taken_at at mount request) mount o wanted errno w.wants_it unread in
    record {
      ends = subst (λ (f : Plan). MayEnd (f (o.answer ∷ []))) (sym (plan_on at mount request w.goes)) p.ends;
      answered = reply_on at mount request w.goes (o ∷ []) ∙ p.answered;
      left = after_on at mount request w.goes (o ∷ []) ∙ p.left;
    }
