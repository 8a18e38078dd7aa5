-- A record of a look tells what the answer told for which it stands: of a stat that answer itself; of a probe whether the
-- directory is there, which is all that LOOKUP and RENAME go by.
use Rattle.std.proofs.Common.{◌≡◌, ℕ, Bool, true, false, cond, List, [], ◌∷◌, Option, Some, None, refl, sym, ap, subst, ◌∙◌}
use Rattle.std.specs.Option.{option_map_or}
use Rattle.std.specs.Prelude.{if◌then◌else◌, option_and_then, option_map}
use Rattle.bucket_api.specs.BucketState.{BucketState, object_at}
use Rattle.bucket_api.specs.Log.{answer_by, event_at, state_at}
use Rattle.bucket_api.specs.LogEvent.{LogEvent}
use Rattle.bucket_api.specs.Moments.{position_of}
use Rattle.bucket_api.specs.Operation.{stat}
use Rattle.bucket_api.specs.declared.answers.Answer.{Answer}
use Rattle.bucket_api.specs.declared.answers.Answer.TheVariants as answers
use Rattle.bucket_api.specs.declared.events.Mode.{Mode}
use Rattle.bucket_api.specs.declared.events.Mode.TheVariants as modes
use Rattle.bucket_api.specs.declared.objects.Object.{Object}
use Rattle.fuse_replies.specs.declared.reply.Reply.{Reply}
use Rattle.fuse_replies.specs.declared.reply.Reply.TheVariants.{Error, Silent}
use Rattle.fuse_requests.specs.declared.request.Request.{Request}
use Rattle.fuse_requests.specs.declared.request.Request.TheVariants.{Lookup, Rename, Rename2}
use Rattle.history_spec.specs.Observing.{observed_at}
use Rattle.history_spec.specs.Pasts.{probe_shows, shown_of}
use Rattle.mount_model.specs.Observing.{Observed}
use Rattle.mount_rules.specs.Dispatch.{early, goes_on, is_idle, rules_of, taken_at}
use Rattle.mount_rules.specs.Mount.{MountModel}
use Rattle.mount_rules.specs.Plans.{answers_of, done, last_moment}
use Rattle.mount_rules.specs.Requests.Lookup as lookup
use Rattle.mount_rules.specs.Requests.Lookup.{Probed, absent, failed, present, probed}
use Rattle.mount_rules.specs.Requests.Rename as rename
use Rattle.mount_rules.specs.Rules.{AtTake, Rules, Taken}
use Rattle.object_names.specs.Paths.{has_suffix}
use Rattle.record_spec.specs.declared.records.Shown.{Shown}
use Rattle.record_spec.specs.declared.records.Shown.TheVariants as shows
use Rattle.thrift_spec.specs.Records.{answer_of}
use Rattle.thrift_spec.specs.Recalls.{IsProbing, StandsFor}

-- ---- what a record tells
shows_probed : (found : Probed) (shown : Shown) → probe_shows found ≡ Some shown → found ≡ probed (answer_of shown)
shows_probed present shows.Present is = refl
shows_probed present (shows.Object meta) is = absurd (cc)
shows_probed present shows.Absent is = absurd (cc)
shows_probed absent shows.Absent is = refl
shows_probed absent (shows.Object meta) is = absurd (cc)
shows_probed absent shows.Present is = absurd (cc)
shows_probed failed shown is = absurd (cc)

-- Whether the directory is there is told by the record as by the answer that it stands for.
pub record_probes : (answer : Answer) (shown : Shown) → shown_of answer ≡ Some shown → probed answer ≡ probed (answer_of shown)
record_probes (answers.Meta meta) shown is = let same : Some (shows.Object meta) ≡ Some shown = is in
    let its : shows.Object meta ≡ shown = cc in ap (λ s. probed (answer_of s)) its
record_probes answers.NotFound shown is = shows_probed absent shown is
record_probes answers.Done shown is = shows_probed present shown is
record_probes (answers.Page page) shown is = shows_probed (probed (answers.Page page)) shown is
record_probes (answers.Bytes bytes) shown is = absurd (cc)
record_probes (answers.Precondition generation metageneration) shown is = absurd (cc)
record_probes answers.Fault shown is = absurd (cc)

-- what a stat is answered
abbrev IsOfStat : Answer → Type 0
IsOfStat (answers.Meta meta) = Unit {0}
IsOfStat answers.NotFound = Unit {0}
IsOfStat answers.Fault = Unit {0}
IsOfStat answer = ⊥

of_stat : (mode : Mode) (name : List ℕ) (b : BucketState) → IsOfStat (answer_by mode (stat name) b)
of_stat modes.Done name b = by (object_at b name)
  where
    by : (found : Option Object) → IsOfStat (option_map_or (λ (o : Object). answers.Meta o.meta) found answers.NotFound)
    by None = tt
    by (Some o) = tt
of_stat modes.Failed name b = tt
of_stat modes.Lost name b = tt

told_stat : (answer : Answer) → IsOfStat answer → (shown : Shown) → shown_of answer ≡ Some shown → answer_of shown ≡ answer
told_stat (answers.Meta meta) its shown is = let same : Some (shows.Object meta) ≡ Some shown = is in
    let shows_it : shows.Object meta ≡ shown = cc in sym (ap answer_of shows_it)
told_stat answers.NotFound its shown is = let same : Some shows.Absent ≡ Some shown = is in
    let shows_it : shows.Absent ≡ shown = cc in sym (ap answer_of shows_it)
told_stat answers.Fault its shown is = absurd (cc)
told_stat answers.Done its shown is = absurd its
told_stat (answers.Page page) its shown is = absurd its
told_stat (answers.Bytes bytes) its shown is = absurd (cc)
told_stat (answers.Precondition generation metageneration) its shown is = absurd (cc)

-- ---- LOOKUP and RENAME
module _ (first other : Observed) (same : probed first.answer ≡ probed other.answer) (moment : first.moment ≡ other.moment) where
  last_same : (seen : List Observed) → last_moment (first ∷ seen) ≡ last_moment (other ∷ seen)
  last_same [] = moment
  last_same (o ∷ seen) = refl

  lookup_asks : (implicit : Bool) (path : List ℕ) (suffixed : Bool) (told : List Answer) → lookup.plan implicit path suffixed (first.answer ∷ told) ≡ lookup.plan implicit path suffixed (other.answer ∷ told)
  lookup_asks implicit path suffixed [] = ap (lookup.after_probe path suffixed) same
  lookup_asks implicit path suffixed (a ∷ told) = refl

  found_same : (told : List Answer) → lookup.found (first.answer ∷ told) ≡ lookup.found (other.answer ∷ told)
  found_same [] = ap lookup.found_by same
  found_same (a ∷ told) = refl

  moving_asks : (implicit : Bool) (from to : List ℕ) (suffixed : Bool) (second : ℕ) (told : List Answer)
      → rename.moving_plan implicit from to suffixed second (first.answer ∷ told) ≡ rename.moving_plan implicit from to suffixed second (other.answer ∷ told)
  moving_asks implicit from to suffixed second [] = ap (lookup.after_probe from suffixed) same
  moving_asks implicit from to suffixed second (a ∷ []) = refl
  moving_asks implicit from to suffixed second (a ∷ b ∷ []) = refl
  moving_asks implicit from to suffixed second (a ∷ b ∷ c ∷ told) = refl

  came_same : (told : List Answer) → rename.came_of (first.answer ∷ told) ≡ rename.came_of (other.answer ∷ told)
  came_same [] = ap rename.came_of_probe same
  came_same (a ∷ []) = refl
  came_same (a ∷ b ∷ []) = refl
  came_same (a ∷ b ∷ c ∷ told) = refl

  -- by the rules of the request
  record RulesStand (rules : Rules) : Type 0 where
    asks : (taken : Taken) (told : List Answer) → rules.plan taken (first.answer ∷ told) ≡ rules.plan taken (other.answer ∷ told)
    reply : (taken : Taken) (mount : MountModel) (seen : List Observed) → rules.reply taken mount (first ∷ seen) ≡ rules.reply taken mount (other ∷ seen)
    after : (taken : Taken) (mount : MountModel) (seen : List Observed) → rules.after taken mount (first ∷ seen) ≡ rules.after taken mount (other ∷ seen)

  lookup_stands : (node : ℕ) (name : List ℕ) → RulesStand (lookup.rules node name)
  lookup_stands node name = record {
    asks = λ taken told. lookup_asks taken.at.config.implicit_dirs (lookup.path_of name taken.view) (has_suffix name) told;
    reply = λ taken mount seen. ap (λ m. lookup.reply_to taken.at.config mount (lookup.path_of name taken.view) m (lookup.found (first.answer ∷ answers_of seen))) (last_same seen)
        ∙ ap (lookup.reply_to taken.at.config mount (lookup.path_of name taken.view) (last_moment (other ∷ seen))) (found_same (answers_of seen));
    after = λ taken mount seen.
        ap (λ m. record mount { table = lookup.table_after mount.table (lookup.path_of name taken.view) m (lookup.found (first.answer ∷ answers_of seen)) }) (last_same seen)
        ∙ ap (λ f. record mount { table = lookup.table_after mount.table (lookup.path_of name taken.view) (last_moment (other ∷ seen)) f }) (found_same (answers_of seen));
  }

  rename_stands : (node : ℕ) (names : rename.Names) → RulesStand (rename.rules node names)
  rename_stands node names = record {
    asks = λ taken told. asks_by taken told (rename.is_same names taken.view);
    reply = λ taken mount seen. ap rename.reply_to (came taken.view (answers_of seen));
    after = λ taken mount seen. ap (rename.mount_after names taken.view mount) (came taken.view (answers_of seen));
  }
    where
      asks_by : (taken : Taken) (told : List Answer) (b : Bool)
          → cond b done (rename.moving_plan taken.at.config.implicit_dirs (rename.from_of names taken.view) (rename.to_of names taken.view) (has_suffix names.name) taken.at.second (first.answer ∷ told))
          ≡ cond b done (rename.moving_plan taken.at.config.implicit_dirs (rename.from_of names taken.view) (rename.to_of names taken.view) (has_suffix names.name) taken.at.second (other.answer ∷ told))
      asks_by taken told true = refl
      asks_by taken told false =
          moving_asks taken.at.config.implicit_dirs (rename.from_of names taken.view) (rename.to_of names taken.view) (has_suffix names.name) taken.at.second told

      came : (view : _) (told : List Answer) → rename.came names view (first.answer ∷ told) ≡ rename.came names view (other.answer ∷ told)
      came view told = ap (λ c. if rename.is_same names view then rename.moved else c) (came_same told)

  rules_stand : (request : Request) → IsProbing request → RulesStand (rules_of request)
  rules_stand (Lookup node name) is = lookup_stands node name
  rules_stand (Rename node newdir name newname) is = rename_stands node (record { name = name; newdir = newdir; newname = newname })
  rules_stand (Rename2 node newdir flags name newname) is =
      let its = rename_stands node (record { name = name; newdir = newdir; newname = newname }) in record { asks = its.asks; reply = its.reply; after = its.after }
  rules_stand _ is = absurd is

  pub stands_for : (at : AtTake) (mount : MountModel) (request : Request) → IsProbing request → StandsFor at mount request first other
  stands_for at mount request is = record {
    asks = λ told. asks_by told (goes_on mount request);
    reply = λ seen. ap (λ (r : Reply). if is_idle mount request then Silent else option_map_or Error (early mount request) r) (rules.reply (taken_at at mount request) mount seen);
    after = λ seen. ap (λ (m : MountModel). if goes_on mount request then m else mount) (rules.after (taken_at at mount request) mount seen);
  }
    where
      rules : RulesStand (rules_of request)
      rules = rules_stand request is

      asks_by : (told : List Answer) (b : Bool) → (if b then (rules_of request).plan (taken_at at mount request) else (λ answers. done)) (first.answer ∷ told)
          ≡ (if b then (rules_of request).plan (taken_at at mount request) else (λ answers. done)) (other.answer ∷ told)
      asks_by told true = rules.asks (taken_at at mount request) told
      asks_by told false = refl

-- ---- by the log
-- Of a stat in the log a record tells the answer itself.
pub stat_is_told : (start : BucketState) (log : List LogEvent) (moment : ℕ) (seen : Observed) (name : List ℕ) (shown : Shown) → observed_at start log moment ≡ Some seen → seen.op ≡ stat name
    → shown_of seen.answer ≡ Some shown → answer_of shown ≡ seen.answer
stat_is_told start log moment seen name shown is op told = by (event_at log moment) is
  where
    by : (found : Option LogEvent)
        → option_and_then (λ (e : LogEvent). option_map (λ answer. record { op = e.op; moment = moment; answer = answer })
        (option_map (λ (x : LogEvent). answer_by x.mode x.op (state_at start log (position_of moment))) found)) found ≡ Some seen → answer_of shown ≡ seen.answer
    by None its = absurd (cc)
    by (Some e) its =
        let one : record { op = e.op; moment = moment; answer = answer_by e.mode e.op (state_at start log (position_of moment)) } ≡ seen = cc in
        let op_is : e.op ≡ stat name = ap (λ (s : Observed). s.op) one ∙ op in
        let answered : answer_by e.mode e.op (state_at start log (position_of moment)) ≡ seen.answer = ap (λ (s : Observed). s.answer) one in
        told_stat seen.answer
        (subst IsOfStat (ap (λ o. answer_by e.mode o (state_at start log (position_of moment))) (sym op_is) ∙ answered) (of_stat e.mode name (state_at start log (position_of moment)))) shown told
