-- A request of a mount that keeps its log and journal: it is refused, carried out to its end, or stops short; and so it is done,
-- whichever call of its lane it is.
use Rattle.std.proofs.Common.{◌≡◌, ℕ, Bool, true, false, is_some, List, [], ◌∷◌, Option, Some, None, length, refl, sym, ap, subst, ◌∙◌}
use Rattle.std.specs.Option.{option_map_or}
use Rattle.std.specs.Prelude.{if◌then◌else◌}
use Rattle.fuse_replies.specs.Errno.{enomem, enospc}
use Rattle.fuse_replies.specs.declared.reply.Reply.{Reply}
use Rattle.fuse_replies.specs.declared.reply.Reply.TheVariants.{Error, Silent}
use Rattle.fuse_requests.specs.declared.request.Request.{Request}
use Rattle.history_spec.specs.JournalState.{OpenCall}
use Rattle.logged_bucket.specs.LoggedState.{LoggedState}
use Rattle.mount_core.proofs.LoggedEvents.{made_none}
use Rattle.mount_core.proofs.SerialLemmas.{refused_speaks, refused_stops}
use Rattle.mount_core.proofs.WalkLemmas.{asked_without}
use Rattle.mount_core.specs.Errands.{AsksAs, content_of, keys_of, plan_of, plan_over, wanted_of}
use Rattle.mount_core.specs.Logged.{IsCarried, IsErrandOf, IsServed, StopsShort, seen_of}
use Rattle.mount_core.specs.LoneCalls.{AllServed, Finds, IsTakenNow, Performs, SomeTaken, found_taken}
use Rattle.mount_core.specs.declared.errand.Errand.{Errand}
use Rattle.mount_core.specs.declared.errand.Errand.TheVariants.{Files, Names}
use Rattle.plan_files.specs.declared.errand.FileErrand.TheVariants.{Attr}
use Rattle.plan_names.specs.declared.errand.NameErrand.TheVariants.{Lookup, Rename}
use Rattle.bucket_api.specs.Operation.{Operation}
use Rattle.bucket_api.specs.declared.answers.Answer.{Answer}
use Rattle.history_spec.specs.Pasts.{lifetime_of}
use Rattle.mount_kept.specs.Recalls.{recall_of}
use Rattle.mount_kept.specs.Serves.{found_of}
use Rattle.mount_kept.specs.Takings.{AllGoBy}
use Rattle.mount_kept.specs.declared.notes.Note.{Note}
use Rattle.mount_kept.specs.declared.recall.Found.{Found}
use Rattle.record_spec.specs.RecordList.{Key, RecordList}
use Rattle.record_spec.specs.Steps.{found, live_record}
use Rattle.record_spec.specs.declared.records.Record.{Record}
use Rattle.thrift_spec.specs.Records.{answer_of, found_in, plan_found}
use Rattle.mount_laws.proofs.Keeping.{no_Some}
use Rattle.mount_laws.proofs.Refusals.{full_is_refused}
use Rattle.mount_model.specs.declared.config.Config.{Config}
use Rattle.mount_model.specs.declared.journal.How.TheVariants as how
use Rattle.mount_rules.specs.Dispatch.{early, is_full, mount_after, plan, refused_at_take, reply_to, rules_of, taken_at, view_in, wants}
use Rattle.mount_rules.specs.Laws.{IsRefusedFull}
use Rattle.mount_rules.specs.Mount.{MountModel, second_at}
use Rattle.mount_rules.specs.Plans.{HoldsWanted, MayEnd, Plan, Step, answers_of, ask, asked_by, done, may_read}
use Rattle.mount_rules.specs.Rules.{AtTake}
use Rattle.mount_state.specs.Serving.{IsServedAt, Serves}
use Rattle.mount_state.specs.Telling.{ToldList}
use Rattle.mount_state.specs.declared.base.Base.{Base}

-- ---- refused
-- a request that is refused at its take may end at once, with that error, and leaves the mount as it was
pub record IsRefused (at : AtTake) (mount : MountModel) (request : Request) (errno : ℕ) : Type 0 where
  pub ends : MayEnd (plan at mount request [])
  pub answered : reply_to at mount request [] ≡ Error errno
  pub left : mount_after at mount request [] ≡ mount

refused_early : (at : AtTake) (mount : MountModel) (request : Request) (errno : ℕ) → early mount request ≡ Some errno → IsRefused at mount request errno
refused_early at mount request errno is = record {
  ends = subst MayEnd (sym (ap (λ (on : Bool). (if on then (rules_of request).plan (taken_at at mount request) else (λ answers. done)) []) (refused_stops mount request errno is))) tt;
  answered =
      ap (λ (idle : Bool). if idle then Silent else option_map_or Error (early mount request) ((rules_of request).reply (taken_at at mount request) mount []))
      (refused_speaks mount request errno is)
      ∙ ap (λ (error : Option ℕ). option_map_or Error error ((rules_of request).reply (taken_at at mount request) mount [])) is;
  left = ap (λ (on : Bool). if on then (rules_of request).after (taken_at at mount request) mount [] else mount) (refused_stops mount request errno is);
}

pub refused_so : (config : Config) (at : AtTake) (mount : MountModel) (request : Request) (errno : ℕ) → at.config ≡ config
    → refused_at_take config mount request ≡ Some errno → IsRefused at mount request errno
refused_so config at mount request errno settings is = by (early mount request) refl (is_full config mount request) refl is
  where
    by : (error : Option ℕ) → early mount request ≡ error → (full : Bool) → is_full config mount request ≡ full
        → option_map_or Some error (if full then Some enospc else None) ≡ Some errno → IsRefused at mount request errno
    by (Some e) early_is full full_is told = refused_early at mount request errno (early_is ∙ told)
    by None early_is true full_is told =
        let r : IsRefusedFull at mount request = full_is_refused at mount request early_is (ap (λ (c : Config). is_full c mount request) settings ∙ full_is) in
        record { ends = r.ends; answered = r.answered ∙ (let same : enospc ≡ errno = cc in ap Error same); left = r.left }
    by None early_is false full_is told = absurd (no_Some told)

-- ---- what it finds
-- nothing is looked for where nothing is asked
finds_none : (config : Config) (clock : ℕ) (asks : Plan) (keys : List Key) (list : RecordList) → is_some (asked_by (asks [])) ≡ false → list ≡ found_in config clock asks keys list
finds_none config clock asks [] list none = refl
finds_none config clock asks (key ∷ keys) list none =
    sym (ap (λ (b : Bool). if b then found_in config clock (plan_found asks (live_record list key clock (lifetime_of config key))) keys (found list key clock (lifetime_of config key)) else list) none)

ends_asking : (step : Step) → MayEnd step → is_some (asked_by step) ≡ false
ends_asking done ends = refl
ends_asking (ask op) ends = absurd ends
ends_asking (may_read source next) ends = ends_asking next ends

-- plans that ask the same ask the same behind a record, and find the same
asks_behind : (one other : Plan) → ((told : List Answer) → asked_by (one told) ≡ asked_by (other told)) → (r : Option Record) (told : List Answer)
    → asked_by (plan_found one r told) ≡ asked_by (plan_found other r told)
asks_behind one other same None told = same told
asks_behind one other same (Some r) told = same (answer_of r.shown ∷ told)

found_same : (config : Config) (clock : ℕ) (keys : List Key) (one other : Plan) (list : RecordList) → ((told : List Answer) → asked_by (one told) ≡ asked_by (other told))
    → found_of config clock one list keys ≡ found_of config clock other list keys
found_same config clock [] one other list same = refl
found_same config clock (key ∷ []) one other list same = refl
found_same config clock (directory ∷ object ∷ keys) one other list same =
    ap (λ (asked : Option Operation). record { probe = recall_of config clock list directory; stat = if is_some asked then recall_of config clock list object else None })
    (asks_behind one other same (live_record list directory clock (lifetime_of config directory)) [])

pub finds_same : (config : Config) (clock : ℕ) (keys : List Key) (one other : Plan) (list : RecordList) → ((told : List Answer) → asked_by (one told) ≡ asked_by (other told))
    → found_in config clock one keys list ≡ found_in config clock other keys list
finds_same config clock [] one other list same = refl
finds_same config clock (key ∷ keys) one other list same =
    ap (λ (asked : Option Operation). if is_some asked then found_in config clock (plan_found one (live_record list key clock (lifetime_of config key))) keys (found list key clock (lifetime_of config key)) else list) (same [])
    ∙ ap (λ (l : RecordList). if is_some (asked_by (other [])) then l else list)
    (finds_same config clock keys (plan_found one (live_record list key clock (lifetime_of config key))) (plan_found other (live_record list key clock (lifetime_of config key)))
    (found list key clock (lifetime_of config key)) (asks_behind one other same (live_record list key clock (lifetime_of config key))))

-- ---- of an errand
module _ (config : Config) (clock : ℕ) (list : RecordList) (came : Found) (left : RecordList) where
  pub finds_found : (errand : Errand) → Finds config clock errand list came left → (content : List ℕ) (second : ℕ)
      → came ≡ found_of config clock (plan_of errand content second) list (keys_of errand)
  finds_found (Names (Lookup path suffix implicit)) f content second = f.0 implicit path
  finds_found (Names (Rename from to suffix implicit)) f content second = f.0 (plan_of (Names (Rename from to suffix implicit)) content second)
  finds_found (Files (Attr name)) f content second = f.0 (plan_of (Files (Attr name)) content second)
  finds_found _ f content second = f.0

  pub finds_left : (errand : Errand) → Finds config clock errand list came left → (content : List ℕ) (second : ℕ)
      → left ≡ found_in config clock (plan_of errand content second) (keys_of errand) list
  finds_left (Names (Lookup path suffix implicit)) f content second = f.1 implicit path
  finds_left (Names (Rename from to suffix implicit)) f content second = f.1
  finds_left (Files (Attr name)) f content second = f.1
  finds_left _ f content second = f.1

-- ---- performed
module _ (config : Config) (clock lane : ℕ) (mount : MountModel) (list : RecordList) (before : LoggedState) (request : Request) where
  abbrev second : ℕ
  second = second_at config clock

  -- refused, it made nothing
  pub performed_refused : (errno : ℕ) → refused_at_take config mount request ≡ Some errno
      → Performs config clock lane mount list before request (Error errno) how.Ok [] mount list before
  performed_refused errno is = record {
    done = λ o now served.
        let refused : IsRefused o.taken.at mount request errno = refused_so config o.taken.at mount request errno now.settings is in
        record {
          items = [];
          made = made_none mount before o now.front;
          noted = refl;
          goes = tt;
          ends = subst (λ (r : Request). MayEnd (plan o.taken.at mount r [])) (sym now.request_is) refused.ends;
          answered = sym (ap (λ (r : Request). reply_to o.taken.at mount r []) now.request_is ∙ refused.answered);
          leaves = sym (ap (λ (r : Request). mount_after o.taken.at mount r []) now.request_is ∙ refused.left);
        };
    finds = λ at settings stamp.
        finds_none config clock (plan at mount request) ((rules_of request).keys (view_in mount request)) list
        (ends_asking (plan at mount request []) (refused_so config at mount request errno settings is).ends);
  }

  module _ (errand : Errand) (asks : (at : AtTake) → at.config ≡ config → at.second ≡ second_at config clock → AsksAs (plan_over errand at.contents at.second) (plan at mount request))
      (wanted : wanted_of errand ≡ wants config mount request) where
    -- its errand is that of whichever call it is
    pub errand_so : (o : OpenCall) → IsTakenNow config (second_at config clock) lane before request o → IsErrandOf errand (second_at config clock) lane mount before o
    errand_so o now = record {
      lane_is = now.lane_is;
      front = now.front;
      asks = subst (λ (r : Request). AsksAs (plan_over errand o.taken.at.contents (second_at config clock)) (plan o.taken.at mount r)) (sym now.request_is)
          (subst (λ n. AsksAs (plan_over errand o.taken.at.contents n) (plan o.taken.at mount request)) now.second_is (asks o.taken.at now.settings now.second_is));
      wanted = wanted ∙ ap (λ (c : Config). wants c mount request) (sym now.settings) ∙ ap (wants o.taken.at.config mount) (sym now.request_is);
      contents = now.contents;
    }

    -- what was found of its errand's keys serves, and is what is found of the request's
    module _ (keys : keys_of errand ≡ (rules_of request).keys (view_in mount request)) (came : Found) (left : RecordList) (finds : Finds config clock errand list came left) where
      pub served_so : (o : OpenCall) → AllServed config clock mount list before request o → IsServed came mount before o
      served_so o served = subst (λ (f : Found). IsServed f mount before o)
          (sym (finds_found config clock list came left errand finds [] 0 ∙ ap (found_of config clock (plan_of errand [] 0) list) keys)) (served (plan_of errand [] 0))

      pub finds_so : (at : AtTake) → at.config ≡ config → at.second ≡ second_at config clock
          → left ≡ found_in config clock (plan at mount request) ((rules_of request).keys (view_in mount request)) list
      finds_so at settings stamp =
          finds_left config clock list came left errand finds (content_of errand at.contents) at.second
          ∙ ap (λ ks. found_in config clock (plan_over errand at.contents at.second) ks list) keys
          ∙ finds_same config clock ((rules_of request).keys (view_in mount request)) (plan_over errand at.contents at.second) (plan at mount request) list
          (λ told. ap asked_by (asks at settings stamp told) ∙ asked_without (plan at mount request told))

      pub came_so : (at : AtTake) → at.config ≡ config → at.second ≡ second_at config clock → came ≡ found_taken config clock at mount list request
      came_so at settings stamp =
          finds_found config clock list came left errand finds (content_of errand at.contents) at.second
          ∙ ap (found_of config clock (plan_over errand at.contents at.second) list) keys
          ∙ found_same config clock ((rules_of request).keys (view_in mount request)) (plan_over errand at.contents at.second) (plan at mount request) list
          (λ told. ap asked_by (asks at settings stamp told) ∙ asked_without (plan at mount request told))

  -- it was carried out to its end
  module _ (came : Found) (told : ToldList) (base : Base) (notes : List Note) (after : LoggedState) (some : SomeTaken config clock lane mount list before request)
      (carried : (o : OpenCall) → IsTakenNow config (second_at config clock) lane before request o → AllServed config clock mount list before request o
      → IsCarried mount came before after o told base notes) where
    mine : IsCarried mount came before after some.o told base notes
    mine = carried some.o some.now some.served

    pub serves_now : Serves config mount request (answers_of told.items) base
    serves_now = subst (λ (c : Config). Serves c mount request (answers_of told.items) base) some.now.settings
        (subst (λ (r : Request). Serves some.o.taken.at.config mount r (answers_of told.items) base) some.now.request_is mine.serves)

    pub served_at : (o : OpenCall) → IsTakenNow config (second_at config clock) lane before request o → AllServed config clock mount list before request o
        → IsServedAt config (second_at config clock) mount request base o.taken.at
    served_at o now served = record {
      settings = now.settings;
      second_is = now.second_is;
      holds = subst (λ (c : Config). HoldsWanted o.taken.at.contents (wants c mount request) base.first base.bytes) now.settings
          (subst (λ (r : Request). HoldsWanted o.taken.at.contents (wants o.taken.at.config mount r) base.first base.bytes) now.request_is (carried o now served).holds);
    }

    -- so it is served at some take
    pub record SomeServed : Type 0 where
      pub at : AtTake
      pub served : IsServedAt config (second_at config clock) mount request base at

    pub some_served : SomeServed
    some_served = record { at = some.o.taken.at; served = served_at some.o some.now some.served }

    pub performed_so : (answer : Reply) (left : MountModel) (taken : RecordList)
        → ((at : AtTake) → IsServedAt config (second_at config clock) mount request base at → answer ≡ reply_to at mount request told.items)
        → ((at : AtTake) → IsServedAt config (second_at config clock) mount request base at → left ≡ mount_after at mount request told.items)
        → ((at : AtTake) → at.config ≡ config → at.second ≡ second_at config clock → taken ≡ found_in config clock (plan at mount request) ((rules_of request).keys (view_in mount request)) list)
        → ((at : AtTake) → at.config ≡ config → at.second ≡ second_at config clock → came ≡ found_taken config clock at mount list request)
        → Performs config clock lane mount list before request answer how.Ok notes left taken after
    performed_so answer left taken answered leaves finds came_is = record {
      done = λ o now served. record {
        items = (carried o now served).items;
        made = (carried o now served).made;
        noted = (carried o now served).noted;
        goes = subst (λ (f : Found). AllGoBy f (carried o now served).items (seen_of before after (carried o now served).items)) (came_is o.taken.at now.settings now.second_is) (carried o now served).goes;
        ends = (carried o now served).completes;
        answered = answered o.taken.at (served_at o now served) ∙ ap (λ (r : Request). reply_to o.taken.at mount r told.items) (sym now.request_is) ∙ sym (carried o now served).same.reply;
        leaves = leaves o.taken.at (served_at o now served) ∙ ap (λ (r : Request). mount_after o.taken.at mount r told.items) (sym now.request_is) ∙ sym (carried o now served).same.after;
      };
      finds = finds;
    }

  -- it stopped
  pub performed_short : (came : Found) (notes : List Note) (taken : RecordList) (after : LoggedState)
      → ((o : OpenCall) → IsTakenNow config (second_at config clock) lane before request o → AllServed config clock mount list before request o → StopsShort mount came before after o notes)
      → ((at : AtTake) → at.config ≡ config → at.second ≡ second_at config clock → taken ≡ found_in config clock (plan at mount request) ((rules_of request).keys (view_in mount request)) list)
      → ((at : AtTake) → at.config ≡ config → at.second ≡ second_at config clock → came ≡ found_taken config clock at mount list request)
      → Performs config clock lane mount list before request (Error enomem) how.NoMemory notes mount taken after
  performed_short came notes taken after stopped finds came_is = record {
    done = λ o now served. record {
      items = (stopped o now served).items;
      made = (stopped o now served).made;
      noted = (stopped o now served).noted;
      goes = subst (λ (f : Found). AllGoBy f (stopped o now served).items (seen_of before after (stopped o now served).items)) (came_is o.taken.at now.settings now.second_is) (stopped o now served).goes;
      ends = ((stopped o now served).asks, (stopped o now served).harmless);
      answered = refl;
      leaves = refl;
    };
    finds = finds;
  }
