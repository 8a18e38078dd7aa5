-- A record that lives at a take serves the look that the call asks: by the log's own answer, or, for the probe with which a
-- LOOKUP or RENAME begins, by one that stands for it.
use Rattle.std.proofs.Common.{◌≡◌, ◌≤◌, ℕ, Bool, true, false, Contains, List, [], ◌∷◌, length, Option, Some, None, refl, sym, ap, subst, ◌∙◌, ◌⊎◌, inl, inr, arith}
use Rattle.std.specs.Option.{option_map_or}
use Rattle.std.specs.Prelude.{if◌then◌else◌, ◌<◌}
use Rattle.bucket_api.specs.BucketState.{BucketState}
use Rattle.bucket_api.specs.LogEvent.{LogEvent}
use Rattle.bucket_api.specs.Operation.{Operation, copy, delete, insert, list, read, stat, update}
use Rattle.bucket_api.specs.declared.answers.Answer.{Answer}
use Rattle.bucket_api.specs.declared.answers.Answer.TheVariants as answers
use Rattle.fuse_requests.specs.declared.request.Request.{Request}
use Rattle.fuse_requests.specs.declared.request.Request.TheVariants.{Create, Flush, Fsync, Getattr, Lookup, Mkdir, Mknod, Opendir, Opening, Read, Rename, Rename2, Rmdir, Setattr, Symlink, Unlink, Write}
use Rattle.fuse_requests.specs.declared.request.Request.TheVariants.{BatchForget, Destroy, Forget, Fsyncdir, Init, Interrupt, Readdir, Readlink, Release, Releasedir, Statfs, Unknown}
use Rattle.history_spec.specs.Account.{Account}
use Rattle.history_spec.specs.Fits.{IsAccount}
use Rattle.history_spec.specs.JournalState.{OpenCall, reached}
use Rattle.history_spec.specs.Laws.{IsTaken}
use Rattle.history_spec.specs.Looks.{IsLook, MayRecall, keys_taken}
use Rattle.history_spec.specs.Observing.{observed_at}
use Rattle.history_spec.specs.Pasts.{key_of, lifetime_of}
use Rattle.mount_model.specs.Observing.{Observed}
use Rattle.mount_model.specs.declared.config.Config.{Config}
use Rattle.mount_rules.specs.Dispatch.{goes_on, plan, rules_of, taken_at}
use Rattle.mount_rules.specs.Mount.{MountModel}
use Rattle.mount_rules.specs.Plans.{Allows, Step, ask, done}
use Rattle.mount_rules.specs.Requests.Lookup as lookup
use Rattle.mount_rules.specs.Requests.Rename as rename
use Rattle.mount_rules.specs.Requests.Setattr as setattr
use Rattle.mount_rules.specs.Rules.{AtTake, Taken}
use Rattle.mount_rules.specs.Standing as standing
use Rattle.mount_rules.specs.View.{Sight, View}
use Rattle.object_names.specs.Paths.{has_suffix}
use Rattle.record_spec.specs.RecordList.{Key}
use Rattle.record_spec.specs.Steps.{live_record}
use Rattle.record_spec.specs.declared.records.Record.{Record}
use Rattle.thrift_spec.proofs.LooksAreOne.{looks_are_one}
use Rattle.thrift_spec.proofs.Probes.{record_probes, stands_for, stat_is_told}
use Rattle.thrift_spec.proofs.RecalledWalks.{record_serves}
use Rattle.thrift_spec.proofs.Recalling.{IsOfLook, KeepsMount, moment_told, reached_knows, record_looks}
use Rattle.thrift_spec.proofs.RecordsTell.{record_tells}
use Rattle.thrift_spec.specs.Recalls.{IsOfLog, IsProbing, StandsFor, look_for}
use Rattle.thrift_spec.specs.Records.{RecordsAreTold, answer_of, records_at}

-- ---- a list is asked first
abbrev IsList : Operation → Type 0
IsList (list prefix slash max after) = Unit {0}
IsList op = ⊥

-- no list is asked at the step
abbrev AsksNoList : Step → Type 0
AsksNoList step = (op : Operation) → Allows step op → IsList op → ⊥

no_list : (asked : Operation) → (IsList asked → ⊥) → AsksNoList (ask asked)
no_list asked never op allowed its = never (subst IsList allowed its)

nothing : AsksNoList done
nothing op allowed its = allowed

either : (b : Bool) (one other : Step) → AsksNoList one → AsksNoList other → AsksNoList (if b then one else other)
either true one other first second = first
either false one other first second = second

after_probe_list : (path : List ℕ) (suffixed : Bool) (found : lookup.Probed) → AsksNoList (lookup.after_probe path suffixed found)
after_probe_list path suffixed lookup.present = either suffixed _ _ (no_list _ (λ e. e)) nothing
after_probe_list path suffixed lookup.absent = either suffixed _ _ nothing (no_list _ (λ e. e))
after_probe_list path suffixed lookup.failed = nothing

after_stat_list : (from to : List ℕ) (second : ℕ) (a : Answer) → AsksNoList (rename.after_stat from to second a)
after_stat_list from to second (answers.Meta meta) = no_list _ (λ e. e)
after_stat_list from to second _ = nothing

after_copy_list : (from : List ℕ) (told a : Answer) → AsksNoList (rename.after_copy from told a)
after_copy_list from (answers.Meta meta) (answers.Meta copied) = no_list _ (λ e. e)
after_copy_list from told a = nothing

standing_list : (name : Option (List ℕ)) (told : List Answer) → AsksNoList (standing.plan name told)
standing_list None told = nothing
standing_list (Some name) [] = no_list _ (λ e. e)
standing_list (Some name) (a ∷ more) = nothing

update_list : (asked : setattr.Asked) (second : ℕ) (file : Sight) (told : List Answer) → AsksNoList (setattr.update_plan asked second file told)
update_list asked second file [] = no_list _ (λ e. e)
update_list asked second file (a ∷ more) = nothing

setattr_list : (asked : setattr.Asked) (second : ℕ) (view : View) (change : setattr.Change) (told : List Answer) → AsksNoList (setattr.plan_by asked second view change told)
setattr_list asked second view setattr.resize told = nothing
setattr_list asked second view setattr.stage_time told = nothing
setattr_list asked second view setattr.set_time told = by view.node
  where
    by : (found : Option Sight) → AsksNoList (option_map_or (λ file. setattr.update_plan asked second file told) found done)
    by None = nothing
    by (Some file) = update_list asked second file told
setattr_list asked second view setattr.look told = standing_list (standing.asked_name view) told

-- a list that is asked behind these answers is asked behind none
abbrev ListIsFirst : List Answer → Step → Type 0
ListIsFirst told step = (op : Operation) → Allows step op → IsList op → told ≡ []

never_list : (told : List Answer) (step : Step) → AsksNoList step → ListIsFirst told step
never_list told step never op allowed its = absurd (never op allowed its)

lookup_list : (implicit : Bool) (path : List ℕ) (suffixed : Bool) (told : List Answer) → ListIsFirst told (lookup.plan implicit path suffixed told)
lookup_list implicit path suffixed [] = λ op allowed its. refl
lookup_list implicit path suffixed (a ∷ []) = never_list (a ∷ []) (lookup.after_probe path suffixed (lookup.probed a)) (after_probe_list path suffixed (lookup.probed a))
lookup_list implicit path suffixed (a ∷ b ∷ more) = never_list (a ∷ b ∷ more) done nothing

moving_list : (implicit : Bool) (from to : List ℕ) (suffixed : Bool) (second : ℕ) (told : List Answer) → ListIsFirst told (rename.moving_plan implicit from to suffixed second told)
moving_list implicit from to suffixed second [] = λ op allowed its. refl
moving_list implicit from to suffixed second (a ∷ []) = never_list (a ∷ []) (lookup.after_probe from suffixed (lookup.probed a)) (after_probe_list from suffixed (lookup.probed a))
moving_list implicit from to suffixed second (a ∷ b ∷ []) = never_list (a ∷ b ∷ []) (rename.after_stat from to second b) (after_stat_list from to second b)
moving_list implicit from to suffixed second (a ∷ b ∷ c ∷ []) = never_list (a ∷ b ∷ c ∷ []) (rename.after_copy from b c) (after_copy_list from b c)
moving_list implicit from to suffixed second (a ∷ b ∷ c ∷ d ∷ more) = never_list (a ∷ b ∷ c ∷ d ∷ more) done nothing

rename_list : (names : rename.Names) (taken : Taken) (told : List Answer) → ListIsFirst told (rename.plan names taken told)
rename_list names taken told = by (rename.is_same names taken.view)
  where
    moving : ListIsFirst told (rename.moving_plan taken.at.config.implicit_dirs (rename.from_of names taken.view) (rename.to_of names taken.view) (has_suffix names.name) taken.at.second told)
    moving = moving_list taken.at.config.implicit_dirs (rename.from_of names taken.view) (rename.to_of names taken.view) (has_suffix names.name) taken.at.second told

    by : (same : Bool) → ListIsFirst told (if same then done else rename.moving_plan taken.at.config.implicit_dirs (rename.from_of names taken.view) (rename.to_of names taken.view) (has_suffix names.name) taken.at.second told)
    by true = never_list told done nothing
    by false = moving

-- It is so, and of a request that looks for a directory.
abbrev IsFirstProbe : List Answer → Request → Type 0
IsFirstProbe told request = (told ≡ []) × IsProbing request

none_in : {X : Type 0} {A : Type 0} (x : X) → Contains [] x → A
none_in x there = let below : there.0 < 0 = there.1 in absurd (omega (arith, below))

rules_list : (taken : Taken) (told : List Answer) (request : Request) (view : View) (key : Key) (op : Operation) → Contains ((rules_of request).keys view) key
    → Allows ((rules_of request).plan taken told) op → IsList op → IsFirstProbe told request
rules_list taken told (Lookup node name) view key op asked allowed its = (lookup_list taken.at.config.implicit_dirs (lookup.path_of name taken.view) (has_suffix name) told op allowed its, tt)
rules_list taken told (Rename node newdir name newname) view key op asked allowed its = (rename_list (record { name = name; newdir = newdir; newname = newname }) taken told op allowed its, tt)
rules_list taken told (Rename2 node newdir flags name newname) view key op asked allowed its = (rename_list (record { name = name; newdir = newdir; newname = newname }) taken told op allowed its, tt)
rules_list taken told (Getattr node) view key op asked allowed its = absurd (standing_list (standing.asked_name taken.view) told op allowed its)
rules_list taken told (Opening node flags) view key op asked allowed its = absurd (standing_list (standing.asked_name taken.view) told op allowed its)
rules_list taken told (Setattr node valid size mtime nanos) view key op asked allowed its =
    absurd (setattr_list (record { valid = valid; size = size; seconds = mtime; nanos = nanos }) taken.at.second taken.view _ told op allowed its)
rules_list taken told (Read node fh first size) view key op asked allowed its = none_in key asked
rules_list taken told (Write node fh first content) view key op asked allowed its = none_in key asked
rules_list taken told (Flush node fh) view key op asked allowed its = none_in key asked
rules_list taken told (Fsync node fh) view key op asked allowed its = none_in key asked
rules_list taken told (Opendir node) view key op asked allowed its = none_in key asked
rules_list taken told (Create node name) view key op asked allowed its = none_in key asked
rules_list taken told (Symlink node name target) view key op asked allowed its = none_in key asked
rules_list taken told (Mknod node mode name) view key op asked allowed its = none_in key asked
rules_list taken told (Mkdir node name) view key op asked allowed its = none_in key asked
rules_list taken told (Unlink node name) view key op asked allowed its = none_in key asked
rules_list taken told (Rmdir node name) view key op asked allowed its = none_in key asked
rules_list taken told (Forget node count) view key op asked allowed its = none_in key asked
rules_list taken told (BatchForget pairs) view key op asked allowed its = none_in key asked
rules_list taken told (Release node fh) view key op asked allowed its = none_in key asked
rules_list taken told Statfs view key op asked allowed its = none_in key asked
rules_list taken told (Init major minor readahead flags) view key op asked allowed its = none_in key asked
rules_list taken told (Readdir node fh first size) view key op asked allowed its = none_in key asked
rules_list taken told (Releasedir node fh) view key op asked allowed its = none_in key asked
rules_list taken told (Fsyncdir node fh) view key op asked allowed its = none_in key asked
rules_list taken told Destroy view key op asked allowed its = none_in key asked
rules_list taken told (Readlink node) view key op asked allowed its = none_in key asked
rules_list taken told Interrupt view key op asked allowed its = none_in key asked
rules_list taken told (Unknown opcode) view key op asked allowed its = none_in key asked

list_is_first : (at : AtTake) (mount : MountModel) (request : Request) (view : View) (key : Key) (told : List Answer) (op : Operation) → Contains ((rules_of request).keys view) key
    → Allows (plan at mount request told) op → IsList op → IsFirstProbe told request
list_is_first at mount request view key told op asked = by (goes_on mount request)
  where
    by : (on : Bool) → Allows ((if on then (rules_of request).plan (taken_at at mount request) else (λ answers. done)) told) op → IsList op → IsFirstProbe told request
    by true allowed its = rules_list (taken_at at mount request) told request view key op asked allowed its
    by false allowed its = absurd allowed

-- ---- the look that is served
-- The log tells at the record's moment of the look that is asked, and of what the record shows; and the record's answer is the
-- log's, or stands for it.
pub record ServesAsked (start : BucketState) (log : List LogEvent) (mount : MountModel) (o : OpenCall) (told : List Answer) (op : Operation) (r : Record) : Type 0 where
  pub observed : Observed
  pub is : observed_at start log r.moment ≡ Some observed
  pub op_is : observed.op ≡ op
  pub look : IsLook op
  pub may : MayRecall o op r.moment
  pub within : r.moment ≤ length log
  pub stands : (observed.answer ≡ answer_of r.shown)
      ⊎ ((told ≡ []) × StandsFor o.taken.at mount o.taken.request observed (record { op = op; moment = r.moment; answer = answer_of r.shown }))

module _ (config : Config) (start : BucketState) (log : List LogEvent) (turns : Account) (o : OpenCall) (stays : KeepsMount config start log)
    (account : IsAccount config start log turns) (told : RecordsAreTold config start log turns) (taken : IsTaken config start log (reached config start log turns) o) where
  module _ (answers : List Answer) (op : Operation) (r : Record) (allowed : Allows (plan o.taken.at (reached config start log turns).mount o.taken.request answers) op) (look : IsLook op)
      (asked : Contains (keys_taken o.taken) (key_of op)) (lives : live_record (records_at config start log turns) (key_of op) o.clock (lifetime_of config (key_of op)) ≡ Some r) where
    of_log : IsOfLog start log (reached config start log turns).front (key_of op) r
    of_log = record_tells config start log turns (key_of op) o.clock (lifetime_of config (key_of op)) r account told lives

    of_look : IsOfLook start log config.implicit_dirs (key_of op) r
    of_look = record_looks config start log stays turns (key_of op) o.clock (lifetime_of config (key_of op)) r account told lives

    one : of_look.observed ≡ of_log.observed
    one = let both : Some of_look.observed ≡ Some of_log.observed = sym of_look.is ∙ of_log.is in cc

    asked_is : op ≡ look_for config.implicit_dirs (key_of op)
    asked_is =
        looks_are_one o.taken.at (reached config start log turns).mount (reached_knows config start log stays turns account).mount o.taken.request answers op allowed look
        ∙ ap (λ (c : Config). look_for c.implicit_dirs (key_of op)) (ap (λ (x : OpenCall). x.taken.at.config) taken.so)

    op_same : of_log.observed.op ≡ op
    op_same = sym (ap (λ (s : Observed). s.op) one) ∙ (of_look.op_is ∙ sym asked_is)

    at_moment : of_log.observed.moment ≡ r.moment
    at_moment = moment_told start log r.moment of_log.observed of_log.is

    abbrev Stands : Operation → Type 0
    Stands p = (of_log.observed.answer ≡ answer_of r.shown)
        ⊎ ((answers ≡ []) × StandsFor o.taken.at (reached config start log turns).mount o.taken.request of_log.observed (record { op = p; moment = r.moment; answer = answer_of r.shown }))

    probed_so : (p : Operation) → IsFirstProbe answers o.taken.request → Stands p
    probed_so p first = inr (
      first.0,
      stands_for of_log.observed (record { op = p; moment = r.moment; answer = answer_of r.shown }) (record_probes of_log.observed.answer r.shown of_log.shown) at_moment
          o.taken.at (reached config start log turns).mount o.taken.request first.1,
    )

    stands_by : (p : Operation) → of_log.observed.op ≡ p → IsLook p → (IsList p → IsFirstProbe answers o.taken.request) → Stands p
    stands_by (stat name) its look first = inl (sym (stat_is_told start log r.moment of_log.observed name r.shown of_log.is its of_log.shown))
    stands_by (list prefix slash max after) its look first = probed_so (list prefix slash max after) (first tt)
    stands_by (read name generation first_byte count) its look first = absurd look
    stands_by (insert name content pairs only stamp) its look first = absurd look
    stands_by (update name pairs only only_meta stamp) its look first = absurd look
    stands_by (delete name only) its look first = absurd look
    stands_by (copy from generation to stamp) its look first = absurd look

    pub serves_asked : ServesAsked start log (reached config start log turns).mount o answers op r
    serves_asked = record {
      observed = of_log.observed;
      is = of_log.is;
      op_is = op_same;
      look = look;
      may = record_serves config start log turns o taken told op r asked lives;
      within = let below : r.moment ≤ (reached config start log turns).front = of_log.within in let within : (reached config start log turns).front ≤ length log = account.within in omega arith;
      stands = stands_by op op_same look
          (λ its. list_is_first o.taken.at (reached config start log turns).mount o.taken.request o.taken.view (key_of op) answers op asked allowed its);
    }
