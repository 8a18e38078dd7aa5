-- What a call found at its take of the look that it asks is of a record that lived, of a key for which it looks.
use Rattle.std.proofs.Common.{◌≡◌, ℕ, Bool, true, false, cond, Contains, List, [], ◌∷◌, Option, Some, None, refl, sym, ap, subst, ◌∙◌, arith}
use Rattle.std.specs.Option.{option_map_or}
use Rattle.std.specs.Prelude.{if◌then◌else◌, option_map, is_some}
use Rattle.bucket_api.specs.Listing.{ends_in_slash}
use Rattle.bucket_api.specs.Operation.{Operation, copy, delete, insert, list, read, stat, update}
use Rattle.bucket_api.specs.declared.answers.Answer.{Answer}
use Rattle.bucket_api.specs.declared.answers.Answer.TheVariants as answers
use Rattle.fuse_requests.specs.declared.request.Request.{Request}
use Rattle.fuse_requests.specs.declared.request.Request.TheVariants.{Create, Flush, Fsync, Getattr, Lookup, Mkdir, Mknod, Opendir, Opening, Read, Rename, Rename2, Rmdir, Setattr, Symlink, Unlink, Write}
use Rattle.fuse_requests.specs.declared.request.Request.TheVariants.{BatchForget, Destroy, Forget, Fsyncdir, Init, Interrupt, Readdir, Readlink, Release, Releasedir, Statfs, Unknown}
use Rattle.history_spec.specs.Pasts.{lifetime_of}
use Rattle.mount_kept.specs.Recalls.{both_found, found_for, is_probe, recall_of, recalled}
use Rattle.mount_kept.specs.Serves.{IsOfRecord, found_of}
use Rattle.mount_kept.specs.declared.recall.Found.{Found}
use Rattle.mount_kept.specs.declared.recall.Recall.{Recall}
use Rattle.mount_model.specs.declared.config.Config.{Config}
use Rattle.mount_rules.specs.Dispatch.{goes_on, plan, rules_of, taken_at, view_in}
use Rattle.mount_rules.specs.Mount.{IsMount, MountModel}
use Rattle.mount_rules.specs.Plans.{Allows, Plan, Step, ask, asked_by, done}
use Rattle.mount_rules.specs.Requests.Lookup as lookup
use Rattle.mount_rules.specs.Requests.Rename as rename
use Rattle.mount_rules.specs.Requests.Setattr as setattr
use Rattle.mount_rules.specs.Rules.{AtTake}
use Rattle.mount_rules.specs.Standing as standing
use Rattle.mount_rules.specs.View.{View}
use Rattle.object_names.specs.Paths.{dir_prefix_of, has_suffix}
use Rattle.record_spec.specs.RecordList.{Key, RecordList}
use Rattle.record_spec.specs.Steps.{live_record}
use Rattle.record_spec.specs.declared.records.Record.{Record}
use Rattle.thrift_spec.proofs.LookSteps.{AsksObject, NamesObject, asked_object, dir_ends}
use Rattle.thrift_spec.proofs.LooksAreOne.{as_rename, lookup_named, refuses_none, rename_named}
use Rattle.thrift_spec.specs.Records.{plan_found}

no_recall : {A : Type 0} (r : Recall) → None ≡ Some r → A
no_recall r e = absurd (never r e)
  where
    never : (r : Recall) → None ≡ Some r → ⊥
    never r e = cc

-- ---- what was found of what is asked
pub probe_for : (implicit : Bool) (path : List ℕ) (found : Found) → NamesObject path → found_for found (lookup.probe implicit path) ≡ found.probe
probe_for true path found named = refl
probe_for false path found named = ap (λ b. if b then found.probe else found.stat) (dir_ends false path named.some)

pub stat_for : (path : List ℕ) (found : Found) → NamesObject path → found_for found (stat path) ≡ found.stat
stat_for path found named = ap (λ b. if b then found.probe else found.stat) named.ends

abbrev nothing : Found
nothing = record { probe = None; stat = None }

pub none_taken : (op : Operation) (r : Recall) → found_for nothing op ≡ Some r → ⊥
none_taken (list prefix slash max after) r e = by (is_probe slash max after) e
  where
    by : (b : Bool) → cond b None None ≡ Some r → ⊥
    by true e = no_recall r e
    by false e = no_recall r e
none_taken (stat name) r e = by (ends_in_slash name) e
  where
    by : (b : Bool) → cond b None None ≡ Some r → ⊥
    by true e = no_recall r e
    by false e = no_recall r e
none_taken (read name generation first count) r e = no_recall r e
none_taken (insert name content pairs only stamp) r e = no_recall r e
none_taken (update name pairs only only_meta stamp) r e = no_recall r e
none_taken (delete name only) r e = no_recall r e
none_taken (copy from generation to stamp) r e = no_recall r e

module _ (config : Config) (now : ℕ) (records : RecordList) where
  -- what is recalled is of a record that lives
  record Lives (key : Key) (recall : Recall) : Type 0 where
    r : Record
    lives : live_record records key now (lifetime_of config key) ≡ Some r
    is : recall ≡ recalled r

  recall_lives : (key : Key) (recall : Recall) → recall_of config now records key ≡ Some recall → Lives key recall
  recall_lives key recall = by (live_record records key now (lifetime_of config key)) refl
    where
      by : (found : Option Record) → live_record records key now (lifetime_of config key) ≡ found → option_map recalled found ≡ Some recall → Lives key recall
      by None there e = no_recall recall e
      by (Some r) there e = let same : recalled r ≡ recall = cc in record { r = r; lives = there; is = sym same }

  module _ (keys : List Key) (found : Found) where
    -- what was found of what is asked next
    abbrev Finds : Operation → Type 0
    Finds op = (recall : Recall) → found_for found op ≡ Some recall → IsOfRecord config now records keys op recall

    abbrev StepFinds : Step → Type 0
    StepFinds step = (op : Operation) → Allows step op → Finds op

    finds_done : StepFinds done
    finds_done op allowed = absurd allowed

    finds_asked : (asked : Operation) → Finds asked → StepFinds (ask asked)
    finds_asked asked finds op allowed = subst Finds (sym allowed) finds

    finds_either : (b : Bool) (one other : Step) → StepFinds one → StepFinds other → StepFinds (if b then one else other)
    finds_either true one other first second = first
    finds_either false one other first second = second

    probe_finds : (implicit : Bool) (path : List ℕ) → NamesObject path → Contains keys (dir_prefix_of path)
        → ((recall : Recall) → found.probe ≡ Some recall → recall_of config now records (dir_prefix_of path) ≡ Some recall) → Finds (lookup.probe implicit path)
    probe_finds implicit path named among has recall e =
        let lives : Lives (dir_prefix_of path) recall = recall_lives (dir_prefix_of path) recall (has recall (sym (probe_for implicit path found named) ∙ e)) in
        by implicit lives
      where
        by : (b : Bool) → Lives (dir_prefix_of path) recall → IsOfRecord config now records keys (lookup.probe b path) recall
        by true lives = record { look = (refl, refl, refl); asked = among; r = lives.r; lives = lives.lives; is = lives.is }
        by false lives = record { look = tt; asked = among; r = lives.r; lives = lives.lives; is = lives.is }

    stat_finds : (path : List ℕ) → NamesObject path → ((recall : Recall) → found.stat ≡ Some recall → Contains keys path × (recall_of config now records path ≡ Some recall)) → Finds (stat path)
    stat_finds path named has recall e =
        let its = has recall (sym (stat_for path found named) ∙ e) in
        let lives : Lives path recall = recall_lives path recall its.1 in
        record { look = tt; asked = its.0; r = lives.r; lives = lives.lives; is = lives.is }

    after_probe_finds : (path : List ℕ) → Finds (stat path) → (suffixed : Bool) (came : lookup.Probed) → StepFinds (lookup.after_probe path suffixed came)
    after_probe_finds path finds suffixed lookup.present = finds_either suffixed _ _ (finds_asked _ finds) finds_done
    after_probe_finds path finds suffixed lookup.absent = finds_either suffixed _ _ finds_done (finds_asked _ finds)
    after_probe_finds path finds suffixed lookup.failed = finds_done

    lookup_finds : (implicit : Bool) (path : List ℕ) (suffixed : Bool) → Finds (lookup.probe implicit path) → Finds (stat path) → (told : List Answer) → StepFinds (lookup.plan implicit path suffixed told)
    lookup_finds implicit path suffixed probe finds [] = finds_asked _ probe
    lookup_finds implicit path suffixed probe finds (a ∷ []) = after_probe_finds path finds suffixed (lookup.probed a)
    lookup_finds implicit path suffixed probe finds (a ∷ b ∷ more) = finds_done

    after_stat_finds : (from to : List ℕ) (second : ℕ) (a : Answer) → StepFinds (rename.after_stat from to second a)
    after_stat_finds from to second (answers.Meta meta) = finds_asked _ (λ recall e. no_recall recall e)
    after_stat_finds from to second _ = finds_done

    after_copy_finds : (from : List ℕ) (told a : Answer) → StepFinds (rename.after_copy from told a)
    after_copy_finds from (answers.Meta meta) (answers.Meta copied) = finds_asked _ (λ recall e. no_recall recall e)
    after_copy_finds from told a = finds_done

    moving_finds : (implicit : Bool) (from to : List ℕ) (suffixed : Bool) (second : ℕ) → Finds (lookup.probe implicit from) → Finds (stat from) → (told : List Answer)
        → StepFinds (rename.moving_plan implicit from to suffixed second told)
    moving_finds implicit from to suffixed second probe finds [] = finds_asked _ probe
    moving_finds implicit from to suffixed second probe finds (a ∷ []) = after_probe_finds from finds suffixed (lookup.probed a)
    moving_finds implicit from to suffixed second probe finds (a ∷ b ∷ []) = after_stat_finds from to second b
    moving_finds implicit from to suffixed second probe finds (a ∷ b ∷ c ∷ []) = after_copy_finds from b c
    moving_finds implicit from to suffixed second probe finds (a ∷ b ∷ c ∷ d ∷ more) = finds_done

  first_key : (key : Key) (keys : List Key) → Contains (key ∷ keys) key
  first_key key keys = (0, omega arith, refl)

  second_key : (directory key : Key) (keys : List Key) → Contains (directory ∷ key ∷ keys) key
  second_key directory key keys = (1, omega arith, refl)

  -- ---- the requests that look for keys
  module _ (asks : Plan) where
    abbrev found_in_turn : List Key → Found
    found_in_turn keys = found_of config now asks records keys

    -- of the object's key only where it is asked for still
    object_recalled : (directory path : Key) (recall : Recall) → (both_found config now asks records directory path).stat ≡ Some recall → recall_of config now records path ≡ Some recall
    object_recalled directory path recall = by (is_some (asked_by (plan_found asks (live_record records directory now (lifetime_of config directory)) [])))
      where
        by : (more : Bool) → (if more then recall_of config now records path else None) ≡ Some recall → recall_of config now records path ≡ Some recall
        by true e = e
        by false e = no_recall recall e

    lookup_found : (implicit : Bool) (path : List ℕ) (suffixed : Bool) (told : List Answer) → NamesObject path
        → StepFinds (dir_prefix_of path ∷ path ∷ []) (found_of config now asks records (dir_prefix_of path ∷ path ∷ [])) (lookup.plan implicit path suffixed told)
    lookup_found implicit path suffixed told named =
        lookup_finds (dir_prefix_of path ∷ path ∷ []) (both_found config now asks records (dir_prefix_of path) path) implicit path suffixed
        (probe_finds (dir_prefix_of path ∷ path ∷ []) (both_found config now asks records (dir_prefix_of path) path) implicit path named (first_key (dir_prefix_of path) (path ∷ [])) (λ recall e. e))
        (stat_finds (dir_prefix_of path ∷ path ∷ []) (both_found config now asks records (dir_prefix_of path) path) path named
        (λ recall e. (second_key (dir_prefix_of path) path [], object_recalled (dir_prefix_of path) path recall e)))
        told

    -- what is found of a directory's key alone
    abbrev probe_alone : List ℕ → Found
    probe_alone from = record { probe = recall_of config now records (dir_prefix_of from); stat = None }

    moving_found : (implicit : Bool) (from to : List ℕ) (suffixed : Bool) (second : ℕ) (told : List Answer) → NamesObject from
        → StepFinds (dir_prefix_of from ∷ []) (found_of config now asks records (dir_prefix_of from ∷ [])) (rename.moving_plan implicit from to suffixed second told)
    moving_found implicit from to suffixed second told named =
        subst (λ b. StepFinds (dir_prefix_of from ∷ [])
        (if b then record { probe = recall_of config now records (dir_prefix_of from); stat = None } else record { probe = None; stat = recall_of config now records (dir_prefix_of from) })
        (rename.moving_plan implicit from to suffixed second told)) (sym (dir_ends implicit from named.some))
        (moving_finds (dir_prefix_of from ∷ []) (probe_alone from) implicit from to suffixed second
        (probe_finds (dir_prefix_of from ∷ []) (probe_alone from) implicit from named (first_key (dir_prefix_of from) []) (λ recall e. e))
        (stat_finds (dir_prefix_of from ∷ []) (probe_alone from) from named (λ recall e. no_recall recall e)) told)

    standing_found : (name : Option (List ℕ)) (told : List Answer) → AsksObject false name
        → StepFinds (option_map_or (λ n. n ∷ []) name []) (found_of config now asks records (option_map_or (λ n. n ∷ []) name [])) (standing.plan name told)
    standing_found None told named = finds_done [] nothing
    standing_found (Some name) [] named =
        subst (λ b. StepFinds (name ∷ []) (if b then record { probe = recall_of config now records name; stat = None } else record { probe = None; stat = recall_of config now records name }) (ask (stat name)))
        (sym named.ends)
        (finds_asked (name ∷ []) (record { probe = None; stat = recall_of config now records name }) (stat name)
        (stat_finds (name ∷ []) (record { probe = None; stat = recall_of config now records name }) name named (λ recall e. (first_key name [], e))))
    standing_found (Some name) (a ∷ more) named = finds_done (name ∷ []) (found_of config now asks records (name ∷ []))

    -- nothing is found where no key is looked for
    no_key_found : (step : Step) → StepFinds [] (found_of config now asks records []) step
    no_key_found step op allowed recall e = absurd (none_taken op recall e)

    module _ (at : AtTake) (mount : MountModel) (is : IsMount mount) where
      rename_found : (names : rename.Names) (view : View) (told : List Answer) → rename.refusal names view ≡ None
          → StepFinds (if rename.is_same names view then [] else dir_prefix_of (rename.from_of names view) ∷ [])
          (found_of config now asks records (if rename.is_same names view then [] else dir_prefix_of (rename.from_of names view) ∷ [])) (rename.plan names (record { at = at; view = view }) told)
      rename_found names view told free = by (rename.is_same names view)
        where
          named : NamesObject (rename.from_of names view)
          named = rename_named names view free

          by : (same : Bool) → StepFinds (if same then [] else dir_prefix_of (rename.from_of names view) ∷ [])
              (found_of config now asks records (if same then [] else dir_prefix_of (rename.from_of names view) ∷ []))
              (if same then done else rename.moving_plan at.config.implicit_dirs (rename.from_of names view) (rename.to_of names view) (has_suffix names.name) at.second told)
          by true = finds_done [] nothing
          by false = moving_found at.config.implicit_dirs (rename.from_of names view) (rename.to_of names view) (has_suffix names.name) at.second told named

      setattr_found : (asked : setattr.Asked) (view : View) (change : setattr.Change) (told : List Answer) → AsksObject false (standing.asked_name view)
          → StepFinds (setattr.keys_by view change) (found_of config now asks records (setattr.keys_by view change)) (setattr.plan_by asked at.second view change told)
      setattr_found asked view setattr.resize told named = no_key_found (setattr.plan_by asked at.second view setattr.resize told)
      setattr_found asked view setattr.stage_time told named = no_key_found (setattr.plan_by asked at.second view setattr.stage_time told)
      setattr_found asked view setattr.set_time told named = no_key_found (setattr.plan_by asked at.second view setattr.set_time told)
      setattr_found asked view setattr.look told named = standing_found (standing.asked_name view) told named

      abbrev RulesFind : Request → List Answer → Type 0
      RulesFind request told =
          StepFinds ((rules_of request).keys (view_in mount request)) (found_of config now asks records ((rules_of request).keys (view_in mount request))) ((rules_of request).plan (taken_at at mount request) told)

      rules_find : (request : Request) → (rules_of request).refusal (view_in mount request) ≡ None → (told : List Answer) → RulesFind request told
      rules_find (Lookup node name) free told =
          lookup_found at.config.implicit_dirs (lookup.path_of name (view_in mount (Lookup node name))) (has_suffix name) told (lookup_named name (view_in mount (Lookup node name)) free)
      rules_find (Rename node newdir name newname) free told = rename_found (record { name = name; newdir = newdir; newname = newname }) (view_in mount (Rename node newdir name newname)) told free
      rules_find (Rename2 node newdir flags name newname) free told =
          rename_found (record { name = name; newdir = newdir; newname = newname }) (view_in mount (Rename2 node newdir flags name newname)) told
          (as_rename at mount is flags (record { name = name; newdir = newdir; newname = newname }) (view_in mount (Rename2 node newdir flags name newname)) free)
      rules_find (Getattr node) free told = standing_found (standing.asked_name (view_in mount (Getattr node))) told (asked_object false mount is (view_in mount (Getattr node)).staged node)
      rules_find (Opening node flags) free told =
          standing_found (standing.asked_name (view_in mount (Opening node flags))) told (asked_object false mount is (view_in mount (Opening node flags)).staged node)
      rules_find (Setattr node valid size mtime nanos) free told =
          setattr_found (record { valid = valid; size = size; seconds = mtime; nanos = nanos }) (view_in mount (Setattr node valid size mtime nanos)) _ told
          (asked_object false mount is (view_in mount (Setattr node valid size mtime nanos)).staged node)
      rules_find (Read node fh first size) free told = λ op allowed recall e. absurd (none_taken op recall e)
      rules_find (Write node fh first content) free told = λ op allowed recall e. absurd (none_taken op recall e)
      rules_find (Flush node fh) free told = λ op allowed recall e. absurd (none_taken op recall e)
      rules_find (Fsync node fh) free told = λ op allowed recall e. absurd (none_taken op recall e)
      rules_find (Opendir node) free told = λ op allowed recall e. absurd (none_taken op recall e)
      rules_find (Create node name) free told = λ op allowed recall e. absurd (none_taken op recall e)
      rules_find (Symlink node name target) free told = λ op allowed recall e. absurd (none_taken op recall e)
      rules_find (Mknod node mode name) free told = λ op allowed recall e. absurd (none_taken op recall e)
      rules_find (Mkdir node name) free told = λ op allowed recall e. absurd (none_taken op recall e)
      rules_find (Unlink node name) free told = λ op allowed recall e. absurd (none_taken op recall e)
      rules_find (Rmdir node name) free told = λ op allowed recall e. absurd (none_taken op recall e)
      rules_find (Forget node count) free told = λ op allowed recall e. absurd (none_taken op recall e)
      rules_find (BatchForget pairs) free told = λ op allowed recall e. absurd (none_taken op recall e)
      rules_find (Release node fh) free told = λ op allowed recall e. absurd (none_taken op recall e)
      rules_find Statfs free told = λ op allowed recall e. absurd (none_taken op recall e)
      rules_find (Init major minor readahead flags) free told = λ op allowed recall e. absurd (none_taken op recall e)
      rules_find (Readdir node fh first size) free told = λ op allowed recall e. absurd (none_taken op recall e)
      rules_find (Releasedir node fh) free told = λ op allowed recall e. absurd (none_taken op recall e)
      rules_find (Fsyncdir node fh) free told = λ op allowed recall e. absurd (none_taken op recall e)
      rules_find Destroy free told = λ op allowed recall e. absurd (none_taken op recall e)
      rules_find (Readlink node) free told = λ op allowed recall e. absurd (none_taken op recall e)
      rules_find Interrupt free told = λ op allowed recall e. absurd (none_taken op recall e)
      rules_find (Unknown opcode) free told = λ op allowed recall e. absurd (none_taken op recall e)

      -- What was found of a look that the plan allows is of a record that lived, of a key for which the request looks.
      pub found_is_of_record : (request : Request) (told : List Answer) (op : Operation) (recall : Recall) → Allows (plan at mount request told) op
          → found_for (found_of config now asks records ((rules_of request).keys (view_in mount request))) op ≡ Some recall
          → IsOfRecord config now records ((rules_of request).keys (view_in mount request)) op recall
      found_is_of_record request told op recall = by (goes_on mount request) refl
        where
          by : (on : Bool) → goes_on mount request ≡ on → Allows ((if on then (rules_of request).plan (taken_at at mount request) else (λ answers. done)) told) op
              → found_for (found_of config now asks records ((rules_of request).keys (view_in mount request))) op ≡ Some recall
              → IsOfRecord config now records ((rules_of request).keys (view_in mount request)) op recall
          by true on allowed e = rules_find request (refuses_none mount request on) told op allowed recall e
          by false on allowed e = absurd allowed
