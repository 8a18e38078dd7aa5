-- Where no record was found of a look, none lived of its key: the keys are looked for in turn, while the plan still asks anything;
-- and a plan asks no key twice.
use Rattle.std.proofs.Common.{◌≡◌, ℕ, zero, suc, Bool, true, false, Contains, List, [], ◌∷◌, Option, Some, None, refl, sym, ap, subst, ◌∙◌, arith}
use Rattle.std.specs.Option.{option_map_or}
use Rattle.std.specs.Prelude.{if◌then◌else◌, option_map, is_some}
use Rattle.bucket_api.specs.Listing.{ends_in_slash}
use Rattle.bucket_api.specs.Operation.{Operation, copy, delete, stat}
use Rattle.bucket_api.specs.declared.answers.Answer.{Answer}
use Rattle.bucket_api.specs.declared.answers.Answer.TheVariants as answers
use Rattle.fuse_requests.specs.declared.request.Request.{Request}
use Rattle.fuse_requests.specs.declared.request.Request.TheVariants.{Create, Flush, Fsync, Getattr, Lookup, Mkdir, Mknod, Opendir, Opening, Read, Rename, Rename2, Rmdir, Setattr, Symlink, Unlink, Write}
use Rattle.fuse_requests.specs.declared.request.Request.TheVariants.{BatchForget, Destroy, Forget, Fsyncdir, Init, Interrupt, Readdir, Readlink, Release, Releasedir, Statfs, Unknown}
use Rattle.history_spec.specs.Looks.{IsLook}
use Rattle.history_spec.specs.Pasts.{key_of, lifetime_of}
use Rattle.mount_kept.proofs.Serving.{probe_for, stat_for}
use Rattle.mount_kept.specs.Recalls.{both_found, found_for, found_left, recall_of, recalled}
use Rattle.mount_kept.specs.Serves.{found_of}
use Rattle.mount_kept.specs.declared.recall.Found.{Found}
use Rattle.mount_kept.specs.declared.recall.Recall.{Recall}
use Rattle.mount_model.specs.declared.config.Config.{Config}
use Rattle.mount_rules.specs.Dispatch.{goes_on, plan, rules_of, taken_at, view_in}
use Rattle.mount_rules.specs.Mount.{IsMount, MountModel}
use Rattle.mount_rules.specs.Plans.{Allows, Plan, Step, ask, asked_by, done}
use Rattle.mount_rules.specs.Requests.Lookup as lookup
use Rattle.mount_rules.specs.Requests.Lookup.{Probed, absent, failed, present, probed}
use Rattle.mount_rules.specs.Requests.Rename as rename
use Rattle.mount_rules.specs.Requests.Setattr as setattr
use Rattle.mount_rules.specs.Rules.{AtTake}
use Rattle.mount_rules.specs.Standing as standing
use Rattle.mount_rules.specs.View.{View}
use Rattle.object_names.specs.Paths.{dir_prefix_of, has_suffix}
use Rattle.record_spec.specs.RecordList.{Key, RecordList}
use Rattle.record_spec.specs.Steps.{live_record}
use Rattle.record_spec.specs.declared.records.Record.{Record}
use Rattle.thrift_spec.proofs.LookSteps.{AsksObject, NamesObject, asked_object, dir_ends}
use Rattle.thrift_spec.proofs.LooksAreOne.{as_rename, lookup_named, refuses_none, rename_named}
use Rattle.thrift_spec.specs.Records.{answer_of, plan_found}

-- a probe takes nothing of the object's key
probe_leaves : (implicit : Bool) (path : List ℕ) (found : Found) → NamesObject path → (found_left found (lookup.probe implicit path)).stat ≡ found.stat
probe_leaves true path found named = refl
probe_leaves false path found named = ap (λ b. (if b then record found { probe = None } else record found { stat = None }).stat) (dir_ends false path named.some)

probe_key : (implicit : Bool) (path : List ℕ) → key_of (lookup.probe implicit path) ≡ dir_prefix_of path
probe_key true path = refl
probe_key false path = refl

-- an object's key isn't a directory's
other_key : (path : List ℕ) → NamesObject path → Contains (dir_prefix_of path ∷ []) path → ⊥
other_key path named (zero, within, is) = let never : true ≡ false = sym (dir_ends false path named.some) ∙ ap ends_in_slash is ∙ named.ends in cc
other_key path named (suc k, within, is) = omega (arith, within)

no_key : (key : Key) → Contains [] key → ⊥
no_key key among = omega (arith, among.1)

-- What was found of an operation tells as this answer does whether a directory is there.
abbrev pub TellsAs : Found → Operation → Answer → Type 0
TellsAs found op answer = (recall : Recall) → found_for found op ≡ Some recall → probed answer ≡ probed (answer_of recall.shown)

module _ (config : Config) (now : ℕ) (records : RecordList) where
  abbrev lives : Key → Option Record
  lives key = live_record records key now (lifetime_of config key)

  recall_none : (key : Key) → recall_of config now records key ≡ None → live_record records key now (lifetime_of config key) ≡ None
  recall_none key = by (lives key)
    where
      by : (found : Option Record) → option_map recalled found ≡ None → found ≡ None
      by None e = refl
      by (Some r) e = absurd cc

  module _ (keys : List Key) where
    -- where nothing is left of a look at one of the keys, no record of it lived
    abbrev pub Misses : Found → Operation → Type 0
    Misses found op = IsLook op → Contains keys (key_of op) → found_for found op ≡ None → live_record records (key_of op) now (lifetime_of config (key_of op)) ≡ None

    abbrev pub StepMisses : Found → Step → Type 0
    StepMisses found step = (op : Operation) → Allows step op → Misses found op

    -- so it is along a plan: at its first step; at the second, once what was found of the first is taken out; and later, whatever is
    -- left
    pub record PlanMisses (found : Found) (way : Plan) : Type 0 where
      pub first : StepMisses found (way [])
      pub second : (op : Operation) (a : Answer) → Allows (way []) op → TellsAs found op a → StepMisses (found_left found op) (way (a ∷ []))
      pub later : (left : Found) (a b : Answer) (told : List Answer) → StepMisses left (way (a ∷ b ∷ told))

    misses_done : (found : Found) → StepMisses found done
    misses_done found op allowed = absurd allowed

    misses_asked : (found : Found) (asked : Operation) → Misses found asked → StepMisses found (ask asked)
    misses_asked found asked misses op allowed = subst (Misses found) (sym allowed) misses

    misses_either : (found : Found) (b : Bool) (one other : Step) → StepMisses found one → StepMisses found other → StepMisses found (if b then one else other)
    misses_either found true one other first second = first
    misses_either found false one other first second = second

    -- a plan that asks nothing
    plan_done : (found : Found) → PlanMisses found (λ told. done)
    plan_done found = record { first = misses_done found; second = λ op a allowed tells. misses_done _; later = λ left a b told. misses_done left }

    probe_misses : (found : Found) (implicit : Bool) (path : List ℕ) → NamesObject path → found.probe ≡ recall_of config now records (dir_prefix_of path) → Misses found (lookup.probe implicit path)
    probe_misses found implicit path named is look among none =
        subst (λ key. live_record records key now (lifetime_of config key) ≡ None) (sym (probe_key implicit path))
        (recall_none (dir_prefix_of path) (sym is ∙ (sym (probe_for implicit path found named) ∙ none)))

    stat_misses : (found : Found) (path : List ℕ) → NamesObject path → (found.stat ≡ None → recall_of config now records path ≡ None) → Misses found (stat path)
    stat_misses found path named is look among none = recall_none path (is (sym (stat_for path found named) ∙ none))

    -- what is no look is none
    no_look : (found : Found) (op : Operation) → (IsLook op → ⊥) → Misses found op
    no_look found op never look among none = absurd (never look)

    -- a stat at no key of these
    stat_beside : (found : Found) (path : List ℕ) → (Contains keys path → ⊥) → Misses found (stat path)
    stat_beside found path never look among none = absurd (never among)

    after_probe_misses : (found : Found) (path : List ℕ) → Misses found (stat path) → (suffixed : Bool) (came : Probed) → StepMisses found (lookup.after_probe path suffixed came)
    after_probe_misses found path misses suffixed present = misses_either found suffixed _ _ (misses_asked found _ misses) (misses_done found)
    after_probe_misses found path misses suffixed absent = misses_either found suffixed _ _ (misses_done found) (misses_asked found _ misses)
    after_probe_misses found path misses suffixed failed = misses_done found

    after_stat_misses : (found : Found) (from to : List ℕ) (second : ℕ) (a : Answer) → StepMisses found (rename.after_stat from to second a)
    after_stat_misses found from to second (answers.Meta meta) = misses_asked found (copy from meta.generation to second) (no_look found (copy from meta.generation to second) (λ look. look))
    after_stat_misses found from to second _ = misses_done found

    after_copy_misses : (found : Found) (from : List ℕ) (told a : Answer) → StepMisses found (rename.after_copy from told a)
    after_copy_misses found from (answers.Meta meta) (answers.Meta copied) = misses_asked found (delete from (Some meta.generation)) (no_look found (delete from (Some meta.generation)) (λ look. look))
    after_copy_misses found from told a = misses_done found

    -- it is moved behind a probe, and its own stat is at no key of these
    moving_misses : (found : Found) (implicit : Bool) (from to : List ℕ) (suffixed : Bool) (second : ℕ) → NamesObject from → found.probe ≡ recall_of config now records (dir_prefix_of from)
        → (Contains keys from → ⊥) → PlanMisses found (rename.moving_plan implicit from to suffixed second)
    moving_misses found implicit from to suffixed second named is beside = record {
      first = misses_asked found _ (probe_misses found implicit from named is);
      second = λ op a allowed tells. after_probe_misses _ from (stat_beside _ from beside) suffixed (probed a);
      later = behind;
    }
      where
        behind : (left : Found) (a b : Answer) (told : List Answer) → StepMisses left (rename.moving_plan implicit from to suffixed second (a ∷ b ∷ told))
        behind left a b [] = after_stat_misses left from to second b
        behind left a b (c ∷ []) = after_copy_misses left from b c
        behind left a b (c ∷ d ∷ told) = misses_done left

  -- ---- LOOKUP
  module _ (asks : Plan) (implicit : Bool) (path : List ℕ) (suffixed : Bool) (named : NamesObject path) (same : (told : List Answer) → asks told ≡ lookup.plan implicit path suffixed told) where
    abbrev keys : List Key
    keys = dir_prefix_of path ∷ path ∷ []

    abbrev came : Found
    came = both_found config now asks records (dir_prefix_of path) path

    -- the object was looked for where its stat is asked behind what the directory's record tells
    abbrev Looked : Option Record → Type 0
    Looked found = is_some (asked_by (plan_found asks found [])) ≡ true

    behind_probe : (told : Probed) (op : Operation) → Allows (lookup.after_probe path suffixed told) op → is_some (asked_by (lookup.after_probe path suffixed told)) ≡ true
    behind_probe present op = by suffixed
      where
        by : (b : Bool) → Allows (if b then ask (stat path) else done) op → is_some (asked_by (if b then ask (stat path) else done)) ≡ true
        by true allowed = refl
        by false allowed = absurd allowed
    behind_probe absent op = by suffixed
      where
        by : (b : Bool) → Allows (if b then done else ask (stat path)) op → is_some (asked_by (if b then done else ask (stat path))) ≡ true
        by true allowed = absurd allowed
        by false allowed = refl
    behind_probe failed op = λ allowed. absurd allowed

    looked_for : (a : Answer) (op : Operation) → Allows (lookup.plan implicit path suffixed (a ∷ [])) op → TellsAs (both_found config now asks records (dir_prefix_of path) path) (lookup.probe implicit path) a
        → is_some (asked_by (plan_found asks (live_record records (dir_prefix_of path) now (lifetime_of config (dir_prefix_of path))) [])) ≡ true
    looked_for a op allowed tells = by (lives (dir_prefix_of path)) (λ recall e. tells recall (probe_for implicit path came named ∙ e))
      where
        by : (found : Option Record) → ((recall : Recall) → option_map recalled found ≡ Some recall → probed a ≡ probed (answer_of recall.shown)) → Looked found
        by None told = ap (λ step. is_some (asked_by step)) (same [])
        by (Some r) told =
            ap (λ step. is_some (asked_by step)) (same (answer_of r.shown ∷ []))
            ∙ (ap (λ came. is_some (asked_by (lookup.after_probe path suffixed came))) (sym (told (recalled r) refl)) ∙ behind_probe (probed a) op allowed)

    lookup_misses : PlanMisses (dir_prefix_of path ∷ path ∷ []) (both_found config now asks records (dir_prefix_of path) path) (lookup.plan implicit path suffixed)
    lookup_misses = record {
      first = misses_asked keys came _ (probe_misses keys came implicit path named refl);
      second = λ op a probing tells other allowed. after_probe_misses keys (found_left came op) path (object op a probing tells other allowed) suffixed (probed a) other allowed;
      later = λ left a b told. misses_done keys left;
    }
      where
        object : (op : Operation) (a : Answer) → op ≡ lookup.probe implicit path → TellsAs came op a → (other : Operation) → Allows (lookup.plan implicit path suffixed (a ∷ [])) other
            → Misses keys (found_left came op) (stat path)
        object op a probing tells other allowed =
            subst (λ x. Misses keys (found_left came x) (stat path)) (sym probing)
            (stat_misses keys (found_left came (lookup.probe implicit path)) path named
            (λ none. sym (ap (λ more. if more then recall_of config now records path else None) (looked_for a other allowed (subst (λ x. TellsAs came x a) probing tells)))
            ∙ (sym (probe_leaves implicit path came named) ∙ none)))

  -- ---- the requests
  -- no key is looked for
  no_keys : (found : Found) (way : Plan) → PlanMisses [] found way
  no_keys found way = record { first = never found (way []); second = λ op a allowed tells. never _ (way (a ∷ [])); later = λ left a b told. never left (way (a ∷ b ∷ told)) }
    where
      never : (left : Found) (step : Step) → StepMisses [] left step
      never left step op allowed look among none = absurd (no_key (key_of op) among)

  -- what is found of one key alone: a directory's, or an object's
  abbrev alone : Bool → Key → Found
  alone slash key = if slash then record { probe = recall_of config now records key; stat = None } else record { probe = None; stat = recall_of config now records key }

  module _ (asks : Plan) where
    moving_all : (implicit : Bool) (from to : List ℕ) (suffixed : Bool) (second : ℕ) → NamesObject from
        → PlanMisses (dir_prefix_of from ∷ []) (found_of config now asks records (dir_prefix_of from ∷ [])) (rename.moving_plan implicit from to suffixed second)
    moving_all implicit from to suffixed second named =
        moving_misses (dir_prefix_of from ∷ []) (found_of config now asks records (dir_prefix_of from ∷ [])) implicit from to suffixed second named
        (ap (λ b. (alone b (dir_prefix_of from)).probe) (dir_ends implicit from named.some))
        (other_key from named)

    standing_misses : (name : Option (List ℕ)) → AsksObject false name
        → PlanMisses (option_map_or (λ n. n ∷ []) name []) (found_of config now asks records (option_map_or (λ n. n ∷ []) name [])) (standing.plan name)
    standing_misses None named = no_keys _ (standing.plan None)
    standing_misses (Some name) named = record {
      first = misses_asked (name ∷ []) (found_of config now asks records (name ∷ [])) _ (stat_misses (name ∷ []) (found_of config now asks records (name ∷ [])) name named (λ none. sym stat_is ∙ none));
      second = λ op a allowed tells. misses_done (name ∷ []) _;
      later = λ left a b told. misses_done (name ∷ []) left;
    }
      where
        stat_is : (found_of config now asks records (name ∷ [])).stat ≡ recall_of config now records name
        stat_is = ap (λ b. (alone b name).stat) named.ends

    module _ (at : AtTake) (mount : MountModel) (is : IsMount mount) where
      rename_misses : (names : rename.Names) (view : View) → rename.refusal names view ≡ None
          → PlanMisses (if rename.is_same names view then [] else dir_prefix_of (rename.from_of names view) ∷ [])
          (found_of config now asks records (if rename.is_same names view then [] else dir_prefix_of (rename.from_of names view) ∷ [])) (rename.plan names (record { at = at; view = view }))
      rename_misses names view free = by (rename.is_same names view)
        where
          by : (same : Bool) → PlanMisses (if same then [] else dir_prefix_of (rename.from_of names view) ∷ [])
              (found_of config now asks records (if same then [] else dir_prefix_of (rename.from_of names view) ∷ []))
              (λ told. if same then done else rename.moving_plan at.config.implicit_dirs (rename.from_of names view) (rename.to_of names view) (has_suffix names.name) at.second told)
          by true = no_keys _ _
          by false = moving_all at.config.implicit_dirs (rename.from_of names view) (rename.to_of names view) (has_suffix names.name) at.second (rename_named names view free)

      setattr_misses : (asked : setattr.Asked) (view : View) (change : setattr.Change) → AsksObject false (standing.asked_name view)
          → PlanMisses (setattr.keys_by view change) (found_of config now asks records (setattr.keys_by view change)) (setattr.plan_by asked at.second view change)
      setattr_misses asked view setattr.resize named = no_keys _ _
      setattr_misses asked view setattr.stage_time named = no_keys _ _
      setattr_misses asked view setattr.set_time named = no_keys _ _
      setattr_misses asked view setattr.look named = standing_misses (standing.asked_name view) named

      abbrev RulesMiss : Request → Type 0
      RulesMiss request =
          PlanMisses ((rules_of request).keys (view_in mount request)) (found_of config now asks records ((rules_of request).keys (view_in mount request))) ((rules_of request).plan (taken_at at mount request))

      rules_miss : (request : Request) → (rules_of request).refusal (view_in mount request) ≡ None → ((told : List Answer) → asks told ≡ (rules_of request).plan (taken_at at mount request) told)
          → RulesMiss request
      rules_miss (Lookup node name) free same =
          lookup_misses asks at.config.implicit_dirs (lookup.path_of name (view_in mount (Lookup node name))) (has_suffix name) (lookup_named name (view_in mount (Lookup node name)) free) same
      rules_miss (Rename node newdir name newname) free same = rename_misses (record { name = name; newdir = newdir; newname = newname }) (view_in mount (Rename node newdir name newname)) free
      rules_miss (Rename2 node newdir flags name newname) free same =
          rename_misses (record { name = name; newdir = newdir; newname = newname }) (view_in mount (Rename2 node newdir flags name newname))
          (as_rename at mount is flags (record { name = name; newdir = newdir; newname = newname }) (view_in mount (Rename2 node newdir flags name newname)) free)
      rules_miss (Getattr node) free same = standing_misses (standing.asked_name (view_in mount (Getattr node))) (asked_object false mount is (view_in mount (Getattr node)).staged node)
      rules_miss (Opening node flags) free same = standing_misses (standing.asked_name (view_in mount (Opening node flags))) (asked_object false mount is (view_in mount (Opening node flags)).staged node)
      rules_miss (Setattr node valid size mtime nanos) free same =
          setattr_misses (record { valid = valid; size = size; seconds = mtime; nanos = nanos }) (view_in mount (Setattr node valid size mtime nanos)) _
          (asked_object false mount is (view_in mount (Setattr node valid size mtime nanos)).staged node)
      rules_miss (Read node fh first size) free same = no_keys _ _
      rules_miss (Write node fh first content) free same = no_keys _ _
      rules_miss (Flush node fh) free same = no_keys _ _
      rules_miss (Fsync node fh) free same = no_keys _ _
      rules_miss (Opendir node) free same = no_keys _ _
      rules_miss (Create node name) free same = no_keys _ _
      rules_miss (Symlink node name target) free same = no_keys _ _
      rules_miss (Mknod node mode name) free same = no_keys _ _
      rules_miss (Mkdir node name) free same = no_keys _ _
      rules_miss (Unlink node name) free same = no_keys _ _
      rules_miss (Rmdir node name) free same = no_keys _ _
      rules_miss (Forget node count) free same = no_keys _ _
      rules_miss (BatchForget pairs) free same = no_keys _ _
      rules_miss (Release node fh) free same = no_keys _ _
      rules_miss Statfs free same = no_keys _ _
      rules_miss (Init major minor readahead flags) free same = no_keys _ _
      rules_miss (Readdir node fh first size) free same = no_keys _ _
      rules_miss (Releasedir node fh) free same = no_keys _ _
      rules_miss (Fsyncdir node fh) free same = no_keys _ _
      rules_miss Destroy free same = no_keys _ _
      rules_miss (Readlink node) free same = no_keys _ _
      rules_miss Interrupt free same = no_keys _ _
      rules_miss (Unknown opcode) free same = no_keys _ _

      -- Where a call is left with nothing of a look at one of its keys, no record of that key lived at its take.
      pub plan_misses : (request : Request) → ((told : List Answer) → asks told ≡ plan at mount request told)
          → PlanMisses ((rules_of request).keys (view_in mount request)) (found_of config now asks records ((rules_of request).keys (view_in mount request))) (plan at mount request)
      plan_misses request same = by (goes_on mount request) refl
        where
          by : (on : Bool) → goes_on mount request ≡ on
              → PlanMisses ((rules_of request).keys (view_in mount request)) (found_of config now asks records ((rules_of request).keys (view_in mount request)))
              (if on then (rules_of request).plan (taken_at at mount request) else (λ answers. done))
          by true on = rules_miss request (refuses_none mount request on)
              (λ told. same told ∙ ap (λ (b : Bool). (if b then (rules_of request).plan (taken_at at mount request) else (λ answers. done)) told) on)
          by false on = plan_done ((rules_of request).keys (view_in mount request)) _
