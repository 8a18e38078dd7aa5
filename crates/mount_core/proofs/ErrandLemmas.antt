-- The errand of a request that isn't refused asks what its plan asks, reads left out, and wants what the request wants.
use Rattle.std.proofs.Common.{◌≡◌, ℕ, Bool, true, false, List, [], ◌∷◌, Option, Some, None, Result, Ok, Err, IfOk, IfSome, refl, sym, ap, subst, ◌∙◌}
use Rattle.std.specs.Prelude.{not, ◌&&◌, is_some, if◌then◌else◌}
use Rattle.std.specs.Option.{option_map_or}
use Rattle.bucket_api.specs.declared.answers.Answer.{Answer}
use Rattle.bucket_api.specs.declared.answers.Answer.TheVariants as answers
use Rattle.bucket_api.specs.declared.objects.Pair.{Pair}
use Rattle.bucket_api.specs.Operation.{Operation}
use Rattle.fuse_replies.specs.Errno.{eproto}
use Rattle.fuse_requests.specs.declared.request.Request.{Request}
use Rattle.fuse_requests.specs.declared.request.Request.TheVariants.{Opendir}
use Rattle.mount_core.specs.Errands.{AsksAs, HoldsEntries, content_of, plan_of, plan_over, wanted_of}
use Rattle.mount_core.specs.declared.errand.Errand.{Errand}
use Rattle.mount_model.specs.declared.config.Config.{Config}
use Rattle.mount_rules.specs.Dispatch.{early, goes_on, is_full, is_idle, is_init, is_silent, plan, rules_of, taken_at, view_in, wants}
use Rattle.mount_rules.specs.Making as making
use Rattle.mount_rules.specs.Mount.{MountModel}
use Rattle.mount_model.specs.Observing.{Observed}
use Rattle.mount_rules.specs.Plans.{Plan, Source, answers_of, done, without_reads}
use Rattle.mount_rules.specs.Requests.Flush as flush
use Rattle.mount_rules.specs.Requests.Lookup as lookup
use Rattle.mount_rules.specs.Requests.Lookup.{Probed, present, absent, failed as probe_failed}
use Rattle.mount_rules.specs.Requests.Opendir as opendir
use Rattle.mount_rules.specs.Requests.Read as reading
use Rattle.mount_rules.specs.Requests.Setattr as setattr
use Rattle.mount_rules.specs.Requests.Setattr.{Asked, Change}
use Rattle.mount_rules.specs.Requests.Write as writing
use Rattle.mount_rules.specs.Rules.{AtTake, at_node}
use Rattle.mount_rules.specs.Standing as standing
use Rattle.mount_rules.specs.View.{View, view_of}
use Rattle.mount_state.specs.Spares.{Fills}
use Rattle.object_names.specs.declared.shown.DirItem.{DirItem}
use Rattle.plan_files.specs.Errands.{asks_behind}

-- ---- the dispatcher
-- a request that gets a reply and isn't refused goes by its rules
goes_free : (mount : MountModel) (request : Request) → is_silent request ≡ false → early mount request ≡ None → goes_on mount request ≡ true
goes_free mount request speaks free =
    ap (λ (i : Bool). not i && not (is_some (early mount request))) idle
    ∙ ap (λ (error : Option ℕ). not (is_some error)) free
  where
    idle : is_idle mount request ≡ false
    idle = ap (λ (s : Bool). s && not mount.negotiated) speaks

pub refusal_free : (mount : MountModel) (request : Request) → early mount request ≡ None → (rules_of request).refusal (view_in mount request) ≡ None
refusal_free mount request free = by (not mount.negotiated && not (is_silent request) && not (is_init request)) free
  where
    by : (waits : Bool) → (if waits then Some eproto else (rules_of request).refusal (view_in mount request)) ≡ None → (rules_of request).refusal (view_in mount request) ≡ None
    by true e = absurd (let never : Some eproto ≡ None = e in cc)
    by false e = e

plan_free : (at : AtTake) (mount : MountModel) (request : Request) → is_silent request ≡ false → early mount request ≡ None
    → (rules_of request).plan (taken_at at mount request) ≡ plan at mount request
plan_free at mount request speaks free =
    sym (ap (λ (on : Bool). if on then (rules_of request).plan (taken_at at mount request) else (λ (answers : List Answer). done)) (goes_free mount request speaks free))

pub plans_so : {E : Type 0} (r : Result Errand E) (config : Config) (second : ℕ) (mount : MountModel) (request : Request)
    → is_silent request ≡ false → early mount request ≡ None
    → IfOk r (λ errand. (at : AtTake) → at.config ≡ config → at.second ≡ second → AsksAs (plan_over errand at.contents at.second) ((rules_of request).plan (taken_at at mount request)))
    → IfOk r (λ errand. (at : AtTake) → at.config ≡ config → at.second ≡ second → AsksAs (plan_over errand at.contents at.second) (plan at mount request))
plans_so (Ok errand) config second mount request speaks free carries = λ at is same answers.
    carries at is same answers ∙ ap (λ (p : Plan). without_reads (p answers)) (plan_free at mount request speaks free)
plans_so (Err e) config second mount request speaks free carries = tt

pub wants_so : {E : Type 0} (r : Result Errand E) (config : Config) (mount : MountModel) (request : Request) → is_silent request ≡ false → early mount request ≡ None
    → is_full config mount request ≡ false
    → IfOk r (λ errand. wanted_of errand ≡ (rules_of request).wants (view_in mount request)) → IfOk r (λ errand. wanted_of errand ≡ wants config mount request)
wants_so (Ok errand) config mount request speaks free fits is =
    is ∙ sym (ap (λ (on : Bool). if on then (if is_full config mount request then None else (rules_of request).wants (view_in mount request)) else None) (goes_free mount request speaks free)
    ∙ ap (λ (full : Bool). if full then None else (rules_of request).wants (view_in mount request)) fits)
wants_so (Err e) config mount request speaks free fits is = tt

-- ---- plans without reads
pub after_probe_reads : (path : List ℕ) (suffix : Bool) (probed : Probed) → lookup.after_probe path suffix probed ≡ without_reads (lookup.after_probe path suffix probed)
after_probe_reads path true present = refl
after_probe_reads path false present = refl
after_probe_reads path true absent = refl
after_probe_reads path false absent = refl
after_probe_reads path suffix probe_failed = refl

pub lookup_reads : (implicit : Bool) (path : List ℕ) (suffix : Bool) (told : List Answer) → lookup.plan implicit path suffix told ≡ without_reads (lookup.plan implicit path suffix told)
lookup_reads implicit path suffix [] = refl
lookup_reads implicit path suffix (a ∷ []) = after_probe_reads path suffix (lookup.probed a)
lookup_reads implicit path suffix (a ∷ b ∷ more) = refl

pub making_reads : (name : List ℕ) (pairs : List Pair) (second : ℕ) (told : List Answer) → making.plan name pairs second told ≡ without_reads (making.plan name pairs second told)
making_reads name pairs second [] = refl
making_reads name pairs second (a ∷ more) = refl

pub opendir_reads : (prefix : List ℕ) (max : ℕ) (after : Option (List ℕ)) (told : List Answer) → opendir.plan prefix max after told ≡ without_reads (opendir.plan prefix max after told)
opendir_reads prefix max after [] = refl
opendir_reads prefix max after (answers.Page page ∷ more) = by page.next (λ key. opendir_reads prefix max (Some key) more)
  where
    by : (next : Option (List ℕ)) → ((key : List ℕ) → opendir.plan prefix max (Some key) more ≡ without_reads (opendir.plan prefix max (Some key) more))
        → option_map_or (λ key. opendir.plan prefix max (Some key) more) next done ≡ without_reads (option_map_or (λ key. opendir.plan prefix max (Some key) more) next done)
    by None later = refl
    by (Some key) later = later key
opendir_reads prefix max after (answers.Meta meta ∷ more) = refl
opendir_reads prefix max after (answers.Bytes bytes ∷ more) = refl
opendir_reads prefix max after (answers.Done ∷ more) = refl
opendir_reads prefix max after (answers.NotFound ∷ more) = refl
opendir_reads prefix max after (answers.Precondition generation metageneration ∷ more) = refl
opendir_reads prefix max after (answers.Fault ∷ more) = refl

-- an errand that carries out a plan without reads, of its settings and the second of its call, asks what it asks
pub asks_so : {E : Type 0} (r : Result Errand E) (config : Config) (second : ℕ) (asked : Config → ℕ → Plan)
    → ((c : Config) (stamp : ℕ) (told : List Answer) → asked c stamp told ≡ without_reads (asked c stamp told))
    → IfOk r (λ errand. (content : List ℕ) (stamp : ℕ) → plan_of errand content stamp ≡ asked config stamp)
    → IfOk r (λ errand. (at : AtTake) → at.config ≡ config → at.second ≡ second → AsksAs (plan_over errand at.contents at.second) (asked at.config at.second))
asks_so (Ok errand) config second asked reads is = λ at same stamped told.
    ap (λ (p : Plan). p told) (is (content_of errand at.contents) at.second) ∙ reads config at.second told
    ∙ ap (λ (c : Config). without_reads (asked c at.second told)) (sym same)
asks_so (Err e) config second asked reads is = tt

-- ---- errands on files
-- one stat, or none, has no reads
pub standing_reads : (name : Option (List ℕ)) (told : List Answer) → standing.plan name told ≡ without_reads (standing.plan name told)
standing_reads None told = refl
standing_reads (Some name) [] = refl
standing_reads (Some name) (a ∷ more) = refl

-- the insert of a flush stands behind the reads
pub behind_reads : (source : Source) (op : Operation) (told : List Answer) → asks_behind op told ≡ without_reads (flush.after_reads source op told)
behind_reads source op [] = refl
behind_reads source op (answers.Bytes bytes ∷ more) = behind_reads source op more
behind_reads source op (answers.Meta meta ∷ more) = refl
behind_reads source op (answers.Page page ∷ more) = refl
behind_reads source op (answers.Done ∷ more) = refl
behind_reads source op (answers.NotFound ∷ more) = refl
behind_reads source op (answers.Precondition generation metageneration ∷ more) = refl
behind_reads source op (answers.Fault ∷ more) = refl

-- the entries of a listing are those that its OPENDIR opens its handle with
pub listed_so : {E : Type 0} (r : Result Errand E) (config : Config) (mount : MountModel) (node : ℕ)
    → IfOk r (λ errand. (told : List Answer) (items : List DirItem) → HoldsEntries errand config.implicit_dirs told items → IfSome (opendir.entries (opendir.prefix_of (view_of mount (at_node node))) config.implicit_dirs told) (λ entries. items ≡ entries))
    → IfOk r (λ errand. (seen : List Observed) (items : List DirItem) → HoldsEntries errand config.implicit_dirs (answers_of seen) items → Fills config mount (Opendir node) seen items)
listed_so (Ok errand) config mount node lists = λ seen items holds. lists (answers_of seen) items holds
listed_so (Err e) config mount node lists = tt

pub reads_so : {E : Type 0} (r : Result Errand E) (config : Config) (second : ℕ) (view : View)
    → IfOk r (λ errand. (content : List ℕ) (stamp : ℕ) (v : View) → AsksAs (plan_of errand content stamp) (reading.plan v))
    → IfOk r (λ errand. (at : AtTake) → at.config ≡ config → at.second ≡ second → AsksAs (plan_over errand at.contents at.second) (reading.plan view))
reads_so (Ok errand) config second view is = λ at same stamped. is (content_of errand at.contents) at.second view
reads_so (Err e) config second view is = tt

-- a time is set, or the object asked for, with the second of the call
pub sets_so : {E : Type 0} (r : Result Errand E) (config : Config) (second : ℕ) (asked : Asked) (view : View) (change : Change)
    → IfOk r (λ errand. (content : List ℕ) → AsksAs (plan_of errand content second) (setattr.plan_by asked second view change))
    → IfOk r (λ errand. (at : AtTake) → at.config ≡ config → at.second ≡ second → AsksAs (plan_over errand at.contents at.second) (setattr.plan_by asked at.second view change))
sets_so (Ok errand) config second asked view change is = λ at same stamped.
    subst (λ s. AsksAs (plan_over errand at.contents s) (setattr.plan_by asked s view change)) (sym stamped) (is (content_of errand at.contents))
sets_so (Err e) config second asked view change is = tt

pub flushes_so : {E : Type 0} (r : Result Errand E) (config : Config) (second : ℕ) (mount : MountModel) (node fh : ℕ)
    → IfOk r (λ errand. (at : AtTake) (handle : ℕ) → AsksAs (plan_over errand at.contents at.second) (flush.plan (record { at = at; view = view_of mount (flush.looks node handle) })))
    → IfOk r (λ errand. (at : AtTake) → at.config ≡ config → at.second ≡ second → AsksAs (plan_over errand at.contents at.second) (flush.plan (record { at = at; view = view_of mount (flush.looks node fh) })))
flushes_so (Ok errand) config second mount node fh is = λ at same stamped. is at fh
flushes_so (Err e) config second mount node fh is = tt

pub writes_so : {E : Type 0} (r : Result Errand E) (config : Config) (second : ℕ) (view : View)
    → IfOk r (λ errand. (content : List ℕ) (stamp : ℕ) (v : View) → AsksAs (plan_of errand content stamp) (writing.plan v))
    → IfOk r (λ errand. (at : AtTake) → at.config ≡ config → at.second ≡ second → AsksAs (plan_over errand at.contents at.second) (writing.plan view))
writes_so (Ok errand) config second view is = λ at same stamped. is (content_of errand at.contents) at.second view
writes_so (Err e) config second view is = tt

-- a FLUSH and an FSYNC want the same
pub wants_flushed : {E : Type 0} (r : Result Errand E) (mount : MountModel) (node fh : ℕ)
    → IfOk r (λ errand. (handle : ℕ) → wanted_of errand ≡ flush.wanted (view_of mount (flush.looks node handle))) → IfOk r (λ errand. wanted_of errand ≡ flush.wanted (view_of mount (flush.looks node fh)))
wants_flushed (Ok errand) mount node fh is = is fh
wants_flushed (Err e) mount node fh is = tt
