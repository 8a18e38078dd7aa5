-- The steps of plans: READ, WRITE, FLUSH and FSYNC may read a source, and each step of another request asks for one
-- operation at most, which is no read.
use Rattle.std.proofs.Common.{◌≡◌, ℕ, ◌<◌, Bool, true, false, Contains, List, [], ◌∷◌, Option, Some, None, refl, sym, subst, ◌∙◌, ◌⊎◌, inl, inr, arith}
use Rattle.std.specs.Prelude.{if◌then◌else◌}
use Rattle.std.specs.Option.{option_map_or}
use Rattle.bucket_api.specs.Operation.{Operation, stat, read, insert, update, delete, copy, list}
use Rattle.bucket_api.specs.declared.answers.Answer.{Answer}
use Rattle.bucket_api.specs.declared.answers.Answer.TheVariants as answers
use Rattle.bucket_api.specs.declared.objects.Pair.{Pair}
use Rattle.fuse_requests.specs.declared.request.Request.{Request}
use Rattle.fuse_requests.specs.declared.request.Request.TheVariants.{Create, Flush, Fsync, Getattr, Lookup, Mkdir, Mknod, Opendir, Opening, Read, Rename, Rename2, Rmdir, Setattr, Symlink, Unlink, Write}
use Rattle.fuse_requests.specs.declared.request.Request.TheVariants.{BatchForget, Destroy, Forget, Fsyncdir, Init, Interrupt, Readdir, Readlink, Release, Releasedir, Statfs, Unknown}
use Rattle.mount_rules.specs.Dispatch.{goes_on, plan, rules_of, taken_at}
use Rattle.mount_rules.specs.Laws.{IsRead}
use Rattle.mount_rules.specs.Making as making
use Rattle.mount_rules.specs.Mount.{MountModel}
use Rattle.mount_rules.specs.Plans.{Allows, IsReadOf, Source, Step, ask, done, may_read}
use Rattle.mount_rules.specs.Requests.Lookup as lookup
use Rattle.mount_rules.specs.Requests.Opendir as opendir
use Rattle.mount_rules.specs.Requests.Rename as rename
use Rattle.mount_rules.specs.Requests.Rmdir as rmdir
use Rattle.mount_rules.specs.Requests.Setattr as setattr
use Rattle.mount_rules.specs.Requests.Unlink as unlink
use Rattle.mount_rules.specs.Rules.{AtTake, Taken}
use Rattle.mount_rules.specs.Standing as standing
use Rattle.mount_rules.specs.View.{Sight, View}

pub is_read : (source : Source) (op : Operation) → IsReadOf source op → IsRead op
is_read source (read name generation first count) is = tt
is_read source (stat name) is = absurd is
is_read source (insert name content pairs only stamp) is = absurd is
is_read source (update name pairs only only_meta stamp) is = absurd is
is_read source (delete name only) is = absurd is
is_read source (copy from generation to stamp) is = absurd is
is_read source (list prefix slash max after) is = absurd is

-- ---- each plan that reads no source, by its steps
-- it may read a source
abbrev pub MayReadSource : Request → Type 0
MayReadSource (Read node fh first size) = Unit {0}
MayReadSource (Write node fh first content) = Unit {0}
MayReadSource (Flush node fh) = Unit {0}
MayReadSource (Fsync node fh) = Unit {0}
MayReadSource request = ⊥

-- what holds where a plan is done, and where it asks for anything but a read
module _ (P : Step → Type 0) (ends : P done) (asks : (op : Operation) → (IsRead op → ⊥) → P (ask op)) where
  either_steps : (b : Bool) (one other : Step) → P one → P other → P (if b then one else other)
  either_steps true one other first second = first
  either_steps false one other first second = second

  found_steps : {X : Type 0} (f : X → Step) (found : Option X) → ((x : X) → P (f x)) → P (option_map_or f found done)
  found_steps f None each = ends
  found_steps f (Some x) each = each x

  making_steps : (name : List ℕ) (pairs : List Pair) (second : ℕ) (told : List Answer) → P (making.plan name pairs second told)
  making_steps name pairs second [] = asks _ (λ e. e)
  making_steps name pairs second (a ∷ more) = ends

  standing_steps : (name : Option (List ℕ)) (told : List Answer) → P (standing.plan name told)
  standing_steps None told = ends
  standing_steps (Some name) [] = asks _ (λ e. e)
  standing_steps (Some name) (a ∷ more) = ends

  probe_steps : (implicit : Bool) (path : List ℕ) → P (ask (lookup.probe implicit path))
  probe_steps true path = asks _ (λ e. e)
  probe_steps false path = asks _ (λ e. e)

  after_probe_steps : (path : List ℕ) (suffixed : Bool) (found : lookup.Probed) → P (lookup.after_probe path suffixed found)
  after_probe_steps path suffixed lookup.present = either_steps suffixed _ _ (asks _ (λ e. e)) ends
  after_probe_steps path suffixed lookup.absent = either_steps suffixed _ _ ends (asks _ (λ e. e))
  after_probe_steps path suffixed lookup.failed = ends

  lookup_steps : (implicit : Bool) (path : List ℕ) (suffixed : Bool) (told : List Answer) → P (lookup.plan implicit path suffixed told)
  lookup_steps implicit path suffixed [] = probe_steps implicit path
  lookup_steps implicit path suffixed (a ∷ []) = after_probe_steps path suffixed (lookup.probed a)
  lookup_steps implicit path suffixed (a ∷ b ∷ more) = ends

  opendir_steps : (prefix : List ℕ) (max : ℕ) (after : Option (List ℕ)) (told : List Answer) → P (opendir.plan prefix max after told)
  opendir_steps prefix max after [] = asks _ (λ e. e)
  opendir_steps prefix max after (answers.Page page ∷ more) = found_steps (λ key. opendir.plan prefix max (Some key) more) page.next (λ key. opendir_steps prefix max (Some key) more)
  opendir_steps prefix max after (_ ∷ more) = ends

  after_page_steps : (prefix : List ℕ) (found : rmdir.Inside) → P (rmdir.after_page prefix found)
  after_page_steps prefix rmdir.empty = asks _ (λ e. e)
  after_page_steps prefix rmdir.absent = ends
  after_page_steps prefix rmdir.filled = ends

  after_list_steps : (prefix : List ℕ) (a : Answer) → P (rmdir.after_list prefix a)
  after_list_steps prefix (answers.Page page) = after_page_steps prefix (rmdir.inside prefix page.items)
  after_list_steps prefix _ = ends

  rmdir_steps : (prefix : List ℕ) (told : List Answer) → P (rmdir.plan prefix told)
  rmdir_steps prefix [] = asks _ (λ e. e)
  rmdir_steps prefix (a ∷ []) = after_list_steps prefix a
  rmdir_steps prefix (a ∷ b ∷ more) = ends

  unlink_steps : (path : List ℕ) (told : List Answer) → P (unlink.plan path told)
  unlink_steps path [] = asks _ (λ e. e)
  unlink_steps path (a ∷ more) = ends

  after_stat_steps : (from to : List ℕ) (second : ℕ) (a : Answer) → P (rename.after_stat from to second a)
  after_stat_steps from to second (answers.Meta meta) = asks _ (λ e. e)
  after_stat_steps from to second _ = ends

  after_copy_steps : (from : List ℕ) (told a : Answer) → P (rename.after_copy from told a)
  after_copy_steps from (answers.Meta meta) (answers.Meta copied) = asks _ (λ e. e)
  after_copy_steps from told a = ends

  moving_steps : (implicit : Bool) (from to : List ℕ) (suffixed : Bool) (second : ℕ) (told : List Answer) → P (rename.moving_plan implicit from to suffixed second told)
  moving_steps implicit from to suffixed second [] = probe_steps implicit from
  moving_steps implicit from to suffixed second (a ∷ []) = after_probe_steps from suffixed (lookup.probed a)
  moving_steps implicit from to suffixed second (a ∷ b ∷ []) = after_stat_steps from to second b
  moving_steps implicit from to suffixed second (a ∷ b ∷ c ∷ []) = after_copy_steps from b c
  moving_steps implicit from to suffixed second (a ∷ b ∷ c ∷ d ∷ more) = ends

  rename_steps : (names : rename.Names) (taken : Taken) (told : List Answer) → P (rename.plan names taken told)
  rename_steps names taken told = either_steps (rename.is_same names taken.view) _ _ ends (moving_steps _ _ _ _ _ told)

  update_steps : (asked : setattr.Asked) (second : ℕ) (file : Sight) (told : List Answer) → P (setattr.update_plan asked second file told)
  update_steps asked second file [] = asks _ (λ e. e)
  update_steps asked second file (a ∷ more) = ends

  setattr_steps : (asked : setattr.Asked) (second : ℕ) (view : View) (change : setattr.Change) (told : List Answer) → P (setattr.plan_by asked second view change told)
  setattr_steps asked second view setattr.resize told = ends
  setattr_steps asked second view setattr.stage_time told = ends
  setattr_steps asked second view setattr.set_time told = found_steps (λ file. setattr.update_plan asked second file told) view.node (λ file. update_steps asked second file told)
  setattr_steps asked second view setattr.look told = standing_steps (standing.asked_name view) told

  rules_steps : (taken : Taken) (told : List Answer) (request : Request) → (MayReadSource request → ⊥) → P ((rules_of request).plan taken told)
  rules_steps taken told (Lookup node name) other = lookup_steps _ _ _ told
  rules_steps taken told (Getattr node) other = standing_steps _ told
  rules_steps taken told (Setattr node valid size mtime nanos) other = setattr_steps (record { valid = valid; size = size; seconds = mtime; nanos = nanos }) taken.at.second taken.view _ told
  rules_steps taken told (Opening node flags) other = standing_steps _ told
  rules_steps taken told (Read node fh first size) other = absurd (other tt)
  rules_steps taken told (Write node fh first content) other = absurd (other tt)
  rules_steps taken told (Flush node fh) other = absurd (other tt)
  rules_steps taken told (Fsync node fh) other = absurd (other tt)
  rules_steps taken told (Opendir node) other = opendir_steps _ _ None told
  rules_steps taken told (Create node name) other = making_steps _ _ _ told
  rules_steps taken told (Symlink node name target) other = making_steps _ _ _ told
  rules_steps taken told (Mknod node mode name) other = making_steps _ _ _ told
  rules_steps taken told (Mkdir node name) other = making_steps _ _ _ told
  rules_steps taken told (Unlink node name) other = unlink_steps _ told
  rules_steps taken told (Rmdir node name) other = rmdir_steps _ told
  rules_steps taken told (Rename node newdir name newname) other = rename_steps (record { name = name; newdir = newdir; newname = newname }) taken told
  rules_steps taken told (Rename2 node newdir flags name newname) other = rename_steps (record { name = name; newdir = newdir; newname = newname }) taken told
  rules_steps taken told (Forget node count) other = ends
  rules_steps taken told (BatchForget pairs) other = ends
  rules_steps taken told (Release node fh) other = ends
  rules_steps taken told Statfs other = ends
  rules_steps taken told (Init major minor readahead flags) other = ends
  rules_steps taken told (Readdir node fh first size) other = ends
  rules_steps taken told (Releasedir node fh) other = ends
  rules_steps taken told (Fsyncdir node fh) other = ends
  rules_steps taken told Destroy other = ends
  rules_steps taken told (Readlink node) other = ends
  rules_steps taken told Interrupt other = ends
  rules_steps taken told (Unknown opcode) other = ends

  pub plan_steps : (at : AtTake) (mount : MountModel) (request : Request) → (MayReadSource request → ⊥) → (told : List Answer) → P (plan at mount request told)
  plan_steps at mount request other told = by (goes_on mount request)
    where
      by : (on : Bool) → P ((if on then (rules_of request).plan (taken_at at mount request) else (λ answers. done)) told)
      by true = rules_steps (taken_at at mount request) told request other
      by false = ends

-- no read is made at the step
abbrev pub AsksNoRead : Step → Type 0
AsksNoRead step = (op : Operation) → IsRead op → Allows step op → ⊥

pub plan_reads_nothing : (at : AtTake) (mount : MountModel) (request : Request) → (MayReadSource request → ⊥) → (told : List Answer) → AsksNoRead (plan at mount request told)
plan_reads_nothing = plan_steps AsksNoRead (λ op reads allowed. allowed) (λ asked other op reads allowed. other (subst IsRead allowed reads))

-- ---- what is asked

-- such a step allows one operation at most
pub allows_one : (step : Step) (one other : Operation) → AsksNoRead step → Allows step one → Allows step other → one ≡ other
allows_one done one other none allowed also = absurd allowed
allows_one (ask op) one other none allowed also = allowed ∙ sym also
allows_one (may_read source next) one other none (inl reads) also = absurd (none one (is_read source one reads) (inl reads))
allows_one (may_read source next) one other none (inr allowed) (inl reads) = absurd (none other (is_read source other reads) (inl reads))
allows_one (may_read source next) one other none (inr allowed) (inr also) = allows_one next one other (λ op reads may. none op reads (inr may)) allowed also

-- a request that looks for a record reads no source
may_read_source : (request : Request) → MayReadSource request ⊎ (MayReadSource request → ⊥)
may_read_source (Read node fh first size) = inl tt
may_read_source (Write node fh first content) = inl tt
may_read_source (Flush node fh) = inl tt
may_read_source (Fsync node fh) = inl tt
may_read_source _ = inr (λ e. e)

no_keys : (request : Request) (view : View) → MayReadSource request → (rules_of request).keys view ≡ []
no_keys (Read node fh first size) view may = refl
no_keys (Write node fh first content) view may = refl
no_keys (Flush node fh) view may = refl
no_keys (Fsync node fh) view may = refl
no_keys _ view may = absurd may

pub looks_alone : (at : AtTake) (mount : MountModel) (request : Request) (view : View) (key : List ℕ) → Contains ((rules_of request).keys view) key
    → (told : List Answer) → AsksNoRead (plan at mount request told)
looks_alone at mount request view key asked told = by (may_read_source request)
  where
    by : MayReadSource request ⊎ (MayReadSource request → ⊥) → AsksNoRead (plan at mount request told)
    by (inl may) = let none : Contains [] key = subst (λ (keys : List (List ℕ)). Contains keys key) (no_keys request view may) asked in
        let below : none.0 < 0 = none.1 in absurd (omega (arith, below))
    by (inr other) = plan_reads_nothing at mount request other told
