-- Each look that a request asks is the one of its key.
use Rattle.std.proofs.Common.{◌≡◌, ℕ, Bool, true, false, ◌&&◌, List, Option, Some, None, is_some, refl, sym, ap, subst}
use Rattle.std.specs.Option.{option_map_or}
use Rattle.std.specs.Prelude.{if◌then◌else◌, not, ◌==◌}
use Rattle.bucket_api.specs.Operation.{Operation}
use Rattle.bucket_api.specs.declared.answers.Answer.{Answer}
use Rattle.fuse_replies.specs.Errno.{eproto}
use Rattle.fuse_requests.specs.declared.request.Request.{Request}
use Rattle.fuse_requests.specs.declared.request.Request.TheVariants.{Create, Flush, Fsync, Getattr, Lookup, Mkdir, Mknod, Opendir, Opening, Read, Rename, Rename2, Rmdir, Setattr, Symlink, Unlink, Write}
use Rattle.fuse_requests.specs.declared.request.Request.TheVariants.{BatchForget, Destroy, Forget, Fsyncdir, Init, Interrupt, Readdir, Readlink, Release, Releasedir, Statfs, Unknown}
use Rattle.history_spec.specs.Looks.{IsLook}
use Rattle.history_spec.specs.Pasts.{key_of}
use Rattle.mount_laws.proofs.Guarding.{in_directory-none, on_live-none, part_refusal-none}
use Rattle.mount_rules.specs.Dispatch.{early, goes_on, is_idle, is_init, is_silent, plan, rules_of, taken_at, view_in}
use Rattle.mount_rules.specs.Guards.{is_directory, part_refusal, path_in}
use Rattle.mount_rules.specs.Mount.{IsMount, MountModel}
use Rattle.mount_rules.specs.Plans.{Allows, done}
use Rattle.mount_rules.specs.Reading as reading
use Rattle.mount_rules.specs.Requests.Flush as flush
use Rattle.mount_rules.specs.Requests.Lookup as lookup
use Rattle.mount_rules.specs.Requests.Rename as rename
use Rattle.mount_rules.specs.Requests.Rename2 as rename2
use Rattle.mount_rules.specs.Requests.Setattr as setattr
use Rattle.mount_rules.specs.Rules.{AtTake, Taken}
use Rattle.mount_rules.specs.Standing as standing
use Rattle.mount_rules.specs.View.{Sight, View}
use Rattle.object_names.specs.Paths.{bare_name, has_suffix}
use Rattle.object_names.specs.declared.shown.NodeKind.TheVariants.{Symlink}
use Rattle.staging_spec.specs.StagedFiles.{StagedContent}
use Rattle.thrift_spec.specs.Recalls.{look_for}
use Rattle.thrift_spec.proofs.LookSteps.{NamesObject, names_child, AsksObject, KeyLooks, done_looks, for_found, either, update_looks, standing_looks, flush_looks, while_looks, moving_looks, lookup_looks, asked_object, opendir_looks, making_looks, unlink_looks, rmdir_looks}

-- ---- the name of a request
pub refuses_none : (mount : MountModel) (request : Request) → goes_on mount request ≡ true → (rules_of request).refusal (view_in mount request) ≡ None
refuses_none mount request on = by (is_idle mount request) (early mount request) refl on
  where
    last : (c : Bool) → (if c then Some eproto else (rules_of request).refusal (view_in mount request)) ≡ None → (rules_of request).refusal (view_in mount request) ≡ None
    last true e = absurd (cc)
    last false e = e

    by : (idle : Bool) (found : Option ℕ) → early mount request ≡ found → (not idle && not (is_some found)) ≡ true → (rules_of request).refusal (view_in mount request) ≡ None
    by true found is e = absurd (cc)
    by false (Some errno) is e = absurd (cc)
    by false None is e = last (not mount.negotiated && not (is_silent request) && not (is_init request)) is

pub lookup_named : (name : List ℕ) (view : View) → lookup.refusal name view ≡ None → NamesObject (lookup.path_of name view)
lookup_named name view free =
    let d = in_directory-none view.node (part_refusal (bare_name name)) free in
    subst NamesObject (sym (ap (λ seen. path_in seen (bare_name name)) d.is)) (names_child d.sight.name (bare_name name) (part_refusal-none (bare_name name) d.sight d.next_none).component)

pub rename_named : (names : rename.Names) (view : View) → rename.refusal names view ≡ None → NamesObject (rename.from_of names view)
rename_named names view free =
    let old = on_live-none view.node _ free in
    let new = on_live-none view.directory _ old.next_none in
    subst NamesObject (sym (ap (λ seen. path_in seen (bare_name names.name)) old.is))
    (names_child old.sight.name (bare_name names.name)
    (part_refusal-none (bare_name names.name) old.sight (first old.sight new.sight (is_directory old.sight.kind && is_directory new.sight.kind) new.next_none)).component)
  where
    none_of : (found next : Option ℕ) → option_map_or Some found next ≡ None → found ≡ None
    none_of None next e = refl
    none_of (Some errno) next e = absurd (cc)

    first : (old new : Sight) (both : Bool) → (if both then rename.names_refusal names view old new else Some 20) ≡ None → part_refusal (bare_name names.name) old ≡ None
    first old new true e = none_of (part_refusal (bare_name names.name) old) (option_map_or Some (part_refusal names.newname new) (rename.busy_refusal names view)) e
    first old new false e = absurd (cc)

-- ---- what a request asks
module _ (at : AtTake) (mount : MountModel) (is : IsMount mount) where
  abbrev implicit : Bool
  implicit = at.config.implicit_dirs

  setattr_looks : (node : ℕ) (asked : setattr.Asked) (view : View) (named : AsksObject at.config.implicit_dirs (standing.asked_name view)) (change : setattr.Change) (told : List Answer)
      → KeyLooks at.config.implicit_dirs (setattr.plan_by asked at.second view change told)
  setattr_looks node asked view named setattr.resize told = done_looks implicit
  setattr_looks node asked view named setattr.stage_time told = done_looks implicit
  setattr_looks node asked view named setattr.set_time told =
      for_found implicit (λ file. setattr.update_plan asked at.second file told) view.node (λ file. update_looks implicit asked at.second file told)
  setattr_looks node asked view named setattr.look told = standing_looks implicit (standing.asked_name view) named told

  flush_plan_looks : (taken : Taken) (told : List Answer) → KeyLooks at.config.implicit_dirs (flush.plan taken told)
  flush_plan_looks taken told =
      for_found implicit (λ (staged : StagedContent). option_map_or (λ (file : Sight). flush.after_reads (reading.source_of file) (flush.insert_of taken.at.contents taken.at.second taken.view.kept staged file) told) taken.view.node done)
      taken.view.staged
      (λ staged. for_found implicit (λ (file : Sight). flush.after_reads (reading.source_of file) (flush.insert_of taken.at.contents taken.at.second taken.view.kept staged file) told) taken.view.node
      (λ file. flush_looks implicit (reading.source_of file) (flush.insert_of taken.at.contents taken.at.second taken.view.kept staged file) (λ look. absurd look) told))

  reading_looks : (node : Option Sight) (told : List Answer) → KeyLooks at.config.implicit_dirs (option_map_or (λ file. reading.while_given (reading.source_of file) (reading.reads told)) node done)
  reading_looks node told = for_found implicit (λ file. reading.while_given (reading.source_of file) (reading.reads told)) node (λ file. while_looks implicit (reading.source_of file) (reading.reads told))

  rename_looks : (names : rename.Names) (view : View) → rename.refusal names view ≡ None → (told : List Answer) → KeyLooks at.config.implicit_dirs (rename.plan names (record { at = at; view = view }) told)
  rename_looks names view free told = either implicit (rename.is_same names view) _ _ (done_looks implicit)
      (moving_looks implicit (rename.from_of names view) (rename.to_of names view) (rename_named names view free) (has_suffix names.name) at.second told)

  pub as_rename : (flags : ℕ) (names : rename.Names) (view : View) → rename2.refusal flags names view ≡ None → rename.refusal names view ≡ None
  as_rename flags names view free = by (flags == 0) free
    where
      by : (b : Bool) → (if b then rename.refusal names view else Some 22) ≡ None → rename.refusal names view ≡ None
      by true e = e
      by false e = absurd (cc)

  rules_look : (request : Request) → (rules_of request).refusal (view_in mount request) ≡ None → (told : List Answer) → KeyLooks at.config.implicit_dirs ((rules_of request).plan (taken_at at mount request) told)
  rules_look (Lookup node name) free told = lookup_looks implicit (lookup.path_of name (view_in mount (Lookup node name))) (lookup_named name (view_in mount (Lookup node name)) free) (has_suffix name) told
  rules_look (Getattr node) free told = standing_looks implicit (standing.asked_name (view_in mount (Getattr node))) (asked_object implicit mount is (view_in mount (Getattr node)).staged node) told
  rules_look (Opening node flags) free told = standing_looks implicit (standing.asked_name (view_in mount (Opening node flags))) (asked_object implicit mount is (view_in mount (Opening node flags)).staged node) told
  rules_look (Setattr node valid size mtime nanos) free told =
      setattr_looks node (record { valid = valid; size = size; seconds = mtime; nanos = nanos }) (view_in mount (Setattr node valid size mtime nanos))
      (asked_object implicit mount is (view_in mount (Setattr node valid size mtime nanos)).staged node) _ told
  rules_look (Read node fh first size) free told = reading_looks (view_in mount (Read node fh first size)).node told
  rules_look (Write node fh first content) free told = reading_looks (view_in mount (Write node fh first content)).node told
  rules_look (Flush node fh) free told = flush_plan_looks (taken_at at mount (Flush node fh)) told
  rules_look (Fsync node fh) free told = flush_plan_looks (taken_at at mount (Fsync node fh)) told
  rules_look (Opendir node) free told = opendir_looks implicit _ _ None told
  rules_look (Create node name) free told = making_looks implicit _ _ _ told
  rules_look (Symlink node name target) free told = making_looks implicit _ _ _ told
  rules_look (Mknod node mode name) free told = making_looks implicit _ _ _ told
  rules_look (Mkdir node name) free told = making_looks implicit _ _ _ told
  rules_look (Unlink node name) free told = unlink_looks implicit _ told
  rules_look (Rmdir node name) free told = rmdir_looks implicit _ told
  rules_look (Rename node newdir name newname) free told = rename_looks (record { name = name; newdir = newdir; newname = newname }) (view_in mount (Rename node newdir name newname)) free told
  rules_look (Rename2 node newdir flags name newname) free told =
      rename_looks (record { name = name; newdir = newdir; newname = newname }) (view_in mount (Rename2 node newdir flags name newname))
      (as_rename flags (record { name = name; newdir = newdir; newname = newname }) (view_in mount (Rename2 node newdir flags name newname)) free) told
  rules_look (Forget node count) free told = done_looks implicit
  rules_look (BatchForget pairs) free told = done_looks implicit
  rules_look (Release node fh) free told = done_looks implicit
  rules_look Statfs free told = done_looks implicit
  rules_look (Init major minor readahead flags) free told = done_looks implicit
  rules_look (Readdir node fh first size) free told = done_looks implicit
  rules_look (Releasedir node fh) free told = done_looks implicit
  rules_look (Fsyncdir node fh) free told = done_looks implicit
  rules_look Destroy free told = done_looks implicit
  rules_look (Readlink node) free told = done_looks implicit
  rules_look Interrupt free told = done_looks implicit
  rules_look (Unknown opcode) free told = done_looks implicit

  -- Each look that a plan allows is the one of its key.
  pub looks_are_one : (request : Request) (told : List Answer) (op : Operation) → Allows (plan at mount request told) op → IsLook op → op ≡ look_for at.config.implicit_dirs (key_of op)
  looks_are_one request told = by (goes_on mount request) refl
    where
      by : (on : Bool) → goes_on mount request ≡ on → KeyLooks at.config.implicit_dirs ((if on then (rules_of request).plan (taken_at at mount request) else (λ answers. done)) told)
      by true on = rules_look request (refuses_none mount request on) told
      by false on = done_looks implicit
