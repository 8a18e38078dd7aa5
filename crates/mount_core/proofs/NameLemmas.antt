-- Where a request on names isn't refused, each of its names is a part of a live directory, and a link's target is a text.
use Rattle.std.proofs.Common.{◌≡◌, ◌⊎◌, inl, inr, ℕ, Bool, true, false, List, Option, Some, None, length, refl, sym, ap, subst, ◌∙◌, nat_eq, nat_lt}
use Rattle.std.specs.Prelude.{◌&&◌, ◌||◌, not, if◌then◌else◌}
use Rattle.std.specs.Option.{option_map_or}
use Rattle.std.specs.Str.{is_utf8}
use Rattle.fuse_replies.specs.Errno.{einval, enametoolong, enotdir, estale}
use Rattle.fuse_requests.specs.Grammar.{without_spare}
use Rattle.fuse_requests.specs.declared.request.Request.{Request}
use Rattle.fuse_requests.specs.declared.request.Request.TheVariants.{Create, Mknod, Rename, Rename2}
use Rattle.mount_core.proofs.ErrandLemmas.{refusal_free}
use Rattle.mount_laws.proofs.Guarding.{in_directory-less, in_directory-none, on_live-none}
use Rattle.mount_laws.proofs.Requests.Mknod.{mknod_as_create}
use Rattle.mount_laws.specs.Renames.{renamed}
use Rattle.mount_rules.specs.Dispatch.{early}
use Rattle.mount_rules.specs.Guards.{in_directory, is_directory, part_refusal}
use Rattle.mount_rules.specs.Mount.{MountModel}
use Rattle.mount_rules.specs.Requests.Create as create
use Rattle.mount_rules.specs.Requests.Rename as rename
use Rattle.mount_rules.specs.Requests.Rename.{Names}
use Rattle.mount_rules.specs.Requests.Symlink as symlink
use Rattle.mount_rules.specs.Rules.{at_node}
use Rattle.mount_rules.specs.View.{Sight, View, view_of}
use Rattle.object_names.specs.Paths.{bare_name}

-- of two refusals, one after the other, none comes
both_free : (first next : Option ℕ) → option_map_or Some first next ≡ None → (first ≡ None) × (next ≡ None)
both_free None next free = (refl, free)
both_free (Some errno) next free = absurd (let never : Some errno ≡ None = free in cc)

-- ---- SYMLINK
pub link_named : (name target : List ℕ) (view : View) → symlink.refusal name target view ≡ None → create.refusal name view ≡ None
link_named name target view free =
    in_directory-less view.node (symlink.texts_refusal name target) (part_refusal name)
    (λ directory none. (both_free (part_refusal name directory) (symlink.target_refusal target) none).0) free

pub target_text : (name target : List ℕ) (view : View) → symlink.refusal name target view ≡ None → is_utf8 target ≡ true
target_text name target view free =
    let seen = in_directory-none view.node (symlink.texts_refusal name target) free in
    by (nat_eq (length target) 0) (is_utf8 target) (nat_lt symlink.longest_target (length target))
    (both_free (part_refusal name seen.sight) (symlink.target_refusal target) seen.next_none).1
  where
    by : (empty text long : Bool) → (if empty || not text then Some einval else if long then Some enametoolong else None) ≡ None → text ≡ true
    by false true long e = refl
    by false false long e = absurd (let never : Some einval ≡ None = e in cc)
    by true text long e = absurd (let never : Some einval ≡ None = e in cc)

-- ---- RENAME
-- a directory that is live is a guard that refuses nothing
in_live : (seen : Option Sight) (sight : Sight) (next : Sight → Option ℕ) → seen ≡ Some sight → sight.live ≡ true → is_directory sight.kind ≡ true → next sight ≡ None
    → in_directory seen next ≡ None
in_live seen sight next is live directory none =
    ap (λ (s : Option Sight). in_directory s next) is
    ∙ ap (λ (l : Bool). if l then (if is_directory sight.kind then next sight else Some enotdir) else Some estale) live
    ∙ ap (λ (d : Bool). if d then next sight else Some enotdir) directory ∙ none

both_directories : (old new : Bool) (next : Option ℕ) → (if old && new then next else Some enotdir) ≡ None → (old ≡ true) × (new ≡ true) × (next ≡ None)
both_directories true true next e = (refl, refl, e)
both_directories true false next e = absurd (let never : Some enotdir ≡ None = e in cc)
both_directories false new next e = absurd (let never : Some enotdir ≡ None = e in cc)

module _ (names : Names) (view : View) (free : rename.refusal names view ≡ None) where
  pub names_free : (in_directory view.node (part_refusal (bare_name names.name)) ≡ None) × (in_directory view.directory (part_refusal names.newname) ≡ None)
  names_free =
      let old = on_live-none view.node _ free in
      let new = on_live-none view.directory _ old.next_none in
      let kinds = both_directories (is_directory old.sight.kind) (is_directory new.sight.kind) (rename.names_refusal names view old.sight new.sight) new.next_none in
      let first = both_free (part_refusal (bare_name names.name) old.sight) (option_map_or Some (part_refusal names.newname new.sight) (rename.busy_refusal names view)) kinds.2 in
      let second = both_free (part_refusal names.newname new.sight) (rename.busy_refusal names view) first.1 in
      (in_live view.node old.sight (part_refusal (bare_name names.name)) old.is old.live kinds.0 first.0, in_live view.directory new.sight (part_refusal names.newname) new.is new.live kinds.1 second.0)

-- ---- requests that share an errand
-- a CREATE or a MKNOD
abbrev pub MakesFile : Request → ℕ → List ℕ → Type 0
MakesFile request node name = (request ≡ Create node name) ⊎ ((mode : ℕ) × (request ≡ Mknod node mode name))

pub file_free : (mount : MountModel) (request : Request) (node : ℕ) (name : List ℕ) → MakesFile request node name → early mount (without_spare request) ≡ None
    → create.refusal name (view_of mount (at_node node)) ≡ None
file_free mount request node name (inl is) free = refusal_free mount (Create node name) (subst (λ (r : Request). early mount (without_spare r) ≡ None) is free)
file_free mount request node name (inr (mode, is)) free =
    mknod_as_create mode name (view_of mount (at_node node)) (refusal_free mount (Mknod node mode name) (subst (λ (r : Request). early mount (without_spare r) ≡ None) is free))

-- a RENAME or a RENAME2
abbrev pub Renames : Request → ℕ → ℕ → List ℕ → List ℕ → Type 0
Renames request node newdir name newname = (request ≡ Rename node newdir name newname) ⊎ ((flags : ℕ) × (request ≡ Rename2 node newdir flags name newname))

-- by equal names
pub renames_by : (request : Request) (node newdir : ℕ) {name newname said newsaid : List ℕ} → said ≡ name → newsaid ≡ newname → Renames request node newdir name newname
    → Renames request node newdir said newsaid
renames_by request node newdir {newname = newname} {said = said} same newsame renames =
    subst (λ (n : List ℕ). Renames request node newdir said n) (sym newsame) (subst (λ (n : List ℕ). Renames request node newdir n newname) (sym same) renames)

pub rename_free : (mount : MountModel) (request : Request) (node newdir : ℕ) (name newname : List ℕ) → Renames request node newdir name newname → early mount (without_spare request) ≡ None
    → rename.refusal (renamed newdir name newname) (view_of mount (rename.looks node (renamed newdir name newname))) ≡ None
rename_free mount request node newdir name newname (inl is) free =
    refusal_free mount (Rename node newdir name newname) (subst (λ (r : Request). early mount (without_spare r) ≡ None) is free)
rename_free mount request node newdir name newname (inr (flags, is)) free =
    without_flags (nat_eq flags 0) (refusal_free mount (Rename2 node newdir flags name newname) (subst (λ (r : Request). early mount (without_spare r) ≡ None) is free))
  where
    without_flags : (none : Bool) → (if none then rename.refusal (renamed newdir name newname) (view_of mount (rename.looks node (renamed newdir name newname))) else Some einval) ≡ None
        → rename.refusal (renamed newdir name newname) (view_of mount (rename.looks node (renamed newdir name newname))) ≡ None
    without_flags true e = e
    without_flags false e = absurd (let never : Some einval ≡ None = e in cc)
