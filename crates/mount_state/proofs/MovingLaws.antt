-- What a RENAME comes to at two live directories, what is provided for it, and what it leaves.
use Rattle.std.proofs.Common.{◌≡◌, ℕ, Bool, true, false, List, Option, Some, None, refl, sym, ap, ◌∙◌}
use Rattle.std.specs.Prelude.{◌==◌, ◌&&◌, if◌then◌else◌, option_and_then, option_map}
use Rattle.std.specs.FinMap as fin
use Rattle.std.specs.Option.{option_map_or}
use Rattle.std.specs.Str.{bytes_eq}
use Rattle.bucket_api.specs.declared.answers.Answer.{Answer}
use Rattle.fuse_replies.specs.Errno.{einval, enotdir, estale}
use Rattle.fuse_requests.specs.declared.request.Request.TheVariants.{Rename2}
use Rattle.inode_spec.specs.Inodes.{is_live}
use Rattle.mount_rules.specs.Dispatch.{early}
use Rattle.mount_rules.specs.Guards.{is_directory, on_live, part_refusal}
use Rattle.mount_rules.specs.Mount.{MountModel, Node, NodeTable}
use Rattle.mount_rules.specs.Removing.{without_name}
use Rattle.mount_rules.specs.Requests.Rename.{Came, Names, busy_refusal, came, came_of, from_of, is_same, mount_after, moved, names_refusal, refusal, reply_to, to_of}
use Rattle.mount_rules.specs.View.{Sight, View, child_of, current_at, sight_at, sight_of}
use Rattle.object_names.specs.Paths.{bare_name}
use Rattle.mount_laws.proofs.Keeping.{no_Some, same_Some}
use Rattle.mount_state.specs.Moving.{IsMoving, moving_view, names_of}
use Rattle.mount_state.specs.Spares.{Provided, moving, nothing, provided_by, rename_wants}
use Rattle.mount_state.specs.declared.moving.TwoPaths.{TwoPaths}
use Rattle.mount_state.specs.declared.prepared.Prepared.{Prepared}
use Rattle.mount_state.specs.declared.prepared.Prepared.TheVariants as prepared
use Rattle.mount_state.proofs.EntryLaws.{no_refusal}

-- a node that is there and live goes on
pub on_live_node : (table : NodeTable) (number : ℕ) (node : Node) (next : Sight → Option ℕ) → fin.get table.nodes number ≡ Some node → is_live number node ≡ true
    → on_live (sight_at table number) next ≡ next (sight_of number node)
on_live_node table number node next there live =
    ap (λ (found : Option Node). on_live (option_map (sight_of number) found) next) there
    ∙ ap (λ (t : Bool). if t then next (sight_of number node) else Some estale) live

module _ (mount : MountModel) (number : ℕ) (names : Names) (old new : Node)
    (old_there : fin.get mount.table.nodes number ≡ Some old) (old_live : is_live number old ≡ true)
    (new_there : fin.get mount.table.nodes names.newdir ≡ Some new) (new_live : is_live names.newdir new ≡ true) where
  abbrev view : View
  view = moving_view mount number names

  abbrev olddir : Sight
  olddir = sight_of number old

  abbrev newdir : Sight
  newdir = sight_of names.newdir new

  -- it is judged by the kinds of both, and by their names
  pub judged : refusal names view ≡ (if is_directory old.kind && is_directory new.kind then names_refusal names view olddir newdir else Some enotdir)
  judged =
      on_live_node mount.table number old (λ o. on_live view.directory (λ n. if is_directory o.kind && is_directory n.kind then names_refusal names view o n else Some enotdir)) old_there old_live
      ∙ on_live_node mount.table names.newdir new (λ n. if is_directory old.kind && is_directory n.kind then names_refusal names view olddir n else Some enotdir) new_there new_live

  -- its paths
  pub from_is : from_of names view ≡ child_of olddir (bare_name names.name)
  from_is = ap (λ (found : Option Node). option_map_or (λ (d : Sight). child_of d (bare_name names.name)) (option_map (sight_of number) found) (bare_name names.name)) old_there

  pub to_is : to_of names view ≡ child_of newdir names.newname
  to_is = ap (λ (found : Option Node). option_map_or (λ (d : Sight). child_of d names.newname) (option_map (sight_of names.newdir) found) names.newname) new_there

  -- and what it sees of the old one
  pub old_is : view.old ≡ current_at mount (child_of olddir (bare_name names.name))
  old_is = ap (λ (found : Option Node). option_and_then (λ (d : Sight). current_at mount (child_of d (bare_name names.name))) (option_map (sight_of number) found)) old_there

  -- one of them is no directory
  pub no_directory : (is_directory old.kind && is_directory new.kind) ≡ false → refusal names view ≡ Some enotdir
  no_directory other = judged ∙ ap (λ t. if t then names_refusal names view olddir newdir else Some enotdir) other

  module _ (both : (is_directory old.kind && is_directory new.kind) ≡ true) where
    by_names : refusal names view ≡ names_refusal names view olddir newdir
    by_names = judged ∙ ap (λ t. if t then names_refusal names view olddir newdir else Some enotdir) both

    -- the old name is refused, or the new one
    pub old_refused : (errno : ℕ) → part_refusal (bare_name names.name) olddir ≡ Some errno → refusal names view ≡ Some errno
    old_refused errno refused =
        by_names ∙ ap (λ (o : Option ℕ). option_map_or Some o (option_map_or Some (part_refusal names.newname newdir) (busy_refusal names view))) refused

    module _ (old_free : part_refusal (bare_name names.name) olddir ≡ None) where
      by_new : refusal names view ≡ option_map_or Some (part_refusal names.newname newdir) (busy_refusal names view)
      by_new =
          by_names ∙ ap (λ (o : Option ℕ). option_map_or Some o (option_map_or Some (part_refusal names.newname newdir) (busy_refusal names view))) old_free

      pub new_refused : (errno : ℕ) → part_refusal names.newname newdir ≡ Some errno → refusal names view ≡ Some errno
      new_refused errno refused = by_new ∙ ap (λ (o : Option ℕ). option_map_or Some o (busy_refusal names view)) refused

      -- neither is
      pub goes_on : part_refusal names.newname newdir ≡ None → refusal names view ≡ busy_refusal names view
      goes_on new_free = by_new ∙ ap (λ (o : Option ℕ). option_map_or Some o (busy_refusal names view)) new_free

-- a RENAME2 that nothing refuses is a RENAME that nothing does
pub rename2_free : (mount : MountModel) (node newdir flags : ℕ) (name newname : List ℕ) → early mount (Rename2 node newdir flags name newname) ≡ None
    → refusal (names_of name newdir newname) (moving_view mount node (names_of name newdir newname)) ≡ None
rename2_free mount node newdir flags name newname free = by (flags == 0) (no_refusal mount (Rename2 node newdir flags name newname) free)
  where
    by : (t : Bool) → (if t then refusal (names_of name newdir newname) (moving_view mount node (names_of name newdir newname)) else Some einval) ≡ None
        → refusal (names_of name newdir newname) (moving_view mount node (names_of name newdir newname)) ≡ None
    by true e = e
    by false e = absurd (no_Some (sym e))

-- ---- what is provided for it
abbrev both_of : Provided → Option (List ℕ × List ℕ)
both_of (moving from to) = Some (from, to)
both_of provided = None

-- nothing where its paths are one, and else both
module _ (mount : MountModel) (node : ℕ) (names : Names) (paths : TwoPaths) (is : IsMoving mount node names paths) where
  abbrev seen : View
  seen = moving_view mount node names

  same_paths : bytes_eq paths.from.bytes paths.to.bytes ≡ is_same names seen
  same_paths = λ i. bytes_eq (is.from i) (is.to i)

  pub wants_nothing : true ≡ bytes_eq paths.from.bytes paths.to.bytes → nothing ≡ rename_wants names seen
  wants_nothing one = ap (λ t. if t then nothing else moving (from_of names seen) (to_of names seen)) (one ∙ same_paths)

  pub wants_both : false ≡ bytes_eq paths.from.bytes paths.to.bytes → moving paths.from.bytes paths.to.bytes ≡ rename_wants names seen
  wants_both two =
      (λ i. moving (is.from i) (is.to i)) ∙ ap (λ t. if t then nothing else moving (from_of names seen) (to_of names seen)) (two ∙ same_paths)

-- where nothing is provided, its paths are one
pub are_one : (given : Prepared) → ((from to : List ℕ) → given ≡ prepared.Moving from to → ⊥) → (names : Names) (view : View)
    → provided_by given ≡ rename_wants names view → is_same names view ≡ true
are_one given other names view wants = by (is_same names view) wants
  where
    none : (p : Prepared) → ((from to : List ℕ) → p ≡ prepared.Moving from to → ⊥) → both_of (provided_by p) ≡ None
    none (prepared.Moving from to) other = absurd (other from to refl)
    none p other = refl

    by : (same : Bool) → provided_by given ≡ (if same then nothing else moving (from_of names view) (to_of names view)) → same ≡ true
    by true e = refl
    by false e = absurd (no_Some (sym (none given other) ∙ ap both_of e))

-- where both are, it came to what was observed
module _ (from to : List ℕ) (names : Names) (view : View) (wants : moving from to ≡ rename_wants names view) where
  -- the paths differ, and are its own
  record AreApart : Type 0 where
    pub two : is_same names view ≡ false
    pub both : ◌≡◌ {A = List ℕ × List ℕ} (from, to) (from_of names view, to_of names view)

  apart : AreApart
  apart = by (is_same names view) refl wants
    where
      by : (same : Bool) → is_same names view ≡ same → moving from to ≡ (if same then nothing else moving (from_of names view) (to_of names view)) → AreApart
      by true is e = absurd (no_Some (sym (ap both_of e)))
      by false is e = record { two = is; both = same_Some (ap both_of e) }

  module _ (answers : List Answer) (found : Came) (is : found ≡ came_of answers) where
    came_so : found ≡ came names view answers
    came_so = is ∙ sym (ap (λ t. if t then moved else came_of answers) apart.two)

    pub replies : reply_to found ≡ reply_to (came names view answers)
    replies = ap reply_to came_so

  -- the mount without either name
  pub leaves : (mount : MountModel) (answers : List Answer) → moved ≡ came_of answers
      → without_name (without_name mount from) to ≡ mount_after names view mount (came names view answers)
  leaves mount answers is =
      ap (λ (p : List ℕ × List ℕ). without_name (without_name mount p.0) p.1) apart.both
      ∙ sym (ap (λ t. if t then mount else without_name (without_name mount (from_of names view)) (to_of names view)) apart.two)
      ∙ ap (mount_after names view mount) (came_so answers moved is)
