-- Files stay short where what the bucket told of is short.
use Rattle.std.proofs.Common.{◌≡◌, ℕ, ◌≤◌, Bool, true, false, List, [], Option, Some, None, refl, sym, ap, subst, ◌∙◌, ◌⊎◌, inl, inr, nat_cmp}
use Rattle.std.specs.Prelude.{option_and_then, if◌then◌else◌}
use Rattle.std.specs.FinMap as fin
use Rattle.std.specs.Option.{option_map_or}
use Rattle.bucket_api.specs.Metadata.{Metadata}
use Rattle.bucket_api.specs.Operation.{max_content}
use Rattle.fuse_requests.specs.declared.request.Request.{Request}
use Rattle.fuse_requests.specs.declared.request.Request.TheVariants.{Create, Forget, Lookup, Mkdir, Mknod, Readlink, Rename, Rmdir, Setattr, Symlink, Unlink}
use Rattle.inode_spec.specs.Inodes.{file_of, forgotten, granted, root, root_number}
use Rattle.mount_model.specs.Observing.{Observed}
use Rattle.fuse_replies.specs.Errno.{enospc}
use Rattle.mount_model.specs.declared.config.Config.{Config}
use Rattle.mount_rules.specs.Dispatch.{early, goes_on, is_full, mount_after, refused_at_take, rules_of, taken_at, wants}
use Rattle.mount_rules.specs.Files.{FilesAreShort, with_staged}
use Rattle.mount_rules.specs.Making.{Made, exists, fault, made, new}
use Rattle.mount_rules.specs.Mount.{File, MountModel, Node, NodeTable, first_mount}
use Rattle.mount_rules.specs.Plans.{Contents, Wanted, answers_of, last_moment}
use Rattle.mount_rules.specs.Requests.Create as create
use Rattle.mount_rules.specs.Requests.Forget.{is_held}
use Rattle.mount_rules.specs.Requests.Lookup as lookup
use Rattle.mount_rules.specs.Requests.Mkdir as mkdir
use Rattle.mount_rules.specs.Requests.Mknod as mknod
use Rattle.mount_rules.specs.Removing as removing
use Rattle.mount_rules.specs.Requests.Rename as rename
use Rattle.mount_rules.specs.Requests.Rmdir as rmdir
use Rattle.mount_rules.specs.Requests.Setattr as setattr
use Rattle.mount_rules.specs.Requests.Unlink as unlink
use Rattle.mount_rules.specs.Rules.{AtTake, Taken}
use Rattle.mount_rules.specs.Showing.{after_directory, after_showing, directory_again, new_directory, new_node, object_again}
use Rattle.mount_rules.specs.View.{Sight, View}
use Rattle.staging_spec.specs.StagedFiles.{StagedContent}
use Rattle.mount_laws.proofs.Keeping.{no_Some, same_Some}
use Rattle.mount_laws.proofs.Showings.{ShownAgain-directory, ShownAgain-object, shown_nodes}
use Rattle.mount_laws.proofs.Sources.{IsTold, NodesFrom, NodesFrom-stay, NodesFrom-told, NodesStay-forgotten, ShowsBy, WasThere, shown_in}
use Rattle.spare_maps.proofs.FinMaps.{number_put}

-- a generation of which a content is not too long
abbrev Small : List ℕ → ℕ → ℕ → Type 0
Small name generation size = size ≤ max_content

abbrev AreShort : NodeTable → Type 0
AreShort table = (number : ℕ) (file : File) → file_of table number ≡ Some file → file.size ≤ max_content

-- nodes that were there, or show what is short
nodes_short : (table after : NodeTable) → NodesFrom Small table after → AreShort table → AreShort after
nodes_short table after from short number file is = by (fin.get after.nodes number) refl is
  where
    was : (old : Option File) → option_and_then (λ (n : Node). n.file) (fin.get table.nodes number) ≡ old → shown_in old ≡ Some (file.source, file.size) → file.size ≤ max_content
    was None there e = absurd (no_Some e)
    was (Some f) there e = subst (λ (p : ℕ × ℕ). p.1 ≤ max_content) (same_Some e) (short number f there)

    on : (node : Node) → node.file ≡ Some file → WasThere table number node ⊎ IsTold Small node → file.size ≤ max_content
    on node has (inl w) = was w.old.file (ap (option_and_then (λ (n : Node). n.file)) w.there) (sym w.same.shown ∙ ap shown_in has)
    on node has (inr told) = subst (λ (f : Option File). ShowsBy Small node.name (shown_in f)) has told

    by : (found : Option Node) → fin.get after.nodes number ≡ found → option_and_then (λ (node : Node). node.file) found ≡ Some file → file.size ≤ max_content
    by None there e = absurd (no_Some e)
    by (Some node) there e = on node e (from number node there)

-- a mount before its first request has no file
pub first_short : FilesAreShort first_mount
first_short number file is = by (fin.get (first_mount.table.nodes) number) refl is
  where
    on : (node : Node) → ((number ≡ root_number) × (root ≡ node)) ⊎ (fin.get {X = Node} {R = nat_cmp} fin.empty number ≡ Some node) → node.file ≡ Some file → file.size ≤ max_content
    on node (inl (at, one)) e = absurd (no_Some (ap (λ (n : Node). n.file) one ∙ e))
    on node (inr found) e = absurd (no_Some (sym (fin.get-empty nat_cmp number) ∙ found))

    by : (found : Option Node) → fin.get first_mount.table.nodes number ≡ found → option_and_then (λ (node : Node). node.file) found ≡ Some file → file.size ≤ max_content
    by None there e = absurd (no_Some e)
    by (Some node) there e = on node (number_put fin.empty root_number root node number there) e

module _ (at : AtTake) (mount : MountModel) (short : FilesAreShort mount) where
  -- a request that is refused changes nothing
  goes : (request : Request) (seen : List Observed) → FilesAreShort ((rules_of request).after (taken_at at mount request) mount seen) → FilesAreShort (mount_after at mount request seen)
  goes request seen then_short = by (goes_on mount request)
    where
      by : (on : Bool) → FilesAreShort (if on then (rules_of request).after (taken_at at mount request) mount seen else mount)
      by true = then_short
      by false = short

  pub look_up_short : (node : ℕ) (name : List ℕ) (seen : List Observed) (meta : Metadata) → lookup.found (answers_of seen) ≡ lookup.object meta → meta.size ≤ max_content
      → FilesAreShort (mount_after at mount (Lookup node name) seen)
  look_up_short node name seen meta found small =
      goes (Lookup node name) seen
      (subst (λ f. AreShort (lookup.table_after mount.table path moment f)) (sym found)
      (nodes_short mount.table (after_showing mount.table path meta moment)
      (shown_nodes (object_again meta moment) (ShownAgain-object meta moment) mount.table path Small (new_node path meta moment) small) short))
    where
      path : List ℕ
      path = lookup.path_of name (taken_at at mount (Lookup node name)).view

      moment : ℕ
      moment = last_moment seen

  new_node_short : (path : List ℕ) (meta : Metadata) (moment : ℕ) → meta.size ≤ max_content → AreShort (granted mount.table (new_node path meta moment))
  new_node_short path meta moment small =
      nodes_short mount.table (granted mount.table (new_node path meta moment)) (NodesFrom-told Small mount.table mount.table.next (new_node path meta moment) small) short

  pub create_short : (node : ℕ) (name : List ℕ) (seen : List Observed) (meta : Metadata) → made (answers_of seen) ≡ new meta → meta.size ≤ max_content
      → FilesAreShort (mount_after at mount (Create node name) seen)
  create_short node name seen meta is small =
      goes (Create node name) seen
      (subst (λ (m : Made). FilesAreShort (create.mount_after mount path moment m)) (sym is) (new_node_short path meta moment small))
    where
      path : List ℕ
      path = create.path_of name (taken_at at mount (Create node name)).view

      moment : ℕ
      moment = last_moment seen

  -- an object that is made and not opened
  made_short : (path : List ℕ) (seen : List Observed) (meta : Metadata) → made (answers_of seen) ≡ new meta → meta.size ≤ max_content
      → FilesAreShort (mknod.mount_after mount path (last_moment seen) (made (answers_of seen)))
  made_short path seen meta is small =
      subst (λ (m : Made). FilesAreShort (mknod.mount_after mount path (last_moment seen) m)) (sym is) (new_node_short path meta (last_moment seen) small)

  pub mknod_short : (node mode : ℕ) (name : List ℕ) (seen : List Observed) (meta : Metadata) → made (answers_of seen) ≡ new meta → meta.size ≤ max_content
      → FilesAreShort (mount_after at mount (Mknod node mode name) seen)
  mknod_short node mode name seen meta is small =
      goes (Mknod node mode name) seen (made_short (create.path_of name (taken_at at mount (Mknod node mode name)).view) seen meta is small)

  pub symlink_short : (node : ℕ) (name target : List ℕ) (seen : List Observed) (meta : Metadata) → made (answers_of seen) ≡ new meta → meta.size ≤ max_content
      → FilesAreShort (mount_after at mount (Symlink node name target) seen)
  symlink_short node name target seen meta is small =
      goes (Symlink node name target) seen (made_short (create.path_of name (taken_at at mount (Symlink node name target)).view) seen meta is small)

  -- a directory has no content
  pub mkdir_short : (node : ℕ) (name : List ℕ) (seen : List Observed) → FilesAreShort (mount_after at mount (Mkdir node name) seen)
  mkdir_short node name seen = goes (Mkdir node name) seen (by (made (answers_of seen)))
    where
      prefix : List ℕ
      prefix = mkdir.prefix_of name (taken_at at mount (Mkdir node name)).view

      by : (came : Made) → FilesAreShort (mkdir.mount_after mount prefix came)
      by (new meta) =
          nodes_short mount.table (after_directory mount.table prefix) (shown_nodes directory_again ShownAgain-directory mount.table prefix Small (new_directory prefix) tt) short
      by exists = short
      by fault = short

  pub readlink_short : (node : ℕ) (seen : List Observed) → FilesAreShort (mount_after at mount (Readlink node) seen)
  readlink_short node seen = goes (Readlink node) seen short

  -- a name that loses its current node changes no node
  removed_short : (name : List ℕ) (removed : removing.Removed) → FilesAreShort (removing.mount_after mount name removed)
  removed_short name removing.gone = short
  removed_short name removing.nothing = short
  removed_short name removing.fault = short

  pub unlink_short : (node : ℕ) (name : List ℕ) (seen : List Observed) → FilesAreShort (mount_after at mount (Unlink node name) seen)
  unlink_short node name seen =
      goes (Unlink node name) seen (removed_short (unlink.path_of name (taken_at at mount (Unlink node name)).view) (unlink.removed (answers_of seen)))

  pub rmdir_short : (node : ℕ) (name : List ℕ) (seen : List Observed) → FilesAreShort (mount_after at mount (Rmdir node name) seen)
  rmdir_short node name seen = goes (Rmdir node name) seen (by (rmdir.came_of prefix (answers_of seen)))
    where
      prefix : List ℕ
      prefix = mkdir.prefix_of name (taken_at at mount (Rmdir node name)).view

      by : (came : rmdir.Came) → FilesAreShort (rmdir.mount_after mount prefix came)
      by (rmdir.removed removed) = removed_short prefix removed
      by rmdir.not_empty = short

  pub rename_short : (node newdir : ℕ) (name newname : List ℕ) (seen : List Observed) → FilesAreShort (mount_after at mount (Rename node newdir name newname) seen)
  rename_short node newdir name newname seen = goes (Rename node newdir name newname) seen (by (rename.came names view (answers_of seen)))
    where
      names : rename.Names
      names = record { name = name; newdir = newdir; newname = newname }

      view : View
      view = (taken_at at mount (Rename node newdir name newname)).view

      moved : (same : Bool) → FilesAreShort (if same then mount else removing.without_name (removing.without_name mount (rename.from_of names view)) (rename.to_of names view))
      moved true = short
      moved false = short

      by : (came : rename.Came) → FilesAreShort (rename.mount_after names view mount came)
      by rename.moved = moved (rename.is_same names view)
      by rename.directory = short
      by rename.nothing = short
      by rename.stale = short
      by rename.fault = short

  pub forget_short : (node count : ℕ) (seen : List Observed) → FilesAreShort (mount_after at mount (Forget node count) seen)
  forget_short node count seen =
      let held = is_held mount.handles node in
      let after = forgotten mount.table node count held in
      goes (Forget node count) seen (nodes_short mount.table after (NodesFrom-stay Small mount.table after (NodesStay-forgotten mount.table node count held)) short)

  -- a SETATTR that asks nothing stages alone
  pub setattr_short : (node valid size mtime nanos : ℕ) → FilesAreShort (mount_after at mount (Setattr node valid size mtime nanos) [])
  setattr_short node valid size mtime nanos =
      goes (Setattr node valid size mtime nanos) [] (by (setattr.change_in asked taken.view))
    where
      asked : setattr.Asked
      asked = record { valid = valid; size = size; seconds = mtime; nanos = nanos }

      taken : Taken
      taken = taken_at at mount (Setattr node valid size mtime nanos)

      resized : (seen : Option Sight) → FilesAreShort (option_map_or (λ file. with_staged mount node (setattr.resized_by taken asked file)) seen mount)
      resized None = short
      resized (Some file) = short

      timed : (staged : Option StagedContent) → FilesAreShort (option_map_or (λ s. with_staged mount node (setattr.with_time s (setattr.time_set asked at.second))) staged mount)
      timed None = short
      timed (Some s) = short

      by : (change : setattr.Change) → FilesAreShort (setattr.mount_after taken asked node mount 0 [] change)
      by setattr.resize = resized taken.view.node
      by setattr.stage_time = timed taken.view.staged
      by setattr.set_time = short
      by setattr.look = short

-- ---- a request that is performed
-- what is not refused at its take is not refused early
pub not_refused : (config : Config) (mount : MountModel) (request : Request) → None ≡ refused_at_take config mount request → early mount request ≡ None
not_refused config mount request none = by (early mount request) none
  where
    by : (found : Option ℕ) → None ≡ option_map_or Some found (if is_full config mount request then Some enospc else None) → found ≡ None
    by None e = refl
    by (Some errno) e = absurd (no_Some e)

-- a RENAME wants no bytes
pub rename_quiet : (config : Config) (mount : MountModel) (node newdir : ℕ) (name newname : List ℕ) → wants config mount (Rename node newdir name newname) ≡ None
rename_quiet config mount node newdir name newname = by (goes_on mount (Rename node newdir name newname))
  where
    by : (on : Bool) → ◌≡◌ {A = Option Wanted} (if on then None else None) None
    by true = refl
    by false = refl

-- generations that hold nothing
abbrev pub of_nothing : Contents
of_nothing name generation = []
