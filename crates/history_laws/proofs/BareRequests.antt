-- Every request comes to the same at a mount without moments, where its own moment is later than those that were kept.
use Rattle.std.proofs.Common.{◌≡◌, ℕ, Bool, true, false, List, [], ◌∷◌, Option, Some, None, refl, sym, ap, subst, ◌∙◌, length}
use Rattle.std.specs.FinMap as fin
use Rattle.std.specs.Option.{option_map, option_map_or}
use Rattle.std.specs.Prelude.{if◌then◌else◌, is_some}
use Rattle.fuse_replies.specs.declared.reply.Reply.TheVariants.{Entry, Opened}
use Rattle.fuse_requests.specs.declared.request.Forgotten.{Forgotten}
use Rattle.fuse_requests.specs.declared.request.Request.{Request}
use Rattle.fuse_requests.specs.declared.request.Request.TheVariants.{
  Create,
  Flush,
  Fsync,
  Getattr,
  Lookup,
  Mkdir,
  Mknod,
  Opendir,
  Opening,
  Read,
  Rename,
  Rename2,
  Rmdir,
  Setattr,
  Symlink,
  Unlink,
  Write,
}
use Rattle.fuse_requests.specs.declared.request.Request.TheVariants.{BatchForget, Destroy, Forget, Fsyncdir, Init, Interrupt, Readdir, Readlink, Release, Releasedir, Statfs, Unknown}
use Rattle.history_laws.proofs.Bare.{IsBare, IsWithin, bare_node, found_bare}
use Rattle.history_laws.proofs.BareMounts.{IsBareMount, directory_entry_bare, handles_same, staged_same}
use Rattle.history_laws.proofs.BareSteps.{directory_bare, forgetting_bare, let_go_bare}
use Rattle.history_laws.proofs.ShownAgain.{AreNamed}
use Rattle.inode_spec.specs.Inodes.{forgotten, let_go}
use Rattle.mount_model.specs.Observing.{Observed}
use Rattle.mount_model.specs.declared.config.Config.{Config}
use Rattle.mount_rules.specs.Dispatch.{rules_of}
use Rattle.mount_rules.specs.Files.{with_staged}
use Rattle.mount_rules.specs.Making as making
use Rattle.mount_rules.specs.Mount.{MountModel, Node, NodeTable}
use Rattle.mount_rules.specs.Plans.{answers_of, last_moment}
use Rattle.mount_rules.specs.Reading.{reads}
use Rattle.mount_rules.specs.Removing as removing
use Rattle.mount_rules.specs.Requests.BatchForget as batch_forget
use Rattle.mount_rules.specs.Requests.Create as create
use Rattle.mount_rules.specs.Requests.Forget as forget
use Rattle.mount_rules.specs.Requests.Init as init
use Rattle.mount_rules.specs.Requests.Lookup as lookup
use Rattle.mount_rules.specs.Requests.Mkdir as mkdir
use Rattle.mount_rules.specs.Requests.Opendir as opendir
use Rattle.mount_rules.specs.Requests.Release as release
use Rattle.mount_rules.specs.Requests.Rename as rename
use Rattle.mount_rules.specs.Requests.Rmdir as rmdir
use Rattle.mount_rules.specs.Requests.Setattr as setattr
use Rattle.mount_rules.specs.Requests.Unlink as unlink
use Rattle.mount_rules.specs.Requests.Write as write
use Rattle.mount_rules.specs.Rules.{Taken}
use Rattle.mount_rules.specs.Standing.{generation_seen}
use Rattle.mount_rules.specs.View.{Sight, View}
use Rattle.object_names.specs.declared.shown.DirItem.{DirItem}
use Rattle.staging_spec.specs.StagedFiles.{StagedFiles}
use Rattle.history_laws.proofs.BareEnds.{EndsBare, IsLate, asked_by, bare_after, bare_reply, names_by, same_end, staged_too, stays, unnamed_too, with_nodes}
use Rattle.history_laws.proofs.BareAnswered.{create_end, flush_end, getattr_end, lookup_end, mknod_end, open_end, setattr_end}

module _ (Known Then : List ℕ → ℕ → ℕ → Type 0) (within : IsWithin Known Then) (mount bare : MountModel) (so : IsBareMount Known mount bare) where
  -- ---- whatever the moment
  mkdir_end : (config : Config) (prefix : List ℕ) (made : making.Made)
      → EndsBare Then (mkdir.reply_to config mount prefix made) (mkdir.reply_to config bare prefix made) (mkdir.mount_after mount prefix made) (mkdir.mount_after bare prefix made)
  mkdir_end config prefix (making.new meta) = record {
    reply = ap Entry (directory_entry_bare Known mount bare so config prefix);
    after = with_nodes Known Then within mount bare so _ _ (directory_bare Then mount.table bare.table (stays Known Then within mount bare so).table prefix);
  }
  mkdir_end config prefix making.exists = same_end Known Then within mount bare so _
  mkdir_end config prefix making.fault = same_end Known Then within mount bare so _

  removed_end : (name : List ℕ) (found : removing.Removed) → IsBareMount Then (removing.mount_after mount name found) (removing.mount_after bare name found)
  removed_end name removing.gone = unnamed_too Known Then within mount bare so name
  removed_end name removing.nothing = stays Known Then within mount bare so
  removed_end name removing.fault = stays Known Then within mount bare so

  rmdir_end : (prefix : List ℕ) (came : rmdir.Came) → IsBareMount Then (rmdir.mount_after mount prefix came) (rmdir.mount_after bare prefix came)
  rmdir_end prefix (rmdir.removed found) = removed_end prefix found
  rmdir_end prefix rmdir.not_empty = stays Known Then within mount bare so

  write_end : (taken : Taken) (node first : ℕ) (bytes : List ℕ) (came : write.Came)
      → IsBareMount Then (write.mount_after taken mount node first bytes came) (write.mount_after taken bare node first bytes came)
  write_end taken node first [] write.whole = stays Known Then within mount bare so
  write_end taken node first (byte ∷ bytes) write.whole = by taken.view.node
    where
      by : (found : Option Sight)
          → IsBareMount Then (option_map_or (λ file. with_staged mount node (write.staged_by taken.at.contents taken.at.second first (byte ∷ bytes) taken.view.staged file)) found mount)
          (option_map_or (λ file. with_staged bare node (write.staged_by taken.at.contents taken.at.second first (byte ∷ bytes) taken.view.staged file)) found bare)
      by None = stays Known Then within mount bare so
      by (Some file) = staged_too Known Then within mount bare so node _
  write_end taken node first bytes write.full = stays Known Then within mount bare so
  write_end taken node first bytes write.stale = stays Known Then within mount bare so
  write_end taken node first bytes write.fault = stays Known Then within mount bare so

  opendir_end : (node : ℕ) (found : Option (List DirItem))
      → EndsBare Then (opendir.reply_to mount found) (opendir.reply_to bare found) (opendir.mount_after node mount found) (opendir.mount_after node bare found)
  opendir_end node None = same_end Known Then within mount bare so _
  opendir_end node (Some items) = record {
    reply = ap (λ (b : MountModel). Opened b.next_handle) so.rest;
    after = record { table = (stays Known Then within mount bare so).table; rest = ap (λ (b : MountModel). opendir.mount_after node b (Some items)) so.rest };
  }

  -- a node may have gone, and what is staged of it
  left_too : (number : ℕ) (table bare_table : NodeTable) → IsBare Then table bare_table → IsBareMount Then (forget.with_left number table mount) (forget.with_left number bare_table bare)
  left_too number table bare_table its = record {
    table = its;
    rest = ap (λ there. record mount { table = bare_table; staged = if there then mount.staged else fin.remove mount.staged number }) there_too
        ∙ ap (λ (b : MountModel). record b { table = bare_table; staged = forget.staged_beside bare_table number b.staged }) so.rest;
  }
    where
      some : (found : Option Node) → is_some found ≡ is_some (option_map bare_node found)
      some None = refl
      some (Some x) = refl

      there_too : is_some (fin.get table.nodes number) ≡ is_some (fin.get bare_table.nodes number)
      there_too = some (fin.get table.nodes number) ∙ sym (ap is_some (found_bare Then table bare_table its number))

  forget_end : (number count : ℕ) → IsBareMount Then (forget.after number count mount) (forget.after number count bare)
  forget_end number count = left_too number _ _
      (subst (λ handles. IsBare Then (forgotten mount.table number count (forget.is_held mount.handles number)) (forgotten bare.table number count (forget.is_held handles number)))
      (handles_same Known mount bare so) (forgetting_bare Then mount.table bare.table (stays Known Then within mount bare so).table number count (forget.is_held mount.handles number)))

  release_end : (node fh : ℕ) → IsBareMount Then (release.after node fh mount) (release.after node fh bare)
  release_end node fh = record {
    table = left.table;
    rest = ap (λ (b : MountModel). record b { handles = fin.remove mount.handles fh }) left.rest
        ∙ ap (λ handles. record (forget.with_left node (release.left_by (fin.remove bare.handles fh) node bare.table) bare) { handles = fin.remove handles fh }) (handles_same Known mount bare so);
  }
    where
      nodes : (held : Bool) → IsBare Then (if held then mount.table else let_go mount.table node) (if held then bare.table else let_go bare.table node)
      nodes true = (stays Known Then within mount bare so).table
      nodes false = let_go_bare Then mount.table bare.table (stays Known Then within mount bare so).table node

      left : IsBareMount Then (forget.with_left node (release.left_by (fin.remove mount.handles fh) node mount.table) mount)
          (forget.with_left node (release.left_by (fin.remove bare.handles fh) node bare.table) bare)
      left = left_too node _ _
          (subst (λ handles. IsBare Then (release.left_by (fin.remove mount.handles fh) node mount.table) (release.left_by (fin.remove handles fh) node bare.table)) (handles_same Known mount bare so)
          (nodes (forget.is_held (fin.remove mount.handles fh) node)))

  releasedir_end : (fh : ℕ) → IsBareMount Then (record mount { handles = fin.remove mount.handles fh }) (record bare { handles = fin.remove bare.handles fh })
  releasedir_end fh = record { table = (stays Known Then within mount bare so).table; rest = ap (λ (b : MountModel). record b { handles = fin.remove b.handles fh }) so.rest }

  init_end : (taken : Bool) → IsBareMount Then (if taken then record mount { negotiated = true } else mount) (if taken then record bare { negotiated = true } else bare)
  init_end true = record { table = (stays Known Then within mount bare so).table; rest = ap (λ (b : MountModel). record b { negotiated = true }) so.rest }
  init_end false = stays Known Then within mount bare so

rename_end : (Known Then : List ℕ → ℕ → ℕ → Type 0) → IsWithin Known Then → (mount bare : MountModel) → IsBareMount Known mount bare → (names : rename.Names) (view : View) (came : rename.Came)
    → IsBareMount Then (rename.mount_after names view mount came) (rename.mount_after names view bare came)
rename_end Known Then within mount bare so names view rename.moved = by (rename.is_same names view)
  where
    first : IsBareMount Then (removing.without_name mount (rename.from_of names view)) (removing.without_name bare (rename.from_of names view))
    first = unnamed_too Known Then within mount bare so (rename.from_of names view)

    by : (same : Bool)
        → IsBareMount Then (if same then mount else removing.without_name (removing.without_name mount (rename.from_of names view)) (rename.to_of names view))
        (if same then bare else removing.without_name (removing.without_name bare (rename.from_of names view)) (rename.to_of names view))
    by true = stays Known Then within mount bare so
    by false = unnamed_too Then Then (λ name source known its. its) _ _ first (rename.to_of names view)
rename_end Known Then within mount bare so names view rename.directory = stays Known Then within mount bare so
rename_end Known Then within mount bare so names view rename.nothing = stays Known Then within mount bare so
rename_end Known Then within mount bare so names view rename.stale = stays Known Then within mount bare so
rename_end Known Then within mount bare so names view rename.fault = stays Known Then within mount bare so

batch_end : (Known Then : List ℕ → ℕ → ℕ → Type 0) → IsWithin Known Then → (mount bare : MountModel) → IsBareMount Known mount bare → (pairs : List Forgotten)
    → IsBareMount Then (batch_forget.after pairs mount) (batch_forget.after pairs bare)
batch_end Known Then within mount bare so [] = stays Known Then within mount bare so
batch_end Known Then within mount bare so (pair ∷ more) = batch_end Then Then (λ name source known its. its) _ _ (forget_end Known Then within mount bare so pair.node pair.count) more

-- ---- every request
module _ (taken : Taken) (Known Then : List ℕ → ℕ → ℕ → Type 0) (within : IsWithin Known Then) (mount bare : MountModel) (so : IsBareMount Known mount bare) (named : AreNamed mount.table)
    (seen : List Observed) where
  abbrev Ends : Request → Type 0
  Ends request = EndsBare Then ((rules_of request).reply taken mount seen) (bare_reply request taken bare (answers_of seen)) ((rules_of request).after taken mount seen)
      (bare_after request taken bare (answers_of seen))

  pub ends_bare : (request : Request) → IsLate Known Then (last_moment seen) taken mount request (answers_of seen) → Ends request
  ends_bare (Lookup node name) late = lookup_end Known Then within mount bare so (last_moment seen) named taken.at.config (lookup.path_of name taken.view) (answers_of seen) late
  ends_bare (Getattr node) late = getattr_end Known Then within mount bare so (last_moment seen) taken.at.config node (generation_seen taken.view.node) (answers_of seen) late
  ends_bare (Setattr node valid size mtime nanos) late =
      setattr_end Known Then within mount bare so (last_moment seen) taken (asked_by valid size mtime nanos) node (answers_of seen)
      (setattr.change_in (asked_by valid size mtime nanos) taken.view) late
  ends_bare (Opening node flags) late = open_end Known Then within mount bare so (last_moment seen) node (generation_seen taken.view.node) (answers_of seen) late
  ends_bare (Read node fh first size) late = same_end Known Then within mount bare so _
  ends_bare (Write node fh first content) late = record {
    reply = ap (λ (b : MountModel). write.reply_to (length content) (write.came taken b first content (answers_of seen))) so.rest;
    after = subst (λ (staged : StagedFiles). IsBareMount Then (write.mount_after taken mount node first content (write.came taken mount first content (answers_of seen)))
        (write.mount_after taken bare node first content (write.came_of (write.is_full taken.at.config staged first content taken.view) (reads (answers_of seen))))) (staged_same Known mount bare so)
        (write_end Known Then within mount bare so taken node first content (write.came taken mount first content (answers_of seen)));
  }
  ends_bare (Flush node fh) late = record { reply = refl; after = flush_end Known Then within mount bare so (last_moment seen) taken.view.staged node (answers_of seen) late }
  ends_bare (Fsync node fh) late = record { reply = refl; after = flush_end Known Then within mount bare so (last_moment seen) taken.view.staged node (answers_of seen) late }
  ends_bare (Opendir node) late = opendir_end Known Then within mount bare so node _
  ends_bare (Create node name) late = create_end Known Then within mount bare so (last_moment seen) taken.at.config (create.path_of name taken.view) (answers_of seen) late
  ends_bare (Symlink node name target) late = mknod_end Known Then within mount bare so (last_moment seen) taken.at.config (create.path_of name taken.view) (answers_of seen) late
  ends_bare (Mknod node mode name) late = mknod_end Known Then within mount bare so (last_moment seen) taken.at.config (create.path_of name taken.view) (answers_of seen) late
  ends_bare (Mkdir node name) late = mkdir_end Known Then within mount bare so taken.at.config (mkdir.prefix_of name taken.view) (making.made (answers_of seen))
  ends_bare (Unlink node name) late = record { reply = refl; after = removed_end Known Then within mount bare so (unlink.path_of name taken.view) (unlink.removed (answers_of seen)) }
  ends_bare (Rmdir node name) late = record {
    reply = refl;
    after = rmdir_end Known Then within mount bare so (mkdir.prefix_of name taken.view)
        (rmdir.came_of (mkdir.prefix_of name taken.view) (answers_of seen));
  }
  ends_bare (Rename node newdir name newname) late = record {
    reply = refl;
    after = rename_end Known Then within mount bare so (names_by newdir name newname) taken.view (rename.came (names_by newdir name newname) taken.view (answers_of seen));
  }
  ends_bare (Rename2 node newdir flags name newname) late = record {
    reply = refl;
    after = rename_end Known Then within mount bare so (names_by newdir name newname) taken.view (rename.came (names_by newdir name newname) taken.view (answers_of seen));
  }
  ends_bare (Forget node count) late = record { reply = refl; after = forget_end Known Then within mount bare so node count }
  ends_bare (BatchForget pairs) late = record { reply = refl; after = batch_end Known Then within mount bare so pairs.items }
  ends_bare (Release node fh) late = record { reply = refl; after = release_end Known Then within mount bare so node fh }
  ends_bare (Releasedir node fh) late = record { reply = refl; after = releasedir_end Known Then within mount bare so fh }
  ends_bare (Init major minor readahead flags) late = record { reply = refl; after = init_end Known Then within mount bare so (init.is_taken major minor) }
  ends_bare Statfs late = same_end Known Then within mount bare so _
  ends_bare (Readdir node fh first size) late = same_end Known Then within mount bare so _
  ends_bare (Fsyncdir node fh) late = same_end Known Then within mount bare so _
  ends_bare Destroy late = same_end Known Then within mount bare so _
  ends_bare (Readlink node) late = same_end Known Then within mount bare so _
  ends_bare Interrupt late = same_end Known Then within mount bare so _
  ends_bare (Unknown opcode) late = same_end Known Then within mount bare so _
