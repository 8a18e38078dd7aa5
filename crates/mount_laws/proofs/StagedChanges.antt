-- What a request makes of what is staged of files: it stays; what is staged of a node ends; or it is put there, by a WRITE
-- that there is room for, by a size change, or with another time. And what is staged afterwards is of files that show the
-- same as before.
use Rattle.std.proofs.Common.{◌≡◌, ◌≢◌, ℕ, Bool, true, false, List, [], ◌∷◌, Option, Some, None, refl, sym, ap, subst, ◌∙◌, ◌⊎◌, inl, inr, length, option_map}
use Rattle.std.proofs.lemmas.Bool.{false≢true}
use Rattle.std.specs.Prelude.{◌||◌, not, is_some, option_and_then}
use Rattle.std.specs.FinMap as fin
use Rattle.std.specs.List.{list_any}
use Rattle.std.specs.Option.{option_map_or}
use Rattle.bucket_api.specs.Metadata.{Metadata}
use Rattle.claim_spec.specs.Conflicts.{IsOwned}
use Rattle.claim_spec.specs.declared.claim.Claim.{Claim}
use Rattle.claim_spec.specs.declared.claim.ClaimKey.{ClaimKey}
use Rattle.claim_spec.specs.declared.claim.ClaimKey.TheVariants as key
use Rattle.fuse_requests.specs.declared.request.Forgotten.{Forgotten}
use Rattle.fuse_requests.specs.declared.request.Request.{Request}
use Rattle.fuse_requests.specs.declared.request.Request.TheVariants.{BatchForget, Create, Flush, Forget, Fsync, Init, Mkdir, Mknod, Opendir, Opening}
use Rattle.fuse_requests.specs.declared.request.Request.TheVariants.{Release, Releasedir, Rename, Rename2, Rmdir, Setattr, Symlink, Unlink, Write}
use Rattle.inode_spec.proofs.Cases.{on_found, on_test}
use Rattle.inode_spec.specs.Inodes.{Nodes, forgotten, is_live, made_current, with_file}
use Rattle.mount_model.specs.Observing.{Observed}
use Rattle.mount_rules.specs.Dispatch.{rules_of, taken_at, view_in}
use Rattle.mount_rules.specs.Files.{overlay_of, staging_in, with_staged}
use Rattle.mount_rules.specs.Guards.{is_directory}
use Rattle.mount_rules.specs.Laws.{Keeps}
use Rattle.mount_rules.specs.Making.{Made, exists, new}
use Rattle.mount_rules.specs.Making as making
use Rattle.mount_rules.specs.Mount.{File, IsMount, IsStagedAt, MountModel, Node, NodeTable}
use Rattle.mount_rules.specs.Plans.{answers_of, last_moment}
use Rattle.mount_rules.specs.Reading.{Reads, failed, given, gone, reads}
use Rattle.mount_rules.specs.Requests.BatchForget as batch_forget
use Rattle.mount_rules.specs.Requests.Create as create
use Rattle.mount_rules.specs.Requests.Flush as flush
use Rattle.mount_rules.specs.Requests.Flush.{Came, made}
use Rattle.mount_rules.specs.Requests.Forget as forget
use Rattle.mount_rules.specs.Requests.Forget.{is_held, staged_beside}
use Rattle.mount_rules.specs.Requests.Init as init
use Rattle.mount_rules.specs.Requests.Open as open_file
use Rattle.mount_rules.specs.Requests.Opendir as opendir
use Rattle.mount_rules.specs.Requests.Release as release
use Rattle.mount_rules.specs.Requests.Rename as rename
use Rattle.mount_rules.specs.Requests.Rmdir as rmdir
use Rattle.mount_rules.specs.Requests.Setattr as setattr
use Rattle.mount_rules.specs.Requests.Unlink as unlink
use Rattle.mount_rules.specs.Requests.Write as write
use Rattle.mount_rules.specs.Rules.{AtTake, Taken, at_file, at_open_file}
use Rattle.mount_rules.specs.Showing.{file_shown}
use Rattle.mount_rules.specs.Standing as standing
use Rattle.mount_rules.specs.View.{Sight, View, sight_at, sight_of, view_of}
use Rattle.object_names.specs.declared.shown.DirItem.{DirItem}
use Rattle.staging_spec.specs.Overlays.{held_of}
use Rattle.staging_spec.specs.StagedFiles.{StagedContent, StagedFiles, fits}
use Rattle.staging_spec.specs.Staging.{resized, written}
use Rattle.mount_laws.proofs.Guarding.{SeesOpenFile, on_open_file-none}
use Rattle.mount_laws.proofs.Keeping.{no_Some, same_Some}
use Rattle.mount_laws.proofs.Removing.{removed_staged}
use Rattle.mount_laws.proofs.Requests.BatchForget.{nodes_stay}
use Rattle.mount_laws.proofs.Requests.Mkdir.{mkdir_staged}
use Rattle.mount_laws.proofs.Requests.Mknod.{mknod_staged}
use Rattle.mount_laws.proofs.Requests.Release.{released_stay}
use Rattle.mount_laws.proofs.Requests.Rename.{on_moved, renamed_stay}
use Rattle.mount_laws.proofs.Requests.Rmdir.{rmdir_staged}
use Rattle.mount_laws.proofs.Requests.Setattr.{on_changed}
use Rattle.mount_laws.proofs.Requests.Write.{on_written}
use Rattle.mount_laws.proofs.Sources.{NodesStay, NodesStay-forgotten, NodesStay-same, WasThere}
use Rattle.mount_laws.proofs.Standing.{standing_nodes_stay}
use Rattle.spare_maps.proofs.FinMaps.{number_put, number_put_other, number_taken}

-- ---- what is put in place
-- a file's content with bytes written into it, where there is room for them
pub record IsWritten (at : AtTake) (mount : MountModel) (number : ℕ) (staged : StagedContent) : Type 0 where
  pub file : Sight
  pub seen : sight_at mount.table number ≡ Some file
  pub opened : is_directory file.kind ≡ false
  pub first : ℕ
  pub bytes : List ℕ
  pub room : fits at.config.staging_blocks mount.staged (overlay_of (fin.get mount.staged number) file) first (length bytes) ≡ true
  pub is : staged.overlay ≡ held_of (written (staging_in at.contents (fin.get mount.staged number) file) first bytes)

-- a file's content at another length
pub record IsResized (at : AtTake) (mount : MountModel) (number : ℕ) (staged : StagedContent) : Type 0 where
  pub file : Sight
  pub seen : sight_at mount.table number ≡ Some file
  pub size : ℕ
  pub is : staged.overlay ≡ held_of (resized (staging_in at.contents (fin.get mount.staged number) file) size)

-- what was staged before, at any time
pub record IsCarried (mount : MountModel) (number : ℕ) (staged : StagedContent) : Type 0 where
  pub old : StagedContent
  pub was : fin.get mount.staged number ≡ Some old
  pub is : staged.overlay ≡ old.overlay

abbrev pub IsPut : AtTake → MountModel → ℕ → StagedContent → Type 0
IsPut at mount number staged = IsWritten at mount number staged ⊎ (IsResized at mount number staged ⊎ IsCarried mount number staged)

-- what a RENAME asks for
abbrev renamed : List ℕ → ℕ → List ℕ → rename.Names
renamed name newdir newname = record { name = name; newdir = newdir; newname = newname }

module _ (P : StagedFiles → Type 0) (at : AtTake) (mount : MountModel) (seen : List Observed)
    (same : P mount.staged)
    (ended : (files : StagedFiles) (number : ℕ) → P files → P (fin.remove files number))
    (put : (number : ℕ) (staged : StagedContent) → IsPut at mount number staged → P (fin.insert mount.staged number staged)) where
  -- ---- WRITE
  -- one of no byte changes nothing
  of_no_byte : (taken : Taken) (node first : ℕ) (came : write.Came) → P (write.mount_after taken mount node first [] came).staged
  of_no_byte taken node first write.whole = same
  of_no_byte taken node first write.full = same
  of_no_byte taken node first write.stale = same
  of_no_byte taken node first write.fault = same

  abbrev taken_by_write : ℕ → ℕ → Taken
  taken_by_write node fh = record { at = at; view = view_of mount (at_open_file node fh) }

  module _ (node fh first byte : ℕ) (bytes : List ℕ) where
    abbrev taken : Taken
    taken = taken_by_write node fh

    of_bytes : write.refusal node first (byte ∷ bytes) taken.view ≡ None → (came : Reads)
        → P (write.mount_after taken mount node first (byte ∷ bytes) (write.came_of (write.is_full at.config mount.staged first (byte ∷ bytes) taken.view) came)).staged
    of_bytes free gone = same
    of_bytes free failed = same
    of_bytes free given = by (write.has_room at.config mount.staged first (length (byte ∷ bytes)) taken.view) refl
      where
        s : SeesOpenFile node taken.view (λ file. write.limits_refusal first (length (byte ∷ bytes)))
        s = on_open_file-none node taken.view (λ file. write.limits_refusal first (length (byte ∷ bytes))) free

        held : Sight → StagedContent
        held file = write.staged_by at.contents at.second first (byte ∷ bytes) (fin.get mount.staged node) file

        by : (room : Bool) → write.has_room at.config mount.staged first (length (byte ∷ bytes)) taken.view ≡ room
            → P (write.mount_after taken mount node first (byte ∷ bytes) (write.came_of (not room) given)).staged
        by false has = same
        by true has =
            subst (λ (found : Option Sight). P (option_map_or (λ file. with_staged mount node (held file)) found mount).staged) (sym s.seen)
            (put node (held s.sight) (inl (record {
              file = s.sight;
              seen = s.seen;
              opened = s.file;
              first = first;
              bytes = byte ∷ bytes;
              room = sym (ap (λ found. write.has_room at.config mount.staged first (length (byte ∷ bytes)) (record taken.view { node = found })) s.seen) ∙ has;
              is = refl;
            })))

  of_write : (node fh first : ℕ) (bytes : List ℕ) → write.refusal node first bytes (view_of mount (at_open_file node fh)) ≡ None
      → P ((write.rules node fh first bytes).after (record { at = at; view = view_of mount (at_open_file node fh) }) mount seen).staged
  of_write node fh first [] free = of_no_byte (taken_by_write node fh) node first _
  of_write node fh first (byte ∷ bytes) free = of_bytes node fh first byte bytes free (reads (answers_of seen))

  -- ---- SETATTR
  of_setattr : (node : ℕ) (asked : setattr.Asked) → P ((setattr.rules node asked).after (record { at = at; view = view_of mount (at_file node) }) mount seen).staged
  of_setattr node asked = by (setattr.change_in asked taken_then.view)
    where
      taken_then : Taken
      taken_then = record { at = at; view = view_of mount (at_file node) }

      size : (found : Option Sight) → sight_at mount.table node ≡ found
          → P (option_map_or (λ file. with_staged mount node (setattr.resized_by (record { at = at; view = view_of mount (at_file node) }) asked file)) found mount).staged
      size None is = same
      size (Some file) is = put node (setattr.resized_by (record { at = at; view = view_of mount (at_file node) }) asked file)
          (inr (inl (record { file = file; seen = is; size = asked.size; is = refl })))

      time : (found : Option StagedContent) → fin.get mount.staged node ≡ found
          → P (option_map_or (λ staged. with_staged mount node (setattr.with_time staged (setattr.time_set asked at.second))) found mount).staged
      time None is = same
      time (Some staged) is = put node (setattr.with_time staged (setattr.time_set asked at.second)) (inr (inr (record { old = staged; was = is; is = refl })))

      by : (change : setattr.Change)
          → P (setattr.mount_after (record { at = at; view = view_of mount (at_file node) }) asked node mount (last_moment seen) (answers_of seen) change).staged
      by setattr.resize = size (sight_at mount.table node) refl
      by setattr.stage_time = time (fin.get mount.staged node) refl
      by setattr.set_time = same
      by setattr.look = same

  -- ---- FLUSH and FSYNC
  of_flush : (node : ℕ) (staged : Option StagedContent) (came : Came) → P (flush.mount_by staged mount node (last_moment seen) came).staged
  of_flush node None came = same
  of_flush node (Some staged) (made meta) = ended mount.staged node same
  of_flush node (Some staged) flush.stale = same
  of_flush node (Some staged) flush.fault = same

  -- ---- requests with which a node may go
  of_left : (files : StagedFiles) (number : ℕ) (table : NodeTable) → P files → P (staged_beside table number files)
  of_left files number table was = on_test P (is_some (fin.get table.nodes number)) files (fin.remove files number) (λ there. was) (λ left. ended files number was)

  of_pairs : (pairs : List Forgotten) (before : MountModel) → P before.staged → P (batch_forget.after pairs before).staged
  of_pairs [] before was = was
  of_pairs (pair ∷ more) before was =
      of_pairs more (forget.after pair.node pair.count before)
      (of_left before.staged pair.node (forgotten before.table pair.node pair.count (is_held before.handles pair.node)) was)

  -- ---- requests that leave it
  of_create : (path : List ℕ) (moment : ℕ) (came : Made) → P (create.mount_after mount path moment came).staged
  of_create path moment (new meta) = same
  of_create path moment exists = same
  of_create path moment making.fault = same

  of_open : (node moment : ℕ) (found : standing.Standing) → P (open_file.mount_after node mount moment found).staged
  of_open node moment standing.unasked = same
  of_open node moment (standing.live meta) = same
  of_open node moment standing.gone = same
  of_open node moment standing.fault = same

  of_opendir : (node : ℕ) (items : Option (List DirItem)) → P (opendir.mount_after node mount items).staged
  of_opendir node None = same
  of_opendir node (Some items) = same

  of_init : (major minor : ℕ) → P (init.after major minor mount).staged
  of_init major minor = on_test (λ (m : MountModel). P m.staged) (init.is_taken major minor) (record mount { negotiated = true }) mount (λ taken. same) (λ other. same)

  stays : (files : StagedFiles) → files ≡ mount.staged → P files
  stays files is = subst P (sym is) same

  of_rename : (names : rename.Names) (view : View) → P (rename.mount_after names view mount (rename.came names view (answers_of seen))).staged
  of_rename names view = on_moved names view mount (λ (m : MountModel). P m.staged) same same (rename.came names view (answers_of seen))

  -- what holds of what is staged, and holds where staged content ends or is put in place, holds after the request
  pub of_request : (request : Request) → (rules_of request).refusal (view_in mount request) ≡ None
      → P ((rules_of request).after (taken_at at mount request) mount seen).staged
  of_request (Write node fh first content) free = of_write node fh first content free
  of_request (Setattr node valid size mtime nanos) free = of_setattr node (record { valid = valid; size = size; seconds = mtime; nanos = nanos })
  of_request (Flush node fh) free = of_flush node (fin.get mount.staged node) (flush.came_of (answers_of seen))
  of_request (Fsync node fh) free = of_flush node (fin.get mount.staged node) (flush.came_of (answers_of seen))
  of_request (Forget node count) free = of_left mount.staged node (forgotten mount.table node count (is_held mount.handles node)) same
  of_request (BatchForget pairs) free = of_pairs pairs.items mount same
  of_request (Release node fh) free = of_left mount.staged node (release.left_by (fin.remove mount.handles fh) node mount.table) same
  of_request (Create node name) free = of_create _ _ (making.made (answers_of seen))
  of_request (Mkdir node name) free = stays _ (mkdir_staged mount _ (making.made (answers_of seen)))
  of_request (Mknod node mode name) free = stays _ (mknod_staged mount _ _ (making.made (answers_of seen)))
  of_request (Symlink node name target) free = stays _ (mknod_staged mount _ _ (making.made (answers_of seen)))
  of_request (Unlink node name) free = stays _ (removed_staged mount _ (unlink.removed (answers_of seen)))
  of_request (Rmdir node name) free = stays _ (rmdir_staged mount _ (rmdir.came_of _ (answers_of seen)))
  of_request (Rename node newdir name newname) free = of_rename (renamed name newdir newname) (view_in mount (Rename node newdir name newname))
  of_request (Rename2 node newdir flags name newname) free = of_rename (renamed name newdir newname) (view_in mount (Rename2 node newdir flags name newname))
  of_request (Opening node flags) free = of_open node _ _
  of_request (Opendir node) free = of_opendir node _
  of_request (Init major minor readahead flags) free = of_init major minor
  of_request _ free = same

-- ---- where each comes from
abbrev AllPut : AtTake → MountModel → StagedFiles → Type 0
AllPut at mount files = (number : ℕ) (staged : StagedContent) → fin.get files number ≡ Some staged → IsPut at mount number staged

-- what is staged after a request is what was staged, or was put there
pub staged_from : (at : AtTake) (mount : MountModel) (request : Request) (seen : List Observed) → (rules_of request).refusal (view_in mount request) ≡ None
    → AllPut at mount ((rules_of request).after (taken_at at mount request) mount seen).staged
staged_from at mount request seen free = of_request (AllPut at mount) at mount seen same
    (λ files number all k staged found. all k staged (number_taken files number staged k found).1) put request free
  where
    same : AllPut at mount mount.staged
    same number staged was = inr (inr (record { old = staged; was = was; is = refl }))

    put : (number : ℕ) (staged : StagedContent) → IsPut at mount number staged → AllPut at mount (fin.insert mount.staged number staged)
    put k staged is number s found = by (number_put mount.staged k staged s number found)
      where
        by : ((number ≡ k) × (staged ≡ s)) ⊎ (fin.get mount.staged number ≡ Some s) → IsPut at mount number s
        by (inl (one, this)) = subst (λ m. IsPut at mount m s) (sym one) (subst (IsPut at mount k) this is)
        by (inr was) = same number s was

-- ---- what it is staged of
-- a claim is of a node alone
abbrev is_alone : ClaimKey → Bool → Bool
is_alone (key.Node number) alone = alone
is_alone (key.Name name) alone = false

-- where no claim is, no node is owned
owns_none : (claims : List Claim) (number : ℕ) → list_any (λ (claim : Claim). is_alone claim.key claim.exclusive) claims ≡ false → IsOwned claims (key.Node number) → ⊥
owns_none [] number shared owned = absurd owned
owns_none (claim ∷ claims) number shared owned = by (owns_none claims number) (is_alone claim.key claim.exclusive) refl shared owned
  where
    by : (list_any (λ (c : Claim). is_alone c.key c.exclusive) claims ≡ false → IsOwned claims (key.Node number) → ⊥) → (alone : Bool) → is_alone claim.key claim.exclusive ≡ alone
        → (alone || list_any (λ (c : Claim). is_alone c.key c.exclusive) claims) ≡ false → ((claim.key ≡ key.Node number) × (claim.exclusive ≡ true)) ⊎ IsOwned claims (key.Node number) → ⊥
    by rest true is shared owned = false≢true (sym shared)
    by rest false is shared (inl own) = false≢true (sym is ∙ ap (λ k. is_alone k claim.exclusive) own.0 ∙ own.1)
    by rest false is shared (inr owned) = rest shared owned

-- the file was there, under its name, with the generation that it shows
pub record WasShown (table : NodeTable) (number : ℕ) (node : Node) (file : File) : Type 0 where
  pub old : Node
  pub there : fin.get table.nodes number ≡ Some old
  pub before : File
  pub is : old.file ≡ Some before
  pub name : node.name ≡ old.name
  pub source : file.source ≡ before.source

-- a file that is staged, and that a request doesn't own, is seen as before
unowned : (claimed : List Claim) (mount after : MountModel) → IsMount mount → Keeps claimed mount after
    → (number : ℕ) → (IsOwned claimed (key.Node number) → ⊥) → (staged : StagedContent) → fin.get after.staged number ≡ Some staged
    → (node : Node) (file : File) → fin.get after.table.nodes number ≡ Some node → node.file ≡ Some file → WasShown mount.table number node file
unowned claimed mount after is keeps number mine staged found node file there has =
    let was : IsStagedAt mount.table number staged = is.staged number staged (sym (keeps.staged number mine) ∙ found) in
    by was.file (fin.get mount.table.nodes number) refl was.there
  where
    sight : (old : Node) → fin.get mount.table.nodes number ≡ Some old → sight_of number node ≡ sight_of number old
    sight old at = same_Some (sym (ap (option_map (sight_of number)) there) ∙ keeps.sights number (sight_of number old) (ap (option_map (sight_of number)) at) mine)

    by : (before : File) (found : Option Node) → fin.get mount.table.nodes number ≡ found
        → option_and_then (λ (n : Node). n.file) found ≡ Some before → WasShown mount.table number node file
    by before None at e = absurd (no_Some e)
    by before (Some old) at e = record {
      old = old;
      there = at;
      before = before;
      is = e;
      name = ap (λ (s : Sight). s.name) (sight old at);
      source = sym (ap (λ f. option_map_or (λ (f : File). f.source) f 0) has) ∙ ap (λ (s : Sight). s.source) (sight old at) ∙ ap (λ f. option_map_or (λ (f : File). f.source) f 0) e;
    }

-- one that was there shows what it showed
was_shown : (table : NodeTable) (number : ℕ) (node : Node) (file : File) → WasThere table number node → node.file ≡ Some file → WasShown table number node file
was_shown table number node file was has = by was.old.file refl (sym was.same.shown ∙ ap (option_map {U = ℕ × ℕ} (λ (f : File). (f.source, f.size))) has)
  where
    by : (found : Option File) → was.old.file ≡ found → option_map {U = ℕ × ℕ} (λ (f : File). (f.source, f.size)) found ≡ Some (file.source, file.size) → WasShown table number node file
    by None is e = absurd (no_Some e)
    by (Some before) is e =
        record { old = was.old; there = was.there; before = before; is = is; name = was.same.name; source = sym (ap (λ (s : ℕ × ℕ). s.0) (same_Some e)) }

-- these are staged of files that show the same as before
abbrev pub ShowTheSame : NodeTable → StagedFiles → NodeTable → Type 0
ShowTheSame table files after = (number : ℕ) (staged : StagedContent) (node : Node) (file : File) → fin.get files number ≡ Some staged
    → fin.get after.nodes number ≡ Some node → node.file ≡ Some file → WasShown table number node file

stay : (table : NodeTable) (files : StagedFiles) (after : NodeTable) → NodesStay table after → ShowTheSame table files after
stay table files after nodes number staged node file found there has = was_shown table number node file (nodes number node there) has

-- which node is current is no matter of the nodes
nodes_flushed : (table : NodeTable) (k : ℕ) (meta : Metadata) (moment : ℕ) → (flush.table_with table k meta moment).nodes ≡ (with_file table k (file_shown meta moment)).nodes
nodes_flushed table k meta moment = on_found Same (fin.get told.nodes k) _ told (λ none. refl)
    (λ node there. on_test Same (is_live k node) (made_current told k node.name) told (λ live. refl) (λ idle. refl))
  where
    told : NodeTable
    told = with_file table k (file_shown meta moment)

    Same : NodeTable → Type 0
    Same after = after.nodes ≡ told.nodes

-- a node that shows another generation has none of them
flushed_away : (table : NodeTable) (files : StagedFiles) (k : ℕ) (meta : Metadata) (moment : ℕ) → ShowTheSame table (fin.remove files k) (flush.table_with table k meta moment)
flushed_away table files k meta moment number staged node file found there has =
    was_shown table number node file (NodesStay-same table number node before) has
  where
    other : number ≢ k
    other = (number_taken files k staged number found).0

    told : fin.get (with_file table k (file_shown meta moment)).nodes number ≡ fin.get table.nodes number
    told = on_found (λ (after : NodeTable). fin.get after.nodes number ≡ fin.get table.nodes number) (fin.get table.nodes k) _ table (λ none. refl)
        (λ n shown. number_put_other table.nodes k (record n { file = Some (file_shown meta moment) }) number other)

    before : fin.get table.nodes number ≡ Some node
    before = sym told ∙ sym (ap (λ (nodes : Nodes File). fin.get nodes number) (nodes_flushed table k meta moment)) ∙ there

flushed : (mount : MountModel) (number : ℕ) (staged : Option StagedContent) (moment : ℕ) (came : Came)
    → ShowTheSame mount.table (flush.mount_by staged mount number moment came).staged (flush.mount_by staged mount number moment came).table
flushed mount number None moment came = stay mount.table mount.staged mount.table (NodesStay-same mount.table)
flushed mount number (Some old) moment (made meta) = flushed_away mount.table mount.staged number meta moment
flushed mount number (Some old) moment flush.stale = stay mount.table mount.staged mount.table (NodesStay-same mount.table)
flushed mount number (Some old) moment flush.fault = stay mount.table mount.staged mount.table (NodesStay-same mount.table)

module _ (at : AtTake) (mount : MountModel) (seen : List Observed) where
  abbrev pub left_by : Request → MountModel
  left_by request = (rules_of request).after (taken_at at mount request) mount seen

  same_nodes : (request : Request) → NodesStay mount.table (left_by request).table → ShowTheSame mount.table (left_by request).staged (left_by request).table
  same_nodes request nodes = stay mount.table (left_by request).staged (left_by request).table nodes

  -- what is staged after a request is of files that show the same as before
  pub staged_show_the_same : (request : Request) → IsMount mount → Keeps ((rules_of request).claims (view_in mount request)) mount (left_by request)
      → ShowTheSame mount.table (left_by request).staged (left_by request).table
  staged_show_the_same (Write node fh first content) is keeps =
      let by = taken_at at mount (Write node fh first content) in
      same_nodes (Write node fh first content)
      (on_written by mount node first content (λ (m : MountModel). NodesStay mount.table m.table) (NodesStay-same mount.table) (λ file is. NodesStay-same mount.table)
      (write.came by mount first content (answers_of seen)))
  staged_show_the_same (Setattr node valid size mtime nanos) is keeps =
      let by = taken_at at mount (Setattr node valid size mtime nanos) in
      let asked : setattr.Asked = record { valid = valid; size = size; seconds = mtime; nanos = nanos } in
      same_nodes (Setattr node valid size mtime nanos)
      (on_changed by asked node mount (last_moment seen) (answers_of seen) (λ (m : MountModel). NodesStay mount.table m.table) (NodesStay-same mount.table) (setattr.change_in asked by.view)
      (λ sized file is. NodesStay-same mount.table) (λ held is. NodesStay-same mount.table) (standing_nodes_stay mount.table node (last_moment seen)))
  staged_show_the_same (Flush node fh) is keeps = flushed mount node (fin.get mount.staged node) _ (flush.came_of (answers_of seen))
  staged_show_the_same (Fsync node fh) is keeps = flushed mount node (fin.get mount.staged node) _ (flush.came_of (answers_of seen))
  staged_show_the_same (Forget node count) is keeps = same_nodes (Forget node count) (NodesStay-forgotten mount.table node count (is_held mount.handles node))
  staged_show_the_same (BatchForget pairs) is keeps = same_nodes (BatchForget pairs) (nodes_stay pairs.items mount)
  staged_show_the_same (Release node fh) is keeps = same_nodes (Release node fh) (released_stay mount node fh)
  staged_show_the_same (Releasedir node fh) is keeps = same_nodes (Releasedir node fh) (NodesStay-same mount.table)
  staged_show_the_same (Rename node newdir name newname) is keeps =
      let view = view_in mount (Rename node newdir name newname) in
      same_nodes (Rename node newdir name newname) (renamed_stay (renamed name newdir newname) view mount (rename.came (renamed name newdir newname) view (answers_of seen)))
  staged_show_the_same (Rename2 node newdir flags name newname) is keeps =
      let view = view_in mount (Rename2 node newdir flags name newname) in
      same_nodes (Rename2 node newdir flags name newname) (renamed_stay (renamed name newdir newname) view mount (rename.came (renamed name newdir newname) view (answers_of seen)))
  staged_show_the_same request is keeps =
      λ number staged node file found. unowned ((rules_of request).claims (view_in mount request)) mount (left_by request) is keeps number
      (owns_none ((rules_of request).claims (view_in mount request)) number refl) staged found node file
