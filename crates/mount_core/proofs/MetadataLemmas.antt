-- What a flush gives as metadata may be given: so it stays, call after call.
use Rattle.std.proofs.Common.{◌≡◌, ◌≤◌, ℕ, Bool, true, false, List, [], ◌∷◌, Option, Some, None, refl, subst}
use Rattle.std.specs.Prelude.{if◌then◌else◌}
use Rattle.std.specs.FinMap as fin
use Rattle.std.specs.Option.{option_map_or}
use Rattle.bucket_api.specs.Metadata.{KeysRise, Metadata}
use Rattle.file_metadata.specs.FileMetadata.{last_second}
use Rattle.fuse_requests.specs.declared.request.Request.{Request}
use Rattle.fuse_requests.specs.declared.request.Request.TheVariants.{BatchForget, Create, Flush, Forget, Fsync, Getattr, Init, Lookup, Mkdir, Mknod, Opendir, Opening, Release, Releasedir, Rename, Rename2, Rmdir, Setattr, Symlink, Unlink, Write}
use Rattle.fuse_requests.specs.declared.request.Forgotten.{Forgotten}
use Rattle.inode_spec.proofs.Cases.{on_found, on_test}
use Rattle.inode_spec.specs.Inodes.{forgotten, is_live, let_go, made_current, with_file}
use Rattle.mount_core.specs.Metadatas.{GivesMetadata}
use Rattle.mount_laws.proofs.RequestLaws.{goes}
use Rattle.mount_laws.proofs.Requests.Rename.{on_moved}
use Rattle.mount_laws.specs.Renames.{renamed}
use Rattle.mount_model.specs.Observing.{Observed}
use Rattle.mount_rules.specs.Dispatch.{goes_on, mount_after, rules_of, taken_at, view_in}
use Rattle.mount_rules.specs.Files.{with_staged}
use Rattle.mount_rules.specs.Making as making
use Rattle.mount_rules.specs.Mount.{File, IsMount, MountModel, Node, NodeTable}
use Rattle.mount_rules.specs.Plans.{answers_of, last_moment}
use Rattle.mount_rules.specs.Removing as removing
use Rattle.mount_rules.specs.Requests.BatchForget as batch_forget
use Rattle.mount_rules.specs.Requests.Create as create
use Rattle.mount_rules.specs.Requests.Flush as flush
use Rattle.mount_rules.specs.Requests.Forget as forget
use Rattle.mount_rules.specs.Requests.Init as init
use Rattle.mount_rules.specs.Requests.Lookup as lookup
use Rattle.mount_rules.specs.Requests.Mkdir as mkdir
use Rattle.mount_rules.specs.Requests.Mknod as mknod
use Rattle.mount_rules.specs.Requests.Open as open_file
use Rattle.mount_rules.specs.Requests.Opendir as opendir
use Rattle.mount_rules.specs.Requests.Release as release
use Rattle.mount_rules.specs.Requests.Rename as rename
use Rattle.mount_rules.specs.Requests.Rmdir as rmdir
use Rattle.mount_rules.specs.Requests.Setattr as setattr
use Rattle.mount_rules.specs.Requests.Setattr.{Asked, Change}
use Rattle.mount_rules.specs.Requests.Unlink as unlink
use Rattle.mount_rules.specs.Requests.Write as write
use Rattle.mount_rules.specs.Rules.{AtTake, Taken}
use Rattle.mount_rules.specs.Showing.{directory_again, file_shown, new_directory, new_node, object_again}
use Rattle.mount_rules.specs.Standing as standing
use Rattle.mount_rules.specs.Standing.{Standing, generation_seen, refreshed_at}
use Rattle.mount_rules.specs.View.{Sight, View}
use Rattle.object_names.specs.Paths.{dir_prefix_of}
use Rattle.object_names.specs.declared.shown.DirItem.{DirItem}
use Rattle.plan_files.specs.Errands.{IsTime}
use Rattle.staging_spec.specs.StagedFiles.{StagedContent}
use Rattle.mount_core.proofs.PairsInOrder.{AllRise, KeptRise, TellInOrder, directory_rises, flush_told, found_told, made_told, object_rises, rise_forgotten, rise_let_go, rise_put, rise_shown_or_new, rise_table_after, rise_with_file, standing_told, update_told}
use Rattle.mount_core.proofs.SetTimes.{AreTime, TimesOf, second_is, set_is, stages_so, then_is, times_beside, times_put, times_taken}

record Orders (mount : MountModel) : Type 0 where
  rise : AllRise mount.table
  times : TimesOf mount.staged

table_left : (table : NodeTable) (all : AllRise table) (path : List ℕ) (moment : ℕ) (found : lookup.Found) → ((meta : Metadata) → found ≡ lookup.object meta → KeysRise meta.pairs)
    → AllRise (lookup.table_after table path moment found)
table_left table all path moment lookup.directory told =
    rise_shown_or_new table all directory_again (dir_prefix_of path) (new_directory (dir_prefix_of path)) directory_rises tt
table_left table all path moment (lookup.object meta) told =
    rise_shown_or_new table all (object_again meta moment) path (new_node path meta moment) (object_rises meta moment (told meta refl)) (told meta refl)
table_left table all path moment lookup.nothing told = all
table_left table all path moment lookup.fault told = all

created : (mount : MountModel) → Orders mount → (path : List ℕ) (moment : ℕ) (made : making.Made) → ((meta : Metadata) → made ≡ making.new meta → KeysRise meta.pairs)
    → Orders (create.mount_after mount path moment made)
created mount o path moment (making.new meta) told = record { rise = rise_put mount.table o.rise mount.table.next (new_node path meta moment) (told meta refl); times = o.times }
created mount o path moment making.exists told = o
created mount o path moment making.fault told = o

-- a new node of an object, which is not open
noded : (mount : MountModel) → Orders mount → (path : List ℕ) (moment : ℕ) (made : making.Made) → ((meta : Metadata) → made ≡ making.new meta → KeysRise meta.pairs)
    → Orders (mknod.mount_after mount path moment made)
noded mount o path moment (making.new meta) told = record { rise = rise_put mount.table o.rise mount.table.next (new_node path meta moment) (told meta refl); times = o.times }
noded mount o path moment making.exists told = o
noded mount o path moment making.fault told = o

-- a directory, by the name of its placeholder
directed : (mount : MountModel) → Orders mount → (prefix : List ℕ) (made : making.Made) → Orders (mkdir.mount_after mount prefix made)
directed mount o prefix (making.new meta) = record { rise = rise_shown_or_new mount.table o.rise directory_again prefix (new_directory prefix) directory_rises tt; times = o.times }
directed mount o prefix making.exists = o
directed mount o prefix making.fault = o

-- names without current nodes
unnamed : (mount : MountModel) (name : List ℕ) → Orders mount → Orders (removing.without_name mount name)
unnamed mount name o = record { rise = o.rise; times = o.times }

removed : (mount : MountModel) (name : List ℕ) (came : removing.Removed) → Orders mount → Orders (removing.mount_after mount name came)
removed mount name removing.gone o = unnamed mount name o
removed mount name removing.nothing o = o
removed mount name removing.fault o = o

emptied : (mount : MountModel) (prefix : List ℕ) (came : rmdir.Came) → Orders mount → Orders (rmdir.mount_after mount prefix came)
emptied mount prefix (rmdir.removed came) o = removed mount prefix came o
emptied mount prefix rmdir.not_empty o = o

moved : (names : rename.Names) (view : View) (mount : MountModel) (came : rename.Came) → Orders mount → Orders (rename.mount_after names view mount came)
moved names view mount came o =
    on_moved names view mount Orders o (unnamed (removing.without_name mount (rename.from_of names view)) (rename.to_of names view) (unnamed mount (rename.from_of names view) o)) came

opened : (mount : MountModel) → Orders mount → (node moment : ℕ) (found : Standing) → ((meta : Metadata) → found ≡ standing.live meta → KeysRise meta.pairs)
    → Orders (open_file.mount_after node mount moment found)
opened mount o node moment standing.unasked told = record { rise = o.rise; times = o.times }
opened mount o node moment (standing.live meta) told = record { rise = rise_table_after mount.table o.rise node moment (standing.live meta) told; times = o.times }
opened mount o node moment standing.gone told = o
opened mount o node moment standing.fault told = o

forgot : (mount : MountModel) (node count : ℕ) → Orders mount → Orders (forget.after node count mount)
forgot mount node count o = record {
  rise = rise_forgotten mount.table o.rise node count (forget.is_held mount.handles node);
  times = times_beside (forgotten mount.table node count (forget.is_held mount.handles node)) node mount.staged o.times;
}

forgot_all : (pairs : List Forgotten) (mount : MountModel) → Orders mount → Orders (batch_forget.after pairs mount)
forgot_all [] mount o = o
forgot_all (pair ∷ more) mount o = forgot_all more (forget.after pair.node pair.count mount) (forgot mount pair.node pair.count o)

released : (mount : MountModel) (node fh : ℕ) → Orders mount → Orders (release.after node fh mount)
released mount node fh o = record {
  rise = on_test AllRise (forget.is_held (fin.remove mount.handles fh) node) mount.table (let_go mount.table node) (λ held. o.rise) (λ free. rise_let_go mount.table o.rise node);
  times = times_beside (release.left_by (fin.remove mount.handles fh) node mount.table) node mount.staged o.times;
}

staged_more : (mount : MountModel) (node : ℕ) (new : StagedContent) → Orders mount → IsTime new.seconds new.nanos → Orders (with_staged mount node new)
staged_more mount node new o time = record { rise = o.rise; times = times_put mount.staged node new o.times time }

wrote : (taken : Taken) (mount : MountModel) (node first : ℕ) (bytes : List ℕ) (came : write.Came) → taken.at.second ≤ last_second → Orders mount
    → Orders (write.mount_after taken mount node first bytes came)
wrote taken mount node first [] write.whole early o = o
wrote taken mount node first (byte ∷ bytes) write.whole early o =
    on_found Orders taken.view.node _ mount (λ absent. o)
    (λ file there. staged_more mount node (write.staged_by taken.at.contents taken.at.second first (byte ∷ bytes) taken.view.staged file) o (second_is taken.at.second early))
wrote taken mount node first bytes write.full early o = o
wrote taken mount node first bytes write.stale early o = o
wrote taken mount node first bytes write.fault early o = o

flushed : (mount : MountModel) (node moment : ℕ) (staged : Option StagedContent) (came : flush.Came) → ((meta : Metadata) → came ≡ flush.made meta → KeysRise meta.pairs) → Orders mount
    → Orders (flush.mount_by staged mount node moment came)
flushed mount node moment None came told o = o
flushed mount node moment (Some s) (flush.made meta) told o = record { rise = rise; times = times_taken mount.staged node o.times }
  where
    told_table : NodeTable
    told_table = with_file mount.table node (file_shown meta moment)

    told_rise : AllRise told_table
    told_rise = rise_with_file mount.table o.rise node (file_shown meta moment) (told meta refl)

    rise : AllRise (flush.table_with mount.table node meta moment)
    rise = on_found AllRise (fin.get told_table.nodes node) _ told_table (λ absent. told_rise)
        (λ (n : Node) there. on_test AllRise (is_live node n) (made_current told_table node n.name) told_table (λ live. told_rise) (λ dead. told_rise))
flushed mount node moment (Some s) flush.stale told o = o
flushed mount node moment (Some s) flush.fault told o = o

set : (taken : Taken) (asked : Asked) (node moment : ℕ) (mount : MountModel) (seen : List Observed) (change : Change) → setattr.change_in asked taken.view ≡ change
    → setattr.refusal asked taken.view ≡ None → taken.at.second ≤ last_second → TellInOrder seen → Orders mount → Orders (setattr.mount_after taken asked node mount moment (answers_of seen) change)
set taken asked node moment mount seen setattr.resize is free early tell o =
    on_found Orders taken.view.node _ mount (λ absent. o)
    (λ file there. staged_more mount node (setattr.resized_by taken asked file) o (then_is asked taken.view free taken.at.second early file there is))
set taken asked node moment mount seen setattr.stage_time is free early tell o =
    on_found Orders taken.view.staged _ mount (λ absent. o) (λ staged there_. staged_more mount node (setattr.with_time staged (setattr.time_set asked taken.at.second)) o (on taken.view.node refl is))
  where
    on : (seen_ : Option Sight) → taken.view.node ≡ seen_ → option_map_or (setattr.change_of asked taken.view.staged) seen_ setattr.look ≡ setattr.stage_time
        → AreTime (setattr.time_set asked taken.at.second)
    on None there e = cc
    on (Some file) there e = set_is asked taken.view free taken.at.second early file there (stages_so asked taken.view.staged file e)
set taken asked node moment mount seen setattr.set_time is free early tell o =
    record { rise = rise_table_after mount.table o.rise node moment (setattr.standing_of (answers_of seen)) (update_told seen tell); times = o.times }
set taken asked node moment mount seen setattr.look is free early tell o =
    record {
      rise = rise_table_after mount.table o.rise node moment (standing.standing (generation_seen taken.view.node) (answers_of seen)) (standing_told (generation_seen taken.view.node) seen tell);
      times = o.times;
    }

listed : (mount : MountModel) (node : ℕ) (items : Option (List DirItem)) → Orders mount → Orders (opendir.mount_after node mount items)
listed mount node None o = o
listed mount node (Some items) o = record { rise = o.rise; times = o.times }

orders_after : (request : Request) (at : AtTake) (mount : MountModel) (seen : List Observed) → at.second ≤ last_second → TellInOrder seen
    → (rules_of request).refusal (view_in mount request) ≡ None → Orders mount → Orders ((rules_of request).after (taken_at at mount request) mount seen)
orders_after (Lookup node name) at mount seen early tell free o = record {
  rise = table_left mount.table o.rise (lookup.path_of name (view_in mount (Lookup node name))) (last_moment seen) (lookup.found (answers_of seen)) (found_told seen tell);
  times = o.times;
}
orders_after (Forget node count) at mount seen early tell free o = forgot mount node count o
orders_after (BatchForget pairs) at mount seen early tell free o = forgot_all pairs.items mount o
orders_after (Getattr node) at mount seen early tell free o = record {
  rise =
      let generation = generation_seen (view_in mount (Getattr node)).node in
      rise_table_after mount.table o.rise node (last_moment seen) (standing.standing generation (answers_of seen)) (standing_told generation seen tell);
  times = o.times;
}
orders_after (Setattr node valid size mtime nanos) at mount seen early tell free o =
    let asked : Asked = record { valid = valid; size = size; seconds = mtime; nanos = nanos } in
    set (taken_at at mount (Setattr node valid size mtime nanos)) asked node (last_moment seen) mount seen
    (setattr.change_in asked (view_in mount (Setattr node valid size mtime nanos))) refl free early tell o
orders_after (Opening node flags) at mount seen early tell free o =
    let generation = generation_seen (view_in mount (Opening node flags)).node in
    opened mount o node (last_moment seen) (standing.standing generation (answers_of seen)) (standing_told generation seen tell)
orders_after (Write node fh first bytes) at mount seen early tell free o =
    wrote (taken_at at mount (Write node fh first bytes)) mount node first bytes (write.came (taken_at at mount (Write node fh first bytes)) mount first bytes (answers_of seen)) early o
orders_after (Flush node fh) at mount seen early tell free o =
    flushed mount node (last_moment seen) (view_in mount (Flush node fh)).staged (flush.came_of (answers_of seen)) (flush_told seen tell) o
orders_after (Fsync node fh) at mount seen early tell free o =
    flushed mount node (last_moment seen) (view_in mount (Fsync node fh)).staged (flush.came_of (answers_of seen)) (flush_told seen tell) o
orders_after (Release node fh) at mount seen early tell free o = released mount node fh o
orders_after (Init major minor readahead flags) at mount seen early tell free o =
    on_test Orders (init.is_taken major minor) (record mount { negotiated = true }) mount (λ taken. record { rise = o.rise; times = o.times }) (λ other. o)
orders_after (Opendir node) at mount seen early tell free o =
    listed mount node (opendir.entries (opendir.prefix_of (view_in mount (Opendir node))) at.config.implicit_dirs (answers_of seen)) o
orders_after (Releasedir node fh) at mount seen early tell free o = record { rise = o.rise; times = o.times }
orders_after (Create node name) at mount seen early tell free o =
    created mount o (create.path_of name (view_in mount (Create node name))) (last_moment seen) (making.made (answers_of seen)) (made_told seen tell)
orders_after (Mknod node mode name) at mount seen early tell free o =
    noded mount o (create.path_of name (view_in mount (Mknod node mode name))) (last_moment seen) (making.made (answers_of seen)) (made_told seen tell)
orders_after (Symlink node name target) at mount seen early tell free o =
    noded mount o (create.path_of name (view_in mount (Symlink node name target))) (last_moment seen) (making.made (answers_of seen)) (made_told seen tell)
orders_after (Mkdir node name) at mount seen early tell free o = directed mount o (mkdir.prefix_of name (view_in mount (Mkdir node name))) (making.made (answers_of seen))
orders_after (Unlink node name) at mount seen early tell free o = removed mount (unlink.path_of name (view_in mount (Unlink node name))) (unlink.removed (answers_of seen)) o
orders_after (Rmdir node name) at mount seen early tell free o =
    let prefix = mkdir.prefix_of name (view_in mount (Rmdir node name)) in emptied mount prefix (rmdir.came_of prefix (answers_of seen)) o
orders_after (Rename node newdir name newname) at mount seen early tell free o =
    let view = view_in mount (Rename node newdir name newname) in
    moved (renamed newdir name newname) view mount (rename.came (renamed newdir name newname) view (answers_of seen)) o
orders_after (Rename2 node newdir flags name newname) at mount seen early tell free o =
    let view = view_in mount (Rename2 node newdir flags name newname) in
    moved (renamed newdir name newname) view mount (rename.came (renamed newdir name newname) view (answers_of seen)) o
orders_after _ at mount seen early tell free o = o

-- ---- call by call
rise_of : (mount : MountModel) → GivesMetadata mount → AllRise mount.table
rise_of mount gives number node there = by node.file refl
  where
    by : (file : Option File) → node.file ≡ file → KeptRise file
    by None is = tt
    by (Some file) is = gives.pairs number node file there is

gives_of : (mount : MountModel) → Orders mount → GivesMetadata mount
gives_of mount o = record {
  pairs = λ number node file there is. subst KeptRise is (o.rise number node there);
  times = o.times;
}

-- a request that is performed leaves metadata that may be given, where the bucket told of such
pub gives_after : (at : AtTake) (mount : MountModel) (request : Request) (seen : List Observed) → IsMount mount → at.second ≤ last_second → TellInOrder seen
    → GivesMetadata mount → GivesMetadata (mount_after at mount request seen)
gives_after at mount request seen is early tell gives = by (goes_on mount request) refl
  where
    by : (on : Bool) → goes_on mount request ≡ on → GivesMetadata (if on then (rules_of request).after (taken_at at mount request) mount seen else mount)
    by true e =
        gives_of ((rules_of request).after (taken_at at mount request) mount seen)
        (orders_after request at mount seen early tell (goes mount request is e).free (record { rise = rise_of mount gives; times = gives.times }))
    by false e = gives
