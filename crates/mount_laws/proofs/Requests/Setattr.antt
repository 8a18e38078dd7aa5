-- The rules of SETATTR are sound.
use Rattle.std.proofs.Common.{◌≡◌, ◌≢◌, ◌≤◌, ℕ, Bool, true, false, List, [], ◌∷◌, Option, Some, None, refl, sym, ap, subst, ◌∙◌, arith, inl, inr, length, nat_le}
use Rattle.std.specs.Prelude.{if◌then◌else◌, ◌&&◌, ◌||◌, not, ◌==◌}
use Rattle.std.specs.FinMap as fin
use Rattle.std.specs.List.{AllByRecursion}
use Rattle.std.specs.Option.{option_map_or}
use Rattle.bucket_api.specs.Operation.{Operation, max_content}
use Rattle.bucket_api.specs.declared.answers.Answer.{Answer}
use Rattle.claim_spec.specs.Conflicts.{IsClaimed}
use Rattle.claim_spec.specs.declared.claim.ClaimKey.TheVariants as key
use Rattle.fuse_replies.specs.Errno.{efbig, einval, eio, enomem, estale}
use Rattle.fuse_replies.specs.declared.reply.AttrOut.{AttrOut}
use Rattle.fuse_replies.specs.declared.reply.Reply.TheVariants.{Attr, Error}
use Rattle.inode_spec.proofs.Cases.{on_found}
use Rattle.inode_spec.specs.Inodes.{lookups_of}
use Rattle.mount_model.specs.Observing.{Observed}
use Rattle.mount_rules.specs.Attributes.{attributes}
use Rattle.mount_rules.specs.Files.{length_of, with_staged}
use Rattle.mount_rules.specs.Guards.{is_directory, on_file}
use Rattle.mount_rules.specs.Laws.{GivesLater, IsCovered, Keeps, Planned, given}
use Rattle.mount_rules.specs.Mount.{IsMount, MountModel, NodeTable}
use Rattle.mount_rules.specs.Plans.{Allows, IsHarmless, answers_of, done, last_moment}
use Rattle.mount_rules.specs.Requests.Setattr as setattr
use Rattle.mount_rules.specs.Requests.Setattr.{Asked, Change, resize, stage_time, set_time, look, sets_size, sets_time, sets_now, time_change, change_of}
use Rattle.mount_rules.specs.Rules.{AtTake, Taken, at_file}
use Rattle.mount_rules.specs.Standing as standing
use Rattle.mount_rules.specs.Standing.{Standing, fault, generation_seen, gone, live, unasked, table_after}
use Rattle.mount_rules.specs.View.{Sight, View, view_of}
use Rattle.object_names.specs.declared.shown.NodeKind.{NodeKind}
use Rattle.object_names.specs.declared.shown.NodeKind.TheVariants.{Dir, File, Symlink}
use Rattle.staging_spec.specs.StagedFiles.{StagedContent}
use Rattle.mount_laws.proofs.Asking.{asks_none, harmless_all}
use Rattle.mount_laws.proofs.Children.{IsSeen-at}
use Rattle.mount_laws.proofs.Guarding.{SeesLive, on_live-memory, on_live-none}
use Rattle.mount_laws.proofs.Keeping.{no_Some, same_Some}
use Rattle.mount_laws.proofs.Leaving.{Keeps-same, Keeps-staged, Keeps-table}
use Rattle.mount_laws.proofs.Memory.{errors_differ, no_error}
use Rattle.mount_laws.proofs.Mounts.{GivesLater-same, GivesLater-staged, GivesLater-table, IsNodeTable-of}
use Rattle.mount_laws.proofs.Requests.Getattr.{attr_answers, attr_gives, with_answers, with_gives}
use Rattle.mount_laws.proofs.Sights.{LooksClaimed-file}
use Rattle.mount_laws.proofs.Sound.{IsSound, taken_by}
use Rattle.mount_laws.proofs.Sources.{NodesFrom, NodesFrom-same}
use Rattle.mount_laws.proofs.Standing.{asks_name, asks_one, asks_stat, name_seen, name_there, standing_counts, standing_keeps, standing_later, standing_nodes, standing_stay}
use Rattle.mount_laws.proofs.Wanting.{IsStagedAt-seen}

-- ---- what is asked
module _ (asked : Asked) (second : ℕ) (view : View) where
  claims_seen : (node : ℕ) (sight : Sight) → view.node ≡ Some sight → IsClaimed (setattr.claims node view) (key.Name sight.name)
  claims_seen node sight is = inr (inl (ap (λ seen. key.Name (name_seen seen)) is))

  -- the one operation is the update of the node's object, or its stat
  covers : (node : ℕ) (change : Change) (told : List Answer) (op : Operation) → Allows (setattr.plan_by asked second view change told) op → IsCovered (setattr.claims node view) op
  covers node resize told op allows = absurd allows
  covers node stage_time told op allows = absurd allows
  covers node set_time told op allows = by view.node refl told allows
    where
      by : (seen : Option Sight) → view.node ≡ seen → (told : List Answer)
          → Allows (option_map_or (λ file. setattr.update_plan asked second file told) seen done) op → IsCovered (setattr.claims node view) op
      by None is told allows = absurd allows
      by (Some file) is (a ∷ more) allows = absurd allows
      by (Some file) is [] allows = subst (IsCovered (setattr.claims node view)) (sym allows) (inr (inl (ap (λ seen. key.Name (name_seen seen)) is, refl)))
  covers node look told op allows = asks_name (setattr.claims node view) view (claims_seen node) told op allows

  -- once the update is made, nothing is asked
  update_harmless : (seen : Option Sight) (all : List Observed) → option_map_or (λ file. setattr.update_plan asked second file (answers_of all)) seen done ≢ done
      → AllByRecursion (λ (o : Observed). IsHarmless o.op) all
  update_harmless seen [] asks = tt
  update_harmless None (o ∷ more) asks = absurd (asks refl)
  update_harmless (Some file) (o ∷ more) asks = absurd (asks refl)

  harmless : (change : Change) (all : List Observed) → Planned (setattr.plan_by asked second view change) all → setattr.plan_by asked second view change (answers_of all) ≢ done
      → AllByRecursion (λ (o : Observed). IsHarmless o.op) all
  harmless resize all planned asks = absurd (asks refl)
  harmless stage_time all planned asks = absurd (asks refl)
  harmless set_time all planned asks = update_harmless view.node all asks
  harmless look all planned asks = harmless_all (standing.plan (standing.asked_name view)) (asks_stat (standing.asked_name view)) all planned

  update_one : (seen : Option Sight) (all : List Observed) → Planned (λ told. option_map_or (λ file. setattr.update_plan asked second file told) seen done) all → length all ≤ 1
  update_one seen [] planned = omega arith
  update_one None (o ∷ more) planned = absurd planned.0
  update_one (Some file) (o ∷ []) planned = omega arith
  update_one (Some file) (o ∷ p ∷ more) planned = absurd planned.1.0

  at_most_one : (change : Change) (all : List Observed) → Planned (setattr.plan_by asked second view change) all → length all ≤ 1
  at_most_one resize all planned = let few = asks_none (setattr.plan_by asked second view resize) refl all planned in omega (arith, few)
  at_most_one stage_time all planned = let few = asks_none (setattr.plan_by asked second view stage_time) refl all planned in omega (arith, few)
  at_most_one set_time all planned = update_one view.node all planned
  at_most_one look all planned = asks_one (standing.asked_name view) all planned

-- ---- what it leaves
module _ (taken : Taken) (asked : Asked) (node : ℕ) (mount : MountModel) (moment : ℕ) (told : List Answer) where
  abbrev after : Change → MountModel
  after change = setattr.mount_after taken asked node mount moment told change

  -- what holds of the mount as it was, of it with something staged, and of it with what the bucket told, holds of it
  -- afterwards
  pub on_changed : (P : MountModel → Type 0) → P mount → (change : Change)
      → (change ≡ resize → (file : Sight) → taken.view.node ≡ Some file → P (with_staged mount node (setattr.resized_by taken asked file)))
      → ((s : StagedContent) → taken.view.staged ≡ Some s → P (with_staged mount node (setattr.with_time s (setattr.time_set asked taken.at.second))))
      → ((found : Standing) → P (record mount { table = table_after mount.table node moment found }))
      → P (after change)
  on_changed P same resize resized timed stood = on_found P taken.view.node _ mount (λ none. same) (resized refl)
  on_changed P same stage_time resized timed stood = on_found P taken.view.staged _ mount (λ none. same) timed
  on_changed P same set_time resized timed stood = stood (setattr.standing_of told)
  on_changed P same look resized timed stood = stood (standing.standing (generation_seen taken.view.node) told)

  -- ---- what it is answered
  set_answers : (mount : MountModel) (found : Standing) → setattr.set_reply taken.at.config mount node found ≡ Error enomem → ⊥
  set_answers mount unasked e = with_answers taken.at.config node mount.table mount.staged 1 e
  set_answers mount (live meta) e = with_answers taken.at.config node mount.table mount.staged 1 e
  set_answers mount gone e = let same : estale ≡ enomem = cc in absurd (omega (arith, same))
  set_answers mount fault e = let same : eio ≡ enomem = cc in absurd (omega (arith, same))

  answers : (change : Change) → setattr.reply_to taken asked node mount moment told change ≡ Error enomem → ⊥
  answers resize e = with_answers taken.at.config node (after resize).table (after resize).staged 1 e
  answers stage_time e = with_answers taken.at.config node (after stage_time).table (after stage_time).staged 1 e
  answers set_time e = set_answers (after set_time) (setattr.standing_of told) e
  answers look e = attr_answers taken.at.config node mount moment (standing.standing (generation_seen taken.view.node) told) e

  set_gives : (mount : MountModel) (k : ℕ) (found : Standing) → given (setattr.set_reply taken.at.config mount node found) k ≡ 0
  set_gives mount k unasked = with_gives taken.at.config node mount.table mount.staged 1 k
  set_gives mount k (live meta) = with_gives taken.at.config node mount.table mount.staged 1 k
  set_gives mount k gone = refl
  set_gives mount k fault = refl

  gives : (k : ℕ) (change : Change) → given (setattr.reply_to taken asked node mount moment told change) k ≡ 0
  gives k resize = with_gives taken.at.config node (after resize).table (after resize).staged 1 k
  gives k stage_time = with_gives taken.at.config node (after stage_time).table (after stage_time).staged 1 k
  gives k set_time = set_gives (after set_time) k (setattr.standing_of told)
  gives k look = attr_gives taken.at.config node mount moment k (standing.standing (generation_seen taken.view.node) told)

-- ---- what it refuses
-- the content gets another length only where that is asked for
resize_asked : (asked : Asked) (view : View) → setattr.change_in asked view ≡ resize → sets_size asked ≡ true
resize_asked asked view = by view.node
  where
    not_time : (staged : Option StagedContent) → time_change staged ≡ resize → ⊥
    not_time None e = cc
    not_time (Some s) e = cc

    rest : (timed : Bool) → (if timed then time_change view.staged else look) ≡ resize → ⊥
    rest true e = not_time view.staged e
    rest false e = cc

    on : (file : Sight) (sized : Bool) → sets_size asked ≡ sized
        → (if sized && not (asked.size == length_of view.staged file) then resize
        else if setattr.is_file file.kind && (sets_time asked || sets_now asked) then time_change view.staged else look) ≡ resize
        → sets_size asked ≡ true
    on file true is e = is
    on file false is e = absurd (rest (setattr.is_file file.kind && (sets_time asked || sets_now asked)) e)

    by : (seen : Option Sight) → option_map_or (change_of asked view.staged) seen look ≡ resize → sets_size asked ≡ true
    by None e = absurd (let never : look ≡ resize = e in cc)
    by (Some file) e = on file (sets_size asked) refl e

-- and then only of a file
sized_is_file : (asked : Asked) (kind : NodeKind) → setattr.kind_refusal asked kind ≡ None → sets_size asked ≡ true → is_directory kind ≡ false
sized_is_file asked kind none sized = by kind (sym (ap (λ b. if b then on_file kind (setattr.limits_refusal asked kind) else setattr.limits_refusal asked kind) sized) ∙ none)
  where
    by : (k : NodeKind) → on_file k (setattr.limits_refusal asked kind) ≡ None → is_directory k ≡ false
    by Dir e = absurd (no_Some (sym e))
    by File e = refl
    by Symlink e = refl

limits_memory : (asked : Asked) (kind : NodeKind) → setattr.limits_refusal asked kind ≡ Some enomem → ⊥
limits_memory asked kind = by (sets_size asked && not (nat_le asked.size max_content)) (setattr.is_file kind && sets_time asked && not (sets_now asked) && setattr.is_out_of_range asked)
  where
    by : (large out : Bool) → option_map_or Some (if out then Some einval else None) (if large then Some efbig else None) ≡ Some enomem → ⊥
    by large true e = errors_differ (λ same. absurd (omega (arith, same))) e
    by true false e = errors_differ (λ same. absurd (omega (arith, same))) e
    by false false e = no_error e

kind_memory : (asked : Asked) (kind : NodeKind) → setattr.kind_refusal asked kind ≡ Some enomem → ⊥
kind_memory asked kind = by (sets_size asked) kind
  where
    by : (sized : Bool) (k : NodeKind) → (if sized then on_file k (setattr.limits_refusal asked kind) else setattr.limits_refusal asked kind) ≡ Some enomem → ⊥
    by false k e = limits_memory asked kind e
    by true File e = limits_memory asked kind e
    by true Dir e = errors_differ (λ same. absurd (omega (arith, same))) e
    by true Symlink e = errors_differ (λ same. absurd (omega (arith, same))) e

-- ---- a live node
module _ (at : AtTake) (asked : Asked) (mount : MountModel) (node : ℕ) (free : setattr.refusal asked (view_of mount (at_file node)) ≡ None) where
  abbrev view : View
  view = view_of mount (at_file node)

  abbrev taken : Taken
  taken = record { at = at; view = view }

  opened : SeesLive view.node (λ sight. setattr.kind_refusal asked sight.kind)
  opened = on_live-none view.node (λ sight. setattr.kind_refusal asked sight.kind) free

  later : IsMount mount → (moment : ℕ) (told : List Answer) → GivesLater mount (setattr.mount_after taken asked node mount moment told (setattr.change_in asked view))
  later is moment told = on_changed taken asked node mount moment told (GivesLater mount) (GivesLater-same mount is) (setattr.change_in asked view)
      (λ sized file seen. GivesLater-staged mount is node _ (IsStagedAt-seen mount node file seen is (is_file sized file seen) view.staged refl _ (omega arith)))
      (λ s found. let was = is.staged node s found in GivesLater-staged mount is node _ (record { file = was.file; there = was.there; limit = was.limit }))
      (λ stands. GivesLater-table mount is _ (standing_later mount.table node moment (IsNodeTable-of mount is) stands) (standing_stay mount.table node moment stands))
    where
      is_file : setattr.change_in asked view ≡ resize → (file : Sight) → view.node ≡ Some file → is_directory file.kind ≡ false
      is_file sized file seen = subst (λ (x : Sight). is_directory x.kind ≡ false) (same_Some (sym opened.is ∙ seen))
          (sized_is_file asked opened.sight.kind opened.next_none (resize_asked asked view sized))

  leaves : (moment : ℕ) (told : List Answer) (change : Change) → Keeps (setattr.claims node view) mount (setattr.mount_after taken asked node mount moment told change)
  leaves moment told change = on_changed taken asked node mount moment told (Keeps (setattr.claims node view) mount) (Keeps-same _ mount) change
      (λ sized file seen. Keeps-staged (setattr.claims node view) mount node (inl (refl, refl)) _)
      (λ s found. Keeps-staged (setattr.claims node view) mount node (inl (refl, refl)) _)
      (λ stands. Keeps-table _ mount _ (standing_keeps mount.table node moment _ (λ x there. inr (inl (ap key.Name (name_there mount node x there)))) stands))

  -- a node that is there has attributes, so one that gets something staged is answered no error
  no_error_of : (errno : ℕ) (attr : AttrOut) → Attr attr ≡ Error errno → ⊥
  no_error_of errno attr e = cc

  attr_there : (errno : ℕ) (m : MountModel) → m.table ≡ mount.table → setattr.attributes_in at.config m node ≡ Error errno → ⊥
  attr_there errno m same e =
      let s = IsSeen-at mount.table node opened.sight opened.is in
      no_error_of errno (record (attributes at.config node s.node (fin.get m.staged node)) { nlink = 1 })
      (ap (λ found. option_map_or (λ x. Attr (record (attributes at.config node x (fin.get m.staged node)) { nlink = 1 })) found (Error estale))
      (sym (ap (λ (table : NodeTable). fin.get table.nodes node) same ∙ s.there)) ∙ e)

  keeps_staged : (errno moment : ℕ) (told : List Answer) (change : Change) → setattr.reply_to taken asked node mount moment told change ≡ Error errno
      → (setattr.mount_after taken asked node mount moment told change).staged ≡ mount.staged
  keeps_staged errno moment told resize e =
      absurd (attr_there errno (setattr.mount_after taken asked node mount moment told resize)
      (on_found (λ (m : MountModel). m.table ≡ mount.table) view.node _ mount (λ none. refl) (λ file seen. refl)) e)
  keeps_staged errno moment told stage_time e =
      absurd (attr_there errno (setattr.mount_after taken asked node mount moment told stage_time)
      (on_found (λ (m : MountModel). m.table ≡ mount.table) view.staged _ mount (λ none. refl) (λ s found. refl)) e)
  keeps_staged errno moment told set_time e = refl
  keeps_staged errno moment told look e = refl

pub setattr_sound : (node : ℕ) (asked : Asked) → IsSound (setattr.rules node asked) (λ number. 0) (Some 1)
setattr_sound node asked = record {
  later = λ at mount seen goes. later at asked mount node goes.free goes.is (last_moment seen) (answers_of seen);
  leaves = λ at mount seen goes. leaves at asked mount node goes.free (last_moment seen) (answers_of seen) (setattr.change_in asked (view_of mount (at_file node)));
  sees = λ at mount goes asks. let s = opened at asked mount node goes.free in LooksClaimed-file _ mount node s.sight s.is (inl refl);
  covers = λ taken told op allows. covers asked taken.at.second taken.view node (setattr.change_in asked taken.view) told op allows;
  harmless = λ taken seen planned fits asks. harmless asked taken.at.second taken.view (setattr.change_in asked taken.view) seen planned asks;
  bounded = λ taken seen n is planned. let one : 1 ≡ n = cc in subst (λ m. length seen ≤ m) one (at_most_one asked taken.at.second taken.view (setattr.change_in asked taken.view) seen planned);
  reads = λ taken wanted wants_it. absurd (no_Some wants_it);
  of_files = λ mount wanted is wants_it. absurd (no_Some wants_it);
  agrees = λ taken mount seen agreed.
      on_changed taken asked node mount (last_moment seen) (answers_of seen) (λ (m : MountModel). m.negotiated ≡ true) agreed
      (setattr.change_in asked taken.view) (λ sized file is. agreed) (λ s is. agreed) (λ found. agreed);
  refuses = λ view. on_live-memory view.node (λ sight. setattr.kind_refusal asked sight.kind) (λ sight. kind_memory asked sight.kind);
  keeps_staged = λ at mount seen errno free error.
      keeps_staged at asked mount node free errno (last_moment seen) (answers_of seen) (setattr.change_in asked (view_of mount (at_file node))) error;
  answers = λ taken mount seen. answers taken asked node mount (last_moment seen) (answers_of seen) (setattr.change_in asked taken.view);
  counts = λ at mount seen number other goes.
      let taken = taken_by (setattr.rules node asked) at mount in
      let same = on_changed taken asked node mount (last_moment seen) (answers_of seen) (λ (m : MountModel). lookups_of m.table number ≡ lookups_of mount.table number) refl
      (setattr.change_in asked taken.view) (λ sized file is. refl) (λ s is. refl) (standing_counts mount.table node (last_moment seen) number) in
      let none = gives taken asked node mount (last_moment seen) (answers_of seen) number (setattr.change_in asked taken.view) in
      omega (arith, same, none);
  nodes = λ Shown at mount seen goes tells.
      let taken = taken_by (setattr.rules node asked) at mount in
      on_changed taken asked node mount (last_moment seen) (answers_of seen) (λ (m : MountModel). NodesFrom Shown mount.table m.table) (NodesFrom-same Shown mount.table)
      (setattr.change_in asked taken.view)
      (λ sized file is. NodesFrom-same Shown mount.table) (λ s is. NodesFrom-same Shown mount.table) (standing_nodes mount.table node (last_moment seen) Shown);
}
