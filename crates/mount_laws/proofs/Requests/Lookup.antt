-- The rules of LOOKUP are sound.
use Rattle.std.proofs.Common.{◌≡◌, ◌+◌, ◌-◌, ℕ, Bool, true, false, List, [], ◌∷◌, Option, Some, None, refl, sym, ap, subst, ◌∙◌, nat_eq, arith, inl, inr, ◌≤◌, length}
use Rattle.std.specs.Prelude.{if◌then◌else◌}
use Rattle.std.specs.FinMap as fin
use Rattle.std.specs.Option.{option_map_or}
use Rattle.bucket_api.specs.Metadata.{Metadata}
use Rattle.bucket_api.specs.declared.answers.Answer.{Answer}
use Rattle.bucket_api.specs.declared.answers.Answer.TheVariants as told
use Rattle.bucket_api.specs.Operation.{Operation, stat, list}
use Rattle.claim_spec.specs.Conflicts.{IsClaimed}
use Rattle.claim_spec.specs.declared.claim.Claim.{Claim}
use Rattle.claim_spec.specs.declared.claim.ClaimKey.TheVariants as key
use Rattle.fuse_replies.specs.declared.reply.Reply.TheVariants.{Error}
use Rattle.inode_spec.specs.Inodes.{lookups_of}
use Rattle.mount_model.specs.declared.config.Config.{Config}
use Rattle.object_names.specs.Paths.{IsPath, bare_name, dir_prefix_of, has_suffix}
use Rattle.fuse_replies.specs.Errno.{eio, enoent, enomem}
use Rattle.mount_rules.specs.Guards.{part_refusal}
use Rattle.mount_model.specs.Observing.{Observed}
use Rattle.mount_rules.specs.Laws.{IsCovered, Planned, given}
use Rattle.mount_rules.specs.Mount.{MountModel, NodeTable}
use Rattle.mount_rules.specs.Plans.{Allows, IsHarmless, answers_of, asked_by}
use Rattle.mount_rules.specs.Requests.Lookup as lookup
use Rattle.mount_rules.specs.Requests.Lookup.{Found, directory, object, nothing, fault, Probed, present, absent, failed}
use Rattle.mount_rules.specs.Attributes.{entry_of}
use Rattle.mount_rules.specs.Showing.{Numbered, current_shown, directory_again, file_shown, new_directory, new_node, object_again, shown_or_new}
use Rattle.mount_laws.proofs.Asking.{harmless_all}
use Rattle.mount_laws.proofs.Children.{HasPath, HasPath-none, IsKeptOf-object, IsNameOf-object, IsPrefix-path}
use Rattle.mount_laws.proofs.Guarding.{in_directory-memory, part_refusal-memory}
use Rattle.mount_laws.proofs.Keeping.{TableKeeps, TableKeeps-same, no_Some}
use Rattle.mount_laws.proofs.Leaving.{Keeps-table}
use Rattle.mount_laws.proofs.Mounts.{GivesLater-table, IsNodeTable-of}
use Rattle.mount_laws.proofs.Showings.{ShownAgain-directory, ShownAgain-object, shown_counts, shown_keeps, shown_later, shown_nodes, shown_stay}
use Rattle.mount_laws.proofs.Sights.{LooksClaimed-node}
use Rattle.mount_laws.proofs.Sound.{IsSound}
use Rattle.mount_laws.proofs.Sources.{NodesFrom, NodesFrom-same}
use Rattle.mount_laws.proofs.Staying.{FilesStay, FilesStay-same}
use Rattle.mount_laws.proofs.Tables.{IsNodeTable, TableLater, TableLater-same}
use Rattle.mount_laws.proofs.Telling.{Tells, TellsAlong}

-- the operation is the probe or the stat of the path
pub asks_path : (implicit : Bool) (path : List ℕ) (suffixed : Bool) (answers : List Answer) (claimed : List Claim) (op : Operation)
    → IsClaimed claimed (key.Name (dir_prefix_of path)) → IsClaimed claimed (key.Name path) → Allows (lookup.plan implicit path suffixed answers) op → IsCovered claimed op
asks_path implicit path suffixed [] claimed op dir name allows = subst (IsCovered claimed) (sym allows) (by implicit)
  where
    by : (b : Bool) → IsCovered claimed (if b then list (dir_prefix_of path) false 1 None else stat (dir_prefix_of path))
    by true = tt
    by false = dir
asks_path implicit path suffixed (a ∷ []) claimed op dir name allows = by (lookup.probed a) suffixed allows
  where
    by : (told : Probed) (s : Bool) → Allows (lookup.after_probe path s told) op → IsCovered claimed op
    by present true allows = subst (IsCovered claimed) (sym allows) name
    by present false allows = absurd allows
    by absent true allows = absurd allows
    by absent false allows = subst (IsCovered claimed) (sym allows) name
    by failed s allows = absurd allows
asks_path implicit path suffixed (a ∷ b ∷ more) claimed op dir name allows = absurd allows

-- each of its operations is a list or a stat
pub asks_harmless : (implicit : Bool) (path : List ℕ) (suffixed : Bool) (told : List Answer) (op : Operation) → Allows (lookup.plan implicit path suffixed told) op → IsHarmless op
asks_harmless implicit path suffixed [] op allows = subst IsHarmless (sym allows) (by implicit)
  where
    by : (b : Bool) → IsHarmless (if b then list (dir_prefix_of path) false 1 None else stat (dir_prefix_of path))
    by true = tt
    by false = tt
asks_harmless implicit path suffixed (a ∷ []) op allows = by (lookup.probed a) suffixed allows
  where
    by : (told : Probed) (s : Bool) → Allows (lookup.after_probe path s told) op → IsHarmless op
    by present true allows = subst IsHarmless (sym allows) tt
    by present false allows = absurd allows
    by absent true allows = absurd allows
    by absent false allows = subst IsHarmless (sym allows) tt
    by failed s allows = absurd allows
asks_harmless implicit path suffixed (a ∷ b ∷ more) op allows = absurd allows

-- it asks two at most
asks_two : (implicit : Bool) (path : List ℕ) (suffixed : Bool) (seen : List Observed) → Planned (lookup.plan implicit path suffixed) seen → length seen ≤ 2
asks_two implicit path suffixed [] planned = omega arith
asks_two implicit path suffixed (o ∷ []) planned = omega arith
asks_two implicit path suffixed (o ∷ p ∷ []) planned = omega arith
asks_two implicit path suffixed (o ∷ p ∷ q ∷ more) planned = absurd planned.1.1.0

-- a look-up is answered by a node, or by one of two errors
answers : (config : Config) (mount : MountModel) (path : List ℕ) (moment : ℕ) (found : Found) → lookup.reply_to config mount path moment found ≡ Error enomem → ⊥
answers config mount path moment directory e = cc
answers config mount path moment (object meta) e = cc
answers config mount path moment nothing e = let same : enoent ≡ enomem = cc in absurd (omega (arith, same))
answers config mount path moment fault e = let same : eio ≡ enomem = cc in absurd (omega (arith, same))

module _ (mount : MountModel) (node : ℕ) (part : List ℕ) (is : IsNodeTable mount.table) (has : HasPath mount node part) (path : List ℕ) (path_is : IsPath path) (moment : ℕ) where
  later : (found : Found) → TableLater mount.table (lookup.table_after mount.table path moment found)
  later directory = shown_later directory_again ShownAgain-directory mount.table (dir_prefix_of path) is (new_directory (dir_prefix_of path)) refl (IsPrefix-path path path_is) refl (omega arith)
  later (object meta) = shown_later (object_again meta moment) (ShownAgain-object meta moment) mount.table path is (new_node path meta moment) refl
      (IsNameOf-object meta path path_is) (IsKeptOf-object meta (file_shown meta moment)) (omega arith)
  later nothing = TableLater-same mount.table is
  later fault = TableLater-same mount.table is

  stay : (found : Found) → FilesStay mount.table.nodes (lookup.table_after mount.table path moment found).nodes
  stay directory = shown_stay directory_again ShownAgain-directory mount.table (dir_prefix_of path) is (new_directory (dir_prefix_of path)) refl
  stay (object meta) = shown_stay (object_again meta moment) (ShownAgain-object meta moment) mount.table path is (new_node path meta moment) refl
  stay nothing = FilesStay-same mount.table.nodes
  stay fault = FilesStay-same mount.table.nodes

  leaves : (claimed : List Claim) → IsClaimed claimed (key.Name (dir_prefix_of path)) → IsClaimed claimed (key.Name path) → (found : Found)
      → TableKeeps claimed mount.table (lookup.table_after mount.table path moment found)
  leaves claimed dir name directory = shown_keeps directory_again ShownAgain-directory mount.table (dir_prefix_of path) is (new_directory (dir_prefix_of path)) refl claimed dir
  leaves claimed dir name (object meta) = shown_keeps (object_again meta moment) (ShownAgain-object meta moment) mount.table path is (new_node path meta moment) refl claimed name
  leaves claimed dir name nothing = TableKeeps-same claimed mount.table
  leaves claimed dir name fault = TableKeeps-same claimed mount.table

  counts : (config : Config) (number : ℕ) (found : Found)
      → lookups_of (lookup.table_after mount.table path moment found) number ≡ (lookups_of mount.table number + given (lookup.reply_to config mount path moment found) number) - 0
  counts config number directory = shown_counts directory_again ShownAgain-directory mount.table (dir_prefix_of path) is (new_directory (dir_prefix_of path)) refl refl number
  counts config number (object meta) =
      shown_counts (object_again meta moment) (ShownAgain-object meta moment) mount.table path is (new_node path meta moment) refl refl number
      ∙ ap (λ n. (lookups_of mount.table number + (if nat_eq number n then 1 else 0)) - 0) (sym (entry_number config (current_shown (object_again meta moment) mount.table path)))
    where
      -- the entry that is shown has the number of its node
      entry_number : (config : Config) (shown : Option Numbered)
          → (option_map_or (λ (s : Numbered). entry_of config s.number s.node (fin.get mount.staged s.number)) shown (entry_of config mount.table.next (new_node path meta moment) None)).node
          ≡ (shown_or_new mount.table shown (new_node path meta moment)).number
      entry_number config None = refl
      entry_number config (Some shown) = refl
  counts config number nothing = omega arith
  counts config number fault = omega arith

-- ---- where its nodes come from
-- an object that is found is what the bucket tells of it
finds_shown : (Shown : List ℕ → ℕ → ℕ → Type 0) (implicit : Bool) (path : List ℕ) (suffixed : Bool) (seen : List Observed) (meta : Metadata)
    → TellsAlong Shown (lookup.plan implicit path suffixed) seen → lookup.found (answers_of seen) ≡ object meta → Shown path meta.generation meta.size
finds_shown Shown implicit path suffixed [] meta tells e = absurd cc
finds_shown Shown implicit path suffixed (o ∷ []) meta tells e = by (lookup.probed o.answer) e
  where
    by : (probe : Probed) → lookup.found_by probe ≡ object meta → Shown path meta.generation meta.size
    by present e = absurd (let never : directory ≡ object meta = e in cc)
    by absent e = absurd (let never : nothing ≡ object meta = e in cc)
    by failed e = absurd (let never : fault ≡ object meta = e in cc)
finds_shown Shown implicit path suffixed (o ∷ p ∷ more) meta tells e = by (lookup.probed o.answer) suffixed tells.1.0
  where
    at : (answer : Answer) → Tells Shown (Some (stat path)) answer → lookup.found_at answer ≡ object meta → Shown path meta.generation meta.size
    at (told.Meta m) shown e = let same : m ≡ meta = cc in subst (λ (x : Metadata). Shown path x.generation x.size) same shown
    at _ shown e = absurd cc

    by : (probe : Probed) (s : Bool) → Tells Shown (asked_by (lookup.after_probe path s probe)) p.answer → Shown path meta.generation meta.size
    by present true shown = at p.answer shown e
    by present false never = absurd never
    by absent true never = absurd never
    by absent false shown = at p.answer shown e
    by failed s never = absurd never

nodes : (table : NodeTable) (path : List ℕ) (moment : ℕ) (Shown : List ℕ → ℕ → ℕ → Type 0) (found : Found)
    → ((meta : Metadata) → found ≡ object meta → Shown path meta.generation meta.size) → NodesFrom Shown table (lookup.table_after table path moment found)
nodes table path moment Shown directory shows = shown_nodes directory_again ShownAgain-directory table (dir_prefix_of path) Shown (new_directory (dir_prefix_of path)) tt
nodes table path moment Shown (object meta) shows =
    shown_nodes (object_again meta moment) (ShownAgain-object meta moment) table path Shown (new_node path meta moment) (shows meta refl)
nodes table path moment Shown nothing shows = NodesFrom-same Shown table
nodes table path moment Shown fault shows = NodesFrom-same Shown table

pub lookup_sound : (node : ℕ) (name : List ℕ) → IsSound (lookup.rules node name) (λ number. 0) (Some 2)
lookup_sound node name = record {
  later = λ at mount seen goes.
      let has = HasPath-none mount node (bare_name name) goes.is goes.free in
      GivesLater-table mount goes.is _ (later mount node (bare_name name) (IsNodeTable-of mount goes.is) has _ has.is_path _ (lookup.found (answers_of seen)))
      (stay mount node (bare_name name) (IsNodeTable-of mount goes.is) has _ has.is_path _ (lookup.found (answers_of seen)));
  leaves = λ at mount seen goes.
      let has = HasPath-none mount node (bare_name name) goes.is goes.free in
      Keeps-table _ mount _ (leaves mount node (bare_name name) (IsNodeTable-of mount goes.is) has _ has.is_path _ _ (inr (inr (inl refl))) (inr (inl refl)) (lookup.found (answers_of seen)));
  sees = λ at mount goes asks.
      let has = HasPath-none mount node (bare_name name) goes.is goes.free in
      LooksClaimed-node _ mount node has.sight has.seen (inl refl);
  covers = λ taken answers op allows.
      asks_path taken.at.config.implicit_dirs (lookup.path_of name taken.view) (has_suffix name) answers (lookup.claims node name taken.view) op (inr (inr (inl refl))) (inr (inl refl)) allows;
  harmless = λ taken seen planned fits asks. harmless_all _ (asks_harmless taken.at.config.implicit_dirs (lookup.path_of name taken.view) (has_suffix name)) seen planned;
  bounded = λ taken seen n is planned. let two : 2 ≡ n = cc in
      subst (λ m. length seen ≤ m) two (asks_two taken.at.config.implicit_dirs (lookup.path_of name taken.view) (has_suffix name) seen planned);
  reads = λ taken wanted wants_it. absurd (no_Some wants_it);
  of_files = λ mount wanted is wants_it. absurd (no_Some wants_it);
  agrees = λ taken mount seen agreed. agreed;
  refuses = λ view. in_directory-memory view.node (part_refusal (bare_name name)) (part_refusal-memory (bare_name name));
  keeps_staged = λ at mount seen errno free error. refl;
  answers = λ taken mount seen. answers taken.at.config mount (lookup.path_of name taken.view) _ (lookup.found (answers_of seen));
  counts = λ at mount seen number other goes.
      let has = HasPath-none mount node (bare_name name) goes.is goes.free in
      counts mount node (bare_name name) (IsNodeTable-of mount goes.is) has _ has.is_path _ at.config number (lookup.found (answers_of seen));
  nodes = λ Shown at mount seen goes tells.
      nodes mount.table _ _ Shown (lookup.found (answers_of seen)) (λ meta e. finds_shown Shown at.config.implicit_dirs _ (has_suffix name) seen meta tells e);
}
