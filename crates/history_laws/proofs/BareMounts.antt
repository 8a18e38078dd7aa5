-- Mounts without the moments that are kept of nodes: requests see the same, are shown the same, and leave the same.
use Rattle.std.proofs.Common.{◌≡◌, ℕ, List, Option, Some, None, refl, sym, ap, ◌∙◌, map}
use Rattle.std.specs.FinMap as fin
use Rattle.std.specs.Option.{option_map, option_map_or, option_and_then}
use Rattle.bucket_api.specs.Metadata.{Metadata}
use Rattle.fuse_replies.specs.Errno.{estale}
use Rattle.fuse_replies.specs.declared.reply.EntryOut.{EntryOut}
use Rattle.fuse_replies.specs.declared.reply.Reply.{Reply}
use Rattle.fuse_replies.specs.declared.reply.Reply.TheVariants.{Attr, Error}
use Rattle.history_laws.proofs.Bare.{IsBare, IsWithin, bare_file, bare_later, bare_node, current_same, found_bare, next_same}
use Rattle.history_laws.proofs.BareSteps.{again_directory}
use Rattle.history_laws.proofs.ShownAgain.{AreNamed, IsNews, bare_shown, current_again, shown_is, shown_or_new_is}
use Rattle.inode_spec.specs.Inodes.{Names}
use Rattle.mount_model.specs.declared.config.Config.{Config}
use Rattle.mount_rules.specs.Attributes.{attributes, entry_of, size_of, time_of_file}
use Rattle.mount_rules.specs.Mount.{File, MountModel, Node, NodeTable, OpenHandles}
use Rattle.mount_rules.specs.Requests.Getattr as getattr
use Rattle.mount_rules.specs.Requests.Lookup.{directory_entry, object_entry}
use Rattle.mount_rules.specs.Showing.{Numbered, current_shown, directory_again, directory_by, new_directory, new_node, object_again}
use Rattle.mount_rules.specs.Standing as standing
use Rattle.mount_rules.specs.Standing.{Standing}
use Rattle.mount_rules.specs.View.{Looks, Named, Sight, View, child_of, kept_at, sight_at, sight_of, view_of}
use Rattle.object_names.specs.declared.shown.NodeKind.{NodeKind}
use Rattle.object_names.specs.declared.shown.NodeKind.TheVariants.{Dir, File as RegularFile, Symlink}
use Rattle.staging_spec.specs.StagedFiles.{StagedContent, StagedFiles}

-- The one mount is the other without moments, of which this is known.
pub record IsBareMount (Known : List ℕ → ℕ → ℕ → Type 0) (mount bare : MountModel) : Type 0 where
  pub table : IsBare Known mount.table bare.table
  pub rest : record mount { table = bare.table } ≡ bare

module _ (Known Then : List ℕ → ℕ → ℕ → Type 0) where
  pub bare_mount_later : IsWithin Known Then → (mount bare : MountModel) → IsBareMount Known mount bare → IsBareMount Then mount bare
  bare_mount_later within mount bare so = record { table = bare_later Known Then within mount.table bare.table so.table; rest = so.rest }

  -- with other nodes
  pub bare_with_table : (mount bare : MountModel) (table bare_table : NodeTable) → IsBareMount Known mount bare → IsBare Then table bare_table
      → IsBareMount Then (record mount { table = table }) (record bare { table = bare_table })
  bare_with_table mount bare table bare_table so its = record { table = its; rest = ap (λ (b : MountModel). record b { table = bare_table }) so.rest }

-- ---- what is seen
sight_bare : (number : ℕ) (found : Option Node) → option_map (sight_of number) (option_map bare_node found) ≡ option_map (sight_of number) found
sight_bare number None = refl
sight_bare number (Some node) = by node.file
  where
    by : (file : Option File) → option_map (sight_of number) (option_map bare_node (Some (record node { file = file }))) ≡ option_map (sight_of number) (Some (record node { file = file }))
    by None = refl
    by (Some f) = refl

kept_bare : (found : Option Node)
    → option_and_then (λ (node : Node). option_map (λ (file : File). file.kept.meta) node.file) (option_map bare_node found)
    ≡ option_and_then (λ (node : Node). option_map (λ (file : File). file.kept.meta) node.file) found
kept_bare None = refl
kept_bare (Some node) = by node.file
  where
    by : (file : Option File) → option_map (λ (f : File). f.kept.meta) (option_map bare_file file) ≡ option_map (λ (f : File). f.kept.meta) file
    by None = refl
    by (Some f) = refl

-- a view by its parts
abbrev named_by : (ℕ → Option Sight) → Names → StagedFiles → List ℕ → Option Named
named_by sights current staged name =
    option_and_then (λ number. option_map (λ sight. record { number = number; sight = sight; staged = fin.get staged number }) (sights number)) (fin.get current name)

abbrev view_by : (ℕ → Option Sight) → (ℕ → Option Metadata) → Names → OpenHandles → StagedFiles → Looks → View
view_by sights kept current handles staged looks =
    let node = option_and_then sights looks.node in
    record {
      node = node;
      directory = option_and_then sights looks.directory;
      handle = option_and_then (fin.get handles) looks.handle;
      kept = option_and_then kept looks.kept;
      staged = option_and_then (fin.get staged) looks.staged;
      old = option_and_then (λ name. option_and_then (λ (d : Sight). named_by sights current staged (child_of d name)) node) looks.old;
      listed = map sights looks.listed;
    }

module _ (Known : List ℕ → ℕ → ℕ → Type 0) (mount bare : MountModel) (so : IsBareMount Known mount bare) where
  sights_same : sight_at bare.table ≡ sight_at mount.table
  sights_same = λ i number. (ap (option_map (sight_of number)) (found_bare Known mount.table bare.table so.table number) ∙ sight_bare number (fin.get mount.table.nodes number)) i

  kept_same : kept_at bare.table ≡ kept_at mount.table
  kept_same = λ i number.
      (ap (option_and_then (λ (node : Node). option_map (λ (file : File). file.kept.meta) node.file)) (found_bare Known mount.table bare.table so.table number)
      ∙ kept_bare (fin.get mount.table.nodes number)) i

  pub staged_same : mount.staged ≡ bare.staged
  staged_same = ap (λ (m : MountModel). m.staged) so.rest

  pub handles_same : mount.handles ≡ bare.handles
  handles_same = ap (λ (m : MountModel). m.handles) so.rest

  pub view_same : (looks : Looks) → view_of bare looks ≡ view_of mount looks
  view_same looks =
      ap (λ s. view_by s (kept_at bare.table) bare.table.current bare.handles bare.staged looks) sights_same
      ∙ ap (λ k. view_by (sight_at mount.table) k bare.table.current bare.handles bare.staged looks) kept_same
      ∙ sym (ap (λ c. view_by (sight_at mount.table) (kept_at mount.table) c bare.handles bare.staged looks) (current_same Known mount.table bare.table so.table))
      ∙ sym (ap (λ (m : MountModel). view_by (sight_at mount.table) (kept_at mount.table) mount.table.current m.handles m.staged looks) so.rest)

  pub agreed_same : mount.negotiated ≡ bare.negotiated
  agreed_same = ap (λ (m : MountModel). m.negotiated) so.rest

-- ---- what is shown
size_bare : (kind : NodeKind) (staged : Option StagedContent) (file : File) → size_of kind staged (bare_file file) ≡ size_of kind staged file
size_bare Dir staged file = refl
size_bare RegularFile staged file = refl
size_bare Symlink staged file = refl

time_bare : (staged : Option StagedContent) (file : File) → time_of_file staged (bare_file file) ≡ time_of_file staged file
time_bare None file = refl
time_bare (Some s) file = refl

pub attributes_bare : (config : Config) (number : ℕ) (node : Node) (staged : Option StagedContent) → attributes config number (bare_node node) staged ≡ attributes config number node staged
attributes_bare config number node staged = by node.file
  where
    by : (file : Option File) → attributes config number (record node { file = option_map bare_file file }) staged ≡ attributes config number (record node { file = file }) staged
    by None = refl
    by (Some file) =
        ap (λ size. record (attributes config number (record node { file = Some (bare_file file) }) staged) { size = size }) (size_bare node.kind staged file)
        ∙ ap (λ (time : ℕ × ℕ). record (attributes config number (record node { file = Some file }) staged) { mtime = time.0; nanos = time.1 }) (time_bare staged file)

pub entry_bare : (config : Config) (number : ℕ) (node : Node) (staged : Option StagedContent) → entry_of config number (bare_node node) staged ≡ entry_of config number node staged
entry_bare config number node staged = ap (λ attr. record { node = number; attr = attr }) (attributes_bare config number node staged)

-- the names that a node has, by how its generation stands
abbrev pub names_left : Standing → ℕ
names_left standing.gone = 0
names_left found = 1

module _ (Known : List ℕ → ℕ → ℕ → Type 0) (mount bare : MountModel) (so : IsBareMount Known mount bare) (config : Config) where
  pub directory_entry_bare : (prefix : List ℕ) → directory_entry config mount.table prefix ≡ directory_entry config bare.table prefix
  directory_entry_bare prefix =
      sym (entry_bare config (directory_by mount.table prefix).number (directory_by mount.table prefix).node None)
      ∙ sym (ap (λ (s : Numbered). entry_of config s.number s.node None)
      (shown_or_new_is Known mount.table bare.table so.table directory_again directory_again prefix (again_directory Known mount.table bare.table so.table prefix) (new_directory prefix)))

  -- where what is shown is news
  pub object_entry_bare : (Then : List ℕ → ℕ → ℕ → Type 0) → IsWithin Known Then → AreNamed mount.table → (path : List ℕ) (meta : Metadata) (moment : ℕ)
      → IsNews Known Then path meta.generation moment → object_entry config mount path meta moment ≡ object_entry config bare path meta 0
  object_entry_bare Then within named path meta moment news =
      by (current_shown (object_again meta moment) mount.table path)
      ∙ sym (ap (λ found. option_map_or shown found (entry_of config bare.table.next (new_node path meta 0) None))
      (shown_is Then mount.table bare.table (bare_later Known Then within mount.table bare.table so.table) (object_again meta moment) (object_again meta 0) path
      (current_again Known Then meta moment mount.table bare.table so.table named path news)))
    where
      shown : Numbered → EntryOut
      shown s = entry_of config s.number s.node (fin.get bare.staged s.number)

      by : (found : Option Numbered) → option_map_or (λ (s : Numbered). entry_of config s.number s.node (fin.get mount.staged s.number)) found
          (entry_of config mount.table.next (new_node path meta moment) None)
          ≡ option_map_or shown (option_map bare_shown found) (entry_of config bare.table.next (new_node path meta 0) None)
      by None = sym (entry_bare config mount.table.next (new_node path meta moment) None)
          ∙ ap (λ next. entry_of config next (new_node path meta 0) None) (next_same Known mount.table bare.table so.table)
      by (Some s) = sym (entry_bare config s.number s.node (fin.get mount.staged s.number))
          ∙ ap (λ staged. entry_of config s.number (bare_node s.node) (fin.get staged s.number)) (staged_same Known mount bare so)

  pub reply_with_bare : (number count : ℕ) → getattr.reply_with config mount.table mount.staged number count ≡ getattr.reply_with config bare.table bare.staged number count
  reply_with_bare number count =
      ap (λ (staged : StagedFiles). getattr.reply_with config mount.table staged number count) (staged_same Known mount bare so)
      ∙ by (fin.get mount.table.nodes number)
      ∙ sym (ap (λ found. option_map_or told found (Error estale)) (found_bare Known mount.table bare.table so.table number))
    where
      told : Node → Reply
      told node = Attr (record (attributes config number node (fin.get bare.staged number)) { nlink = count })

      by : (found : Option Node) → option_map_or told found (Error estale) ≡ option_map_or told (option_map bare_node found) (Error estale)
      by None = refl
      by (Some node) = ap (λ attr. Attr (record attr { nlink = count })) (sym (attributes_bare config number node (fin.get bare.staged number)))
